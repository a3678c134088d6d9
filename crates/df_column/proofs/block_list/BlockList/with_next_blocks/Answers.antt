use Rattle.std.proofs.Common.{◌≡◌, ◌∙◌, ◌+◌, ◌-◌, ◌++◌, ◌∷◌, [], ap, arith, drop, sym, take}
use Rattle.std.specs.Arc.{arc_value}
use Rattle.df_column.proofs.ListParts.{one_between}
use Rattle.df_column.proofs.block_list.BlockList.with_next_blocks.Goals as goal

pub returns-then-saturating_add-lt-TOO_MANY_BEHIND-clause-list : goal.returns-then-saturating_add-lt-TOO_MANY_BEHIND-clause-list
returns-then-saturating_add-lt-TOO_MANY_BEHIND-clause-list c =
    let e : c.args.high ≡ c.args.low + (c.args.high - c.args.low) = omega (arith, c.requires.some) in
    c.in_ok-list.ensures ∙ ap (λ n. c.args.self ++ drop c.args.low (take n c.args.run.now)) e

pub returns-clause-list : goal.returns-clause-list
returns-clause-list c =
    let b = c.in_ok-block.block in
    c.in_ok-list-2.ensures
    ∙ ap (λ v. c.args.self ++ v ∷ []) (c.in_ok-block.ensures ∙ c.get.ensures (arc_value b))
    ∙ ap (λ bs. c.args.self ++ bs) (sym (one_between c.args.run.now c.args.low (arc_value b) (omega (arith, c.requires.some, c.requires.in_range))))
