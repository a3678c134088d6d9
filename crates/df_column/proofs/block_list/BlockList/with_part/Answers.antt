use Rattle.std.proofs.Common.{◌∙◌, ◌++◌, ap, append_assoc, arith, drop, sym, take}
use Rattle.df_column.proofs.BlockListLemmas.{rows_both}
use Rattle.df_column.proofs.block_list.BlockList.with_part.Goals as goal

pub joined-requires-clause-few : goal.joined-requires-clause-few
joined-requires-clause-few c =
    let both = rows_both c.self.inside.leaves c.self.inside.tail in
    omega (arith, both, c.self.invariant)

pub invariant_of-result : goal.invariant_of-result
invariant_of-result c =
    let both = rows_both c.self.inside.leaves c.in_ok-tail.tail in
    omega (arith, both, c.rows.ensures.value, c.rows-2.ensures.value, c.in_ok-end_behind.ensures.value, c.in_ok-end_behind.ensures.few)

pub returns : goal.returns
returns c = ap (λ t. c.self.inside.leaves ++ t) c.in_ok-tail.ensures.blocks ∙ sym (append_assoc c.self.inside.leaves c.self.inside.tail _) ∙ ap (λ bs. bs ++ drop c.args.low (take c.args.high c.args.run.now)) c.self.view_is
