use Rattle.std.proofs.Common.{◌∙◌, ◌++◌, ap, drop, take}
use Rattle.df_column.proofs.ListParts.{three_parts}
use Rattle.df_column.proofs.block_list.BlockList.joined.Goals as goal

pub returns : goal.returns
returns c =
    let s = c.in_ok-leaves.field-0 in
    let h = c.in_ok-leaves.ensures in
    let shared = h.blocks c.other.inside.tail ∙ ap (λ bs. drop s.from (take s.to bs)) c.other.view_is in
    c.in_ok-out-3.ensures ∙ ap (λ bs. bs ++ drop s.to (take c.args.high c.args.other.now)) (c.in_ok-out-2.ensures ∙ ap (λ bs. bs ++ s.leaves) c.in_ok-out.ensures ∙ ap (λ bs. (c.args.self ++ drop c.args.low (take s.from c.args.other.now)) ++ bs) shared)
    ∙ three_parts c.args.self c.args.other.now c.args.low s.from s.to c.args.high h.low h.ordered h.high
