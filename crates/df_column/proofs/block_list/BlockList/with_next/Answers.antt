use Rattle.std.proofs.Common.{◌∙◌, ◌++◌, ap, arith, sym}
use Rattle.df_column.proofs.BlockListLemmas.{part_of_run}
use Rattle.df_column.proofs.block_list.BlockList.with_next.Goals as goal

pub with_next_blocks-requires-clause-some : goal.with_next_blocks-requires-clause-some
with_next_blocks-requires-clause-some c = omega (arith, c.run_at-low.ensures.inside, c.requires.at)

pub returns-clause-blocks : goal.returns-clause-blocks
returns-clause-blocks c =
    let h = c.in_ok-list.ensures in
    h.list ∙ ap (λ bs. c.args.self ++ bs) (sym (part_of_run c.args.other.now c.run_at-low.result.0.now c.args.at c.run_at-low.result.1 _ c.run_at-low.ensures (omega (arith, h.within, c.run_at-low.ensures.inside))))
