use Rattle.std.proofs.Common.{ap, ◌∙◌, arith}
use Rattle.df_tree.proofs.LevelLemmas.{rank_more}
use Rattle.df_tree.proofs.totals.rank_over.Goals as goal

pub loop-part-preserved : goal.loop-part-preserved
loop-part-preserved g c =
    c.max-rank.ensures ∙ rank_more {I = g.row.I.Denot} _ _ _ _ _ c.loop-part.invariant c.loop-part-test.true c.part-item.is (c.part.invariant.ranked ∙ ap (λ v. v.1) c.part.view_is)

pub overflow_add-part-inside : goal.overflow_add-part-inside
overflow_add-part-inside g c = omega (arith, c.part.invariant.few)
