use Rattle.std.proofs.Common.{refl, arith}
use Rattle.df_column.proofs.BlockMinMax.{beside_end, beside_step}
use Rattle.df_column.proofs.min_max_search.search_min_or_max.Goals as goal

pub loop-at-preserved : goal.loop-at-preserved
loop-at-preserved g c =
    rw c.better-best.ensures
    (beside_step c.args.which (g.C.Ranked.cells c.args.column.now) c.args.search.high c.loop-at.best c.loop-at.at _ (omega (arith, c.loop-at-test.true, c.requires.in_range)) c.loop-at.invariant refl)

pub returns : goal.returns
returns g c =
    let end = c.loop-at.auto.at-end c.requires.ordered in
    beside_end c.args.which (g.C.Ranked.cells c.args.column.now) c.args.search.high c.loop-at.best c.loop-at.at (omega (arith, c.loop-at-test.false, end)) c.loop-at.invariant
