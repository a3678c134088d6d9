use Rattle.std.proofs.Common.{◌∙◌, ◌+◌, sym, ap, subst}
use Rattle.std.specs.Prelude.{T}
use Rattle.df_column.specs.Picks.{is_old}
use Rattle.df_column.proofs.OldRuns.{old_more}
use Rattle.df_column.proofs.picks.old_rows.Goals as goal

pub loop-at-preserved : goal.loop-at-preserved
loop-at-preserved c =
    let here = sym c.if-not-is_old_behind.false ∙ c.is_old_behind.ensures ∙ ap (λ p. is_old (c.args.first + c.loop-at.at) p.origin) c.index-picks-at.is in
    old_more c.args.picks.now c.args.first c.loop-at.at c.index-picks-at.result c.loop-at-test.true c.loop-at.invariant (subst T here tt)
