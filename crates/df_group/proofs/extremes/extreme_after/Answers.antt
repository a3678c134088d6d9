use Rattle.std.proofs.Common.{◌∙◌, ap, sym}
use Rattle.std.specs.Option.{option_copied}
use Rattle.std.specs.Prelude.{◌&&◌, not}
use Rattle.df_group.specs.Totals.{is_as_good, may_be_best}
use Rattle.df_group.proofs.KnownExtremes.{not_known_from}
use Rattle.df_group.proofs.extremes.extreme_after.Goals as goal

pub returns-then-not-is_as_good : goal.returns-then-not-is_as_good
returns-then-not-is_as_good c =
    let best = option_copied c.loop-entry.best in
    let gone = ap (may_be_best c.args.min_max best) (sym c.value_of-gone.ensures) ∙ sym c.may_be_best.ensures ∙ c.if-may_be_best.true in
    let come = ap (is_as_good c.args.min_max best) (sym c.value_of-come.ensures) ∙ sym c.is_as_good.ensures ∙ c.if-not-is_as_good.true in
    sym (c.loop-entry.invariant
    ∙ not_known_from c.args.min_max c.args.index best c.args.entries.now c.loop-entry.entry-index c.entry-item.result c.loop-entry-test.true c.entry-item.is (λ i. gone i && not (come i)))
