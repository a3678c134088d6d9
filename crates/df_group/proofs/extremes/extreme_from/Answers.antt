use Rattle.std.proofs.Common.{subst}
use Rattle.std.specs.Option.{option_copied}
use Rattle.std.specs.Prelude.{IfSome}
use Rattle.df_group.specs.Totals.{IsExtremeBefore}
use Rattle.df_group.proofs.KnownExtremes.{extreme_if}
use Rattle.df_group.proofs.extremes.extreme_from.Goals as goal

pub returns-in-Some : goal.returns-in-Some
returns-in-Some c = λ rows known.
    let h = subst (λ o. IfSome (option_copied o) (λ k. IsExtremeBefore c.args.min_max c.args.index k c.args.entries.now rows)) c.in-Some.is known in
    extreme_if (λ best. option_copied best) c.args.min_max c.args.index c.in-Some.known.now c.args.entries.now rows c.extreme_after.result h c.extreme_after.ensures
