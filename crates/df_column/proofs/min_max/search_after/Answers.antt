use Rattle.std.proofs.Common.{subst}
use Rattle.df_column.specs.BlockMinMax.{IsKnownBefore}
use Rattle.df_column.proofs.SplicedMinMax.{search_all, search_before, search_behind, search_new}
use Rattle.df_column.proofs.min_max.search_after.Goals as goal

pub returns-then-at-splice : goal.returns-then-at-splice
returns-then-at-splice c = λ e cells b same.
    search_before e c.args.splice cells c.in-Some.at (subst (IsKnownBefore e c.args.splice cells) c.in-Some.is b) c.if-at-splice.true

pub returns-then-at-splice-2 : goal.returns-then-at-splice-2
returns-then-at-splice-2 c = λ e cells b same.
    search_behind e c.args.splice cells c.in-Some.at (subst (IsKnownBefore e c.args.splice cells) c.in-Some.is b) c.if-at-splice-2.true

pub returns-else-at-splice-2 : goal.returns-else-at-splice-2
returns-else-at-splice-2 c = λ e cells b same. search_all e cells c.args.len same

pub returns-in-None : goal.returns-in-None
returns-in-None c = λ e cells b same. search_new e c.args.splice cells (subst (IsKnownBefore e c.args.splice cells) c.in-None.is b)
