use Rattle.std.proofs.Common.{ap, subst, refl}
use Rattle.std.specs.FinMap as finite
use Rattle.df_column.specs.Places.{IsGap, IsPlace}
use Rattle.df_column.specs.Tags.{tag_cmp}
use Rattle.df_column.proofs.Bounds.{lower_at_gap, lower_at_place}
use Rattle.df_column.proofs.ReadLemmas.{entries_are}
use Rattle.df_column.proofs.table.Table.lower_bound.Goals as goal

pub returns-in-Ok : goal.returns-in-Ok
returns-in-Ok c =
    let rows = finite.entries c.args.self.now.rows in
    lower_at_place rows c.args.tag c.in-Ok.at (finite.entries_sorted c.args.self.now.rows)
    (subst (λ es. IsPlace tag_cmp es c.args.tag c.in-Ok.at) (entries_are _ _ _ refl c.self.invariant.sorted (ap (λ t. t.rows) c.self.view_is)) c.in-Ok.ensures.found)

pub returns-in-Err : goal.returns-in-Err
returns-in-Err c =
    let rows = finite.entries c.args.self.now.rows in
    lower_at_gap rows c.args.tag c.in-Err.at
    (subst (λ es. IsGap tag_cmp es c.args.tag c.in-Err.at) (entries_are _ _ _ refl c.self.invariant.sorted (ap (λ t. t.rows) c.self.view_is)) c.in-Err.ensures.absent)
