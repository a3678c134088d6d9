use Rattle.std.proofs.Common.{ap, subst, refl}
use Rattle.df_column.specs.Places.{IsGap, IsPlace}
use Rattle.df_column.specs.Tags.{tag_cmp}
use Rattle.df_column.proofs.ReadLemmas.{entries_are, row_found, row_absent}
use Rattle.df_column.proofs.table.Table.find.Goals as goal

pub returns-in-Ok-clause-found : goal.returns-in-Ok-clause-found
returns-in-Ok-clause-found c =
    subst (λ es. IsPlace tag_cmp es c.args.tag c.in-Ok.at) (entries_are _ _ _ refl c.self.invariant.sorted (ap (λ t. t.rows) c.self.view_is)) c.in-Ok.ensures.found

pub returns-in-Ok-clause-row : goal.returns-in-Ok-clause-row
returns-in-Ok-clause-row c = row_found c.args.self.now.rows c.args.tag c.in-Ok.at (returns-in-Ok-clause-found c)

pub returns-in-Err-clause-absent : goal.returns-in-Err-clause-absent
returns-in-Err-clause-absent c = row_absent c.args.self.now.rows c.args.tag c.in-Err.field-0
    (subst (λ es. IsGap tag_cmp es c.args.tag c.in-Err.field-0) (entries_are _ _ _ refl c.self.invariant.sorted (ap (λ t. t.rows) c.self.view_is)) c.in-Err.ensures.absent)
