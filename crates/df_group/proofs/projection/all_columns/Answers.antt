use Rattle.std.proofs.Common.{subst, sym}
use Rattle.df_value.specs.Schemas.{Columns}
use Rattle.df_delta.specs.Deltas.{RowsFit}
use Rattle.df_group.proofs.projection.all_columns.Goals as goal

pub returns-clause-fit : goal.returns-clause-fit
returns-clause-fit c t fit = subst (λ (columns : Columns). RowsFit columns t) (sym c.in_ok-copy.ensures) fit
