use Rattle.std.proofs.Common.{◌≡◌, ◌∙◌, [], ap, sym}
use Rattle.std.specs.Prelude.{None}
use Rattle.df_value.specs.Schemas.{doubled_column_after}
use Rattle.df_value.specs.Schemas.{Columns}
use Rattle.df_ops.specs.NamedColumns.{with_columns}
use Rattle.df_ops.proofs.NamedColumnsFacts.{with_columns-distinct}
use Rattle.df_plan.proofs.checks.add_columns.Goals as goal

pub schema_unless_wide-requires : goal.schema_unless_wide-requires
schema_unless_wide-requires c =
    let is : c.in_ok-columns.columns ≡ with_columns c.as_slice-2.result.now c.as_slice-3.result.now = c.in_ok-columns.ensures in
    let own : c.as_slice-2.result.now ≡ c.args.input.now = c.as_slice-2.ensures ∙ c.columns.ensures.value in
    let added : c.as_slice-3.result.now ≡ c.args.added.now = c.as_slice-3.ensures in
    let apart : doubled_column_after [] c.args.added.now ≡ None =
    ap (λ (cs : Columns). doubled_column_after [] cs) (sym c.as_slice.ensures) ∙ sym c.in_default.ensures.value in
    rw (is, own, added) (with_columns-distinct c.args.input.now c.args.added.now c.columns.ensures.sound.distinct apart)
