use Rattle.std.proofs.Common.{◌∙◌, ap, sym}
use Rattle.df_column.specs.Tables.{TableParts}
use Rattle.df_delta.proofs.Whole.{whole_diff, whole_delta}
use Rattle.df_delta.proofs.delta.Delta.whole.Goals as goal

pub returns : goal.returns
returns c = whole_diff c.args.table.now.rows _ c.in_ok-entries.ensures

pub invariant_of-result : goal.invariant_of-result
invariant_of-result c = (
  whole_delta c.args.table.now.rows _ c.in_ok-entries.ensures,
  ap (λ (t : TableParts). t.rows) (c.in_ok-made.ensures.ok ∙ c.in_ok-share.ensures) ∙ sym (whole_diff c.args.table.now.rows _ c.in_ok-entries.ensures).gives,
)
