use Rattle.std.proofs.Common.{◌≡◌, take, All, IsUtf8}
use Rattle.df_print.specs.Printed.{cell_or_null, cell_text, column_width}
use Rattle.df_print.proofs.widths.column_width.Given as goal

abbrev pub invariant-loop-row : goal.invariant-loop-row
invariant-loop-row l = record {
  width : l.width ≡ column_width l.at l.name (take l.row-index l.rows);
  utf8 : All (λ row. IsUtf8 (cell_text (cell_or_null l.at row))) (take l.row-index l.rows);
}
