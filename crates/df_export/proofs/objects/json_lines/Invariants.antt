use Rattle.std.proofs.Common.{◌≡◌, All, take}
use Rattle.df_export.specs.JsonLines.{IsReadBack, json_of}
use Rattle.df_export.proofs.objects.json_lines.Given as goal

abbrev pub invariant-loop-row : goal.invariant-loop-row
invariant-loop-row l = record {
  value : l.out.items ≡ json_of l.columns (take l.row-index l.rows);
  reads : All (IsReadBack l.columns) (take l.row-index l.rows);
}
