use Rattle.std.proofs.Common.{◌≡◌, ℕ, ◌<◌, List, map, take, length, get_or, All, IsUtf8}
use Rattle.std.specs.List.{enumerate_from}
use Rattle.df_value.specs.declared.cell.CellType.{CellType}
use Rattle.df_print.specs.Printed.{column_texts, column_width}
use Rattle.df_print.proofs.threaded.known_widths.Given as goal

abbrev pub invariant-loop-i : goal.invariant-loop-i
invariant-loop-i l = record {
  widths : l.widths.items ≡ map (λ c. column_width c.0 c.1.0 l.rows) (take l.i (enumerate_from 0 l.columns));
  utf8 : (k : ℕ) → k < l.i → (d : List ℕ × CellType) → All IsUtf8 (column_texts k (get_or l.columns k d).0 l.rows);
  len : length l.widths.items ≡ l.i;
}
