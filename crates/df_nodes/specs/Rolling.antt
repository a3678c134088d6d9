-- A rolling column over tagged rows, and the rows at which it may change.
use Rattle.std.specs.Prelude.{ℕ, ◌-◌, List, [], ◌∷◌, ◌++◌, filter, map, take}
use Rattle.df_value.specs.declared.cell.Cell.{Cell}
use Rattle.df_expr.specs.declared.meter.Meter.{Meter}
use Rattle.df_ops.specs.Places.{placed_cell}
use Rattle.df_ops.specs.Windows.{rolling_cell, window_of}
use Rattle.df_ops.specs.declared.places.Place.{Place}
use Rattle.df_column.specs.Bounds.{is_below}
use Rattle.df_column.specs.Changes.{Change}
use Rattle.df_column.specs.Tables.{TaggedRows}
use Rattle.df_column.specs.declared.tag.Tag.{Tag}
use Rattle.df_nodes.specs.Prefixes.{with_each_prefix}
use Rattle.df_nodes.specs.declared.rolling.Rolling.{Rolling}

-- a row with one more cell among its own
abbrev pub put_at : List Place → List Cell → Cell → List Cell
put_at places row c = map (placed_cell row (c ∷ [])) places

-- what the column takes of the cells up to a row
abbrev pub rolling_value : Rolling → List Cell → Cell
rolling_value r cells = rolling_cell r.kind r.m (window_of r.w cells)

-- the rows with the column's cells
abbrev pub rolling_output : Rolling → TaggedRows → TaggedRows
rolling_output r t = with_each_prefix (put_at r.places) (rolling_value r) r.index t

-- a changed tag, and those of the next w - 1 of these rows behind it
abbrev pub reached_by : ℕ → Tag → List (Tag × List Cell) → List Tag
reached_by w q rows = q ∷ map (λ r. r.0) (take (w - 1) (filter (λ r. is_below q r.0) rows))

-- the rows before the first of these changes
abbrev pub rows_before : List (Tag × Change (List Cell)) → List (Tag × List Cell) → List (Tag × List Cell)
rows_before [] rows = rows
rows_before (c ∷ cs) rows = filter (λ r. is_below r.0 c.0) rows

-- all that these changes reach, each as far as the next one
abbrev pub reached : ℕ → List (Tag × List Cell) → List (Tag × Change (List Cell)) → List Tag
reached w rows [] = []
reached w rows (c ∷ cs) = reached_by w c.0 (rows_before cs rows) ++ reached w rows cs

-- so many rows whose rolling value is taken
abbrev pub windows : ℕ → Meter
windows n = record { evals = 0; finishes = 0; probes = 0; windows = n }
