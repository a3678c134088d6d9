-- The rows of a table fit its schema.
use Rattle.std.proofs.Common.{ℕ, ℤ, Bool, List, [], ◌∷◌, ◌++◌, Option, Some, None, map, subst}
use Rattle.std.specs.Prelude.{T}
use Rattle.std.specs.List.{list_all}
use Rattle.df_value.specs.Cells.{fits_dtype}
use Rattle.df_value.specs.Rows.{row_fits}
use Rattle.df_value.specs.declared.cell.Cell.{Cell}
use Rattle.df_value.specs.declared.cell.Cell.TheVariants as cell
use Rattle.df_value.specs.declared.cell.CellType.{CellType}
use Rattle.df_value.specs.declared.cell.CellType.TheVariants as dtype
use Rattle.df_column.specs.Blocks.{AreOfDtypes, BlockParts, block_rows, rows_of_blocks}
use Rattle.df_column.specs.Columns.{column_cells, dtype_of_column}
use Rattle.df_column.specs.Rows.{head_cell, is_row, later_cells, tagged_rows}
use Rattle.df_column.specs.Tables.{dtypes_of}
use Rattle.df_column.specs.ValueCells.{int_cell, wide_cell, text_cell, bool_cell, frac_cell}
use Rattle.df_column.specs.declared.column.Column.{Column}
use Rattle.df_column.specs.declared.column.Column.TheVariants as column
use Rattle.df_column.specs.declared.tag.Tag.{Tag}
use Rattle.df_column.proofs.Bools.{T-both, T-first, T-second}

-- the cells of a column are of its type
all_cells : {X : Type 0} (d : CellType) (f : Option X → Cell) → ((o : Option X) → T (fits_dtype d (f o))) → (vs : List (Option X)) → T (list_all (fits_dtype d) (map f vs))
all_cells d f h [] = tt
all_cells d f h (v ∷ vs) = T-both _ _ (h v) (all_cells d f h vs)

int_fits : (o : Option ℤ) → T (fits_dtype dtype.Int (int_cell o))
int_fits None = tt
int_fits (Some n) = tt

wide_fits : (o : Option ℤ) → T (fits_dtype dtype.Wide (wide_cell o))
wide_fits None = tt
wide_fits (Some n) = tt

text_fits : (o : Option (List ℕ)) → T (fits_dtype dtype.Text (text_cell o))
text_fits None = tt
text_fits (Some t) = tt

bool_fits : (o : Option Bool) → T (fits_dtype dtype.Bool (bool_cell o))
bool_fits None = tt
bool_fits (Some b) = tt

frac_fits : (o : Option (ℤ × ℤ)) → T (fits_dtype dtype.Frac (frac_cell o))
frac_fits None = tt
frac_fits (Some f) = tt

pub cells_fit : (c : Column) → T (list_all (fits_dtype (dtype_of_column c)) (column_cells c))
cells_fit (column.Int vs) = all_cells dtype.Int int_cell int_fits vs
cells_fit (column.Wide vs) = all_cells dtype.Wide wide_cell wide_fits vs
cells_fit (column.Text vs) = all_cells dtype.Text text_cell text_fits vs
cells_fit (column.Bool vs) = all_cells dtype.Bool bool_cell bool_fits vs
cells_fit (column.Frac vs) = all_cells dtype.Frac frac_cell frac_fits vs

-- columns of cells of these types
abbrev AreFitColumns : List CellType → List (List Cell) → Type 0
AreFitColumns [] [] = Unit {0}
AreFitColumns [] (c ∷ cs) = ⊥
AreFitColumns (d ∷ ds) [] = ⊥
AreFitColumns (d ∷ ds) (c ∷ cs) = T (list_all (fits_dtype d) c) × AreFitColumns ds cs

columns_fit : (columns : List Column) → AreFitColumns (map dtype_of_column columns) (map column_cells columns)
columns_fit [] = tt
columns_fit (c ∷ cs) = (cells_fit c, columns_fit cs)

pub null_fits : (d : CellType) → T (fits_dtype d cell.Null)
null_fits dtype.Int = tt
null_fits dtype.Wide = tt
null_fits dtype.Text = tt
null_fits dtype.Bool = tt
null_fits dtype.Frac = tt

first_fits : (d : CellType) (c : List Cell) → T (list_all (fits_dtype d) c) → T (fits_dtype d (head_cell c))
first_fits d [] h = null_fits d
first_fits d (c ∷ cs) h = T-first (fits_dtype d c) _ h

later_fit : (d : CellType) (c : List Cell) → T (list_all (fits_dtype d) c) → T (list_all (fits_dtype d) (later_cells c))
later_fit d [] h = tt
later_fit d (c ∷ cs) h = T-second (fits_dtype d c) _ h

first_row : (ds : List CellType) (cs : List (List Cell)) → AreFitColumns ds cs → T (is_row ds (map head_cell cs))
first_row [] [] h = tt
first_row [] (c ∷ cs) h = absurd h
first_row (d ∷ ds) [] h = absurd h
first_row (d ∷ ds) (c ∷ cs) h = T-both _ _ (first_fits d c h.0) (first_row ds cs h.1)

later_columns : (ds : List CellType) (cs : List (List Cell)) → AreFitColumns ds cs → AreFitColumns ds (map later_cells cs)
later_columns [] [] h = tt
later_columns [] (c ∷ cs) h = absurd h
later_columns (d ∷ ds) [] h = absurd h
later_columns (d ∷ ds) (c ∷ cs) h = (later_fit d c h.0, later_columns ds cs h.1)

-- rows of a schema's types fit it
types_fit : (schema : List (List ℕ × CellType)) (row : List Cell) → T (is_row (dtypes_of schema) row) → T (row_fits schema row)
types_fit [] [] h = tt
types_fit [] (c ∷ row) h = absurd h
types_fit (s ∷ schema) [] h = absurd h
types_fit (s ∷ schema) (c ∷ row) h = T-both _ _ (T-first (fits_dtype s.1 c) _ h) (types_fit schema row (T-second (fits_dtype s.1 c) _ h))

rows_fit_schema : (schema : List (List ℕ × CellType)) (ts : List Tag) (cs : List (List Cell)) → AreFitColumns (dtypes_of schema) cs → T (list_all (row_fits schema) (map (λ r. r.1) (tagged_rows ts cs)))
rows_fit_schema schema [] cs h = tt
rows_fit_schema schema (t ∷ ts) cs h = T-both _ _ (types_fit schema _ (first_row (dtypes_of schema) cs h)) (rows_fit_schema schema ts (map later_cells cs) (later_columns (dtypes_of schema) cs h))

all_append : (p : List Cell → Bool) (xs ys : List (Tag × List Cell)) → T (list_all p (map (λ r. r.1) xs)) → T (list_all p (map (λ r. r.1) ys)) → T (list_all p (map (λ r. r.1) (xs ++ ys)))
all_append p [] ys h k = k
all_append p (x ∷ xs) ys h k = T-both _ _ (T-first (p x.1) _ h) (all_append p xs ys (T-second (p x.1) _ h) k)

pub blocks_fit : (schema : List (List ℕ × CellType)) (bs : List BlockParts) → AreOfDtypes (dtypes_of schema) bs → T (list_all (row_fits schema) (map (λ r. r.1) (rows_of_blocks bs)))
blocks_fit schema [] h = tt
blocks_fit schema (b ∷ bs) h =
    let fit = subst (λ ds. AreFitColumns ds (map column_cells b.columns)) h.0 (columns_fit b.columns) in
    all_append (row_fits schema) (block_rows b) (rows_of_blocks bs) (rows_fit_schema schema b.tags (map column_cells b.columns) fit) (blocks_fit schema bs h.1)
