-- The records of a table are typed as its rows.
use Rattle.std.proofs.Common.{◌≡◌, ◌==◌, ◌&&◌, ◌^◌, ◌<◌, ◌≤◌, ◌+◌, ◌∷◌, ◌∙◌, [], ℕ, ℤ, suc, pos, negsuc, neg_ℤ, List, Bool, Some, refl, ap, true, false, map, length, decimal, arith, rules, option_map}
use Rattle.std.specs.Prelude.{nat_lt, nat_le}
use Rattle.std.specs.Fmt.{signed_decimal}
use Rattle.std.specs.List.{list_all}
use Rattle.std.specs.Str.{all_ascii_digits}
use Rattle.std.proofs.lemmas.Bool.{ne_eqb}
use Rattle.std.proofs.lemmas.Bool.Decides.{nat_tests}
use Rattle.std.proofs.lemmas.Fmt.{decimal_nonempty, digits_decimal, digits_value-decimal}
use Rattle.std.proofs.lemmas.Str.Parse.{IsNumeralModel, numerals_by_fold}
use Rattle.df_value.specs.declared.cell.Cell.{Cell}
use Rattle.df_value.specs.declared.cell.Cell.TheVariants as cell
use Rattle.df_value.specs.declared.cell.CellType.{CellType}
use Rattle.df_value.specs.declared.cell.CellType.TheVariants as dtype
use Rattle.df_value.specs.Cells.{fits_dtype}
use Rattle.df_value.specs.Rows.{row_fits, rows_fit}
use Rattle.df_value.specs.Schemas.{Columns, is_base, is_base_dtype}
use Rattle.df_csv.specs.Fields.{are_digits, cell_of_text, decimal_after, decimal_of, int_of_text, value_of_text}
use Rattle.df_csv.specs.Typed.{row_from, row_of, rows_typed}
use Rattle.df_csv.specs.declared.typed.TypedRow.TheVariants as one
use Rattle.df_csv.specs.declared.typed.TypedRows.TheVariants as all
use Rattle.df_export.specs.CsvTables.{record_of, table_records, unquoted}
use Rattle.df_export.specs.ReadBack.{TypesBack, is_int, read_cell}
use lib.Signed.{mag}

digits : IsNumeralModel (λ ds. all_ascii_digits ds ≡ true) (decimal_after 0)
digits = numerals_by_fold _ (search rules) decimal_after (search rules)

number_of : (n : ℕ) → n < 2 ^ 64 → decimal_after 0 (decimal n) ≡ n
number_of n h = digits_value-decimal digits n h

below : (ds : List ℕ) (n most : ℕ) → all_ascii_digits ds ≡ true → 0 < length ds → decimal_after 0 ds ≡ n → n < most → (are_digits ds && nat_lt (decimal_of ds) most) ≡ true
below ds n most h k e l = grind (arith, nat_tests)

upto : (ds : List ℕ) (n most : ℕ) → all_ascii_digits ds ≡ true → 0 < length ds → decimal_after 0 ds ≡ n → n ≤ most → (are_digits ds && nat_le (decimal_of ds) most) ≡ true
upto ds n most h k e l = grind (arith, nat_tests)

whole : (ds : List ℕ) (n : ℕ) → all_ascii_digits ds ≡ true → 0 < length ds → decimal_after 0 ds ≡ n → n < 2 ^ 63 → int_of_text ds ≡ Some (pos n)
whole [] n h k e l = absurd (omega arith)
whole (d ∷ ds) n h k e l =
    let minus : (d == 45) ≡ false = grind (arith, nat_tests, h) in
    let plus : (d == 43) ≡ false = grind (arith, nat_tests, h) in
    rw (minus, plus, below (d ∷ ds) n (2 ^ 63) h k e l) (ap (λ m. Some (pos m)) e)

int_back : (n : ℤ) → mag n < 2 ^ 63 → int_of_text (signed_decimal n) ≡ Some n
int_back (pos n) h = whole (decimal n) n (digits_decimal digits n (omega arith)) (decimal_nonempty n (omega arith)) (number_of n (omega arith)) h
int_back (negsuc n) h =
    let ds = decimal (suc n) in
    let same = number_of (suc n) (omega arith) in
    rw (upto ds (suc n) (2 ^ 63) (digits_decimal digits (suc n) (omega arith)) (decimal_nonempty (suc n) (omega arith)) same (omega arith)) (ap (λ m. Some (neg_ℤ (pos m))) same)

-- a text that is not empty is its value
filled : (t : CellType) (text : List ℕ) → 0 < length text → cell_of_text t text ≡ value_of_text t text
filled t [] h = absurd (omega arith)
filled t (b ∷ text) h = rw (ne_eqb (suc (length text)) 0 (λ e. omega arith)) refl

some_digit : (n : ℤ) → mag n < 2 ^ 63 → 0 < length (signed_decimal n)
some_digit (pos n) h = decimal_nonempty n (omega arith)
some_digit (negsuc n) h = omega arith

text_back : (text : List ℕ) → cell_of_text dtype.Text text ≡ Some (read_cell (cell.Text text))
text_back [] = refl
text_back (b ∷ text) = rw (ne_eqb (suc (length text)) 0 (λ e. omega arith)) refl

cell_back : (t : CellType) (v : Cell) → is_base_dtype t ≡ true → fits_dtype t v ≡ true → is_int v ≡ true → cell_of_text t (unquoted v) ≡ Some (read_cell v)
cell_back t cell.Null b f i = refl
cell_back dtype.Int (cell.Int n) b f i =
    let h : mag n < 2 ^ 63 = grind (arith, nat_tests, i) in
    filled dtype.Int (signed_decimal n) (some_digit n h) ∙ ap (option_map cell.Int) (int_back n h)
cell_back dtype.Int (cell.Wide n) b f i = cc
cell_back dtype.Int (cell.Text x) b f i = cc
cell_back dtype.Int (cell.Bool x) b f i = cc
cell_back dtype.Int (cell.Frac x) b f i = cc
cell_back dtype.Text (cell.Text x) b f i = text_back x
cell_back dtype.Text (cell.Int n) b f i = cc
cell_back dtype.Text (cell.Wide n) b f i = cc
cell_back dtype.Text (cell.Bool x) b f i = cc
cell_back dtype.Text (cell.Frac x) b f i = cc
cell_back dtype.Bool (cell.Bool true) b f i = refl
cell_back dtype.Bool (cell.Bool false) b f i = refl
cell_back dtype.Bool (cell.Int n) b f i = cc
cell_back dtype.Bool (cell.Wide n) b f i = cc
cell_back dtype.Bool (cell.Text x) b f i = cc
cell_back dtype.Bool (cell.Frac x) b f i = cc
cell_back dtype.Wide v b f i = absurd cc
cell_back dtype.Frac v b f i = absurd cc

both : (a b : Bool) → (a && b) ≡ true → (a ≡ true) × (b ≡ true)
both true b h = (refl, h)
both false b h = absurd cc

cells_back : (at : ℕ) (columns : Columns) (row : List Cell) → is_base columns ≡ true → row_fits columns row ≡ true → list_all is_int row ≡ true →
    row_from at columns (map unquoted row) ≡ one.Good (map read_cell row)
cells_back at [] [] b f i = refl
cells_back at [] (v ∷ row) b f i = cc
cells_back at (c ∷ columns) [] b f i = cc
cells_back at (c ∷ columns) (v ∷ row) b f i =
    let bs = both _ _ b in
    let fs = both _ _ f in
    let is = both _ _ i in
    rw (cell_back c.1 v bs.0 fs.0 is.0, cells_back (at + 1) columns row bs.1 fs.1 is.1) refl

row_back : (columns : Columns) (row : List Cell) → is_base columns ≡ true → row_fits columns row ≡ true → list_all is_int row ≡ true →
    row_of columns (record_of row) ≡ one.Good (map read_cell row)
row_back [] [] b f i = refl
row_back (c ∷ columns) [] b f i = cc
row_back columns (v ∷ row) b f i = cells_back 0 columns (v ∷ row) b f i

rows_back : (n : ℕ) (columns : Columns) (rows : List (List Cell)) → is_base columns ≡ true → rows_fit columns rows ≡ true → list_all (list_all is_int) rows ≡ true →
    rows_typed columns n (map record_of rows) ≡ all.Good (map (map read_cell) rows)
rows_back n columns [] b f i = refl
rows_back n columns (row ∷ rows) b f i =
    let fs = both _ _ f in
    let is = both _ _ i in
    rw (row_back columns row b fs.0 is.0, rows_back (n + 1) columns rows b fs.1 is.1) refl

pub types_back : (columns : Columns) (rows : List (List Cell)) → TypesBack columns rows (table_records columns rows)
types_back columns rows b f i = rows_back 1 columns rows b f i
