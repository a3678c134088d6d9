-- Typed rows make a chunk.
use Rattle.std.proofs.Common.{◌≡◌, ◌+◌, ◌≤◌, ℕ, suc, true, false, List, [], ◌∷◌, length, take, drop, Option, Some, None, refl, ap, arith, inl, inr, nat_eq, nat_lt, subst}
use Rattle.std.specs.Prelude.{All, Bool, not, option_map, ℤ}
use Rattle.std.specs.List.{position_or_len}
use Rattle.std.proofs.lemmas.Bool.{cases_Bool}
use Rattle.std.proofs.lemmas.Bool.Decides.{nat_tests}
use Rattle.std.proofs.lemmas.List.{length-take}
use Rattle.std.proofs.lemmas.List.Elements.{All-drop, All-head, All-tail, All-take}
use Rattle.df_value.specs.Cells.{fits_dtype}
use Rattle.df_value.specs.ChunkFaults.{chunk_fault}
use Rattle.df_value.specs.Rows.{row_fits}
use Rattle.df_value.specs.declared.cell.Cell.TheVariants as cell
use Rattle.df_value.specs.declared.cell.CellType.{CellType}
use Rattle.df_value.specs.declared.cell.CellType.TheVariants as dtype
use Rattle.df_value.specs.declared.cell.Cell.{Cell}
use Rattle.df_csv.specs.declared.typed.TypedRow.{TypedRow}
use Rattle.df_csv.specs.declared.typed.TypedRow.TheVariants as one
use Rattle.df_csv.specs.declared.typed.TypedRows.{TypedRows}
use Rattle.df_csv.specs.declared.typed.TypedRows.TheVariants as all
use Rattle.df_csv.specs.Fields.{bool_of_text, cell_of_text, int_of_text, value_of_text}
use Rattle.df_csv.specs.Typed.{row_from, row_of, rows_typed, cell_before, row_before}

null_fits : (k : CellType) → fits_dtype k cell.Null ≡ true
null_fits dtype.Int = refl
null_fits dtype.Wide = refl
null_fits dtype.Text = refl
null_fits dtype.Bool = refl
null_fits dtype.Frac = refl

some_cell : (k : CellType) (a b : Cell) (o : Option Cell) → o ≡ Some a → o ≡ Some b → fits_dtype k a ≡ true → fits_dtype k b ≡ true
some_cell k a b o e h f = let q : a ≡ b = cc in subst (λ v. fits_dtype k v ≡ true) q f

int_fits : (o : Option ℤ) (v : Cell) → option_map cell.Int o ≡ Some v → fits_dtype dtype.Int v ≡ true
int_fits (Some n) v e = some_cell dtype.Int (cell.Int n) v _ refl e refl
int_fits None v e = cc

bool_fits : (o : Option Bool) (v : Cell) → option_map cell.Bool o ≡ Some v → fits_dtype dtype.Bool v ≡ true
bool_fits (Some b) v e = some_cell dtype.Bool (cell.Bool b) v _ refl e refl
bool_fits None v e = cc

value_fits : (k : CellType) (f : List ℕ) (v : Cell) → value_of_text k f ≡ Some v → fits_dtype k v ≡ true
value_fits dtype.Int f v e = int_fits (int_of_text f) v e
value_fits dtype.Bool f v e = bool_fits (bool_of_text f) v e
value_fits dtype.Text f v e = some_cell dtype.Text (cell.Text f) v _ refl e refl
value_fits dtype.Wide f v e = cc
value_fits dtype.Frac f v e = cc

cell_fits : (k : CellType) (f : List ℕ) (v : Cell) → cell_of_text k f ≡ Some v → fits_dtype k v ≡ true
cell_fits k f v e = elim (cases_Bool (nat_eq (length f) 0)) [
  | inl is ↦ some_cell k cell.Null v _ refl (rw is at e) (null_fits k)
  | inr isnt ↦ value_fits k f v (rw isnt at e)
]

good_row : (a b : List Cell) (t : TypedRow) → t ≡ one.Good a → t ≡ one.Good b → a ≡ b
good_row a b t e h = cc

put_cell : (c : List ℕ × CellType) (cs : List (List ℕ × CellType)) (f : List ℕ) (at : ℕ) (row : List Cell) (o : Option Cell) → cell_of_text c.1 f ≡ o
    → (t : TypedRow) → ((vs : List Cell) → t ≡ one.Good vs → row_fits cs vs ≡ true) → cell_before at o t ≡ one.Good row → row_fits (c ∷ cs) row ≡ true
put_cell c cs f at row None q t h e = cc
put_cell c cs f at row (Some v) q (one.Bad i) h e = cc
put_cell c cs f at row (Some v) q (one.Good vs) h e =
    subst (λ r. row_fits (c ∷ cs) r ≡ true) (good_row (v ∷ vs) row _ refl e) (rw (cell_fits c.1 f v q, h vs refl) refl)

row_makes : (at : ℕ) (columns : List (List ℕ × CellType)) (fields : List (List ℕ)) (row : List Cell) → length fields ≡ length columns
    → row_from at columns fields ≡ one.Good row → row_fits columns row ≡ true
row_makes at [] fields row len e = subst (λ r. row_fits [] r ≡ true) (good_row [] row _ refl e) refl
row_makes at (c ∷ cs) [] row len e = absurd (omega (arith, len))
row_makes at (c ∷ cs) (f ∷ fs) row len e =
    put_cell c cs f at row (cell_of_text c.1 f) refl (row_from (at + 1) cs fs) (λ vs. row_makes (at + 1) cs fs vs (omega (arith, len))) e

good_rows : (a b : List (List Cell)) (t : TypedRows) → t ≡ all.Good a → t ≡ all.Good b → a ≡ b
good_rows a b t e h = cc

-- as many rows as so many records, each of which fits
abbrev Fitting : List (List ℕ × CellType) → ℕ → List (List Cell) → Type 0
Fitting columns n rows = (length rows ≡ n) × (position_or_len (λ r. not (row_fits columns r)) rows ≡ n)

put_row : (columns : List (List ℕ × CellType)) (n m : ℕ) (rows : List (List Cell)) (o : TypedRow) → ((row : List Cell) → o ≡ one.Good row → row_fits columns row ≡ true)
    → (t : TypedRows) → ((rs : List (List Cell)) → t ≡ all.Good rs → Fitting columns m rs) → row_before n o t ≡ all.Good rows → Fitting columns (suc m) rows
put_row columns n m rows (one.Bad i) f t h e = cc
put_row columns n m rows (one.Good row) f (all.Bad b) h e = cc
put_row columns n m rows (one.Good row) f (all.Good rs) h e =
    let (len, fit) = h rs refl in
    let here = f row refl in
    subst (Fitting columns (suc m)) (good_rows (row ∷ rs) rows _ refl e) (ap suc len, rw (here, fit) (omega arith))

rows_make : (columns : List (List ℕ × CellType)) (n : ℕ) (records : List (List (List ℕ))) (rows : List (List Cell)) → All (λ r. length r ≡ length columns) records
    → rows_typed columns n records ≡ all.Good rows → Fitting columns (length records) rows
rows_make columns n [] rows even e = subst (Fitting columns 0) (good_rows [] rows _ refl e) (refl, refl)
rows_make columns n (r ∷ rs) rows even e =
    let here = All-head (λ (q : List (List ℕ)). length q ≡ length columns) r rs even in
    let rest = All-tail (λ (q : List (List ℕ)). length q ≡ length columns) r rs even in
    put_row columns n (length rs) rows (row_of columns r) (λ row. row_makes 0 columns r row here) (rows_typed columns (n + 1) rs) (λ xs. rows_make columns (n + 1) rs xs rest) e

pub even_part : (width first len : ℕ) (records : List (List (List ℕ))) → All (λ r. length r ≡ width) records → All (λ r. length r ≡ width) (take len (drop first records))
even_part width first len records even =
    All-take (λ (q : List (List ℕ)). length q ≡ width) len (drop first records) (All-drop (λ (q : List (List ℕ)). length q ≡ width) first records even)

-- rows from a part of so many records have no fault as a chunk
pub no_fault : (schema : List (List ℕ × CellType)) (first n len : ℕ) (records : List (List (List ℕ))) (rows : List (List Cell)) → All (λ r. length r ≡ length schema) records
    → rows_typed schema n (take len (drop first records)) ≡ all.Good rows → len ≤ 65536 → first + len ≤ 4294967296 → chunk_fault schema first rows ≡ None
no_fault schema first n len records rows even e short small =
    let (size, fit) = rows_make schema n (take len (drop first records)) rows (even_part (length schema) first len records even) e in
    let few : length rows ≤ len = omega (arith, size, length-take len (drop first records)) in
    let t : nat_lt 65536 (length rows) ≡ false = grind (arith, nat_tests) in
    let u : nat_lt 4294967296 (first + length rows) ≡ false = grind (arith, nat_tests) in
    let w : nat_lt (position_or_len (λ r. not (row_fits schema r)) rows) (length rows) ≡ false = grind (arith, nat_tests) in
    rw (t, u, w) refl
