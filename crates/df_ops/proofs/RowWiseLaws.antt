-- Filtering twice is filtering by both predicates; with_columns keeps the cells of the columns that no item names.
use Rattle.std.proofs.Common.{◌≡◌, ℕ, Bool, true, false, ◌∙◌, cond, List, [], ◌∷◌, map, filter, refl, ap, sym, add-one}
use Rattle.std.specs.Prelude.{IsTrue, Option, Some, None, ◌&&◌, ◌||◌, not, option_map, ◌+◌, suc}
use Rattle.std.specs.List.{position_from}
use Rattle.std.specs.Str.{bytes_eq}
use Rattle.std.proofs.lemmas.Iterator.Adapters.{position_from-zero}
use Rattle.df_value.specs.declared.cell.Cell.{Cell}
use Rattle.df_value.specs.declared.cell.Cell.TheVariants as cell
use Rattle.df_value.specs.declared.cell.CellType.{CellType}
use Rattle.df_value.specs.Cells.{fits_dtype}
use Rattle.df_value.specs.Rows.{cell_at, row_fits}
use Rattle.df_value.specs.Schemas.{column_index}
use Rattle.df_expr.specs.declared.expr.Expr.{Expr}
use Rattle.df_expr.specs.declared.expr.Expr.TheVariants as expr
use Rattle.df_expr.specs.declared.expr.Expr.TheOpen.{Expr-F}
use Rattle.df_expr.specs.declared.expr.Expr.TheFolds.{fold-roll-Expr}
use Rattle.df_expr.specs.declared.expr.Expr.TheViews.{roll-Expr}
use Rattle.df_expr.specs.Logic.{kleene_and}
use Rattle.df_expr.specs.Value.{value_of, value_step, truth_of, cell_of}
use Rattle.df_ops.specs.NamedColumns.{has_column, first_of_name, with_columns}
use Rattle.df_ops.specs.RowWise.{is_true, keeps, filter_rows, item_column, item_cell, named_cells, select_row, with_columns_row, with_columns_schema, KeepsOthers}
use Rattle.df_ops.proofs.Beside.{Beside, has_beside, with_columns-beside}
use Rattle.df_ops.proofs.NamedColumnsFacts.{kept_own}

abbrev Columns : Type 0
Columns = List (List ℕ × CellType)

-- what a truth tells; null tells nothing
abbrev told : Option Bool → Bool
told None = false
told (Some b) = b

told_truth : (c : Cell) → is_true c ≡ told (truth_of c)
told_truth cell.Null = refl
told_truth (cell.Int n) = refl
told_truth (cell.Wide n) = refl
told_truth (cell.Text t) = refl
told_truth (cell.Bool b) = refl
told_truth (cell.Frac f) = refl

told_both : (a b : Option Bool) → is_true (cell_of (kleene_and a b)) ≡ (told a && told b)
told_both (Some true) (Some true) = refl
told_both (Some true) (Some false) = refl
told_both (Some true) None = refl
told_both (Some false) b = refl
told_both None (Some true) = refl
told_both None (Some false) = refl
told_both None None = refl

and_value :
    (columns : Columns) (p q : Expr) (row : List Cell) →
    value_of (expr.And p q) columns row ≡ cell_of (kleene_and (truth_of (value_of p columns row)) (truth_of (value_of q columns row)))
unfolding roll-Expr denote.Hole.Carrier.roll
and_value columns p q row = fold-roll-Expr Cell (value_step columns row) (Expr-F.And p q)

keeps_both : (columns : Columns) (p q : Expr) (row : List Cell) → keeps columns (expr.And p q) row ≡ (keeps columns p row && keeps columns q row)
unfolding keeps
keeps_both columns p q row =
    let a = value_of p columns row in
    let b = value_of q columns row in
    ap is_true (and_value columns p q row)
    ∙ (told_both (truth_of a) (truth_of b)
    ∙ (ap (λ x. x && told (truth_of b)) (sym (told_truth a)) ∙ ap (λ x. is_true a && x) (sym (told_truth b))))

filter_step :
    {T : Type 0} (a b c : Bool) → c ≡ (a && b) → (x : T) (xs ys : List T) (g : T → Bool) → g x ≡ b → filter g xs ≡ ys →
    filter g (cond a (x ∷ xs) xs) ≡ cond c (x ∷ ys) ys
filter_step true true true e x xs ys g is h = ap (λ t. cond t (x ∷ filter g xs) (filter g xs)) is ∙ ap (λ l. x ∷ l) h
filter_step true true false e x xs ys g is h = cc
filter_step true false true e x xs ys g is h = cc
filter_step true false false e x xs ys g is h = ap (λ t. cond t (x ∷ filter g xs) (filter g xs)) is ∙ h
filter_step false b true e x xs ys g is h = cc
filter_step false b false e x xs ys g is h = h

filter_twice : {T : Type 0} (f g h : T → Bool) → ((x : T) → h x ≡ (f x && g x)) → (xs : List T) → filter g (filter f xs) ≡ filter h xs
filter_twice f g h both [] = refl
filter_twice f g h both (x ∷ xs) = filter_step (f x) (g x) (h x) (both x) x (filter f xs) (filter h xs) g refl (filter_twice f g h both xs)

pub filtered_twice :
    (columns : Columns) (p : Expr) (rows : List (List Cell)) (again : Expr) →
    filter_rows columns again (filter_rows columns p rows) ≡ filter_rows columns (expr.And p again) rows
filtered_twice columns p rows again =
    filter_twice (keeps columns p) (keeps columns again) (keeps columns (expr.And p again)) (keeps_both columns p again) rows

abbrev pub OneName : {A B : Type 0} → List ℕ × A → List ℕ × B → Type 0
OneName c v = c.0 ≡ v.0

-- the cell that was found under a name, null where there is none
abbrev pub cell_of_found : Option (List ℕ × Cell) → Cell
cell_of_found None = cell.Null
cell_of_found (Some v) = v.1

later_at : (b : Bool) (i : ℕ) (x y : Option ℕ) → x ≡ option_map suc y → cond b (Some (suc i)) x ≡ option_map suc (cond b (Some i) y)
later_at true i x y e = refl
later_at false i x y e = e

later : {A : Type 0} (p : A → Bool) (i : ℕ) (xs : List A) → position_from p (suc i) xs ≡ option_map suc (position_from p i xs)
later p i [] = refl
later p i (x ∷ xs) = later_at (p x) i _ _ (rw (add-one, add-one) (later p (suc i) xs))

next_cell : (o : Option ℕ) (v : Cell) (row : List Cell) → cell_at (option_map suc o) (v ∷ row) ≡ cell_at o row
next_cell None v row = refl
next_cell (Some i) v row = refl

found_cell :
    (b b' : Bool) → b ≡ b' → (o : Option ℕ) (v : List ℕ × Cell) (row : List Cell) (f : Option (List ℕ × Cell)) → cell_at o row ≡ cell_of_found f →
    cell_at (cond b (Some 0) (option_map suc o)) (v.1 ∷ row) ≡ cell_of_found (cond b' (Some v) f)
found_cell true true e o v row f h = refl
found_cell true false e o v row f h = cc
found_cell false true e o v row f h = cc
found_cell false false e o v row f h = next_cell o v.1 row ∙ h

-- the cell below the column of a name is what is found under the name
pub cell_named :
    (name : List ℕ) (columns : Columns) (cells : List (List ℕ × Cell)) → Beside OneName columns cells →
    cell_at (position_from (λ c. bytes_eq c.0 name) 0 columns) (map (λ c. c.1) cells) ≡ cell_of_found (first_of_name name cells)
cell_named name [] [] h = refl
cell_named name [] (v ∷ cells) h = absurd h
cell_named name (c ∷ columns) [] h = absurd h
cell_named name (c ∷ columns) (v ∷ cells) h =
    let test : List ℕ × CellType → Bool = λ c. bytes_eq c.0 name in
    let next : position_from test (0 + 1) columns ≡ option_map suc (position_from test 0 columns) = later test 0 columns in
    rw next
    (found_cell (bytes_eq c.0 name) (bytes_eq v.0 name) (ap (λ n. bytes_eq n name) h.0) (position_from test 0 columns) v _ (first_of_name name cells)
    (cell_named name columns cells h.1))

pub second_of_two : (a b : Bool) → IsTrue (a && b) → IsTrue b
second_of_two true b h = h
second_of_two false b h = cc

pub named_names : (columns : Columns) (row : List Cell) → Beside OneName columns (named_cells columns row)
named_names [] row = tt
named_names (c ∷ columns) [] = (refl, named_names columns [])
named_names (c ∷ columns) (v ∷ row) = (refl, named_names columns row)

unnamed : (columns : Columns) (row : List Cell) → IsTrue (row_fits columns row) → map (λ c. c.1) (named_cells columns row) ≡ row
unnamed [] [] h = refl
unnamed [] (v ∷ row) h = cc
unnamed (c ∷ columns) [] h = cc
unnamed (c ∷ columns) (v ∷ row) h = ap (λ r. v ∷ r) (unnamed columns row (second_of_two (fits_dtype c.1 v) (row_fits columns row) h))

pub item_names : (columns : Columns) (row : List Cell) (items : List (List ℕ × Expr)) → Beside OneName (map (item_column columns) items) (map (item_cell columns row) items)
item_names columns row [] = tt
item_names columns row (i ∷ items) = (refl, item_names columns row items)

-- the values of the items without their names
pub values : (columns : Columns) (row : List Cell) (items : List (List ℕ × Expr)) → map (λ c. c.1) (map (item_cell columns row) items) ≡ select_row columns items row
values columns row [] = refl
values columns row (i ∷ items) = ap (λ r. value_of i.1 columns row ∷ r) (values columns row items)

pub has_item : (columns : Columns) (row : List Cell) (name : List ℕ) (items : List (List ℕ × Expr)) → has_column name (map (item_cell columns row) items) ≡ has_column name items
has_item columns row name [] = refl
has_item columns row name (i ∷ items) = ap (λ b. bytes_eq i.0 name || b) (has_item columns row name items)

pub not_true : (b : Bool) → IsTrue (not b) → b ≡ false
not_true true h = cc
not_true false h = refl

-- a name that nothing put has finds the cell that stood below its column
pub kept_cell :
    (columns added : Columns) (row : List Cell) (values : List (List ℕ × Cell)) → IsTrue (row_fits columns row) → Beside OneName added values →
    (name : List ℕ) → IsTrue (has_column name columns) → has_column name values ≡ false →
    cell_at (column_index name (with_columns columns added)) (map (λ c. c.1) (with_columns (named_cells columns row) values))
    ≡ cell_at (column_index name columns) row
unfolding with_columns
kept_cell columns added row values fits beside name here none =
    let own = named_cells columns row in
    let test : List ℕ × CellType → Bool = λ c. bytes_eq c.0 name in
    let names = named_names columns row in
    let all = with_columns-beside OneName (λ c v e. e) columns own names added values beside in
    let some : has_column name own ≡ true = sym (has_beside OneName (λ c v e. e) name columns own names) ∙ here in
    let kept : first_of_name name (with_columns own values) ≡ first_of_name name own = kept_own name values own _ none some in
    ap (λ o. cell_at o (map (λ c. c.1) (with_columns own values))) (position_from-zero test (with_columns columns added))
    ∙ (cell_named name (with_columns columns added) (with_columns own values) all
    ∙ (ap cell_of_found kept
    ∙ (sym (cell_named name columns own names)
    ∙ (ap (λ r. cell_at (position_from test 0 columns) r) (unnamed columns row fits)
    ∙ ap (λ o. cell_at o row) (sym (position_from-zero test columns))))))

pub keeps_others :
    (columns : Columns) (items : List (List ℕ × Expr)) (row : List Cell) → IsTrue (row_fits columns row) →
    KeepsOthers columns items row (with_columns_row columns items row)
unfolding with_columns_row
keeps_others columns items row fits name here other =
    kept_cell columns (map (item_column columns) items) row (map (item_cell columns row) items) fits (item_names columns row items) name here
    (has_item columns row name items ∙ not_true (has_column name items) other)
