-- What stands in a column of a table that an operator gives: what was put under its name, or else what stood there.
use Rattle.std.proofs.Common.{◌≡◌, ◌≢◌, ℕ, ◌∙◌, Bool, true, false, cond, List, [], ◌∷◌, ◌++◌, length, map, filter, take, ◌+◌, refl, ap, sym, arith}
use Rattle.std.specs.Prelude.{IsTrue, Option, Some, None, not, option_map, unwrap_or, ◌&&◌, ◌||◌}
use Rattle.std.specs.List.{list_all, position_from, zip}
use Rattle.std.specs.Str.{bytes_eq}
use Rattle.std.proofs.lemmas.Bool.{false≢true}
use Rattle.std.proofs.lemmas.Iterator.Adapters.{position_from-zero}
use Rattle.std.proofs.lemmas.List.{length-map, map-append}
use Rattle.std.proofs.lemmas.List.FromFn.{length-map-range_with_len}
use Rattle.std.proofs.lemmas.Slice.Eq.{bytes_eq-Decides}
use Rattle.df_value.specs.declared.cell.Cell.{Cell}
use Rattle.df_value.specs.declared.cell.CellType.{CellType}
use Rattle.df_value.specs.Choices.{by_test, neither}
use Rattle.df_value.specs.Rows.{cell_at, row_fits, rows_fit}
use Rattle.df_value.specs.Schemas.{Columns, column_index}
use Rattle.df_expr.specs.declared.expr.Expr.{Expr}
use Rattle.df_expr.specs.Value.{value_of}
use Rattle.df_ops.specs.Aggregates.{cells_of}
use Rattle.df_ops.specs.NamedColumns.{added_or_own, first_of_name, has_column, with_columns}
use Rattle.df_ops.specs.Ranks.{dense_rank_of, distinct_at, min_rank_of, ranks_of}
use Rattle.df_ops.specs.RowWise.{item_cell, item_column, named_cells, select_row, with_columns_row, with_columns_schema, with_column_row}
use Rattle.df_ops.specs.TableColumns.{column_of, AppendsNewNames, HasItemValues, KeepsOtherColumns, KeepsOtherDtypes, PutsColumn}
use Rattle.df_ops.specs.Tables.{cum_sum_table, rank_table, rolling_table, select_table, with_column_table, with_columns_table}
use Rattle.df_ops.specs.Windows.{cum_sum, cum_sum_at, rolling_cell, rolling_cells, window_of}
use Rattle.df_ops.specs.declared.plain_table.PlainTable.{PlainTable}
use Rattle.df_ops.specs.declared.ranks.RankKind.{RankKind}
use Rattle.df_ops.specs.declared.ranks.RankKind.TheVariants as rank
use Rattle.df_ops.specs.declared.windows.RollKind.{RollKind}
use Rattle.df_ops.proofs.Beside.{Beside, with_columns-beside}
use Rattle.df_ops.proofs.KeyOrder.{same_choice}
use Rattle.df_ops.proofs.NamedColumnsFacts.{kept_own, or_later, replaced_name}
use Rattle.df_ops.proofs.RowWiseLaws.{cell_named, cell_of_found, has_item, item_names, kept_cell, named_names, not_true, second_of_two, values, OneName}

unlike : (b : Bool) → (b ≡ true → ⊥) → b ≡ false
unlike true h = absurd (h refl)
unlike false h = refl

not_new : (b : Bool) → not b ≡ false → b ≡ true
not_new true h = refl
not_new false h = cc

-- what is put under a name that stands there is found in its place
found_replaced :
    {T : Type 0} (name : List ℕ) (added own ys : List (List ℕ × T)) (v : List ℕ × T) → first_of_name name added ≡ Some v →
    has_column name own ≡ true → first_of_name name (map (added_or_own added) own ++ ys) ≡ Some v
found_replaced name added [] ys v h k = cc
found_replaced {T} name added (o ∷ own) ys v h k =
    let same : (added_or_own added o).0 ≡ o.0 = replaced_name added o in
    by_test (λ (f : Option (List ℕ × T)). f ≡ Some v) (bytes_eq (added_or_own added o).0 name) (Some (added_or_own added o))
    (first_of_name name (map (added_or_own added) own ++ ys))
    (λ e. let here : o.0 ≡ name = sym same ∙ (bytes_eq-Decides (added_or_own added o).0 name).0 e in
    ap (λ (u : Option (List ℕ × T)). Some (unwrap_or u o)) (ap (λ n. first_of_name n added) here ∙ h))
    (λ e. found_replaced name added own ys v h
    (or_later (bytes_eq o.0 name) (has_column name own) k (ap (λ n. bytes_eq n name) (sym same) ∙ e)))

-- a name that does not stand there is sought in what follows
passed :
    {T : Type 0} (name : List ℕ) (added own ys : List (List ℕ × T)) → has_column name own ≡ false →
    first_of_name name (map (added_or_own added) own ++ ys) ≡ first_of_name name ys
passed name added [] ys h = refl
passed {T} name added (o ∷ own) ys h =
    let parts = neither (bytes_eq o.0 name) (has_column name own) h in
    let other : bytes_eq (added_or_own added o).0 name ≡ false = ap (λ n. bytes_eq n name) (replaced_name added o) ∙ parts.0 in
    ap (λ b. cond b (Some (added_or_own added o)) (first_of_name name (map (added_or_own added) own ++ ys))) other
    ∙ passed name added own ys parts.1

-- and is found among those of new names
new_found :
    {T : Type 0} (name : List ℕ) (own added : List (List ℕ × T)) → has_column name own ≡ false →
    first_of_name name (filter (λ a. not (has_column a.0 own)) added) ≡ first_of_name name added
new_found name own [] h = refl
new_found {T} name own (a ∷ as') h =
    let new = filter (λ a. not (has_column a.0 own)) as' in
    by_test (λ (l : List (List ℕ × T)). first_of_name name l ≡ first_of_name name (a ∷ as')) (not (has_column a.0 own)) (a ∷ new) new
    (λ e. ap (λ (f : Option (List ℕ × T)). cond (bytes_eq a.0 name) (Some a) f) (new_found name own as' h))
    (λ e. let other : bytes_eq a.0 name ≡ false =
    unlike (bytes_eq a.0 name) (λ t.
    false≢true (sym h ∙ (ap (λ n. has_column n own) (sym ((bytes_eq-Decides a.0 name).0 t)) ∙ not_new (has_column a.0 own) e))) in
    new_found name own as' h ∙ sym (ap (λ b. cond b (Some a) (first_of_name name as')) other))

found_at :
    {T : Type 0} (name : List ℕ) (own added : List (List ℕ × T)) (v : List ℕ × T) (b : Bool) → has_column name own ≡ b →
    first_of_name name added ≡ Some v → first_of_name name (with_columns own added) ≡ Some v
unfolding with_columns
found_at name own added v true e h = found_replaced name added own (filter (λ a. not (has_column a.0 own)) added) v h e
found_at name own added v false e h =
    passed name added own (filter (λ a. not (has_column a.0 own)) added) e ∙ (new_found name own added e ∙ h)

-- the cell that was put under a name stands in the column of that name
put_cell :
    (columns added : Columns) (row : List Cell) (values : List (List ℕ × Cell)) → IsTrue (row_fits columns row) → Beside OneName added values →
    (name : List ℕ) (v : List ℕ × Cell) → first_of_name name values ≡ Some v →
    cell_at (column_index name (with_columns columns added)) (map (λ c. c.1) (with_columns (named_cells columns row) values)) ≡ v.1
put_cell columns added row values fits names name v h =
    let own = named_cells columns row in
    let all = with_columns-beside OneName (λ c v e. e) columns own (named_names columns row) added values names in
    ap (λ o. cell_at o (map (λ c. c.1) (with_columns own values))) (position_from-zero (λ c. bytes_eq c.0 name) (with_columns columns added))
    ∙ (cell_named name (with_columns columns added) (with_columns own values) all
    ∙ ap cell_of_found (found_at name own values v (has_column name own) refl h))

-- what an item gives is found under its name
found_item :
    (columns : Columns) (row : List Cell) (name : List ℕ) (items : List (List ℕ × Expr)) →
    first_of_name name (map (item_cell columns row) items) ≡ option_map (item_cell columns row) (first_of_name name items)
found_item columns row name [] = refl
found_item columns row name (i ∷ items) =
    same_choice (option_map (item_cell columns row)) (bytes_eq i.0 name) _ _ _ _ refl (found_item columns row name items)

item_found :
    (columns : Columns) (row : List Cell) (name : List ℕ) (items : List (List ℕ × Expr)) (item : List ℕ × Expr) →
    first_of_name name items ≡ Some item → first_of_name name (map (item_cell columns row) items) ≡ Some (item_cell columns row item)
item_found columns row name items item h = found_item columns row name items ∙ ap (option_map (item_cell columns row)) h

select_cell :
    (columns : Columns) (items : List (List ℕ × Expr)) (row : List Cell) (name : List ℕ) (item : List ℕ × Expr) → first_of_name name items ≡ Some item →
    cell_at (column_index name (map (item_column columns) items)) (select_row columns items row) ≡ value_of item.1 columns row
select_cell columns items row name item h =
    let test : List ℕ × CellType → Bool = λ c. bytes_eq c.0 name in
    let out = map (item_column columns) items in
    ap (λ o. cell_at o (select_row columns items row)) (position_from-zero test out)
    ∙ (ap (λ r. cell_at (position_from test 0 out) r) (sym (values columns row items))
    ∙ (cell_named name out (map (item_cell columns row) items) (item_names columns row items)
    ∙ ap cell_of_found (item_found columns row name items item h)))

-- what holds of each row holds of the whole column
column_each :
    (f : List Cell → List Cell) (g : List Cell → Cell) (i : Option ℕ) → ((r : List Cell) → cell_at i (f r) ≡ g r) →
    (rows : List (List Cell)) → cells_of i (map f rows) ≡ map g rows
column_each f g i same [] = refl
column_each f g i same (r ∷ rs) =
    ap (λ c. c ∷ cells_of i (map f rs)) (same r) ∙ ap (λ cs. g r ∷ cs) (column_each f g i same rs)

first_of_two : (a b : Bool) → IsTrue (a && b) → IsTrue a
first_of_two true b h = refl
first_of_two false b h = cc

column_where :
    (p : List Cell → Bool) (f : List Cell → List Cell) (g : List Cell → Cell) (i : Option ℕ) → ((r : List Cell) → IsTrue (p r) → cell_at i (f r) ≡ g r) →
    (rows : List (List Cell)) → IsTrue (list_all p rows) → cells_of i (map f rows) ≡ map g rows
column_where p f g i same [] h = refl
column_where p f g i same (r ∷ rs) h =
    ap (λ c. c ∷ cells_of i (map f rs)) (same r (first_of_two (p r) (list_all p rs) h))
    ∙ ap (λ cs. g r ∷ cs) (column_where p f g i same rs (second_of_two (p r) (list_all p rs) h))

-- cells that were put in, one to a row
column_put :
    (p : List Cell → Bool) (f : List Cell → Cell → List Cell) (i : Option ℕ) → ((r : List Cell) (c : Cell) → IsTrue (p r) → cell_at i (f r c) ≡ c) →
    (rows : List (List Cell)) (cells : List Cell) → length cells ≡ length rows → IsTrue (list_all p rows) →
    cells_of i (map (λ x. f x.0 x.1) (zip rows cells)) ≡ cells
column_put p f i same [] [] long h = refl
column_put p f i same [] (c ∷ cs) long h = absurd (omega arith)
column_put p f i same (r ∷ rs) [] long h = absurd (omega arith)
column_put p f i same (r ∷ rs) (c ∷ cs) long h =
    ap (λ d. d ∷ cells_of i (map (λ x. f x.0 x.1) (zip rs cs))) (same r c (first_of_two (p r) (list_all p rs) h))
    ∙ ap (λ ds. c ∷ ds) (column_put p f i same rs cs (omega arith) (second_of_two (p r) (list_all p rs) h))

-- and the cells beside them
column_kept :
    (p : List Cell → Bool) (f : List Cell → Cell → List Cell) (i j : Option ℕ) → ((r : List Cell) (c : Cell) → IsTrue (p r) → cell_at i (f r c) ≡ cell_at j r) →
    (rows : List (List Cell)) (cells : List Cell) → length cells ≡ length rows → IsTrue (list_all p rows) →
    cells_of i (map (λ x. f x.0 x.1) (zip rows cells)) ≡ cells_of j rows
column_kept p f i j same [] [] long h = refl
column_kept p f i j same [] (c ∷ cs) long h = absurd (omega arith)
column_kept p f i j same (r ∷ rs) [] long h = absurd (omega arith)
column_kept p f i j same (r ∷ rs) (c ∷ cs) long h =
    ap (λ d. d ∷ cells_of i (map (λ x. f x.0 x.1) (zip rs cs))) (same r c (first_of_two (p r) (list_all p rs) h))
    ∙ ap (λ ds. cell_at j r ∷ ds) (column_kept p f i j same rs cs (omega arith) (second_of_two (p r) (list_all p rs) h))

pub select_values : (t : PlainTable) (items : List (List ℕ × Expr)) → HasItemValues t items (select_table t items)
unfolding select_table
select_values t items name item h =
    column_each (select_row t.columns items) (value_of item.1 t.columns) (column_index name (map (item_column t.columns) items))
    (λ r. select_cell t.columns items r name item h) t.rows

pub with_columns_values :
    (t : PlainTable) (items : List (List ℕ × Expr)) → IsTrue (rows_fit t.columns t.rows) → HasItemValues t items (with_columns_table t items)
unfolding with_columns_table with_columns_row
with_columns_values t items fit name item h =
    column_where (row_fits t.columns) (with_columns_row t.columns items) (value_of item.1 t.columns)
    (column_index name (with_columns_schema t.columns items))
    (λ r fits. put_cell t.columns (map (item_column t.columns) items) r (map (item_cell t.columns r) items) fits
    (item_names t.columns r items) name (item_cell t.columns r item) (item_found t.columns r name items item h)) t.rows fit

pub with_columns_others :
    (t : PlainTable) (items : List (List ℕ × Expr)) → IsTrue (rows_fit t.columns t.rows) → KeepsOtherColumns t items (with_columns_table t items)
unfolding with_columns_table with_columns_row
with_columns_others t items fit name here other =
    column_where (row_fits t.columns) (with_columns_row t.columns items) (cell_at (column_index name t.columns))
    (column_index name (with_columns_schema t.columns items))
    (λ r fits. kept_cell t.columns (map (item_column t.columns) items) r (map (item_cell t.columns r) items) fits
    (item_names t.columns r items) name here
    (has_item t.columns r name items ∙ not_true (has_column name items) other)) t.rows fit

itself : (name : List ℕ) (c : Cell) → first_of_name name ((name, c) ∷ []) ≡ Some (name, c)
itself name c = ap (λ (b : Bool). cond {A = Option (List ℕ × Cell)} b (Some (name, c)) None) ((bytes_eq-Decides name name).1 refl)

no_other : (name other : List ℕ) (c : Cell) → other ≢ name → has_column other ((name, c) ∷ []) ≡ false
no_other name other c h =
    ap (λ b. b || false) (unlike (bytes_eq name other) (λ t. h (sym ((bytes_eq-Decides name other).0 t))))

puts_column :
    (t : PlainTable) (name : List ℕ) (k : CellType) (cells : List Cell) → IsTrue (rows_fit t.columns t.rows) → length cells ≡ length t.rows →
    PutsColumn t name cells (with_column_table t name k cells)
unfolding with_column_table with_column_row
puts_column t name k cells fit long = record {
  own =
      column_put (row_fits t.columns) (with_column_row t.columns name) (column_index name (with_columns t.columns ((name, k) ∷ [])))
      (λ r c fits. put_cell t.columns ((name, k) ∷ []) r ((name, c) ∷ []) fits (refl, tt) name (name, c) (itself name c)) t.rows cells long fit;
  others = λ other here apart.
      column_kept (row_fits t.columns) (with_column_row t.columns name) (column_index other (with_columns t.columns ((name, k) ∷ [])))
      (column_index other t.columns)
      (λ r c fits. kept_cell t.columns ((name, k) ∷ []) r ((name, c) ∷ []) fits (refl, tt) other here (no_other name other c apart))
      t.rows cells long fit;
}

pub rolling_column :
    (t : PlainTable) (name : List ℕ) (k : RollKind) (column : List ℕ) (w m : ℕ) → IsTrue (rows_fit t.columns t.rows) →
    PutsColumn t name (rolling_cells k w m (column_of column t)) (rolling_table t name k column w m)
unfolding rolling_table
rolling_column t name k column w m fit =
    let cells = column_of column t in
    puts_column t name _ (rolling_cells k w m cells) fit
    (length-map-range_with_len (λ i. rolling_cell k m (window_of w (take (i + 1) cells))) 0 (length cells)
    ∙ length-map t.rows (cell_at (column_index column t.columns)))

pub cum_sum_column :
    (t : PlainTable) (name column : List ℕ) → IsTrue (rows_fit t.columns t.rows) →
    PutsColumn t name (cum_sum (column_of column t)) (cum_sum_table t name column)
unfolding cum_sum_table
cum_sum_column t name column fit =
    let cells = column_of column t in
    puts_column t name _ (cum_sum cells) fit
    (length-map-range_with_len (λ i. cum_sum_at (take (i + 1) cells)) 0 (length cells)
    ∙ length-map t.rows (cell_at (column_index column t.columns)))

length-ranks : (k : RankKind) (index : Option ℕ) (rows : List (List Cell)) → length (ranks_of k index rows) ≡ length rows
length-ranks rank.Dense index rows = length-map rows (λ r. dense_rank_of (distinct_at index rows) (cell_at index r))
length-ranks rank.Min index rows = length-map rows (λ r. min_rank_of index rows (cell_at index r))

pub rank_column :
    (t : PlainTable) (name : List ℕ) (k : RankKind) (column : List ℕ) → IsTrue (rows_fit t.columns t.rows) →
    PutsColumn t name (ranks_of k (column_index column t.columns) t.rows) (rank_table t name k column)
unfolding rank_table
rank_column t name k column fit =
    let index = column_index column t.columns in
    puts_column t name _ (ranks_of k index t.rows) fit (length-ranks k index t.rows)

-- what is put in the place of a name has that name
own_names : (added own : Columns) → map (λ c. c.0) (map (added_or_own added) own) ≡ map (λ c. c.0) own
own_names added [] = refl
own_names added (o ∷ own) = ap (λ n. n ∷ map (λ c. c.0) (map (added_or_own added) own)) (replaced_name added o) ∙ ap (λ ns. o.0 ∷ ns) (own_names added own)

named_if :
    {A B : Type 0} (b : Bool) (x : List ℕ × A) (y : List ℕ × B) (xs : List (List ℕ × A)) (ys : List (List ℕ × B)) → x.0 ≡ y.0 →
    map (λ c. c.0) xs ≡ map (λ c. c.0) ys → map (λ c. c.0) (cond b (x ∷ xs) xs) ≡ map (λ c. c.0) (cond b (y ∷ ys) ys)
named_if true x y xs ys e h = ap (λ n. n ∷ map (λ c. c.0) xs) e ∙ ap (λ ns. y.0 ∷ ns) h
named_if false x y xs ys e h = h

new_names :
    (own columns : Columns) (items : List (List ℕ × Expr)) →
    map (λ c. c.0) (filter (λ a. not (has_column a.0 own)) (map (item_column columns) items))
    ≡ map (λ i. i.0) (filter (λ i. not (has_column i.0 own)) items)
new_names own columns [] = refl
new_names own columns (i ∷ items) = named_if (not (has_column i.0 own)) (item_column columns i) i _ _ refl (new_names own columns items)

pub with_columns_names : (t : PlainTable) (items : List (List ℕ × Expr)) → AppendsNewNames t items (with_columns_table t items)
unfolding with_columns_table with_columns
with_columns_names t items =
    let added = map (item_column t.columns) items in
    map-append (λ c. c.0) (map (added_or_own added) t.columns) (filter (λ a. not (has_column a.0 t.columns)) added)
    ∙ (ap (λ ns. ns ++ map (λ c. c.0) (filter (λ a. not (has_column a.0 t.columns)) added)) (own_names added t.columns)
    ∙ ap (λ ns. map (λ c. c.0) t.columns ++ ns) (new_names t.columns t.columns items))

item_named : (columns : Columns) (name : List ℕ) (items : List (List ℕ × Expr)) → has_column name (map (item_column columns) items) ≡ has_column name items
item_named columns name [] = refl
item_named columns name (i ∷ items) = ap (λ b. bytes_eq i.0 name || b) (item_named columns name items)

pub with_columns_dtypes : (t : PlainTable) (items : List (List ℕ × Expr)) → KeepsOtherDtypes t items (with_columns_table t items)
unfolding with_columns_table with_columns
with_columns_dtypes t items name here other =
    let added = map (item_column t.columns) items in
    ap (option_map (λ c. c.1))
    (kept_own name added t.columns (filter (λ a. not (has_column a.0 t.columns)) added)
    (item_named t.columns name items ∙ not_true (has_column name items) other) here)
