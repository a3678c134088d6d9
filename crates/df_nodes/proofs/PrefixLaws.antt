-- What operators over the rows up to each row give, by their definitions over plain rows.
use Rattle.std.proofs.Common.{◌≡◌, ℕ, ◌+◌, List, [], ◌∷◌, ◌++◌, length, map, take, get_or, Option, Some, refl, sym, ap, ◌∙◌, arith, append_assoc, length-append}
use Rattle.std.specs.Prelude.{T}
use Rattle.std.specs.Cmp.{tied_itself}
use Rattle.std.specs.List.{range_with_len, zip}
use Rattle.std.specs.FinMap as finite
use Rattle.std.proofs.lemmas.List.{get_or_at, length-map, length_push, take-map}
use Rattle.df_value.specs.declared.cell.Cell.{Cell}
use Rattle.df_value.specs.declared.cell.CellType.{CellType}
use Rattle.df_value.specs.Rows.{cell_at}
use Rattle.df_value.specs.Schemas.{column_index}
use Rattle.df_ops.specs.Aggregates.{cells_of}
use Rattle.df_ops.specs.Places.{places_of}
use Rattle.df_ops.specs.RowWise.{with_column_row}
use Rattle.df_ops.specs.Tables.{rolling_table, with_column_table}
use Rattle.df_ops.specs.Windows.{each_prefix, rolling_cell, rolling_dtype, window_of}
use Rattle.df_ops.specs.declared.places.Place.{Place}
use Rattle.df_ops.specs.declared.windows.RollKind.{RollKind}
use Rattle.df_ops.proofs.PlacesFacts.{placed_column}
use Rattle.df_column.specs.TagOrder.{tag_total}
use Rattle.df_column.specs.Tables.{TaggedRows}
use Rattle.df_column.specs.Tags.{tag_cmp}
use Rattle.df_column.specs.declared.tag.Tag.{Tag}
use Rattle.df_column.proofs.Bounds.{upper_at_place}
use Rattle.df_delta.specs.Collected.{collected_list}
use Rattle.df_delta.proofs.Collected.{entries-collected}
use Rattle.df_nodes.specs.Outputs.{rolled}
use Rattle.df_nodes.specs.Prefixes.{cells_up_to, rows_up_to, with_each_prefix}
use Rattle.df_nodes.specs.Rolling.{put_at}
use Rattle.df_nodes.proofs.Bounds.{up_to_bound}
use Rattle.df_nodes.proofs.UpTo.{Rows, cells_in}

module _ (put : List Cell → Cell → List Cell) (f : List Cell → Cell) (index : Option ℕ) where
  abbrev value_in : Rows → Tag → List Cell → Option (List Cell)
  value_in es q row = Some (put row (f (cells_in index (rows_up_to q es))))

  abbrev plain : Rows → ℕ → Rows → List (List Cell)
  plain es n rest = map (λ p. put p.0 p.1) (zip (map (λ e. e.1) rest) (map (λ i. f (take (i + 1) (cells_in index es))) (range_with_len n (length rest))))

  cells_of_front : (n : ℕ) (es : Rows) → cells_in index (take n es) ≡ take n (cells_in index es)
  cells_of_front n es = ap (map (cell_at index)) (sym (take-map (λ e. e.1) n es)) ∙ sym (take-map (cell_at index) n (map (λ e. e.1) es))

  -- the rows up to the one behind those seen
  front_is : (es seen rest : Rows) (x : Tag × List Cell) (n : ℕ) → T (finite.is_sorted tag_cmp es) → seen ++ x ∷ rest ≡ es → length seen ≡ n → rows_up_to x.0 es ≡ take (n + 1) es
  front_is es seen rest x n sorted e long =
      let l = ap length e in
      let a = length-append seen (x ∷ rest) in
      up_to_bound x.0 es (n + 1) (upper_at_place es x.0 n sorted (record {
        in_range = omega arith;
        here = λ d. ap (λ k. tag_cmp k x.0) (ap (λ y. y.0) (ap (λ l. get_or l n d) (sym e) ∙ get_or_at seen x rest d n long)) ∙ tied_itself tag_total x.0;
      }))

  from_seen : (es seen rest : Rows) (n : ℕ) → T (finite.is_sorted tag_cmp es) → seen ++ rest ≡ es → length seen ≡ n → map (λ e. e.1) (collected_list (value_in es) rest) ≡ plain es n rest
  from_seen es seen [] n sorted e long = refl
  from_seen es seen (x ∷ rest) n sorted e long =
      ap (λ cells. put x.1 (f cells) ∷ map (λ e. e.1) (collected_list (value_in es) rest)) (ap (cells_in index) (front_is es seen rest x n sorted e long) ∙ cells_of_front (n + 1) es)
      ∙ ap (λ l. put x.1 (f (take (n + 1) (cells_in index es))) ∷ l)
      (from_seen es (seen ++ x ∷ []) rest (n + 1) sorted (append_assoc seen (x ∷ []) rest ∙ e) (length_push seen x ∙ ap (λ k. k + 1) long))

  -- the rows are those of the plain definition
  pub prefix_rows : (t : TaggedRows) → finite.values (with_each_prefix put f index t) ≡ map (λ p. put p.0 p.1) (zip (finite.values t) (each_prefix f (cells_of index (finite.values t))))
  prefix_rows t =
      let es = finite.entries t in
      let long : length es ≡ length (cells_in index es) = sym (length-map (map (λ e. e.1) es) (cell_at index) ∙ length-map es (λ e. e.1)) in
      ap (map (λ e. e.1)) (entries-collected tag_cmp (λ q row. Some (put row (f (cells_up_to index t q)))) t)
      ∙ from_seen es [] es 0 (finite.entries_sorted t) refl refl
      ∙ ap (λ n. map (λ p. put p.0 p.1) (zip (finite.values t) (map (λ i. f (take (i + 1) (cells_in index es))) (range_with_len 0 n)))) long

-- the rolling column, by the names of the schema
pub rolled_is : (columns : List (List ℕ × CellType)) (name : List ℕ) (kind : RollKind) (column : List ℕ) (w m : ℕ) (index : Option ℕ) (places : List Place)
    → index ≡ column_index column columns → places ≡ places_of columns ((name, rolling_dtype kind) ∷ [])
    → (t : TaggedRows) → ◌≡◌ {A = TaggedRows} (with_each_prefix (put_at places) (λ cells. rolling_cell kind m (window_of w cells)) index t) (rolled columns name kind column w m t)
rolled_is columns name kind column w m index places is_index are t =
    ap (λ (put : List Cell → Cell → List Cell). with_each_prefix put (λ cells. rolling_cell kind m (window_of w cells)) index t) (λ j row c. placed_column columns name (rolling_dtype kind) row c places are j)
    ∙ ap (λ (i : Option ℕ). with_each_prefix (with_column_row columns name) (λ cells. rolling_cell kind m (window_of w cells)) i t) is_index

pub rolled_rows : (columns : List (List ℕ × CellType)) (name : List ℕ) (kind : RollKind) (column : List ℕ) (w m : ℕ) (t : TaggedRows)
    → finite.values (rolled columns name kind column w m t) ≡ (rolling_table (record { columns = columns; rows = finite.values t }) name kind column w m).rows
unfolding rolling_table with_column_table
rolled_rows columns name kind column w m t =
    prefix_rows (with_column_row columns name) (λ cells. rolling_cell kind m (window_of w cells)) (column_index column columns) t
