-- A group-by whose members have only the cells that aggregates take gives what it gives of the rows.
use Rattle.std.proofs.Common.{◌≡◌, ℕ, ◌++◌, Bool, true, false, List, [], ◌∷◌, length, map, Option, Some, None, refl, sym, ap, subst, ◌∙◌, map-id}
use Rattle.std.specs.Prelude.{IsTrue, pos, ◌||◌, cond}
use Rattle.std.specs.List.{list_any}
use Rattle.std.specs.Option.{IfSome, option_and_then}
use Rattle.std.specs.FinMap as finite
use Rattle.std.proofs.lemmas.List.{length-map}
use Rattle.df_value.specs.Rows.{cell_at, row_eq, row_fits}
use Rattle.df_value.specs.Schemas.{Columns, IsSchema, column_index}
use Rattle.df_value.specs.declared.cell.Cell.{Cell}
use Rattle.df_value.specs.declared.cell.Cell.TheVariants as cell
use Rattle.df_column.specs.TagOrder.{tag_same}
use Rattle.df_column.specs.Tables.{TaggedRows}
use Rattle.df_column.specs.Tags.{tag_cmp}
use Rattle.df_delta.specs.Deltas.{RowsFit}
use Rattle.df_delta.proofs.Collected.{get-collected}
use Rattle.df_ops.specs.Aggregates.{cells_of, count_of, first_cell, last_cell, mean_of, min_or_max_of, sum_of}
use Rattle.df_ops.specs.Groups.{distinct_after, key_of}
use Rattle.df_ops.specs.Tables.{aggregate_cell}
use Rattle.df_ops.specs.declared.agg.Agg.{Agg}
use Rattle.df_ops.specs.declared.agg.Agg.TheVariants as agg
use Rattle.df_ops.specs.declared.min_max.MinMax.TheVariants as min_max
use Rattle.df_group.specs.GroupIndex.{output_of}
use Rattle.df_group.specs.Grouped.{grouped}
use Rattle.df_group.specs.GroupRows.{finished_row, group_output}
use Rattle.df_group.specs.Projections.{are_all_kept, indices_among, is_needed, is_taken, member_cells, member_columns, member_indices, needed_columns, projected_row, projected_rows, takes_column}
use Rattle.df_group.specs.declared.grouping.Grouping.{Grouping}
use Rattle.df_group.proofs.ProjectedCells.{cell_kept, passing_fit, same_name}

or_first : (a b : Bool) → a ≡ true → (a || b) ≡ true
or_first true b h = refl
or_first false b h = cc

or_second : (a b : Bool) → b ≡ true → (a || b) ≡ true
or_second true b h = refl
or_second false b h = h

-- the same of each row, whether made of what is kept of it or of all of it
same_of_each : {A : Type 0} (f : List Cell → List Cell) (g h : List Cell → A) → ((row : List Cell) → g (f row) ≡ h row) → (rows : List (List Cell)) → map g (map f rows) ≡ map h rows
same_of_each f g h same [] = refl
same_of_each f g h same (row ∷ rows) = ap (λ a. a ∷ map g (map f rows)) (same row) ∙ ap (λ l. h row ∷ l) (same_of_each f g h same rows)

module _ (columns : Columns) (aggregates : List (List ℕ × Agg)) where
  abbrev needed : Columns
  needed = needed_columns columns aggregates

  abbrev indices : List (Option ℕ)
  indices = indices_among needed columns

  abbrev lean : List Cell → List Cell
  lean row = key_of indices row

  abbrev IsNeeded : List ℕ → Type 0
  IsNeeded name = is_needed columns aggregates name ≡ true

  cell_at_name : (name : List ℕ) → IsNeeded name → (row : List Cell) → cell_at (column_index name needed) (lean row) ≡ cell_at (column_index name columns) row
  cell_at_name name h row = cell_kept (is_needed columns aggregates) columns name h row

  cells_kept : (name : List ℕ) → IsNeeded name → (rows : List (List Cell)) → cells_of (column_index name needed) (map lean rows) ≡ cells_of (column_index name columns) rows
  cells_kept name h rows = same_of_each lean (cell_at (column_index name needed)) (cell_at (column_index name columns)) (cell_at_name name h) rows

  keys_kept : (name : List ℕ) → IsNeeded name → (rows : List (List Cell)) → map (key_of (column_index name needed ∷ [])) (map lean rows) ≡ map (key_of (column_index name columns ∷ [])) rows
  keys_kept name h rows =
      same_of_each lean (key_of (column_index name needed ∷ [])) (key_of (column_index name columns ∷ [])) (λ row. ap (λ c. c ∷ []) (cell_at_name name h row)) rows

  -- an aggregate of rows is that of their kept cells
  aggregate_kept : (a : Agg) → ((name : List ℕ) → takes_column name a ≡ true → IsNeeded name) → (rows : List (List Cell)) → aggregate_cell needed (map lean rows) a ≡ aggregate_cell columns rows a
  aggregate_kept agg.Len h rows = ap (λ n. cell.Int (pos n)) (length-map rows lean)
  aggregate_kept (agg.Count name) h rows = ap (λ cs. cell.Int (pos (count_of cs))) (cells_kept name (h name (same_name name)) rows)
  aggregate_kept (agg.Sum name) h rows = ap (λ cs. cell.Wide (sum_of cs)) (cells_kept name (h name (same_name name)) rows)
  aggregate_kept (agg.Min name) h rows = ap (min_or_max_of min_max.Min) (cells_kept name (h name (same_name name)) rows)
  aggregate_kept (agg.Max name) h rows = ap (min_or_max_of min_max.Max) (cells_kept name (h name (same_name name)) rows)
  aggregate_kept (agg.First name) h rows = ap first_cell (cells_kept name (h name (same_name name)) rows)
  aggregate_kept (agg.Last name) h rows = ap last_cell (cells_kept name (h name (same_name name)) rows)
  aggregate_kept (agg.NUnique name) h rows = ap (λ ks. cell.Int (pos (length (distinct_after [] ks)))) (keys_kept name (h name (same_name name)) rows)
  aggregate_kept (agg.Mean name) h rows = ap mean_of (cells_kept name (h name (same_name name)) rows)

  aggregates_of : (items : List (List ℕ × Agg)) → ((name : List ℕ) → list_any (λ a. takes_column name a.1) items ≡ true → IsNeeded name) → (rows : List (List Cell))
      → map (λ a. aggregate_cell needed (map lean rows) a.1) items ≡ map (λ a. aggregate_cell columns rows a.1) items
  aggregates_of [] h rows = refl
  aggregates_of (a ∷ items) h rows =
      ap (λ c. c ∷ map (λ a. aggregate_cell needed (map lean rows) a.1) items) (aggregate_kept a.1 (λ name e. h name (or_first (takes_column name a.1) _ e)) rows)
      ∙ ap (λ l. aggregate_cell columns rows a.1 ∷ l) (aggregates_of items (λ name e. h name (or_second (takes_column name a.1) _ e)) rows)

  row_kept : (key : List Cell) (rows : List (List Cell)) → finished_row needed aggregates key (map lean rows) ≡ finished_row columns aggregates key rows
  row_kept key rows = ap (λ l. key ++ l) (aggregates_of aggregates (λ name e. or_first (is_taken aggregates name) _ e) rows)

  -- the finished row of members is that of the rows that they are of
  member_row : (key : List Cell) (rows : List (List Cell))
      → finished_row (member_columns columns aggregates) aggregates key (map (member_cells (member_indices columns aggregates)) rows) ≡ finished_row columns aggregates key rows
  member_row key rows = elim (are_all_kept columns aggregates) as (λ b.
      finished_row (cond b columns needed) aggregates key (map (member_cells (cond b None (Some indices))) rows) ≡ finished_row columns aggregates key rows) [
        | true ↦ ap (finished_row columns aggregates key) (map-id rows)
        | false ↦ row_kept key rows
      ]

  module _ (apart : IsSchema columns) where
    lean_fits : (o : Option (List Cell)) → IfSome o (λ row. IsTrue (row_fits columns row)) → IfSome (option_and_then (projected_row indices) o) (λ row. IsTrue (row_fits needed row))
    lean_fits None h = tt
    lean_fits (Some row) h = passing_fit (is_needed columns aggregates) columns row h apart.distinct

    needed_fit : (t : TaggedRows) → RowsFit columns t → RowsFit needed (projected_rows (Some indices) t)
    needed_fit t fit = record {
      at = λ q. subst (λ o. IfSome o (λ row. IsTrue (row_fits needed row))) (sym (get-collected tag_cmp (λ _. projected_row indices) tag_same t q)) (lean_fits (finite.get t q) (fit.at q));
    }

    -- where the rows fit, their cells in the needed columns fit these
    pub fits_needed : (schema : Columns) (places : List (Option ℕ)) → schema ≡ needed → places ≡ indices → (t : TaggedRows) → RowsFit columns t → RowsFit schema (projected_rows (Some places) t)
    fits_needed schema places e f t fit =
        subst (λ (s : Columns). RowsFit s (projected_rows (Some places) t)) (sym e)
        (subst (λ (ps : List (Option ℕ)). RowsFit needed (projected_rows (Some ps) t)) (sym f) (needed_fit t fit))

  -- a grouping of the input's rows gives the output of the group-by
  pub output_kept : (g : Grouping) (places : List (Option ℕ)) → g.members.schema ≡ member_columns columns aggregates → g.members.indices ≡ member_indices columns aggregates
      → g.key_indices ≡ places → g.aggregates ≡ aggregates → (t : TaggedRows) → output_of g t ≡ group_output columns places aggregates t
  output_kept g places schema projection keys items t =
      (λ i. grouped (key_of (keys i)) row_eq (λ key rows. finished_row (schema i) (items i) key (map (member_cells (projection i)) rows)) t)
      ∙ (λ i. grouped (key_of places) row_eq (λ key rows. member_row key rows i) t)
