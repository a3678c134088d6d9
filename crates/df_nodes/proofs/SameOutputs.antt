-- What operators of one row give of tagged rows, by their definitions over plain rows.
use Rattle.std.proofs.Common.{◌≡◌, ℕ, Bool, true, false, cond, List, [], ◌∷◌, length, map, filter, Option, Some, None, refl, sym, ap, ◌∙◌}
use Rattle.std.proofs.lemmas.List.{length-map}
use Rattle.std.specs.List.{filter_map, cons_option}
use Rattle.std.specs.Option.{option_map}
use Rattle.std.specs.FinMap as finite
use Rattle.df_value.specs.declared.cell.Cell.{Cell}
use Rattle.df_value.specs.declared.cell.CellType.{CellType}
use Rattle.df_expr.specs.declared.expr.Expr.{Expr}
use Rattle.df_expr.specs.declared.physical.PhysicalExpr.{PhysicalExpr}
use Rattle.df_expr.specs.Physical.{IsPhysical, physical_value}
use Rattle.df_ops.specs.RowWise.{ArePhysical, filter_rows, is_true, keeps, with_columns_row}
use Rattle.df_ops.specs.Places.{placed_cell, places_of}
use Rattle.df_ops.specs.declared.places.Place.{Place}
use Rattle.df_ops.proofs.PlacesFacts.{placed_values}
use Rattle.df_column.specs.Tables.{TaggedRows}
use Rattle.df_column.specs.declared.tag.Tag.{Tag}
use Rattle.df_delta.specs.Collected.{collected, collected_list}
use Rattle.df_delta.proofs.Collected.{values-collected}
use Rattle.df_nodes.specs.Outputs.{filtered, mapped}

Row : Type 0
Row = List Cell

module _ (f g : List Cell → Option (List Cell)) (same : (row : List Cell) → f row ≡ g row) where
  same_list : (es : List (Tag × List Cell)) → collected_list (λ _. f) es ≡ collected_list (λ _. g) es
  same_list [] = refl
  same_list (e ∷ es) =
      ap (λ y. cons_option (option_map (λ r. (e.0, r)) y) (collected_list (λ _. f) es)) (same e.1)
      ∙ ap (λ rest. cons_option (option_map (λ r. (e.0, r)) (g e.1)) rest) (same_list es)

  -- two operators that make the same of each row give the same
  pub same_collected : (t : TaggedRows) → ◌≡◌ {A = TaggedRows} (collected (λ _. f) t) (collected (λ _. g) t)
  same_collected t = ap finite.from_sorted (same_list (finite.entries t))

-- a filter
kept_filter : (p : List Cell → Bool) (rows : List (List Cell)) → filter_map (λ row. cond (p row) (Some row) None) rows ≡ filter p rows
kept_filter p [] = refl
kept_filter p (r ∷ rows) =
    elim (p r) as (λ b. cons_option (cond b (Some r) None) (filter_map (λ row. cond (p row) (Some row) None) rows) ≡ cond b (r ∷ filter p rows) (filter p rows)) [
      | true ↦ ap (λ rest. r ∷ rest) (kept_filter p rows)
      | false ↦ kept_filter p rows
    ]

made_map : (f : List Cell → List Cell) (rows : List (List Cell)) → filter_map (λ row. Some (f row)) rows ≡ map f rows
made_map f [] = refl
made_map f (r ∷ rows) = ap (λ rest. f r ∷ rest) (made_map f rows)

module _ (columns : List (List ℕ × CellType)) (predicate : Expr) (p : PhysicalExpr) (is : IsPhysical predicate columns p) where
  same_kept : (row : List Cell) → is_true (physical_value p row) ≡ keeps columns predicate row
  unfolding keeps
  same_kept row = ap is_true (is row)

  pub filtered_is : (t : TaggedRows) → ◌≡◌ {A = TaggedRows} (collected (λ _ row. cond (is_true (physical_value p row)) (Some row) None) t) (filtered columns predicate t)
  filtered_is t = same_collected (λ row. cond (is_true (physical_value p row)) (Some row) None) (λ row. cond (keeps columns predicate row) (Some row) None) (λ row. ap (λ b. cond b (Some row) None) (same_kept row)) t

  pub filtered_rows : (t : TaggedRows) → finite.values (collected (λ _ row. cond (is_true (physical_value p row)) (Some row) None) t) ≡ filter_rows columns predicate (finite.values t)
  filtered_rows t =
      ap finite.values (filtered_is t)
      ∙ values-collected (λ row. cond (keeps columns predicate row) (Some row) None) t
      ∙ kept_filter (keeps columns predicate) (finite.values t)

-- another row in the place of each
module _ (f g : List Cell → List Cell) (same : (row : List Cell) → f row ≡ g row) where
  pub mapped_is : (t : TaggedRows) → mapped f t ≡ mapped g t
  mapped_is t = same_collected (λ row. Some (f row)) (λ row. Some (g row)) (λ row. ap Some (same row)) t

  pub mapped_rows : (t : TaggedRows) → finite.values (mapped f t) ≡ map g (finite.values t)
  mapped_rows t = ap finite.values (mapped_is t) ∙ values-collected (λ row. Some (g row)) t ∙ made_map g (finite.values t)

-- expressions with indices are as many as the items
pub count_physical : (columns : List (List ℕ × CellType)) (items : List (List ℕ × Expr)) (made : List PhysicalExpr) → ArePhysical columns items made → length made ≡ length items
count_physical columns items made are =
    sym (length-map made (λ p. physical_value p [])) ∙ ap length (are []) ∙ length-map items _

pub placed_is : (columns : List (List ℕ × CellType)) (items : List (List ℕ × Expr)) (made : List PhysicalExpr) (places : List Place) → ArePhysical columns items made → places ≡ places_of columns items
    → (row : List Cell) → map (placed_cell row (map (λ p. physical_value p row) made)) places ≡ with_columns_row columns items row
placed_is columns items made places are at row = placed_values columns items row (map (λ p. physical_value p row) made) (are row) places at
