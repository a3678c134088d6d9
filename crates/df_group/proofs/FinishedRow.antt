-- The row of a group, cell by cell, from totals that are those of its members.
use Rattle.std.proofs.Common.{◌≡◌, ℕ, suc, ◌+◌, ◌<◌, ◌≤◌, List, [], ◌∷◌, ◌++◌, length, get_or, map, min, take, sym, ap, subst, ◌∙◌, arith, length-append, length-take}
use Rattle.std.specs.Prelude.{IfOk, IfSome, Ok, Option, None, Result, Some, slice_get}
use Rattle.std.proofs.lemmas.Option.{slice_get-get_or}
use Rattle.std.proofs.lemmas.List.{get_or-map, length-map, take_all}
use Rattle.df_value.specs.declared.cell.Cell.{Cell}
use Rattle.df_value.specs.declared.cell.CellType.{CellType}
use Rattle.df_column.specs.declared.entry.Entry.{Entry}
use Rattle.df_ops.specs.Tables.{aggregate_cell}
use Rattle.df_ops.specs.declared.agg.Agg.{Agg}
use Rattle.df_ops.proofs.Steps.{made_has, mapped_behind}
use Rattle.df_group.specs.GroupIndex.{IsRowBefore, cell_at_if, row_of_group, totals_of}
use Rattle.df_group.specs.Totals.{IsCellBefore, total_for}
use Rattle.df_group.specs.declared.grouping.Grouping.{Grouping}
use Rattle.df_group.specs.declared.total.Total.{Total}

module _ (g : Grouping) (key : List Cell) (rows : List (List Cell)) (totals : List Total) (own : totals ≡ totals_of g rows) where
  -- the cells of the first aggregates, behind the key
  abbrev pub first_cells : ℕ → List Cell
  first_cells n = key ++ map (λ a. aggregate_cell g.members.schema rows a.1) (take n g.aggregates)

  -- one cell more
  pub cell_more : {E : Type 0} (columns : List (List ℕ × CellType)) (n m : ℕ) (out more : List Cell) (a : List ℕ × Agg) (t : Total) (made : Result Cell E) (cell : Cell)
      → columns ≡ g.members.schema → n < length g.aggregates → ((d : List ℕ × Agg) → a ≡ get_or g.aggregates n d) → ((d : Total) → t ≡ get_or totals n d) → m ≡ n + 1
      → IfOk made (λ c. t ≡ total_for columns a.1 rows → c ≡ aggregate_cell columns rows a.1) → made ≡ Ok cell
      → out ≡ first_cells n → more ≡ out ++ cell ∷ [] → more ≡ first_cells m
  cell_more columns n m out more a t made cell of lt here beside next is ok so_far pushed =
      let total : t ≡ total_for columns a.1 rows =
      beside t
      ∙ ap (λ ts. get_or ts n t) own
      ∙ get_or-map (λ a. total_for g.members.schema a.1 rows) g.aggregates n a t lt
      ∙ ap (λ b. total_for g.members.schema b.1 rows) (sym (here a))
      ∙ ap (λ cs. total_for cs a.1 rows) (sym of) in
      let value : cell ≡ aggregate_cell g.members.schema rows a.1 =
      made_has (λ c. t ≡ total_for columns a.1 rows → c ≡ aggregate_cell columns rows a.1) made cell is ok total
      ∙ ap (λ cs. aggregate_cell cs rows a.1) of in
      mapped_behind key (λ a. aggregate_cell g.members.schema rows a.1) g.aggregates n out more a cell lt (here a) so_far value pushed
      ∙ ap first_cells (sym next)

  -- all cells
  pub cells_done : (n : ℕ) (out : List Cell) → n ≡ min (length g.aggregates) (length totals) → out ≡ first_cells n → out ≡ row_of_group g key rows
  cells_done n out count so_far =
      let same : length totals ≡ length g.aggregates = ap length own ∙ length-map g.aggregates (λ a. total_for g.members.schema a.1 rows) in
      let all : length g.aggregates ≤ n = omega (arith, same, count) in
      so_far ∙ ap (λ taken. key ++ map (λ a. aggregate_cell g.members.schema rows a.1) taken) (take_all n g.aggregates all)

get_behind : {X : Type 0} (xs ys : List X) (n : ℕ) (d : X) → get_or (xs ++ ys) (length xs + n) d ≡ get_or ys n d
get_behind [] ys n d = let e : 0 + n ≡ n = omega arith in ap (λ i. get_or ys i d) e
get_behind (x ∷ xs) ys n d = let e : suc (length xs) + n ≡ suc (length xs + n) = omega arith in ap (λ i. get_or (x ∷ (xs ++ ys)) i d) e ∙ get_behind xs ys n d

module _ (g : Grouping) (key : List Cell) (entries : List Entry) (rows : List (List Cell)) where
  -- the cell of the row before at the place of an aggregate
  row_cell : (row : List Cell) (n at : ℕ) (a : List ℕ × Agg) (h : IsRowBefore g key row entries rows) → n < length g.aggregates → a ≡ get_or g.aggregates n a → at ≡ length key + n → slice_get row at ≡ Some (aggregate_cell g.members.schema h.old a.1)
  row_cell row n at a h lt here is =
      let cells = map (λ a. aggregate_cell g.members.schema h.old a.1) g.aggregates in
      let many = length-map g.aggregates (λ a. aggregate_cell g.members.schema h.old a.1) in
      let whole = length-append key cells in
      let d = aggregate_cell g.members.schema h.old a.1 in
      ap (λ r. slice_get r at) h.is
      ∙ slice_get-get_or (key ++ cells) at d (omega (arith, whole, many, is, lt))
      ∙ ap Some (ap (λ i. get_or (key ++ cells) i d) is ∙ get_behind key cells n d
      ∙ get_or-map (λ a. aggregate_cell g.members.schema h.old a.1) g.aggregates n a d lt ∙ ap (λ b. aggregate_cell g.members.schema h.old b.1) (sym here))

  pub known_cell : (before : Option (List Cell)) (columns : List (List ℕ × CellType)) (n at : ℕ) (a : List ℕ × Agg) → columns ≡ g.members.schema → n < length g.aggregates → a ≡ get_or g.aggregates n a → at ≡ length key + n
      → IfSome before (λ row. IsRowBefore g key row entries rows) → IfSome (cell_at_if before at) (λ k. IsCellBefore columns a.1 k entries rows)
  known_cell None columns n at a of lt here is h = tt
  known_cell (Some row) columns n at a of lt here is h =
      subst (λ o. IfSome o (λ k. IsCellBefore columns a.1 k entries rows)) (sym (row_cell row n at a h lt here is))
      (record { old = h.old; is = ap (λ cs. aggregate_cell cs h.old a.1) (sym of); lead = h.lead })

-- where the cell of the next aggregate comes
pub place_of : (g : Grouping) (key : List Cell) (rows : List (List Cell)) (n : ℕ) → n < length g.aggregates → length (key ++ map (λ a. aggregate_cell g.members.schema rows a.1) (take n g.aggregates)) ≡ length key + n
place_of g key rows n lt =
    let whole = length-append key (map (λ a. aggregate_cell g.members.schema rows a.1) (take n g.aggregates)) in
    let many = length-map (take n g.aggregates) (λ a. aggregate_cell g.members.schema rows a.1) in
    let taken = length-take n g.aggregates in
    omega (arith, whole, many, taken, lt)
