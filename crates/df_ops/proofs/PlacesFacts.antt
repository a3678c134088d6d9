-- The cells at the places of a row, among whose cells others are put, are the cells of that row.
use Rattle.std.proofs.Common.{◌≡◌, ℕ, zero, suc, ◌+◌, ◌<◌, ◌∙◌, List, [], ◌∷◌, length, map, refl, ap, sym, arith, add-zero, zero-add}
use Rattle.std.specs.Prelude.{Some}
use Rattle.std.specs.List.{enumerate_from}
use Rattle.df_value.specs.declared.cell.Cell.{Cell}
use Rattle.df_value.specs.declared.cell.CellType.{CellType}
use Rattle.df_value.specs.Rows.{cell_at}
use Rattle.df_value.specs.Schemas.{Columns}
use Rattle.df_expr.specs.declared.expr.Expr.{Expr}
use Rattle.df_ops.specs.NamedColumns.{with_columns}
use Rattle.df_ops.specs.Places.{cells_from, numbered, placed_cell, places_of}
use Rattle.df_ops.specs.RowWise.{item_cell, named_cells, select_row, with_columns_row, with_column_row}
use Rattle.df_ops.specs.declared.places.Origin.{Origin}
use Rattle.df_ops.specs.declared.places.Origin.TheVariants as origin
use Rattle.df_ops.specs.declared.places.Place.{Place}
use Rattle.df_ops.proofs.Beside.{Beside, with_columns-beside}
use Rattle.df_ops.proofs.RowWiseLaws.{named_names, values, OneName}

-- a place and a cell stand under one name, and the cell is that of the place
abbrev At : List Cell → List Cell → List ℕ × Place → List ℕ × Cell → Type 0
At row added p c = (p.0 ≡ c.0) × (placed_cell row added p.1 ≡ c.1)

-- items that are numbered stand beside cells of their names, where these are the cells at those indices
numbered_beside :
    {T : Type 0} (o : Origin) (row added : List Cell) (k : ℕ) (xs : List (List ℕ × T)) (ys : List (List ℕ × Cell)) → Beside OneName xs ys →
    ((i : ℕ) → i < length xs → cell_at (Some (k + i)) (cells_from o row added) ≡ cell_at (Some i) (map (λ y. y.1) ys)) →
    Beside (At row added) (map (λ p. (p.1.0, record { origin = o; index = p.0 })) (enumerate_from k xs)) ys
numbered_beside o row added k [] [] h each = tt
numbered_beside o row added k [] (y ∷ ys) h each = absurd h
numbered_beside o row added k (x ∷ xs) [] h each = absurd h
numbered_beside o row added k (x ∷ xs) (y ∷ ys) h each =
    let first : cell_at (Some (k + 0)) (cells_from o row added) ≡ y.1 = each 0 (omega arith) in (
      (h.0, ap (λ n. cell_at (Some n) (cells_from o row added)) (sym (add-zero k)) ∙ first),
      numbered_beside o row added (k + 1) xs ys h.1
          (λ i lt. let same : (k + 1) + i ≡ k + suc i = omega arith in
          ap (λ n. cell_at (Some n) (cells_from o row added)) same ∙ each (suc i) (omega arith)),
    )

-- the cells at places that stand beside cells
cells_beside :
    (row added : List Cell) (ps : List (List ℕ × Place)) (cs : List (List ℕ × Cell)) → Beside (At row added) ps cs →
    map (placed_cell row added) (map (λ p. p.1) ps) ≡ map (λ c. c.1) cs
cells_beside row added [] [] h = refl
cells_beside row added [] (c ∷ cs) h = absurd h
cells_beside row added (p ∷ ps) [] h = absurd h
cells_beside row added (p ∷ ps) (c ∷ cs) h =
    ap (λ v. v ∷ map (placed_cell row added) (map (λ p. p.1) ps)) h.0.1 ∙ ap (λ vs. c.1 ∷ vs) (cells_beside row added ps cs h.1)

-- a row's named cell is its cell at the index of the name
named_at :
    (columns : Columns) (row : List Cell) (i : ℕ) → i < length columns →
    cell_at (Some i) row ≡ cell_at (Some i) (map (λ c. c.1) (named_cells columns row))
named_at [] row i lt = absurd (omega arith)
named_at (c ∷ columns) [] zero lt = refl
named_at (c ∷ columns) [] (suc i) lt = named_at columns [] i (omega arith)
named_at (c ∷ columns) (v ∷ row) zero lt = refl
named_at (c ∷ columns) (v ∷ row) (suc i) lt = named_at columns row i (omega arith)

-- the cells at the places
pub placed :
    {T : Type 0} (columns : Columns) (row added : List Cell) (items : List (List ℕ × T)) (cells : List (List ℕ × Cell)) → Beside OneName items cells →
    map (λ c. c.1) cells ≡ added →
    map (placed_cell row added) (places_of columns items) ≡ map (λ c. c.1) (with_columns (named_cells columns row) cells)
placed columns row added items cells beside same =
    cells_beside row added (with_columns (numbered origin.Row columns) (numbered origin.Added items)) (with_columns (named_cells columns row) cells)
    (with_columns-beside (At row added) (λ p c h. h.0) (numbered origin.Row columns) (named_cells columns row)
    (numbered_beside origin.Row row added 0 columns (named_cells columns row) (named_names columns row)
    (λ i lt. ap (λ n. cell_at (Some n) row) (zero-add i) ∙ named_at columns row i lt))
    (numbered origin.Added items) cells
    (numbered_beside origin.Added row added 0 items cells beside
    (λ i lt. ap (λ n. cell_at (Some n) added) (zero-add i) ∙ ap (λ cs. cell_at (Some i) cs) (sym same))))

named_items : (columns : Columns) (row : List Cell) (items : List (List ℕ × Expr)) → Beside OneName items (map (item_cell columns row) items)
named_items columns row [] = tt
named_items columns row (i ∷ items) = (refl, named_items columns row items)

pub placed_values :
    (columns : Columns) (items : List (List ℕ × Expr)) (row added : List Cell) → added ≡ select_row columns items row → (places : List Place) →
    places ≡ places_of columns items → map (placed_cell row added) places ≡ with_columns_row columns items row
unfolding with_columns_row
placed_values columns items row added is places at =
    ap (map (placed_cell row added)) at
    ∙ placed columns row added items (map (item_cell columns row) items) (named_items columns row items) (values columns row items ∙ sym is)

pub placed_column :
    (columns : Columns) (name : List ℕ) (k : CellType) (row : List Cell) (c : Cell) (places : List Place) → places ≡ places_of columns ((name, k) ∷ []) →
    map (placed_cell row (c ∷ [])) places ≡ with_column_row columns name row c
unfolding with_column_row
placed_column columns name k row c places at =
    ap (map (placed_cell row (c ∷ []))) at
    ∙ placed columns row (c ∷ []) ((name, k) ∷ []) ((name, c) ∷ []) (refl, tt) refl
