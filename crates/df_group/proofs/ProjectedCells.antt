-- Of a row only the cells of some columns are kept: what stands under a kept name stood there, and the cells fit.
use Rattle.std.proofs.Common.{◌≡◌, ℕ, ◌+◌, Bool, true, false, cond, List, [], ◌∷◌, ◌++◌, map, filter, Some, None, refl, sym, ap, ◌∙◌, append_assoc}
use Rattle.std.specs.Prelude.{IsTrue, ◌&&◌, ◌||◌, find, option_map}
use Rattle.std.specs.List.{position_from}
use Rattle.std.specs.Str.{bytes_eq}
use Rattle.std.proofs.lemmas.Iterator.Adapters.{position_from-zero}
use Rattle.std.proofs.lemmas.Slice.Eq.{bytes_eq-Decides}
use Rattle.df_value.specs.Cells.{fits_dtype}
use Rattle.df_value.specs.Choices.{by_test, neither}
use Rattle.df_value.specs.Names.{AreDistinct, distinct-head}
use Rattle.df_value.specs.Rows.{cell_at, row_fits}
use Rattle.df_value.specs.Schemas.{Columns, column_dtype, column_index}
use Rattle.df_value.specs.declared.cell.Cell.{Cell}
use Rattle.df_value.specs.declared.cell.CellType.{CellType}
use Rattle.df_expr.specs.Typing.{column_dtype_check}
use Rattle.df_expr.proofs.Sound.{column_fits}
use Rattle.df_ops.specs.Groups.{key_of}
use Rattle.df_ops.specs.NamedColumns.{first_of_name, has_column}
use Rattle.df_ops.proofs.Beside.{Beside}
use Rattle.df_ops.proofs.RowWiseLaws.{OneName, cell_named, cell_of_found}
use Rattle.df_group.specs.Projections.{indices_among}

-- a name is itself
pub same_name : (name : List ℕ) → bytes_eq name name ≡ true
same_name name = (bytes_eq-Decides name name).1 refl

-- no column is found under a name that none has
not_found : (name : List ℕ) (i : ℕ) (cs : Columns) → has_column name cs ≡ false → position_from (λ c. bytes_eq c.0 name) i cs ≡ None
not_found name i [] h = refl
not_found name i (c ∷ cs) h =
    let parts = neither (bytes_eq c.0 name) (has_column name cs) h in
    ap (λ b. cond b (Some i) (position_from (λ c. bytes_eq c.0 name) (i + 1) cs)) parts.0 ∙ not_found name (i + 1) cs parts.1

module _ (p : List ℕ → Bool) where
  -- the columns whose names pass
  abbrev pub passing : Columns → Columns
  passing cs = filter (λ c. p c.0) cs

  module _ (v : List ℕ → Cell) where
    -- columns with the cells under their names
    abbrev with_cells : Columns → List (List ℕ × Cell)
    with_cells cs = map (λ c. (c.0, v c.0)) cs

    beside : (cs : Columns) → Beside OneName cs (with_cells cs)
    beside [] = tt
    beside (c ∷ cs) = (refl, beside cs)

    found : (name : List ℕ) → p name ≡ true → (cs : Columns) → first_of_name name (with_cells (passing cs)) ≡ cond (has_column name cs) (Some (name, v name)) None
    found name h [] = refl
    found name h (c ∷ cs) = found_at (found name h cs) (bytes_eq c.0 name) refl where
      found_at : first_of_name name (with_cells (passing cs)) ≡ cond (has_column name cs) (Some (name, v name)) None → (b : Bool) → bytes_eq c.0 name ≡ b → first_of_name name (with_cells (passing (c ∷ cs))) ≡ cond (bytes_eq c.0 name || has_column name cs) (Some (name, v name)) None
      found_at later true e =
          let same : c.0 ≡ name = (bytes_eq-Decides c.0 name).0 e in
          ap (λ b. first_of_name name (with_cells (cond b (c ∷ passing cs) (passing cs)))) (ap p same ∙ h)
          ∙ ap (λ b. cond b (Some (c.0, v c.0)) (first_of_name name (with_cells (passing cs)))) e
          ∙ ap (λ n. Some (n, v n)) same
          ∙ sym (ap (λ b. cond (b || has_column name cs) (Some (name, v name)) None) e)
      found_at later false e =
          elim (p c.0) as (λ b. first_of_name name (with_cells (cond b (c ∷ passing cs) (passing cs))) ≡ first_of_name name (with_cells (passing cs))) [
            | true ↦ ap (λ b. cond b (Some (c.0, v c.0)) (first_of_name name (with_cells (passing cs)))) e
            | false ↦ refl
          ]
          ∙ later
          ∙ sym (ap (λ b. cond (b || has_column name cs) (Some (name, v name)) None) e)

  module _ (columns : Columns) where
    -- the cells of the passing columns
    abbrev pub passing_cells : List Cell → List Cell
    passing_cells row = key_of (indices_among (passing columns) columns) row

    cells_with_names : (row : List Cell) (cs : Columns) → key_of (indices_among cs columns) row ≡ map (λ c. c.1) (with_cells (λ n. cell_at (column_index n columns) row) cs)
    cells_with_names row [] = refl
    cells_with_names row (c ∷ cs) = ap (λ l. cell_at (column_index c.0 columns) row ∷ l) (cells_with_names row cs)

    -- what stands under a passing name is what stood there
    pub cell_kept : (name : List ℕ) → p name ≡ true → (row : List Cell) → cell_at (column_index name (passing columns)) (passing_cells row) ≡ cell_at (column_index name columns) row
    cell_kept name h row =
        ap (λ o. cell_at o (passing_cells row)) (position_from-zero test (passing columns))
        ∙ ap (cell_at (position_from test 0 (passing columns))) (cells_with_names row (passing columns))
        ∙ cell_named name (passing columns) (with_cells v (passing columns)) (beside v (passing columns))
        ∙ ap cell_of_found (found v name h columns)
        ∙ as_it_stood (has_column name columns) refl
      where
        v : List ℕ → Cell
        v n = cell_at (column_index n columns) row

        test : List ℕ × CellType → Bool
        test c = bytes_eq c.0 name

        as_it_stood : (b : Bool) → has_column name columns ≡ b → cell_of_found (cond b (Some (name, v name)) None) ≡ v name
        as_it_stood true e = refl
        as_it_stood false e = sym (ap (λ o. cell_at o row) (position_from-zero test columns ∙ not_found name 0 columns e))

found_after : (c : List ℕ × CellType) (seen cs : Columns) → has_column c.0 seen ≡ false → find (λ d. bytes_eq d.0 c.0) (seen ++ c ∷ cs) ≡ Some c
found_after c [] cs h = ap (λ b. cond b (Some c) (find (λ d. bytes_eq d.0 c.0) cs)) (same_name c.0)
found_after c (s ∷ seen) cs h =
    let parts = neither (bytes_eq s.0 c.0) (has_column c.0 seen) h in
    ap (λ b. cond b (Some s) (find (λ d. bytes_eq d.0 c.0) (seen ++ c ∷ cs))) parts.0 ∙ found_after c seen cs parts.1

both_true : (a b : Bool) → IsTrue a → IsTrue b → IsTrue (a && b)
both_true true b h k = k
both_true false b h k = cc

module _ (p : List ℕ → Bool) (columns : Columns) (row : List Cell) (fits : IsTrue (row_fits columns row)) where
  cell_fits : (c : List ℕ × CellType) → column_dtype c.0 columns ≡ Some c.1 → IsTrue (fits_dtype c.1 (cell_at (column_index c.0 columns) row))
  cell_fits c e = column_fits columns row fits c.0 c.1 (ap (column_dtype_check c.0) e)

  cells_fit : (seen cs : Columns) → seen ++ cs ≡ columns → AreDistinct (λ c. c.0) seen cs → IsTrue (row_fits (passing p cs) (key_of (indices_among (passing p cs) columns) row))
  cells_fit seen [] e apart = refl
  cells_fit seen (c ∷ cs) e apart =
      let head = distinct-head (λ c. c.0) seen c cs apart in
      let rest = cells_fit (seen ++ c ∷ []) cs (append_assoc seen (c ∷ []) cs ∙ e) head.1 in
      let dtype : column_dtype c.0 columns ≡ Some c.1 = ap (column_dtype c.0) (sym e) ∙ ap (option_map (λ d. d.1)) (found_after c seen cs head.0) in
      by_test (λ (l : Columns). IsTrue (row_fits l (key_of (indices_among l columns) row))) (p c.0) (c ∷ passing p cs) (passing p cs)
      (λ _. both_true (fits_dtype c.1 (cell_at (column_index c.0 columns) row)) _ (cell_fits c dtype) rest)
      (λ _. rest)

  -- the cells of the passing columns of a row that fits fit these columns
  pub passing_fit : AreDistinct (λ c. c.0) [] columns → IsTrue (row_fits (passing p columns) (passing_cells p columns row))
  passing_fit apart = cells_fit [] columns refl apart
