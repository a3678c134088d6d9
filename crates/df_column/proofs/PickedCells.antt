-- The cells that picks take.
use Rattle.std.proofs.Common.{◌≡◌, ℕ, zero, suc, true, List, [], ◌∷◌, length, map, get_or, Some, None, refl, sym, ap, subst, ◌∙◌}
use Rattle.std.specs.Prelude.{T}
use Rattle.std.specs.List.{slice_get}
use Rattle.std.proofs.lemmas.Option.{get_or_from_slice_get}
use Rattle.df_value.specs.declared.cell.Cell.{Cell}
use Rattle.df_value.specs.declared.cell.Cell.TheVariants as cell
use Rattle.df_column.specs.declared.picks.Origin.{Origin}
use Rattle.df_column.specs.declared.picks.Origin.TheVariants.{Old, New}
use Rattle.df_column.specs.Picks.{origin_cell, is_within, is_fit}
use Rattle.std.specs.Borrow.{Bor}
use Rattle.df_value.specs.Cells.{fits_dtype}
use Rattle.df_value.specs.declared.cell.CellType.{CellType}
use Rattle.df_column.proofs.Bools.{true_from_T}
use Rattle.df_column.proofs.Places.{mapped_at}
use Rattle.df_column.proofs.Pools.{lt_from}

-- past the end there is no item
pub past_end : {X : Type 0} (xs : List X) (i : ℕ) (d : X) → slice_get xs i ≡ None → get_or xs i d ≡ d
past_end [] i d e = refl
past_end (x ∷ xs) zero d e = absurd (cc e)
past_end (x ∷ xs) (suc i) d e = past_end xs i d e

-- the cell of an old value
pub old_cell : {X : Type 0} (f : X → Cell) (values : List X) (i j : ℕ) (v d : X) (p : Origin) → p ≡ Old i → T (is_within (length values) p) → v ≡ get_or values i d → f v ≡ origin_cell (map f values) j p
old_cell f values i j v d p is within e =
    let lt = lt_from i (length values) (subst (λ p. T (is_within (length values) p)) is within) in
    ap f e ∙ sym (mapped_at f values i cell.Null d lt) ∙ ap (origin_cell (map f values) j) (sym is)

-- the cell of a new row, and where it has none
pub new_cell : (dtype : CellType) (cells : List Cell) (j : ℕ) (row : Bor (List Cell)) (c : Cell) (p : Origin) → p ≡ New row → Some c ≡ slice_get row.now j → T (is_fit dtype j p)
    → record { fits : fits_dtype dtype c ≡ true; is : c ≡ origin_cell cells j p }
new_cell dtype cells j row c p is e fits =
    let here : get_or row.now j cell.Null ≡ c = get_or_from_slice_get row.now j c cell.Null (sym e) in
    record {
      fits = ap (fits_dtype dtype) (sym here) ∙ true_from_T _ (subst (λ p. T (is_fit dtype j p)) is fits);
      is = sym here ∙ ap (origin_cell cells j) (sym is);
    }

pub no_cell : (cells : List Cell) (j : ℕ) (row : Bor (List Cell)) (p : Origin) → p ≡ New row → None ≡ slice_get row.now j → cell.Null ≡ origin_cell cells j p
no_cell cells j row p is e = sym (past_end row.now j cell.Null (sym e)) ∙ ap (origin_cell cells j) (sym is)
