-- Where no row is the first that does not fit, all rows fit.
use Rattle.std.proofs.Common.{◌≡◌, ℕ, ◌+◌, Bool, true, false, List, [], ◌∷◌, refl, sym, ◌∙◌}
use Rattle.std.specs.Prelude.{IsTrue, Option, Some, None, IfNone, cond, not, position, ◌&&◌}
use Rattle.std.specs.List.{position_from}
use Rattle.std.proofs.lemmas.Iterator.Adapters.{position_from-zero}
use Rattle.df_value.specs.Rows.{row_fits, rows_fit}
use Rattle.df_value.specs.declared.cell.Cell.{Cell}
use Rattle.df_value.specs.declared.cell.CellType.{CellType}

at_head : (b all : Bool) (n : ℕ) (rest : Option ℕ) → cond (not b) (Some n) rest ≡ None → (rest ≡ None → IsTrue all) → IsTrue (b && all)
at_head true all n rest h later = later h
at_head false all n rest h later = cc

none_from :
    (columns : List (List ℕ × CellType)) (n : ℕ) (rows : List (List Cell)) →
    position_from (λ r. not (row_fits columns r)) n rows ≡ None → IsTrue (rows_fit columns rows)
none_from columns n [] h = refl
none_from columns n (r ∷ rs) h =
    at_head (row_fits columns r) (rows_fit columns rs) n _ h (none_from columns (n + 1) rs)

pub all_fit :
    (columns : List (List ℕ × CellType)) (rows : List (List Cell)) (o : Option ℕ) →
    o ≡ position (λ r. not (row_fits columns r)) rows → IfNone o (IsTrue (rows_fit columns rows))
all_fit columns rows (Some i) is = tt
all_fit columns rows None is =
    none_from columns 0 rows (sym (position_from-zero (λ r. not (row_fits columns r)) rows) ∙ sym is)
