-- A filter keeps exactly the rows whose value is true.
use Rattle.std.proofs.Common.{◌≡◌, ◌≢◌, ℕ, Bool, true, false, cond, List, [], ◌∷◌, refl, ap}
use Rattle.std.proofs.lemmas.List.Elements.{filter-append}
use Rattle.df_value.specs.declared.cell.Cell.{Cell}
use Rattle.df_value.specs.declared.cell.Cell.TheVariants as cell
use Rattle.df_value.specs.declared.cell.CellType.{CellType}
use Rattle.df_expr.specs.declared.expr.Expr.{Expr}
use Rattle.df_expr.specs.Value.{value_of}
use Rattle.df_ops.specs.RowWise.{filter_rows, is_true, keeps, IsFilter}

not_true : (c : Cell) → c ≢ cell.Bool true → is_true c ≡ false
not_true cell.Null h = refl
not_true (cell.Int n) h = refl
not_true (cell.Wide n) h = refl
not_true (cell.Text t) h = refl
not_true (cell.Bool true) h = absurd (h refl)
not_true (cell.Bool false) h = refl
not_true (cell.Frac f) h = refl

pub kept_where_true :
    (columns : List (List ℕ × CellType)) (predicate : Expr) →
    IsFilter (λ row. value_of predicate columns row ≡ cell.Bool true) (filter_rows columns predicate)
unfolding keeps
kept_where_true columns predicate = record {
  stays = λ row h. ap (λ b. cond b (row ∷ []) []) (ap is_true h);
  goes = λ row h. ap (λ b. cond b (row ∷ []) []) (not_true (value_of predicate columns row) h);
  of_parts = filter-append (keeps columns predicate);
}
