-- In the order of all cells two compare as equal exactly where they are one and the same.
use Rattle.std.proofs.Common.{◌≡◌, ◌∙◌, ap, sym, refl}
use Rattle.std.specs.Prelude.{◌↔◌, Some}
use Rattle.std.specs.Ordering.{is_eq, ordering_reverse}
use Rattle.std.specs.declared.cmp.Ordering.{Ordering}
use Rattle.std.specs.declared.cmp.Ordering.TheVariants as ordering
use Rattle.df_value.specs.declared.cell.Cell.{Cell}
use Rattle.df_value.specs.CellEq.{cell_eq-Decides}
use Rattle.df_value.specs.CellOrder.{cell_cmp, cell_cmp_total, cell_cmp-order_of}
use Rattle.df_value.specs.Order.{order_of}
use Rattle.df_value.specs.contracts.cell.CellOrd.TheImpl.Laws.{matches_eq-law}

pub exact : (a b : Cell) → cell_cmp a b ≡ ordering.Equal → a ≡ b
exact a b h = (cell_eq-Decides a b).0 (matches_eq-law a b ∙ ap is_eq h)

own_reverse : (o : Ordering) → o ≡ ordering_reverse o → o ≡ ordering.Equal
own_reverse ordering.Less h = cc
own_reverse ordering.Equal h = refl
own_reverse ordering.Greater h = cc

pub to_itself : (a : Cell) → cell_cmp a a ≡ ordering.Equal
to_itself a = own_reverse (cell_cmp a a) (cell_cmp_total.antisymm a a)

-- and so do cells of one ordered type in theirs
pub equal_where_same : (a b : Cell) (o : Ordering) → Some o ≡ order_of a b → (o ≡ ordering.Equal) ↔ (a ≡ b)
equal_where_same a b o h =
    let is : cell_cmp a b ≡ o = cell_cmp-order_of a b o (sym h) in
    (λ e. exact a b (is ∙ e), λ e. sym is ∙ (ap (λ z. cell_cmp a z) (sym e) ∙ to_itself a))
