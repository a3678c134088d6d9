-- The test of two rows decides whether they are the same, and so is an equivalence.
use Rattle.std.proofs.Common.{◌≡◌, ◌↔◌, List, IsTrue, refl, ap, sym}
use Rattle.std.specs.Cmp.{IsEquivalence}
use Rattle.std.proofs.lemmas.Bool.Decides.{Decides-like, same_from_decides}
use Rattle.df_value.specs.CellEq.{cell_eq-Decides}
use Rattle.df_value.specs.Exactly.{list_decides}
use Rattle.df_value.specs.Rows.{row_eq}
use Rattle.df_value.specs.declared.cell.Cell.{Cell}

pub row_eq-Decides : (a b : List Cell) → IsTrue (row_eq a b) ↔ (a ≡ b)
row_eq-Decides = list_decides cell_eq-Decides

pub row_eq-equivalence : IsEquivalence row_eq
row_eq-equivalence = record {
  refl = λ x. (row_eq-Decides x x).1 refl;
  symm = λ x y. same_from_decides _ _ (row_eq-Decides x y)
      (Decides-like _ (λ e. sym e) (λ e. sym e) (row_eq-Decides y x));
  congr = λ x y z h. ap (λ w. row_eq w z) ((row_eq-Decides x y).0 h);
}
