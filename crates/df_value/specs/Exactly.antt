-- Equality that decides whether two values are the same, carried from items to lists and pairs.
use Rattle.std.specs.Prelude.{◌≡◌, ◌↔◌, Bool, List, IsTrue, ◌&&◌, refl}
use Rattle.std.specs.Cmp.Lexicographic.{pointwise}
use Rattle.std.proofs.Common.{ap}
use Rattle.std.proofs.lemmas.Slice.Eq.{slice_eq-Decides}
use Rattle.std.proofs.lemmas.Bool.Decides.{Decides-and, Decides-like}

-- where a test decides whether two items are the same, the test item by item decides whether two lists are
pub list_decides :
    {T : Type 0} {eq : T → T → Bool} → ((a b : T) → IsTrue (eq a b) ↔ (a ≡ b)) →
    (xs ys : List T) → IsTrue (pointwise eq xs ys) ↔ (xs ≡ ys)
list_decides same xs ys = slice_eq-Decides same xs ys _ refl

-- the same of pairs
pub pair_decides :
    {A B : Type 0} {eq : A → A → Bool} {eq' : B → B → Bool} →
    ((a b : A) → IsTrue (eq a b) ↔ (a ≡ b)) → ((a b : B) → IsTrue (eq' a b) ↔ (a ≡ b)) →
    (p q : A × B) → IsTrue (eq p.0 q.0 && eq' p.1 q.1) ↔ (p ≡ q)
pair_decides first second p q =
    Decides-like _ (λ h. λ i. (h.0 i, h.1 i)) (λ e. (ap (λ r. r.0) e, ap (λ r. r.1) e))
    (Decides-and _ _ (first p.0 q.0) (second p.1 q.1))
