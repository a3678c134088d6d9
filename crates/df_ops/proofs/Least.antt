-- A running least of cells is the cell of the list that none is below, and so with greatest, for each strict order.
use Rattle.std.proofs.Common.{◌≡◌, ℕ, zero, suc, Bool, true, false, cond, List, [], ◌∷◌, refl, sym, ap, subst, ◌∙◌}
use Rattle.std.specs.Prelude.{Some, not, ◌&&◌, find, slice_get}
use Rattle.std.specs.List.{list_all}
use Rattle.std.proofs.lemmas.Bool.{false≢true}
use Rattle.df_value.specs.declared.cell.Cell.{Cell}

-- a strict order of cells in which two that do not differ are the same
pub record IsStrict (below : Cell → Cell → Bool) : Type 0 where
  pub irrefl : (a : Cell) → below a a ≡ false
  pub trans : (a b c : Cell) → below a b ≡ true → below b c ≡ true → below a c ≡ true
  pub apart : (a b : Cell) → below a b ≡ false → below b a ≡ false → a ≡ b

-- the least of a cell and those of a list, the earlier one where two are the same
abbrev pub least_after : (Cell → Cell → Bool) → Cell → List Cell → Cell
least_after below l [] = l
least_after below l (c ∷ cs) = least_after below (cond (below c l) c l) cs

abbrev pub is_lowest : (Cell → Cell → Bool) → List Cell → Cell → Bool
is_lowest below cells c = list_all (λ d. not (below d c)) cells

first_cell : (a b : Bool) → (a && b) ≡ true → a ≡ true
first_cell true b h = refl
first_cell false b h = cc

second_of : (a b : Bool) → (a && b) ≡ true → b ≡ true
second_of true b h = h
second_of false b h = cc

both_of : (a b : Bool) → a ≡ true → b ≡ true → (a && b) ≡ true
both_of true b e h = h
both_of false b e h = cc

not_true : (b : Bool) → not b ≡ true → b ≡ false
not_true true h = cc
not_true false h = refl

not_false : (b : Bool) → b ≡ false → not b ≡ true
not_false true h = cc
not_false false h = refl

no : (b : Bool) → (b ≡ true → false ≡ true) → b ≡ false
no true h = sym (h refl)
no false h = refl

between :
    (below : Cell → Cell → Bool) → IsStrict below → (l c m : Cell) (b : Bool) → below l c ≡ b → below c l ≡ false →
    below l m ≡ false → below c m ≡ true → false ≡ true
between below strict l c m true e f h t = sym h ∙ strict.trans l c m e t
between below strict l c m false e f h t = sym h ∙ (ap (λ z. below z m) (strict.apart l c e f) ∙ t)

-- what is not below the lower of two is not below the other
kept :
    (below : Cell → Cell → Bool) → IsStrict below → (l c m : Cell) (b : Bool) → below c l ≡ b →
    below (cond b c l) m ≡ false → (below l m ≡ false) × (below c m ≡ false)
kept below strict l c m true e h = (no (below l m) (λ t. sym h ∙ strict.trans c l m e t), h)
kept below strict l c m false e h = (h, no (below c m) (λ t. between below strict l c m (below l c) refl e h t))

lowest_after :
    (below : Cell → Cell → Bool) → IsStrict below → (l : Cell) (cs : List Cell) →
    is_lowest below (l ∷ cs) (least_after below l cs) ≡ true
lowest_after below strict l [] = both_of (not (below l l)) true (not_false (below l l) (strict.irrefl l)) refl
lowest_after below strict l (c ∷ cs) =
    let next = cond (below c l) c l in
    let m = least_after below next cs in
    let rest = list_all (λ d. not (below d m)) cs in
    let later : (not (below next m) && rest) ≡ true = lowest_after below strict next cs in
    let both = kept below strict l c m (below c l) refl (not_true (below next m) (first_cell (not (below next m)) rest later)) in
    both_of (not (below l m)) (not (below c m) && rest) (not_false (below l m) both.0)
    (both_of (not (below c m)) rest (not_false (below c m) both.1) (second_of (not (below next m)) rest later))

index :
    (l c m : Cell) (cs : List Cell) (b : Bool) → (k : ℕ) × (slice_get (cond b c l ∷ cs) k ≡ Some m) →
    (k : ℕ) × (slice_get (l ∷ c ∷ cs) k ≡ Some m)
index l c m cs true (zero, h) = (1, h)
index l c m cs true (suc k, h) = (suc (suc k), h)
index l c m cs false (zero, h) = (0, h)
index l c m cs false (suc k, h) = (suc (suc k), h)

-- where it stands
stands_after :
    (below : Cell → Cell → Bool) (l : Cell) (cs : List Cell) →
    (k : ℕ) × (slice_get (l ∷ cs) k ≡ Some (least_after below l cs))
stands_after below l [] = (0, refl)
stands_after below l (c ∷ cs) = index l c _ cs (below c l) (stands_after below (cond (below c l) c l) cs)

all_at : (q : Cell → Bool) (cs : List Cell) (k : ℕ) (c : Cell) → list_all q cs ≡ true → slice_get cs k ≡ Some c → q c ≡ true
all_at q [] k c h at = cc
all_at q (d ∷ cs) zero c h at =
    let same : d ≡ c = cc in
    subst (λ z. q z ≡ true) same (first_cell (q d) (list_all q cs) h)
all_at q (d ∷ cs) (suc k) c h at = all_at q cs k c (second_of (q d) (list_all q cs) h) at

found_at :
    (p : Cell → Bool) (m z : Cell) (zs : List Cell) (b : Bool) → p z ≡ b → (b ≡ true → z ≡ m) →
    (b ≡ false → find p zs ≡ Some m) → cond b (Some z) (find p zs) ≡ Some m
found_at p m z zs true e here later = ap Some (here refl)
found_at p m z zs false e here later = later refl

-- a search finds the one cell of a list that has a property
found :
    (p : Cell → Bool) (m : Cell) (zs : List Cell) (k : ℕ) → slice_get zs k ≡ Some m → p m ≡ true →
    ((c : Cell) (j : ℕ) → slice_get zs j ≡ Some c → p c ≡ true → c ≡ m) → find p zs ≡ Some m
found p m [] k at h one = cc
found p m (z ∷ zs) zero at h one =
    let same : z ≡ m = cc in
    found_at p m z zs (p z) refl (λ e. same) (λ e. absurd (false≢true (sym e ∙ (ap p same ∙ h))))
found p m (z ∷ zs) (suc k) at h one =
    found_at p m z zs (p z) refl (one z 0 refl) (λ e. found p m zs k at h (λ c j. one c (suc j)))

pub least_found :
    (below : Cell → Cell → Bool) → IsStrict below → (l : Cell) (cs : List Cell) →
    find (is_lowest below (l ∷ cs)) (l ∷ cs) ≡ Some (least_after below l cs)
least_found below strict l cs =
    let m = least_after below l cs in
    let at = stands_after below l cs in
    let low : is_lowest below (l ∷ cs) m ≡ true = lowest_after below strict l cs in
    found (is_lowest below (l ∷ cs)) m (l ∷ cs) at.0 at.1 low
    (λ c j here lowest. strict.apart c m
    (not_true (below c m) (all_at (λ d. not (below d m)) (l ∷ cs) j c low here))
    (not_true (below m c) (all_at (λ d. not (below d c)) (l ∷ cs) at.0 m lowest at.1)))
