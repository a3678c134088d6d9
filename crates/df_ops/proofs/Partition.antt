-- The groups of rows by distinct keys, among which each row's key stands, are all rows.
use Rattle.std.proofs.Common.{◌≡◌, ℕ, ◌<◌, ◌+◌, Bool, true, false, suc, ◌||◌, ◌∙◌, cond, List, [], ◌∷◌, length, get_or, map, filter, refl, ap, sym, subst, arith, sum, count_by, Option}
use Rattle.std.specs.List.{list_any, IsDistinct, sum_by, AllByRecursion}
use Rattle.std.proofs.lemmas.List.Folds.{fold-map}
use Rattle.std.proofs.lemmas.List.Sums.{sum_by-cons}
use Rattle.std.proofs.lemmas.Map.Keys.{IsDistinct-head, IsDistinct-tail}
use Rattle.std.proofs.lemmas.Bool.{false≢true}
use Rattle.df_value.specs.Rows.{row_eq}
use Rattle.df_value.specs.declared.cell.Cell.{Cell}
use Rattle.df_value.specs.RowEq.{row_eq-Decides}
use Rattle.df_ops.specs.Groups.{keys_of, group_of, key_of}
use Rattle.df_ops.proofs.Keys.{found_after, keys_of-IsDistinct}

abbrev Rows : Type 0
Rows = List (List Cell)

zeros : (ks : Rows) → sum_by (λ k. 0) ks ≡ 0
zeros [] = refl
zeros (k ∷ ks) =
    let here = sum_by-cons (λ k. 0) k ks in
    let rest = zeros ks in
    omega arith

sum_with : (f g : List Cell → ℕ) (ks : Rows) → sum_by (λ k. f k + g k) ks ≡ sum_by f ks + sum_by g ks
sum_with f g [] = refl
sum_with f g (k ∷ ks) =
    let here = sum_by-cons (λ k. f k + g k) k ks in
    let left = sum_by-cons f k ks in
    let right = sum_by-cons g k ks in
    let rest = sum_with f g ks in
    omega arith

none : (x : List Cell) (ks : Rows) → AllByRecursion (λ y. row_eq x y ≡ false) ks → count_by (row_eq x) ks ≡ 0
none x [] h = refl
none x (k ∷ ks) h =
    let here = sum_by-cons (λ y. cond (row_eq x y) 1 0) k ks in
    let test : row_eq x k ≡ false = h.0 in
    let unlike : cond {A = ℕ} (row_eq x k) 1 0 ≡ 0 = ap (λ (b : Bool). cond {A = ℕ} b 1 0) test in
    let rest = none x ks h.1 in
    omega arith

once_at :
    (x k : List Cell) (ks : Rows) (b : Bool) → row_eq x k ≡ b →
    AllByRecursion (λ y. row_eq k y ≡ false) ks → (b || list_any (row_eq x) ks) ≡ true →
    (list_any (row_eq x) ks ≡ true → count_by (row_eq x) ks ≡ 1) → cond b 1 0 + count_by (row_eq x) ks ≡ 1
once_at x k ks true e apart h later =
    let same : k ≡ x = sym ((row_eq-Decides x k).0 e) in
    let rest = none x ks (subst (λ z. AllByRecursion (λ y. row_eq z y ≡ false) ks) same apart) in
    omega arith
once_at x k ks false e apart h later =
    let rest = later h in
    omega arith

-- a row that is among distinct ones is there once
pub once : (x : List Cell) (ks : Rows) → IsDistinct row_eq ks → list_any (row_eq x) ks ≡ true → count_by (row_eq x) ks ≡ 1
once x [] d h = absurd (false≢true h)
once x (k ∷ ks) d h =
    sum_by-cons (λ y. cond (row_eq x y) 1 0) k ks
    ∙ once_at x k ks (row_eq x k) refl (IsDistinct-head row_eq k ks d) h (once x ks (IsDistinct-tail row_eq k ks d))

length-kept : (b : Bool) (r : List Cell) (rs : Rows) → length (cond b (r ∷ rs) rs) ≡ cond b 1 0 + length rs
length-kept true r rs = omega arith
length-kept false r rs = omega arith

pub whole :
    (f : List Cell → List Cell) (ks rows : Rows) → IsDistinct row_eq ks →
    ((k : ℕ) (d : List Cell) → k < length rows → list_any (row_eq (f (get_or rows k d))) ks ≡ true) →
    sum_by (λ k. length (filter (λ r. row_eq (f r) k) rows)) ks ≡ length rows
whole f ks [] d h = zeros ks
whole f ks (r ∷ rs) d h =
    let first : List Cell → ℕ = λ k. cond (row_eq (f r) k) 1 0 in
    let later : List Cell → ℕ = λ k. length (filter (λ r. row_eq (f r) k) rs) in
    let parts : sum_by (λ k. length (filter (λ r. row_eq (f r) k) (r ∷ rs))) ks ≡ sum_by (λ k. first k + later k) ks =
    ap (λ g. sum_by g ks) (λ i. λ k. length-kept (row_eq (f r) k) r (filter (λ r. row_eq (f r) k) rs) i) in
    let sums : sum_by (λ k. first k + later k) ks ≡ sum_by first ks + sum_by later ks = sum_with first later ks in
    let one : sum_by first ks ≡ 1 = once (f r) ks d (h 0 r (omega arith)) in
    let rest : sum_by later ks ≡ length rs = whole f ks rs d (λ k e l. h (suc k) e (omega arith)) in
    let long : length (r ∷ rs) ≡ 1 + length rs = omega arith in
    parts ∙ (sums ∙ (ap (λ n. n + sum_by later ks) one ∙ (ap (λ n. 1 + n) rest ∙ sym long)))

pub group_lengths_sum :
    (indices : List (Option ℕ)) (rows : Rows) →
    sum (map (λ k. length (group_of indices rows k)) (keys_of indices rows)) ≡ length rows
group_lengths_sum indices rows =
    fold-map (λ a x. a + x) (λ k. length (group_of indices rows k)) 0 (keys_of indices rows)
    ∙ whole (key_of indices) (keys_of indices rows) rows (keys_of-IsDistinct indices rows) (found_after (key_of indices) [] rows)
