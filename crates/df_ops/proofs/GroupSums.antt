-- The sums of the groups of rows, over distinct keys among which each row's key stands, add up to the sum of all rows.
use Rattle.std.proofs.Common.{◌≡◌, ℕ, ◌<◌, Bool, true, false, suc, ◌||◌, ◌∙◌, cond, List, [], ◌∷◌, length, get_or, map, filter, refl, ap, sym, subst, arith, Option}
use Rattle.std.specs.Prelude.{ℤ, pos, ◌+ℤ◌, fold, Some, None}
use Rattle.std.specs.List.{list_any, IsDistinct, AllByRecursion}
use Rattle.std.proofs.lemmas.Map.Keys.{IsDistinct-head, IsDistinct-tail}
use Rattle.std.proofs.lemmas.Bool.{false≢true}
use Rattle.std.proofs.lemmas.Int.{ints}
use Rattle.df_value.specs.Rows.{cell_at, row_eq}
use Rattle.df_value.specs.declared.cell.Cell.{Cell}
use Rattle.df_value.specs.RowEq.{row_eq-Decides}
use Rattle.df_ops.specs.Aggregates.{cells_of, sum_of, sum_with, number_of, total}
use Rattle.df_ops.specs.Groups.{keys_of, group_of, key_of}
use Rattle.df_ops.proofs.Keys.{found_after, keys_of-IsDistinct}

abbrev Rows : Type 0
Rows = List (List Cell)

-- a sum over a list
abbrev sum_over : {X : Type 0} → (X → ℤ) → List X → ℤ
sum_over f [] = pos 0
sum_over f (x ∷ xs) = f x +ℤ sum_over f xs

-- what a row adds
abbrev worth : Option ℕ → List Cell → ℤ
worth index r = sum_with (pos 0) (number_of (cell_at index r))

pub with_more : (s : ℤ) (o : Option ℤ) → sum_with s o ≡ s +ℤ sum_with (pos 0) o
with_more s None = omega (arith, ints)
with_more s (Some n) = omega (arith, ints)

sum_from : (index : Option ℕ) (s : ℤ) (rows : Rows) →
    fold (λ sum c. sum_with sum (number_of c)) s (cells_of index rows) ≡ s +ℤ sum_over (worth index) rows
sum_from index s [] = omega (arith, ints)
sum_from index s (r ∷ rs) =
    let here = with_more s (number_of (cell_at index r)) in
    let rest = sum_from index (sum_with s (number_of (cell_at index r))) rs in
    omega (arith, ints)

sum_is : (index : Option ℕ) (rows : Rows) → sum_of (cells_of index rows) ≡ sum_over (worth index) rows
sum_is index rows = let all = sum_from index (pos 0) rows in omega (arith, ints)

total_from : (f : List Cell → ℤ) (s : ℤ) (ks : Rows) → fold (λ a b. a +ℤ b) s (map f ks) ≡ s +ℤ sum_over f ks
total_from f s [] = omega (arith, ints)
total_from f s (k ∷ ks) = let rest = total_from f (s +ℤ f k) ks in omega (arith, ints)

alike : (f g : List Cell → ℤ) → ((k : List Cell) → f k ≡ g k) → (ks : Rows) → sum_over f ks ≡ sum_over g ks
alike f g same [] = refl
alike f g same (k ∷ ks) =
    let here = same k in
    let rest = alike f g same ks in
    omega (arith, ints)

both : (f g : List Cell → ℤ) (ks : Rows) → sum_over (λ k. f k +ℤ g k) ks ≡ sum_over f ks +ℤ sum_over g ks
both f g [] = refl
both f g (k ∷ ks) = let rest = both f g ks in omega (arith, ints)

zeros : (ks : Rows) → sum_over (λ k. pos 0) ks ≡ pos 0
zeros [] = refl
zeros (k ∷ ks) = let rest = zeros ks in omega (arith, ints)

none : (w : ℤ) (x : List Cell) (ks : Rows) → AllByRecursion (λ y. row_eq x y ≡ false) ks →
    sum_over (λ k. cond (row_eq x k) w (pos 0)) ks ≡ pos 0
none w x [] h = refl
none w x (k ∷ ks) h =
    let unlike : cond {A = ℤ} (row_eq x k) w (pos 0) ≡ pos 0 = ap (λ (b : Bool). cond {A = ℤ} b w (pos 0)) h.0 in
    let rest = none w x ks h.1 in
    omega (arith, ints)

once_at :
    (w : ℤ) (x k : List Cell) (ks : Rows) (b : Bool) → row_eq x k ≡ b →
    AllByRecursion (λ y. row_eq k y ≡ false) ks → (b || list_any (row_eq x) ks) ≡ true →
    (list_any (row_eq x) ks ≡ true → sum_over (λ k. cond (row_eq x k) w (pos 0)) ks ≡ w) →
    cond b w (pos 0) +ℤ sum_over (λ k. cond (row_eq x k) w (pos 0)) ks ≡ w
once_at w x k ks true e apart h later =
    let same : k ≡ x = sym ((row_eq-Decides x k).0 e) in
    let rest = none w x ks (subst (λ z. AllByRecursion (λ y. row_eq z y ≡ false) ks) same apart) in
    omega (arith, ints)
once_at w x k ks false e apart h later =
    let rest = later h in
    omega (arith, ints)

-- what stands at the one key that is a row's is counted once
once : (w : ℤ) (x : List Cell) (ks : Rows) → IsDistinct row_eq ks → list_any (row_eq x) ks ≡ true →
    sum_over (λ k. cond (row_eq x k) w (pos 0)) ks ≡ w
once w x [] d h = absurd (false≢true h)
once w x (k ∷ ks) d h =
    once_at w x k ks (row_eq x k) refl (IsDistinct-head row_eq k ks d) h (once w x ks (IsDistinct-tail row_eq k ks d))

kept : (index : Option ℕ) (b : Bool) (r : List Cell) (rs : Rows) →
    sum_over (worth index) (cond b (r ∷ rs) rs) ≡ cond b (worth index r) (pos 0) +ℤ sum_over (worth index) rs
kept index true r rs = refl
kept index false r rs = omega (arith, ints)

whole :
    (index : Option ℕ) (f : List Cell → List Cell) (ks rows : Rows) → IsDistinct row_eq ks →
    ((k : ℕ) (d : List Cell) → k < length rows → list_any (row_eq (f (get_or rows k d))) ks ≡ true) →
    sum_over (λ k. sum_over (worth index) (filter (λ r. row_eq (f r) k) rows)) ks ≡ sum_over (worth index) rows
whole index f ks [] d h = zeros ks
whole index f ks (r ∷ rs) d h =
    let first : List Cell → ℤ = λ k. cond (row_eq (f r) k) (worth index r) (pos 0) in
    let later : List Cell → ℤ = λ k. sum_over (worth index) (filter (λ r. row_eq (f r) k) rs) in
    let parts = alike (λ k. sum_over (worth index) (filter (λ r. row_eq (f r) k) (r ∷ rs))) (λ k. first k +ℤ later k)
    (λ k. kept index (row_eq (f r) k) r (filter (λ r. row_eq (f r) k) rs)) ks in
    let sums = both first later ks in
    let one : sum_over first ks ≡ worth index r = once (worth index r) (f r) ks d (h 0 r (omega arith)) in
    let rest : sum_over later ks ≡ sum_over (worth index) rs = whole index f ks rs d (λ k e l. h (suc k) e (omega arith)) in
    parts ∙ (sums ∙ (λ i. one i +ℤ rest i))

pub group_sums_total :
    (indices : List (Option ℕ)) (index : Option ℕ) (rows : Rows) →
    total (map (λ k. sum_of (cells_of index (group_of indices rows k))) (keys_of indices rows)) ≡ sum_of (cells_of index rows)
group_sums_total indices index rows =
    let keys = keys_of indices rows in
    let all = total_from (λ k. sum_of (cells_of index (group_of indices rows k))) (pos 0) keys in
    let groups = alike (λ k. sum_of (cells_of index (group_of indices rows k)))
    (λ k. sum_over (worth index) (group_of indices rows k)) (λ k. sum_is index (group_of indices rows k)) keys in
    let sums = whole index (key_of indices) keys rows (keys_of-IsDistinct indices rows) (found_after (key_of indices) [] rows) in
    let rows_sum = sum_is index rows in
    omega (arith, ints)
