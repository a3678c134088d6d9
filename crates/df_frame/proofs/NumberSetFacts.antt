-- Sets that hold the numbers of a list, and the walk that finds the first number that is doubled.
use Rattle.std.proofs.Common.{◌≡◌, ℕ, ◌+◌, ◌<◌, Bool, true, false, suc, cond, ◌∙◌, List, [], ◌∷◌, ◌++◌, map, length, take, drop, get_or, refl, ap, sym, arith, add-one, drop-cons}
use Rattle.std.specs.Prelude.{◌==◌, ◌||◌, Some}
use Rattle.std.specs.BTreeSet.{BTreeSet, contains, Updates}
use Rattle.std.specs.BTreeMap.{is_at}
use Rattle.std.specs.Ordering.{nat_cmp, is_eq, MatchOrdering}
use Rattle.std.specs.Cmp.{ranks}
use Rattle.std.specs.declared.cmp.Ordering.TheVariants.{Less, Equal, Greater}
use Rattle.std.proofs.lemmas.Bool.{eq-eqb, ne_eqb}
use Rattle.std.specs.List.{list_any}
use Rattle.std.proofs.lemmas.List.{get_or-map, length-map, take-map, take_more}
use Rattle.df_frame.specs.Numbers.{has_number, IsSetOf}
use Rattle.df_frame.specs.Refusals.{doubled_number_after}
use Rattle.df_frame.proofs.Members.{has-append}

pub equal-at : (k q : ℕ) → is_at (nat_cmp k) q ≡ (k == q)
equal-at k q =
    elim (nat_cmp k q) as (λ o. MatchOrdering o (k < q) (k ≡ q) (q < k) → is_eq o ≡ (k == q)) [
      | Less ↦ λ low. sym (ne_eqb k q (λ s. absurd (omega (arith, low, s))))
      | Equal ↦ λ same. sym (eq-eqb k q same)
      | Greater ↦ λ high. sym (ne_eqb k q (λ s. absurd (omega (arith, high, s))))
    ] (ranks k q)

either-way : (here there : Bool) → cond here true there ≡ (there || (here || false))
either-way true true = refl
either-way true false = refl
either-way false true = refl
either-way false false = refl

-- the set with one number more
pub set-more :
    (old new : BTreeSet ℕ) (ns : List ℕ) (k : ℕ) → Updates nat_cmp old new k true → IsSetOf old ns → IsSetOf new (ns ++ k ∷ [])
set-more old new ns k updated h q =
    updated.0 q
    ∙ (ap (λ here. cond here true (contains nat_cmp old q)) (equal-at k q)
    ∙ (ap (λ there. cond (k == q) true there) (h q)
    ∙ (either-way (k == q) (has_number ns q) ∙ sym (has-append ns (k ∷ []) q))))

-- the same at a step of a loop over the list
pub set-step :
    (old new : BTreeSet ℕ) (ns : List ℕ) (i k : ℕ) → i < length ns → k ≡ get_or ns i 0 → Updates nat_cmp old new k true →
    IsSetOf old (take i ns) → IsSetOf new (take (i + 1) ns)
set-step old new ns i k within at updated h q =
    set-more old new (take i ns) k updated h q
    ∙ ap (λ xs. has_number xs q) (ap (λ x. take i ns ++ x ∷ []) at ∙ sym (take_more ns i 0 within))

-- a walk that passes a number by
pub doubled-past :
    (ns : List ℕ) (i : ℕ) → i < length ns → has_number (take i ns) (get_or ns i 0) ≡ false →
    doubled_number_after (take i ns) (drop i ns) ≡ doubled_number_after (take (i + 1) ns) (drop (i + 1) ns)
doubled-past ns i within out =
    ap (doubled_number_after (take i ns)) (drop-cons ns i 0 within)
    ∙ (ap (λ b. cond b (Some (get_or ns i 0)) (doubled_number_after (take i ns ++ get_or ns i 0 ∷ []) (drop (suc i) ns))) out
    ∙ (ap (λ seen. doubled_number_after seen (drop (suc i) ns)) (sym (take_more ns i 0 within))
    ∙ ap (λ n. doubled_number_after (take (i + 1) ns) (drop n ns)) (sym (add-one i))))

-- and one that stops there
pub doubled-here :
    (ns : List ℕ) (i : ℕ) → i < length ns → has_number (take i ns) (get_or ns i 0) ≡ true →
    doubled_number_after (take i ns) (drop i ns) ≡ Some (get_or ns i 0)
doubled-here ns i within there =
    ap (doubled_number_after (take i ns)) (drop-cons ns i 0 within)
    ∙ ap (λ b. cond b (Some (get_or ns i 0)) (doubled_number_after (take i ns ++ get_or ns i 0 ∷ []) (drop (suc i) ns))) there

-- whether items have a number
has-map : {T : Type 0} (number : T → ℕ) (xs : List T) (n : ℕ) → has_number (map number xs) n ≡ list_any (λ x. number x == n) xs
has-map number [] n = refl
has-map number (x ∷ xs) n = ap (λ b. (number x == n) || b) (has-map number xs n)

-- the number of the item at a place
pub number-at : {T : Type 0} (number : T → ℕ) (xs : List T) (i : ℕ) (x : T) (n : ℕ) → i < length xs → x ≡ get_or xs i x → n ≡ number x → n ≡ get_or (map number xs) i 0
number-at number xs i x n within at is = is ∙ (ap number at ∙ sym (get_or-map number xs i x 0 within))

pub place-within : {T : Type 0} (number : T → ℕ) (xs : List T) (i : ℕ) → i < length xs → i < length (map number xs)
place-within number xs i h = let long = length-map xs number in omega (arith, h, long)

-- whether one before it has that number
pub earlier : {T : Type 0} (number : T → ℕ) (xs : List T) (i : ℕ) (x : T) (n : ℕ) (b : Bool) → i < length xs → x ≡ get_or xs i x → n ≡ number x →
    b ≡ list_any (λ y. number y == n) (take i xs) → has_number (take i (map number xs)) (get_or (map number xs) i 0) ≡ b
earlier number xs i x n b within at is found =
    ap (has_number (take i (map number xs))) (sym (number-at number xs i x n within at is))
    ∙ (ap (λ ns. has_number ns n) (take-map number i xs) ∙ (has-map number (take i xs) n ∙ sym found))
