-- Where the first item of a list that passes a test stands, and whether there is one.
use Rattle.std.proofs.Common.{◌≡◌, ℕ, ◌+◌, ◌<◌, ◌≤◌, Bool, true, false, suc, cond, ◌∙◌, List, [], ◌∷◌, get_or, length, ⊎_elim, refl, ap, sym, arith}
use Rattle.std.specs.Prelude.{not, ◌||◌, nat_lt, Option, Some, None, find, position, slice_get}
use Rattle.std.specs.List.{list_any, position_or_len}
use Rattle.std.proofs.lemmas.Bool.{cases_lt, le-ltb, lt-ltb, ltb-false}
use Rattle.std.proofs.lemmas.List.Folds.{find_at}
use Rattle.std.proofs.lemmas.Option.{slice_get_past, slice_get_read}
use Rattle.std.specs.Slice.{IsItemAt}
use Rattle.std.specs.Option.{is_some, option_copied}
use Rattle.std.specs.Borrow.{Bor}
use Rattle.df_state.proofs.StateFacts.{place-at}

-- what is lent at an index is the item there
pub item-copied : {T : Type 0} (xs : List T) (i : ℕ) (r : Option (Bor T)) → IsItemAt xs i r → option_copied r ≡ slice_get xs i
item-copied xs i None e = sym (slice_get_past xs i e.3)
item-copied xs i (Some x) e = sym (slice_get_read xs (length xs) i x.now refl e.3.0 e.1)

-- a view that has a place is there
pub found-within : {T : Type 0} (p : T → Bool) (xs : List T) (at : ℕ) → position p xs ≡ Some at → at < length xs
found-within p xs at h =
    let found = place-at (position_or_len p xs) (length xs) at (nat_lt (position_or_len p xs) (length xs)) refl h in
    let within = found.0 in
    let same = found.1 in
    omega (arith, within, same)

-- what stands at the place is what is found
pub placed-found : {T : Type 0} (p : T → Bool) (xs : List T) (at : ℕ) (x : T) → position p xs ≡ Some at → x ≡ get_or xs at x → find p xs ≡ Some x
placed-found p xs at x h lent =
    let same = place-at (position_or_len p xs) (length xs) at (nat_lt (position_or_len p xs) (length xs)) refl h in
    find_at p xs ∙ (ap (slice_get xs) same.1 ∙ slice_get_read xs (length xs) at x refl (found-within p xs at h) lent)

no-place : (a b : ℕ) (t : Bool) → nat_lt a b ≡ t → cond t (Some a) None ≡ None → b ≤ a
no-place a b true e h = cc
no-place a b false e h = ltb-false a b e

-- where no place has a name, no view has it
pub none-named : {T : Type 0} (p : T → Bool) (xs : List T) → position p xs ≡ None → find p xs ≡ None
none-named p xs h =
    find_at p xs
    ∙ slice_get_past xs (position_or_len p xs) (no-place (position_or_len p xs) (length xs) (nat_lt (position_or_len p xs) (length xs)) refl h)

next-below : (n m : ℕ) → nat_lt n m ≡ nat_lt (1 + n) (suc m)
next-below n m =
    ⊎_elim
    (λ (h : n < m). lt-ltb n m h ∙ sym (lt-ltb (1 + n) (suc m) (omega (arith, h))))
    (λ (h : m ≤ n). le-ltb n m h ∙ sym (le-ltb (1 + n) (suc m) (omega (arith, h))))
    (cases_lt n m)

any-place-at : (b rest : Bool) (n m : ℕ) → rest ≡ nat_lt n m → (b || rest) ≡ nat_lt (cond (not b) (1 + n) 0) (suc m)
any-place-at true rest n m e = sym (lt-ltb 0 (suc m) (omega arith))
any-place-at false rest n m e = e ∙ next-below n m

any-place : {T : Type 0} (p : T → Bool) (xs : List T) → list_any p xs ≡ nat_lt (position_or_len p xs) (length xs)
any-place p [] = refl
any-place p (x ∷ xs) = any-place-at (p x) (list_any p xs) (position_or_len p xs) (length xs) (any-place p xs)

pub any-found : {T : Type 0} (p : T → Bool) (xs : List T) (at : ℕ) → position p xs ≡ Some at → list_any p xs ≡ true
any-found p xs at h =
    let found = place-at (position_or_len p xs) (length xs) at (nat_lt (position_or_len p xs) (length xs)) refl h in
    any-place p xs ∙ lt-ltb (position_or_len p xs) (length xs) found.0

pub any-none : {T : Type 0} (p : T → Bool) (xs : List T) → position p xs ≡ None → list_any p xs ≡ false
any-none p xs h =
    any-place p xs
    ∙ le-ltb (position_or_len p xs) (length xs) (no-place (position_or_len p xs) (length xs) (nat_lt (position_or_len p xs) (length xs)) refl h)

-- whether a view has a place is whether it is there
pub placed-any : {T : Type 0} (p : T → Bool) (xs : List T) (o : Option ℕ) → o ≡ position p xs → is_some o ≡ list_any p xs
placed-any p xs (Some at) e = sym (any-found p xs at (sym e))
placed-any p xs None e = sym (any-none p xs (sym e))
