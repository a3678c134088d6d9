-- The numbers of ranges, and of the ranges below and above a number that is in none of them.
use Rattle.std.proofs.Common.{◌≡◌, ℕ, ◌+◌, ◌<◌, ◌≤◌, Bool, true, false, zero, suc, cond, ◌∙◌, List, [], ◌∷◌, ◌++◌, filter, ⊎_elim, refl, ap, sym, arith}
use Rattle.std.specs.Prelude.{not, ◌&&◌, ◌||◌, nat_lt, nat_le, find, None}
use Rattle.std.specs.List.{list_any, range_with_len}
use Rattle.std.proofs.lemmas.Bool.{and_parts, and_from, or_parts, cases_lt, ltb-true, ltb-false, lt-ltb, le-ltb, le-leb, leb-true, leb-false, false_from_ne_true, true≢false, not_from_true, not_from_false}
use Rattle.std.proofs.lemmas.List.Elements.{filter-append}
use Rattle.df_frame.specs.declared.ranges.RowRange.{RowRange}
use Rattle.df_frame.specs.Numbers.{has_number, put_from}
use Rattle.df_frame.specs.Ranges.{range_numbers, all_numbers, ranges_below, ranges_from}
use Rattle.df_frame.proofs.Members.{has-append, filter-all, filter-none, find-none}
use Rattle.df_frame.proofs.Rising.{has-block, block-has}

-- whether a number is of a block
pub block-test : (first n m : ℕ) → has_number (range_with_len first n) m ≡ (nat_le first m && nat_lt m (first + n))
block-test first n m =
    elim (has_number (range_with_len first n) m) as (λ b. has_number (range_with_len first n) m ≡ b → b ≡ (nat_le first m && nat_lt m (first + n))) [
      | true ↦ λ e. let k = has-block first n m e in sym (and_from (nat_le first m) (nat_lt m (first + n)) (le-leb first m k.0) (lt-ltb m (first + n) k.1))
      | false ↦ λ e. sym (false_from_ne_true (nat_le first m && nat_lt m (first + n)) (λ t.
          let parts = and_parts (nat_le first m) (nat_lt m (first + n)) t in
          true≢false (sym (block-has first n m (leb-true first m parts.0) (ltb-true m (first + n) parts.1)) ∙ e)))
    ] refl

-- whether a number lies in a range
abbrev pub lies_in : ℕ → RowRange → Bool
lies_in n r = nat_le r.first n && nat_lt n (r.first + r.len)

-- whether a number is of the ranges
pub ranges-have : (rs : List RowRange) (n : ℕ) → has_number (all_numbers rs) n ≡ list_any (λ r. lies_in n r) rs
ranges-have [] n = refl
ranges-have (r ∷ rs) n =
    has-append (range_numbers r) (all_numbers rs) n
    ∙ (ap (λ b. b || has_number (all_numbers rs) n) (block-test r.first r.len n)
    ∙ ap (λ b. lies_in n r || b) (ranges-have rs n))

-- the part of a range below a number that is not in it: all of it where it begins below, else nothing
below-part :
    (k : ℕ) (r : RowRange) (b : Bool) → nat_lt r.first k ≡ b → has_number (range_numbers r) k ≡ false → (rest : List ℕ) (rs : List RowRange) →
    rest ≡ all_numbers rs → filter (λ n. nat_lt n k) (range_numbers r) ++ rest ≡ all_numbers (cond b (r ∷ rs) rs)
below-part k r true e out rest rs same =
    let low = ltb-true r.first k e in
    let ends : r.first + r.len ≤ k =
    ⊎_elim (λ (h : k < r.first + r.len). absurd (true≢false (sym (block-has r.first r.len k (omega (arith, low)) h) ∙ out))) (λ (h : r.first + r.len ≤ k). h) (cases_lt k (r.first + r.len)) in
    let all : filter (λ n. nat_lt n k) (range_numbers r) ≡ range_numbers r =
    filter-all (λ n. nat_lt n k) (range_numbers r) (λ n m. let h = has-block r.first r.len n m in lt-ltb n k (omega (arith, h.1, ends))) in
    ap (λ ns. ns ++ rest) all ∙ ap (λ ns. range_numbers r ++ ns) same
below-part k r false e out rest rs same =
    let from = ltb-false r.first k e in
    let none : filter (λ n. nat_lt n k) (range_numbers r) ≡ [] =
    filter-none (λ n. nat_lt n k) (range_numbers r) (λ n m. let h = has-block r.first r.len n m in le-ltb n k (omega (arith, h.0, from))) in
    ap (λ ns. ns ++ rest) none ∙ same

pub numbers-below : (k : ℕ) (rs : List RowRange) → has_number (all_numbers rs) k ≡ false → filter (λ n. nat_lt n k) (all_numbers rs) ≡ all_numbers (ranges_below k rs)
numbers-below k [] out = refl
numbers-below k (r ∷ rs) out =
    let parts = or_parts (has_number (range_numbers r) k) (has_number (all_numbers rs) k) (sym (has-append (range_numbers r) (all_numbers rs) k) ∙ out) in
    filter-append (λ n. nat_lt n k) (range_numbers r) (all_numbers rs)
    ∙ below-part k r (nat_lt r.first k) refl parts.0 (filter (λ n. nat_lt n k) (all_numbers rs)) (ranges_below k rs) (numbers-below k rs parts.1)

from-part :
    (k : ℕ) (r : RowRange) (b : Bool) → nat_le k r.first ≡ b → has_number (range_numbers r) k ≡ false → (rest : List ℕ) (rs : List RowRange) →
    rest ≡ all_numbers rs → filter (λ n. not (nat_lt n k)) (range_numbers r) ++ rest ≡ all_numbers (cond b (r ∷ rs) rs)
from-part k r true e out rest rs same =
    let from = leb-true k r.first e in
    let all : filter (λ n. not (nat_lt n k)) (range_numbers r) ≡ range_numbers r =
    filter-all (λ n. not (nat_lt n k)) (range_numbers r) (λ n m. let h = has-block r.first r.len n m in not_from_false (nat_lt n k) (le-ltb n k (omega (arith, h.0, from)))) in
    ap (λ ns. ns ++ rest) all ∙ ap (λ ns. range_numbers r ++ ns) same
from-part k r false e out rest rs same =
    let low = leb-false k r.first e in
    let ends : r.first + r.len ≤ k =
    ⊎_elim (λ (h : k < r.first + r.len). absurd (true≢false (sym (block-has r.first r.len k (omega (arith, low)) h) ∙ out))) (λ (h : r.first + r.len ≤ k). h) (cases_lt k (r.first + r.len)) in
    let none : filter (λ n. not (nat_lt n k)) (range_numbers r) ≡ [] =
    filter-none (λ n. not (nat_lt n k)) (range_numbers r) (λ n m. let h = has-block r.first r.len n m in not_from_true (nat_lt n k) (lt-ltb n k (omega (arith, h.1, ends)))) in
    ap (λ ns. ns ++ rest) none ∙ same

pub numbers-from : (k : ℕ) (rs : List RowRange) → has_number (all_numbers rs) k ≡ false → filter (λ n. not (nat_lt n k)) (all_numbers rs) ≡ all_numbers (ranges_from k rs)
numbers-from k [] out = refl
numbers-from k (r ∷ rs) out =
    let parts = or_parts (has_number (range_numbers r) k) (has_number (all_numbers rs) k) (sym (has-append (range_numbers r) (all_numbers rs) k) ∙ out) in
    filter-append (λ n. not (nat_lt n k)) (range_numbers r) (all_numbers rs)
    ∙ from-part k r (nat_le k r.first) refl parts.0 (filter (λ n. not (nat_lt n k)) (all_numbers rs)) (ranges_from k rs) (numbers-from k rs parts.1)

-- a block put into the numbers of ranges, of which it has none
pub ranges-put :
    (first n : ℕ) (rs : List RowRange) → 0 < n → find (λ m. has_number (all_numbers rs) m) (range_with_len first n) ≡ None →
    put_from (λ n. n) first (range_with_len first n) (all_numbers rs) ≡ all_numbers (ranges_below first rs) ++ (range_with_len first n ++ all_numbers (ranges_from first rs))
ranges-put first n rs some free =
    let out = find-none (λ m. has_number (all_numbers rs) m) (range_with_len first n) free first (block-has first n first (omega arith) (omega (arith, some))) in
    ap (λ ns. ns ++ (range_with_len first n ++ filter (λ n. not (nat_lt n first)) (all_numbers rs))) (numbers-below first rs out)
    ∙ ap (λ ns. all_numbers (ranges_below first rs) ++ (range_with_len first n ++ ns)) (numbers-from first rs out)

-- two ranges that meet
pub meeting : (a m n : ℕ) → range_with_len a (m + n) ≡ range_with_len a m ++ range_with_len (a + m) n
meeting a zero n = let e : zero + n ≡ n = omega arith in let f : a + zero ≡ a = omega arith in rw (e, f) refl
meeting a (suc m) n =
    let e : suc m + n ≡ suc (m + n) = omega arith in
    let f : a + suc m ≡ (a + 1) + m = omega arith in
    rw (e, f) (ap (λ ns. a ∷ ns) (meeting (a + 1) m n))
