-- Row tags rise as the numbers do, and a tag is that of one number at most.
use Rattle.std.proofs.Common.{◌≡◌, ℕ, ◌+◌, ◌<◌, Bool, true, List, [], ◌∷◌, map, sym, ap, subst, ◌∙◌, arith}
use Rattle.std.specs.Prelude.{T, ◌==◌, nat_lt}
use Rattle.std.specs.Cmp.{both_ways, ranks, tied_itself}
use Rattle.std.specs.FinMap as finite
use Rattle.std.specs.FinMap.Entries.{below_all}
use Rattle.std.specs.List.{list_all}
use Rattle.std.specs.Ordering.{MatchOrdering, eq_by_cmp, is_eq, is_lt, nat_cmp, ordering_then}
use Rattle.std.specs.declared.cmp.Ordering.{Ordering}
use Rattle.std.specs.declared.cmp.Ordering.TheVariants.{Less, Equal, Greater}
use Rattle.std.proofs.lemmas.Bool.{and_parts, eq-eqb, eqb-true, ltb-true}
use Rattle.df_column.specs.TagOrder.{tag_same, tag_total}
use Rattle.df_column.specs.Tags.{tag_cmp}
use Rattle.df_column.specs.declared.tag.Tag.{Tag}
use Rattle.df_delta.proofs.Collected.{T-both, equal_from_is_eq}
use Rattle.df_frame.specs.FrameTables.{at_tag, row_tag}
use Rattle.df_frame.specs.Numbers.{is_rising}

-- whether a tag is that of a number
abbrev pub is_tag : Tag → ℕ → Bool
is_tag q n = eq_by_cmp tag_cmp q (row_tag n)

pub tag-is : (q : Tag) (n : ℕ) → is_tag q n ≡ true → q ≡ row_tag n
tag-is q n e = tag_same q (row_tag n) (equal_from_is_eq _ (subst T (sym e) tt))

pub one-number : (q : Tag) (a b : ℕ) → is_tag q a ≡ true → is_tag q b ≡ true → a ≡ b
one-number q a b s t =
    let same : a + 1 ≡ b + 1 = ap (λ (x : Tag). x.first) (sym (tag-is q a s) ∙ tag-is q b t) in
    omega (arith, same)

pub tag-itself : (n : ℕ) → is_tag (row_tag n) n ≡ true
tag-itself n = ap is_eq (tied_itself tag_total (row_tag n))

-- a tag is that of a number where it is that of an equal one
pub same-tag : (q : Tag) (m n : ℕ) → is_tag q n ≡ true → is_tag q m ≡ (m == n)
same-tag q m n e = both_ways (is_tag q m) (m == n) (λ s. eq-eqb m n (one-number q m n s e)) (λ s. ap (is_tag q) (eqb-true m n s) ∙ e)

less-then : (o rest : Ordering) (a b : ℕ) → MatchOrdering o (a < b) (a ≡ b) (b < a) → a < b → T (is_lt (ordering_then o rest))
less-then Less rest a b m h = tt
less-then Equal rest a b m h = absurd (omega (arith, m, h))
less-then Greater rest a b m h = absurd (omega (arith, m, h))

tag-below : (a b : ℕ) → a < b → T (is_lt (tag_cmp (row_tag a) (row_tag b)))
tag-below a b h = less-then (nat_cmp (a + 1) (b + 1)) _ (a + 1) (b + 1) (ranks (a + 1) (b + 1)) (omega (arith, h))

tags-above : {X : Type 0} (n : ℕ) (rows : List (ℕ × X)) → list_all (λ m. nat_lt n m) (map (λ r. r.0) rows) ≡ true → T (below_all tag_cmp (row_tag n) (map at_tag rows))
tags-above n [] h = tt
tags-above n (r ∷ rs) h =
    let parts = and_parts (nat_lt n r.0) (list_all (λ m. nat_lt n m) (map (λ r. r.0) rs)) h in
    T-both _ _ (tag-below n r.0 (ltb-true n r.0 parts.0)) (tags-above n rs parts.1)

-- the tags of numbers that rise
pub tags-rise : {X : Type 0} (rows : List (ℕ × X)) → is_rising (map (λ r. r.0) rows) ≡ true → T (finite.is_sorted tag_cmp (map at_tag rows))
tags-rise [] h = tt
tags-rise (r ∷ rs) h =
    let parts = and_parts (list_all (λ m. nat_lt r.0 m) (map (λ r. r.0) rs)) (is_rising (map (λ r. r.0) rs)) h in
    T-both _ _ (tags-above r.0 rs parts.0) (tags-rise rs parts.1)
