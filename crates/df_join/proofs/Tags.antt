-- The parts of a tag.
use Rattle.std.proofs.Common.{◌≡◌, ℕ, ◌≤◌, ◌+◌, Bool, true, false, cond, nat_eq, refl, sym, ap, subst, ◌∙◌, arith}
use Rattle.std.specs.Prelude.{T}
use Rattle.std.specs.Ordering.{nat_cmp, ordering_then, eq_by_cmp, is_eq}
use Rattle.std.specs.declared.cmp.Ordering.{Ordering}
use Rattle.std.specs.declared.cmp.Ordering.TheVariants.{Less, Equal, Greater}
use Rattle.std.specs.Cmp.{tied_itself}
use Rattle.std.proofs.lemmas.Bool.{eqb-true}
use Rattle.df_column.specs.declared.tag.Tag.{Tag}
use Rattle.df_column.specs.Tags.{tag_cmp}
use Rattle.df_delta.proofs.Collected.{equal_from_is_eq}
use Rattle.std.proofs.lemmas.Bool.Decides.{nat_tests}
use Rattle.df_column.specs.TagOrder.{tag_total}
use Rattle.df_join.specs.Spread.{no_tag, tag_left, tag_right, combine, IsZeroPast, IsTagOver, IsLeftTag, IsRightTag}

then_none : (x : Ordering) → x ≡ ordering_then x Equal
then_none Less = refl
then_none Equal = refl
then_none Greater = refl

one_first : (x y z : Ordering) → ordering_then x (ordering_then y z) ≡ ordering_then (ordering_then x Equal) (ordering_then y (ordering_then z Equal))
one_first Less y z = refl
one_first Equal y z = ap (ordering_then y) (then_none z)
one_first Greater y z = refl

two_first : (x y z : Ordering) → ordering_then x (ordering_then y z) ≡ ordering_then (ordering_then x (ordering_then y Equal)) (ordering_then z Equal)
two_first Less y z = refl
two_first Equal Less z = refl
two_first Equal Equal z = then_none z
two_first Equal Greater z = refl
two_first Greater y z = refl

-- by the left parts, then by the right parts
pub cmp_split : (one : Bool) (p q : Tag) → tag_cmp p q ≡ ordering_then (tag_cmp (tag_left one p) (tag_left one q)) (tag_cmp (tag_right one p) (tag_right one q))
cmp_split true p q = one_first (nat_cmp p.first q.first) (nat_cmp p.second q.second) (nat_cmp p.third q.third)
cmp_split false p q = two_first (nat_cmp p.first q.first) (nat_cmp p.second q.second) (nat_cmp p.third q.third)

-- both parts give the tag
pub combine_parts : (one : Bool) (q : Tag) → combine one (tag_left one q) (tag_right one q) ≡ q
combine_parts true q = refl
combine_parts false q = refl

pub left_of : (one : Bool) (p s : Tag) → IsLeftTag one p → tag_left one (combine one p s) ≡ p
left_of true p s h = h
left_of false p s h = h

pub right_of : (one : Bool) (p s : Tag) → IsRightTag one s → tag_right one (combine one p s) ≡ s
right_of true p s h = h
right_of false p s h = h

pub no_right : (one : Bool) → IsRightTag one no_tag
no_right true = refl
no_right false = refl

-- from the tags over the scans of a side
pub left_tag : (a : ℕ) (p : Tag) → a ≤ 2 → IsZeroPast a p → IsLeftTag (nat_eq a 1) p
left_tag a p le h = elim (nat_eq a 1) as (λ b. nat_eq a 1 ≡ b → IsLeftTag b p) [
  | true ↦ λ e.
      let one : a ≡ 1 = eqb-true a 1 e in
      let second : p.second ≡ 0 = h.second (omega arith) in
      let third : p.third ≡ 0 = h.third le in
      λ i. record { first = p.first; second = sym second i; third = sym third i }
  | false ↦ λ e.
      let third : p.third ≡ 0 = h.third le in
      λ i. record { first = p.first; second = p.second; third = sym third i }
] refl

pub right_tag : (a b : ℕ) (s : Tag) → 1 ≤ a → 1 ≤ b → a + b ≤ 3 → IsZeroPast b s → IsRightTag (nat_eq a 1) s
right_tag a b s ha hb le h = elim (nat_eq a 1) as (λ c. nat_eq a 1 ≡ c → IsRightTag c s) [
  | true ↦ λ e.
      let third : s.third ≡ 0 = h.third (omega arith) in
      λ i. record { first = s.first; second = s.second; third = sym third i }
  | false ↦ λ e.
      let two : 2 ≤ a = grind (arith, nat_tests) in
      let second : s.second ≡ 0 = h.second (omega arith) in
      let third : s.third ≡ 0 = h.third (omega arith) in
      λ i. record { first = s.first; second = sym second i; third = sym third i }
] refl

-- a joined pair's tag is one over the scans of both sides
pub joined_tag : (a b : ℕ) (p s : Tag) → 1 ≤ a → 1 ≤ b → a + b ≤ 3 → IsTagOver a p → IsZeroPast b s → IsTagOver (a + b) (combine (nat_eq a 1) p s)
joined_tag a b p s ha hb le h k = elim (nat_eq a 1) as (λ c. nat_eq a 1 ≡ c → IsTagOver (a + b) (combine c p s)) [
  | true ↦ λ e. let one : a ≡ 1 = eqb-true a 1 e in record { begins = h.begins; ends = record { first = λ n. absurd (omega arith); second = λ n. absurd (omega arith); third = λ n. k.second (omega arith) } }
  | false ↦ λ e. let two : 2 ≤ a = grind (arith, nat_tests) in record { begins = h.begins; ends = record { first = λ n. absurd (omega arith); second = λ n. absurd (omega arith); third = λ n. absurd (omega arith) } }
] refl

module _ (one : Bool) where
  tied_then : (r s : Ordering) → is_eq (ordering_then r s) ≡ cond (is_eq r) (is_eq s) false
  tied_then Less s = refl
  tied_then Equal s = refl
  tied_then Greater s = refl

  tied_self : (q : Tag) → tag_cmp q q ≡ Equal
  tied_self q = equal_from_is_eq _ (subst T (sym (ap is_eq (tied_itself tag_total q))) tt)

  -- a tag is this pair's where both parts are
  pub eq_combine : (q p s : Tag) → IsLeftTag one p → IsRightTag one s → eq_by_cmp tag_cmp q (combine one p s) ≡ cond (eq_by_cmp tag_cmp (tag_left one q) p) (eq_by_cmp tag_cmp (tag_right one q) s) false
  eq_combine q p s h k =
      ap is_eq (cmp_split one q (combine one p s))
      ∙ tied_then (tag_cmp (tag_left one q) (tag_left one (combine one p s))) (tag_cmp (tag_right one q) (tag_right one (combine one p s)))
      ∙ (λ i. cond (eq_by_cmp tag_cmp (tag_left one q) (left_of one p s h i)) (eq_by_cmp tag_cmp (tag_right one q) (right_of one p s k i)) false)

  -- the pairs of one left tag are in the order of their right tags
  pub cmp_combine : (p s r : Tag) → IsLeftTag one p → IsRightTag one s → IsRightTag one r → tag_cmp (combine one p s) (combine one p r) ≡ tag_cmp s r
  cmp_combine p s r h k m =
      cmp_split one (combine one p s) (combine one p r)
      ∙ (λ i. ordering_then (tag_cmp (left_of one p s h i) (left_of one p r h i)) (tag_cmp (right_of one p s k i) (right_of one p r m i)))
      ∙ ap (λ o. ordering_then o (tag_cmp s r)) (tied_self p)

  -- the pairs of a lesser left tag come first
  pub less_combine : (p s q r : Tag) → IsLeftTag one p → IsLeftTag one q → tag_cmp p q ≡ Less → tag_cmp (combine one p s) (combine one q r) ≡ Less
  less_combine p s q r h k lt =
      cmp_split one (combine one p s) (combine one q r)
      ∙ (λ i. ordering_then (tag_cmp (left_of one p s h i) (left_of one q r k i)) (tag_cmp (tag_right one (combine one p s)) (tag_right one (combine one q r))))
      ∙ ap (λ o. ordering_then o (tag_cmp (tag_right one (combine one p s)) (tag_right one (combine one q r)))) lt
