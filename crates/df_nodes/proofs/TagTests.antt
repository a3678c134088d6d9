-- Tests on tags: which is below which.
use Rattle.std.proofs.Common.{◌≡◌, Bool, true, false, not, List, [], ◌∷◌, None, ◌⊎◌, inl, inr, refl, sym, ap, subst, ◌∙◌}
use Rattle.std.specs.Prelude.{T}
use Rattle.std.specs.List.{list_all}
use Rattle.std.specs.Ordering.{eq_by_cmp, is_eq, is_lt, ordering_reverse}
use Rattle.std.specs.Cmp.{tied_itself}
use Rattle.std.specs.declared.cmp.Ordering.{Ordering}
use Rattle.std.specs.declared.cmp.Ordering.TheVariants.{Less, Equal, Greater}
use Rattle.std.specs.FinMap as finite
use Rattle.std.specs.FinMap.Entries.{below_all}
use Rattle.df_column.specs.Bounds.{is_below}
use Rattle.df_column.specs.TagOrder.{tag_total, tag_same}
use Rattle.df_column.specs.Tags.{tag_cmp}
use Rattle.df_column.specs.declared.tag.Tag.{Tag}
use Rattle.df_delta.proofs.Collected.{T-first, T-second, T-both, less_from_is_lt, find_below_all}

pub false_from_not : (b : Bool) → T (not b) → b ≡ false
false_from_not true h = absurd h
false_from_not false h = refl

pub not_from_false : (b : Bool) → b ≡ false → T (not b)
not_from_false true e = cc
not_from_false false e = tt

pub from_true : (b : Bool) → b ≡ true → T b
from_true true e = tt
from_true false e = cc

pub below_from_less : (a b : Tag) → tag_cmp a b ≡ Less → T (is_below a b)
below_from_less a b e = subst (λ r. T (is_lt r)) (sym e) tt

pub below_trans : (a b c : Tag) → T (is_below a b) → T (is_below b c) → T (is_below a c)
below_trans a b c h k = below_from_less a c (tag_total.trans a b c (less_from_is_lt _ h) (less_from_is_lt _ k))

turned : (a b : Tag) (r : Ordering) → tag_cmp a b ≡ r → tag_cmp b a ≡ ordering_reverse r
turned a b r e = tag_total.antisymm b a ∙ ap ordering_reverse e

-- a tag that another is not below is that one, or below it
pub same_or_below : (a b : Tag) → T (not (is_below b a)) → (a ≡ b) ⊎ T (is_below a b)
same_or_below a b h = by_order (tag_cmp b a) refl
  where
    by_order : (r : Ordering) → tag_cmp b a ≡ r → (a ≡ b) ⊎ T (is_below a b)
    by_order Less e = absurd (subst (λ r. T (not (is_lt r))) e h)
    by_order Equal e = inl (sym (tag_same b a e))
    by_order Greater e = inr (below_from_less a b (turned b a Greater e))

pub not_below_itself : (a : Tag) → T (not (is_below a a))
not_below_itself a = subst (λ r. T (not (is_lt r))) (sym (tied_itself tag_total a)) tt

pub not_back : (a b : Tag) → T (is_below a b) → T (not (is_below b a))
not_back a b h = subst (λ r. T (not (is_lt r))) (sym (turned a b Less (less_from_is_lt _ h))) tt

pub up_to_below : (a b c : Tag) → T (not (is_below b a)) → T (is_below b c) → T (is_below a c)
up_to_below a b c h k = by_case (same_or_below a b h)
  where
    by_case : (a ≡ b) ⊎ T (is_below a b) → T (is_below a c)
    by_case (inl e) = subst (λ x. T (is_below x c)) (sym e) k
    by_case (inr l) = below_trans a b c l k

-- a tag that is not another and not below it is above it
pub above_if_other : (a q : Tag) → T (not (is_below q a)) → eq_by_cmp tag_cmp q a ≡ false → T (is_below a q)
above_if_other a q h other = by_case (same_or_below a q h)
  where
    by_case : (a ≡ q) ⊎ T (is_below a q) → T (is_below a q)
    by_case (inl e) = let tied : eq_by_cmp tag_cmp q a ≡ true = subst (λ x. eq_by_cmp tag_cmp q x ≡ true) (sym e) (ap is_eq (tied_itself tag_total q)) in cc (tied, other)
    by_case (inr l) = l

-- a tag above another is not that one
pub other_if_below : (a q : Tag) → T (is_below a q) → eq_by_cmp tag_cmp q a ≡ false
other_if_below a q h = ap is_eq (turned a q Less (less_from_is_lt _ h))

module _ {X : Type 0} where
  -- what stands behind a tag stands behind lesser ones
  pub below_more : (a b : Tag) (es : List (Tag × X)) → T (is_below a b) → T (below_all tag_cmp b es) → T (below_all tag_cmp a es)
  below_more a b [] h k = tt
  below_more a b (e ∷ es) h k = T-both _ _ (below_trans a b e.0 h (T-first _ _ k)) (below_more a b es h (T-second _ _ k))

  pub all_above : (a : Tag) (es : List (Tag × X)) → T (below_all tag_cmp a es) → T (list_all (λ e. is_below a e.0) es)
  all_above a [] h = tt
  all_above a (e ∷ es) h = T-both _ _ (T-first _ _ h) (all_above a es (T-second _ _ h))

  -- nothing is found below the first
  pub find_before : (q : Tag) (e : Tag × X) (es : List (Tag × X)) → T (finite.is_sorted tag_cmp (e ∷ es)) → T (is_below q e.0) → finite.find tag_cmp q (e ∷ es) ≡ None
  find_before q e es sorted h = find_below_all tag_cmp q (e ∷ es) (T-both _ _ h (below_more q e.0 es h (T-first _ _ sorted)))
