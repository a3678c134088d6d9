-- Tags in order, each once.
use Rattle.std.proofs.Common.{◌≡◌, Bool, true, false, List, [], ◌∷◌, ◌++◌, Option, Some, None, cond, map, filter, refl, sym, ap, subst, ◌∙◌}
use Rattle.std.specs.Prelude.{T, ◌||◌, is_some, ℕ}
use Rattle.std.specs.List.{AllByRecursion, dedup, list_any}
use Rattle.std.specs.List.Sorted.{IsPermutation, IsSorted, IsStrictlySortedBy}
use Rattle.std.specs.Option.{IfSome}
use Rattle.std.specs.Ordering.{eq_by_cmp}
use Rattle.std.specs.declared.cmp.Ordering.TheVariants.{Less}
use Rattle.std.specs.Cmp.{eq_by_cmp_equiv}
use Rattle.std.specs.FinMap as finite
use Rattle.std.specs.FinMap.Entries.{below_all}
use Rattle.std.proofs.lemmas.List.Folds.{Any-from_list_any, list_any-append, list_any_at}
use Rattle.std.proofs.lemmas.List.Kept.{Contains-dedup, IsStrictlySortedBy-dedup}
use Rattle.std.proofs.lemmas.List.Sorted.{list_any-IsPermutation}
use Rattle.df_value.specs.declared.cell.Cell.{Cell}
use Rattle.df_column.proofs.Bools.{T-both, is_lt_from_less}
use Rattle.df_column.specs.TagOrder.{tag_total, tag_same}
use Rattle.df_column.specs.Tables.{TaggedRows}
use Rattle.df_column.specs.Tags.{tag_cmp}
use Rattle.df_column.specs.declared.tag.Tag.{Tag}
use Rattle.df_delta.specs.Deltas.{Changes}
use Rattle.df_delta.specs.Reached.{are_rising, is_reached}
use Rattle.df_ranks.specs.Reach.{Reaches, is_row_above, is_row_above_any, tags_above, tags_above_any}
use Rattle.df_ranks.proofs.Entries.{tie_same, tied}

below_marks : (k : Tag) (ks : List Tag) → AllByRecursion (λ y. tag_cmp k y ≡ Less) ks → T (below_all tag_cmp k (map (λ q. (q, true)) ks))
below_marks k [] h = tt
below_marks k (x ∷ ks) h = T-both _ _ (is_lt_from_less _ h.0) (below_marks k ks h.1)

strict_rises : (ks : List Tag) → IsStrictlySortedBy tag_cmp ks → T (are_rising ks)
unfolding IsStrictlySortedBy
strict_rises [] h = tt
strict_rises (k ∷ ks) h = T-both _ _ (below_marks k ks h.0) (strict_rises ks h.1)

-- what `dedup` leaves of tags in order
module _ (given sorted : List Tag) (same : IsPermutation given sorted) (rises : IsSorted tag_cmp sorted) where
  kept : List Tag
  kept = dedup (eq_by_cmp tag_cmp) sorted

  pub kept_rises : T (are_rising (dedup (eq_by_cmp tag_cmp) sorted))
  kept_rises = strict_rises (dedup (eq_by_cmp tag_cmp) sorted) (IsStrictlySortedBy-dedup tag_total {E = eq_by_cmp tag_cmp} (λ x y. refl) sorted rises)

  pub not_given : (q : Tag) → is_reached (dedup (eq_by_cmp tag_cmp) sorted) q ≡ false → is_reached given q ≡ false
  not_given q none = by_given (is_reached given q) refl where
    by_given : (b : Bool) → is_reached given q ≡ b → b ≡ false
    by_given true e =
        let any = Any-from_list_any (eq_by_cmp tag_cmp q) sorted (sym (list_any-IsPermutation (eq_by_cmp tag_cmp q) given sorted same) ∙ e) in
        let here : any.1 ≡ q = sym (tied tag_total tag_same q any.1 any.4) in
        let there = Contains-dedup (eq_by_cmp_equiv tag_total) (λ x y t. tied tag_total tag_same x y t) sorted any.1 (any.0, any.2, any.3) in
        sym (list_any_at (eq_by_cmp tag_cmp q) (dedup (eq_by_cmp tag_cmp) sorted) there.0 any.1 there.1 (tie_same tag_total _ q (there.2 ∙ here))) ∙ none
    by_given false e = refl

-- a row above the least has its tag among those
above_found : (index : Option ℕ) (least : Cell) (q : Tag) (es : List (Tag × List Cell)) (row : List Cell) → finite.find tag_cmp q es ≡ Some row → is_row_above index least row ≡ true → list_any (eq_by_cmp tag_cmp q) (tags_above index least es) ≡ true
above_found index least q [] row e above = cc e
above_found index least q (f ∷ es) row e above = by_tie (eq_by_cmp tag_cmp q f.0) refl e (above_found index least q es row) where
  rest : List (Tag × List Cell)
  rest = filter (λ r. is_row_above index least r.1) es

  by_tie : (b : Bool) → eq_by_cmp tag_cmp q f.0 ≡ b → cond b (Some f.1) (finite.find tag_cmp q es) ≡ Some row
      → (finite.find tag_cmp q es ≡ Some row → is_row_above index least row ≡ true → list_any (eq_by_cmp tag_cmp q) (tags_above index least es) ≡ true)
      → list_any (eq_by_cmp tag_cmp q) (map (λ r. r.0) (cond (is_row_above index least f.1) (f ∷ filter (λ r. is_row_above index least r.1) es) (filter (λ r. is_row_above index least r.1) es))) ≡ true
  by_tie true t e more =
      let is : f.1 ≡ row = cc e in
      ap (λ b. list_any (eq_by_cmp tag_cmp q) (map (λ r. r.0) (cond b (f ∷ filter (λ r. is_row_above index least r.1) es) (filter (λ r. is_row_above index least r.1) es)))) (ap (is_row_above index least) is ∙ above)
      ∙ ap (λ b. b || list_any (eq_by_cmp tag_cmp q) (tags_above index least es)) t
  by_tie false t e more =
      elim (is_row_above index least f.1) as (λ b. list_any (eq_by_cmp tag_cmp q) (map (λ r. r.0) (cond b (f ∷ filter (λ r. is_row_above index least r.1) es) (filter (λ r. is_row_above index least r.1) es))) ≡ true) [
        | true ↦ ap (λ b. b || list_any (eq_by_cmp tag_cmp q) (tags_above index least es)) t ∙ more e above
        | false ↦ more e above
      ]

neither : (a b : Bool) → (a || b) ≡ false → (a ≡ false) × (b ≡ false)
neither true b h = cc h
neither false b h = (refl, h)

none_of : {X : Type 0} (o : Option X) → is_some o ≡ false → o ≡ None
none_of None e = refl
none_of (Some x) e = cc e

pub reaches : (delta : Changes) (input : TaggedRows) (index : Option ℕ) (least : Option Cell) (given sorted tags : List Tag)
    → given ≡ finite.keys delta ++ tags_above_any index least (finite.entries input) → IsPermutation given sorted → IsSorted tag_cmp sorted → tags ≡ dedup (eq_by_cmp tag_cmp) sorted → Reaches tags delta input index least
reaches delta input index least given sorted tags made same rises is = record {
  rising = subst (λ ts. T (are_rising ts)) (sym is) (kept_rises given sorted same rises);
  changed = λ q none. none_of (finite.get delta q) (finite.contains_key-keys delta q ∙ (parts q none).0);
  above = λ q none. by_least q least (parts q none).1;
} where
  parts : (q : Tag) → is_reached tags q ≡ false → (list_any (eq_by_cmp tag_cmp q) (finite.keys delta) ≡ false) × (list_any (eq_by_cmp tag_cmp q) (tags_above_any index least (finite.entries input)) ≡ false)
  parts q none = neither _ _ (sym (list_any-append (eq_by_cmp tag_cmp q) (finite.keys delta) (tags_above_any index least (finite.entries input))) ∙ ap (list_any (eq_by_cmp tag_cmp q)) (sym made) ∙ not_given given sorted same rises q (ap (λ ts. is_reached ts q) (sym is) ∙ none))

  by_least : (q : Tag) (l : Option Cell) → list_any (eq_by_cmp tag_cmp q) (tags_above_any index l (finite.entries input)) ≡ false → IfSome (finite.get input q) (λ row. is_row_above_any index l row ≡ false)
  by_least q None none = by_row (finite.get input q) where
    by_row : (o : Option (List Cell)) → IfSome o (λ row. false ≡ false)
    by_row None = tt
    by_row (Some row) = refl
  by_least q (Some l) none = by_row (finite.get input q) (sym (finite.get-entries input q)) where
    by_row : (o : Option (List Cell)) → finite.find tag_cmp q (finite.entries input) ≡ o → IfSome o (λ row. is_row_above index l row ≡ false)
    by_row None e = tt
    by_row (Some row) e = by_above (is_row_above index l row) refl where
      by_above : (b : Bool) → is_row_above index l row ≡ b → b ≡ false
      by_above true a = sym (above_found index l q (finite.entries input) row e a) ∙ none
      by_above false a = refl
