-- What stands in a table of pairs.
use Rattle.std.proofs.Common.{◌≡◌, Bool, true, false, cond, List, [], ◌∷◌, ◌++◌, Option, Some, None, refl, sym, ap, subst, ◌∙◌}
use Rattle.std.specs.Prelude.{T}
use Rattle.std.specs.Option.{IfSome, option_and_then}
use Rattle.std.specs.Ordering.{eq_by_cmp, is_eq, is_lt}
use Rattle.std.specs.Cmp.{tied_itself}
use Rattle.std.specs.declared.cmp.Ordering.TheVariants.{Less}
use Rattle.std.specs.FinMap.{FinMap, get, entries, entries_sorted, is_sorted, find, get-entries, get-from_sorted, entries-from_sorted}
use Rattle.std.specs.FinMap.Entries.{below_all}
use Rattle.df_column.specs.declared.tag.Tag.{Tag}
use Rattle.df_column.specs.Tags.{tag_cmp}
use Rattle.df_join.specs.Spread.{first_some}
use Rattle.df_column.specs.TagOrder.{tag_total, tag_same}
use Rattle.df_delta.proofs.Collected.{T-first, T-second, T-both, less_from_is_lt, equal_from_is_eq, find_below_all}
use Rattle.df_join.specs.Spread.{IsLeftTag, IsRightTag, tag_left, tag_right, combine, HasKeys, AllKeys, rekeyed, spread_list, spread}
use Rattle.df_join.proofs.Tags.{eq_combine, cmp_combine, less_combine}

pub tied : (q k : Tag) → eq_by_cmp tag_cmp q k ≡ true → q ≡ k
tied q k b = tag_same q k (equal_from_is_eq _ (subst T (sym b) tt))

module _ {X : Type 0} where
  -- a key below all others is none of them
  tail_key : (P : Tag → Type 0) (e : Tag × X) (es : List (Tag × X)) (q : Tag) → T (below_all tag_cmp e.0 es) → IfSome (find tag_cmp q (e ∷ es)) (λ _. P q) → IfSome (find tag_cmp q es) (λ _. P q)
  tail_key P e es q below h = elim (eq_by_cmp tag_cmp q e.0) as (λ b. eq_by_cmp tag_cmp q e.0 ≡ b → IfSome (cond b (Some e.1) (find tag_cmp q es)) (λ _. P q) → IfSome (find tag_cmp q es) (λ _. P q)) [
    | true ↦ λ b h. subst (λ f. IfSome f (λ _. P q)) (sym (find_below_all tag_cmp q es (subst (λ k. T (below_all tag_cmp k es)) (sym (tied q e.0 b)) below))) tt
    | false ↦ λ b h. h
  ] refl h

  all_keys_list : (P : Tag → Type 0) (es : List (Tag × X)) → T (is_sorted tag_cmp es) → ((q : Tag) → IfSome (find tag_cmp q es) (λ _. P q)) → AllKeys P es
  all_keys_list P [] h f = tt
  all_keys_list P (e ∷ es) h f = (
    subst (λ r. IfSome (cond (is_eq r) (Some e.1) (find tag_cmp e.0 es)) (λ _. P e.0)) (tied_itself tag_total e.0) (f e.0),
    all_keys_list P es (T-second _ _ h) (λ q. tail_key P e es q (T-first _ _ h) (f q)),
  )

  pub all_keys : (P : Tag → Type 0) (t : FinMap tag_cmp X) → HasKeys P t → AllKeys P (entries t)
  all_keys P t h = all_keys_list P (entries t) (entries_sorted t) (λ q. subst (λ f. IfSome f (λ _. P q)) (get-entries t q) (h.at q))

  pub find-append : (q : Tag) (es fs : List (Tag × X)) → find tag_cmp q (es ++ fs) ≡ first_some (find tag_cmp q es) (find tag_cmp q fs)
  find-append q [] fs = refl
  find-append q (e ∷ es) fs = elim (eq_by_cmp tag_cmp q e.0) as (λ b. cond b (Some e.1) (find tag_cmp q (es ++ fs)) ≡ first_some (cond b (Some e.1) (find tag_cmp q es)) (find tag_cmp q fs)) [ true ↦ refl | false ↦ find-append q es fs ]

  below_append : (k : Tag) (es fs : List (Tag × X)) → T (below_all tag_cmp k es) → T (below_all tag_cmp k fs) → T (below_all tag_cmp k (es ++ fs))
  below_append k [] fs h g = g
  below_append k (e ∷ es) fs h g = T-both _ _ (T-first _ _ h) (below_append k es fs (T-second _ _ h) g)

  sorted_append : (es fs : List (Tag × X)) → T (is_sorted tag_cmp es) → T (is_sorted tag_cmp fs) → AllKeys (λ k. T (below_all tag_cmp k fs)) es → T (is_sorted tag_cmp (es ++ fs))
  sorted_append [] fs h g below = g
  sorted_append (e ∷ es) fs h g below = T-both _ _ (below_append e.0 es fs (T-first _ _ h) below.0) (sorted_append es fs (T-second _ _ h) g below.1)

  module _ (one : Bool) where
    below_rekeyed : (p s : Tag) (es : List (Tag × X)) → IsLeftTag one p → IsRightTag one s → AllKeys (IsRightTag one) es → T (below_all tag_cmp s es) → T (below_all tag_cmp (combine one p s) (rekeyed one p es))
    below_rekeyed p s [] h k all below = tt
    below_rekeyed p s (e ∷ es) h k all below = T-both _ _ (subst (λ r. T (is_lt r)) (sym (cmp_combine one p s e.0 h k all.0)) (T-first _ _ below)) (below_rekeyed p s es h k all.1 (T-second _ _ below))

    pub sorted_rekeyed : (p : Tag) (es : List (Tag × X)) → IsLeftTag one p → AllKeys (IsRightTag one) es → T (is_sorted tag_cmp es) → T (is_sorted tag_cmp (rekeyed one p es))
    sorted_rekeyed p [] h all sorted = tt
    sorted_rekeyed p (e ∷ es) h all sorted = T-both _ _ (below_rekeyed p e.0 es h all.0 all.1 (T-first _ _ sorted)) (sorted_rekeyed p es h all.1 (T-second _ _ sorted))

    -- all pairs of a greater left tag come later
    below_later : (p s q : Tag) (es : List (Tag × X)) → IsLeftTag one p → IsLeftTag one q → tag_cmp p q ≡ Less → T (below_all tag_cmp (combine one p s) (rekeyed one q es))
    below_later p s q [] h k lt = tt
    below_later p s q (e ∷ es) h k lt = T-both _ _ (subst (λ r. T (is_lt r)) (sym (less_combine one p s q e.0 h k lt)) tt) (below_later p s q es h k lt)

    none_then : (b c : Bool) (x y : Option X) → cond (cond b c false) x (cond b y None) ≡ cond b (cond c x y) None
    none_then true c x y = refl
    none_then false c x y = refl

    nothing : (b : Bool) → ◌≡◌ {A = Option X} None (cond b None None)
    nothing true = refl
    nothing false = refl

    pub find_rekeyed : (q p : Tag) (es : List (Tag × X)) → IsLeftTag one p → AllKeys (IsRightTag one) es → find tag_cmp q (rekeyed one p es) ≡ cond (eq_by_cmp tag_cmp (tag_left one q) p) (find tag_cmp (tag_right one q) es) None
    find_rekeyed q p [] h all = nothing (eq_by_cmp tag_cmp (tag_left one q) p)
    find_rekeyed q p (e ∷ es) h all =
        (λ i. cond (eq_combine one q p e.0 h all.0 i) (Some e.1) (find_rekeyed q p es h all.1 i))
        ∙ none_then (eq_by_cmp tag_cmp (tag_left one q) p) (eq_by_cmp tag_cmp (tag_right one q) e.0) (Some e.1) (find tag_cmp (tag_right one q) es)

module _ {X Y : Type 0} (one : Bool) (g : X → FinMap tag_cmp Y) (right : (x : X) → HasKeys (IsRightTag one) (g x)) where
  below_spread : (p s : Tag) (es : List (Tag × X)) → IsLeftTag one p → AllKeys (IsLeftTag one) es → T (below_all tag_cmp p es) → T (below_all tag_cmp (combine one p s) (spread_list one g es))
  below_spread p s [] h all below = tt
  below_spread p s (e ∷ es) h all below =
      below_append (combine one p s) (rekeyed one e.0 (entries (g e.1))) (spread_list one g es)
      (below_later one p s e.0 (entries (g e.1)) h all.0 (less_from_is_lt _ (T-first _ _ below)))
      (below_spread p s es h all.1 (T-second _ _ below))

  below_each : (p : Tag) (fs : List (Tag × Y)) (es : List (Tag × X)) → IsLeftTag one p → AllKeys (IsLeftTag one) es → T (below_all tag_cmp p es) → AllKeys (λ k. T (below_all tag_cmp k (spread_list one g es))) (rekeyed one p fs)
  below_each p [] es h all below = tt
  below_each p (f ∷ fs) es h all below = (below_spread p f.0 es h all below, below_each p fs es h all below)

  pub sorted_list : (es : List (Tag × X)) → AllKeys (IsLeftTag one) es → T (is_sorted tag_cmp es) → T (is_sorted tag_cmp (spread_list one g es))
  sorted_list [] all h = tt
  sorted_list (e ∷ es) all h =
      sorted_append (rekeyed one e.0 (entries (g e.1))) (spread_list one g es)
      (sorted_rekeyed one e.0 (entries (g e.1)) all.0 (all_keys (IsRightTag one) (g e.1) (right e.1)) (entries_sorted (g e.1)))
      (sorted_list es all.1 (T-second _ _ h))
      (below_each e.0 (entries (g e.1)) es all.0 all.1 (T-first _ _ h))

  first_none : (y : Option Y) → first_some y None ≡ y
  first_none (Some y) = refl
  first_none None = refl

  pub find_list : (q : Tag) (es : List (Tag × X)) → AllKeys (IsLeftTag one) es → T (is_sorted tag_cmp es) → find tag_cmp q (spread_list one g es) ≡ option_and_then (λ x. get (g x) (tag_right one q)) (find tag_cmp (tag_left one q) es)
  find_list q [] all h = refl
  find_list q (e ∷ es) all h =
      find-append q (rekeyed one e.0 (entries (g e.1))) (spread_list one g es)
      ∙ ap (λ y. first_some y (find tag_cmp q (spread_list one g es))) (find_rekeyed one q e.0 (entries (g e.1)) all.0 (all_keys (IsRightTag one) (g e.1) (right e.1)))
      ∙ ap (first_some (cond (eq_by_cmp tag_cmp (tag_left one q) e.0) (find tag_cmp (tag_right one q) (entries (g e.1))) None)) (find_list q es all.1 (T-second _ _ h))
      ∙ elim (eq_by_cmp tag_cmp (tag_left one q) e.0) as (λ b. eq_by_cmp tag_cmp (tag_left one q) e.0 ≡ b → first_some (cond b (find tag_cmp (tag_right one q) (entries (g e.1))) None) (option_and_then (λ x. get (g x) (tag_right one q)) (find tag_cmp (tag_left one q) es)) ≡ option_and_then (λ x. get (g x) (tag_right one q)) (cond b (Some e.1) (find tag_cmp (tag_left one q) es))) [
        | true ↦ λ b.
            let none : find tag_cmp (tag_left one q) es ≡ None = find_below_all tag_cmp (tag_left one q) es (subst (λ k. T (below_all tag_cmp k es)) (sym (tied (tag_left one q) e.0 b)) (T-first _ _ h)) in
            ap (λ f. first_some (find tag_cmp (tag_right one q) (entries (g e.1))) (option_and_then (λ x. get (g x) (tag_right one q)) f)) none
            ∙ first_none (find tag_cmp (tag_right one q) (entries (g e.1)))
            ∙ sym (get-entries (g e.1) (tag_right one q))
        | false ↦ λ b. refl
      ] refl

  module _ (t : FinMap tag_cmp X) (left : HasKeys (IsLeftTag one) t) where
    sorted : T (is_sorted tag_cmp (spread_list one g (entries t)))
    sorted = sorted_list (entries t) (all_keys (IsLeftTag one) t left) (entries_sorted t)

    pub entries-spread : entries (spread one g t) ≡ spread_list one g (entries t)
    entries-spread = entries-from_sorted tag_cmp (spread_list one g (entries t)) sorted

    -- what stands at a tag is what the row at its left part has at its right part
    pub get-spread : (q : Tag) → get (spread one g t) q ≡ option_and_then (λ x. get (g x) (tag_right one q)) (get t (tag_left one q))
    get-spread q =
        get-from_sorted tag_cmp (spread_list one g (entries t)) q sorted
        ∙ find_list q (entries t) (all_keys (IsLeftTag one) t left) (entries_sorted t)
        ∙ ap (option_and_then (λ x. get (g x) (tag_right one q))) (sym (get-entries t (tag_left one q)))
