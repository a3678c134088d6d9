-- What stands in a map that was made of another, entry by entry.
use Rattle.std.proofs.Common.{◌≡◌, Bool, true, false, cond, List, [], ◌∷◌, map, Option, Some, None, refl, sym, ap, subst, ◌∙◌}
use Rattle.std.specs.Prelude.{T, ◌&&◌}
use Rattle.std.specs.Option.{option_map, option_and_then}
use Rattle.std.specs.List.{filter_map, cons_option}
use Rattle.std.specs.Ordering.{eq_by_cmp, is_eq, is_lt}
use Rattle.std.specs.declared.cmp.Ordering.{Ordering}
use Rattle.std.specs.declared.cmp.Ordering.TheVariants.{Less, Equal, Greater}
use Rattle.std.specs.FinMap.{FinMap, get, entries, find, is_sorted, entries_sorted, entries-from_sorted, get-from_sorted, get-entries, IsAntisymmetric}
use Rattle.std.specs.FinMap.Entries.{below_all}
use Rattle.df_delta.specs.Collected.{collected_list, collected}

pub T-first : (a b : Bool) → T (a && b) → T a
T-first true b p = tt
T-first false b p = p

pub T-second : (a b : Bool) → T (a && b) → T b
T-second true b p = p
T-second false b p = absurd p

pub T-both : (a b : Bool) → T a → T b → T (a && b)
T-both true b p q = q
T-both false b p q = p

pub less_from_is_lt : (r : Ordering) → T (is_lt r) → r ≡ Less
less_from_is_lt Less p = refl
less_from_is_lt Equal p = absurd p
less_from_is_lt Greater p = absurd p

pub equal_from_is_eq : (r : Ordering) → T (is_eq r) → r ≡ Equal
equal_from_is_eq Less p = absurd p
equal_from_is_eq Equal p = refl
equal_from_is_eq Greater p = absurd p

module _ {K : Type 0} (R : K → K → Ordering) where
  -- a key below all keys is not found
  pub find_below_all : {X : Type 0} (q : K) (es : List (K × X)) → T (below_all R q es) → find R q es ≡ None
  find_below_all q [] h = refl
  find_below_all q (e ∷ es) h = ap (λ r. cond (is_eq r) (Some e.1) (find R q es)) (less_from_is_lt _ (T-first _ _ h)) ∙ find_below_all q es (T-second _ _ h)

  module _ {X Y : Type 0} (g : K → X → Option Y) where
    below_collected : (x : K) (es : List (K × X)) → T (below_all R x es) → T (below_all R x (collected_list g es))
    below_collected x [] h = tt
    below_collected x (e ∷ es) h =
        let rest = below_collected x es (T-second _ _ h) in
        elim (g e.0 e.1) as (λ y. T (below_all R x (cons_option (option_map (λ y. (e.0, y)) y) (collected_list g es)))) [ Some y ↦ T-both _ _ (T-first _ _ h) rest | None ↦ rest ]

    pub is_sorted-collected : (es : List (K × X)) → T (is_sorted R es) → T (is_sorted R (collected_list g es))
    is_sorted-collected [] h = tt
    is_sorted-collected (e ∷ es) h =
        let rest = is_sorted-collected es (T-second _ _ h) in
        elim (g e.0 e.1) as (λ y. T (is_sorted R (cons_option (option_map (λ y. (e.0, y)) y) (collected_list g es)))) [ Some y ↦ T-both _ _ (below_collected e.0 es (T-first _ _ h)) rest | None ↦ rest ]

    module _ (same : IsAntisymmetric R) where
      -- one look-up says it all
      pub find-collected : (q : K) (es : List (K × X)) → T (is_sorted R es) → find R q (collected_list g es) ≡ option_and_then (g q) (find R q es)
      find-collected q [] h = refl
      find-collected q (e ∷ es) h =
          let below = below_collected e.0 es (T-first _ _ h) in
          let rest = find-collected q es (T-second _ _ h) in
          elim (eq_by_cmp R q e.0) as (λ b. eq_by_cmp R q e.0 ≡ b → find R q (collected_list g (e ∷ es)) ≡ option_and_then (g q) (cond b (Some e.1) (find R q es))) [
            | true ↦ λ t.
                let key : q ≡ e.0 = same q e.0 (equal_from_is_eq _ (subst T (sym t) tt)) in
                let none : find R q (collected_list g es) ≡ None = find_below_all q (collected_list g es) (subst (λ k. T (below_all R k (collected_list g es))) (sym key) below) in
                elim (g e.0 e.1) as (λ y. find R q (cons_option (option_map (λ y. (e.0, y)) y) (collected_list g es)) ≡ y) [
                  | Some y ↦ ap (λ b. cond b (Some y) (find R q (collected_list g es))) t
                  | None ↦ none
                ] ∙ ap (λ k. g k e.1) (sym key)
            | false ↦ λ t.
                elim (g e.0 e.1) as (λ y. find R q (cons_option (option_map (λ y. (e.0, y)) y) (collected_list g es)) ≡ find R q (collected_list g es)) [
                  | Some y ↦ ap (λ b. cond b (Some y) (find R q (collected_list g es))) t
                  | None ↦ refl
                ] ∙ rest
          ] refl

      pub get-collected : (t : FinMap R X) (q : K) → get (collected g t) q ≡ option_and_then (g q) (get t q)
      get-collected t q =
          get-from_sorted R (collected_list g (entries t)) q (is_sorted-collected (entries t) (entries_sorted t))
          ∙ find-collected q (entries t) (entries_sorted t)
          ∙ ap (option_and_then (g q)) (sym (get-entries t q))

    pub entries-collected : (t : FinMap R X) → entries (collected {R = R} g t) ≡ collected_list g (entries t)
    entries-collected t = entries-from_sorted R _ (is_sorted-collected (entries t) (entries_sorted t))

-- where the result does not depend on the key, the values are the results in order
module _ {K X Y : Type 0} (f : X → Option Y) where
  pub values-collected_list : (es : List (K × X)) → map (λ e. e.1) (collected_list (λ _. f) es) ≡ filter_map f (map (λ e. e.1) es)
  values-collected_list [] = refl
  values-collected_list (e ∷ es) =
      elim (f e.1) as (λ y. map (λ e. e.1) (cons_option (option_map (λ y. (e.0, y)) y) (collected_list (λ _. f) es)) ≡ cons_option y (filter_map f (map (λ e. e.1) es))) [
        | Some y ↦ ap (λ ys. y ∷ ys) (values-collected_list es)
        | None ↦ values-collected_list es
      ]

  pub values-collected : {R : K → K → Ordering} (t : FinMap R X) → map (λ e. e.1) (entries (collected {R = R} (λ _. f) t)) ≡ filter_map f (map (λ e. e.1) (entries t))
  values-collected {R} t = ap (map (λ e. e.1)) (entries-collected R (λ _. f) t) ∙ values-collected_list (entries t)
