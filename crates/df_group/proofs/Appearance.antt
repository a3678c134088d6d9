-- The groups in the order of their first tags are the groups by first appearance.
use Rattle.std.proofs.Common.{◌≡◌, Bool, true, false, not, cond, List, [], ◌∷◌, ◌++◌, map, Option, Some, None, refl, sym, ap, subst, ◌∙◌, append_assoc}
use Rattle.std.specs.Prelude.{T, ◌||◌, ◌&&◌}
use Rattle.std.specs.Option.{option_map}
use Rattle.std.specs.List.{list_any, filter, filter_map, cons_option}
use Rattle.std.specs.Ordering.{eq_by_cmp, is_eq, ordering_reverse}
use Rattle.std.specs.declared.cmp.Ordering.{Ordering}
use Rattle.std.specs.declared.cmp.Ordering.TheVariants.{Less}
use Rattle.std.specs.Cmp.{IsTotalOrder, tied_itself}
use Rattle.std.specs.FinMap.{FinMap, entries, values, entries_sorted, is_sorted}
use Rattle.std.specs.FinMap.Entries.{below_all}
use Rattle.df_delta.specs.Collected.{collected_list}
use Rattle.df_delta.specs.Keyed.{of_key, members}
use Rattle.df_group.specs.Grouped.{group_entry, at_tag, grouped}
use Rattle.df_delta.proofs.Collected.{T-first, T-second, less_from_is_lt, entries-collected, values-collected_list}

or_none : (b : Bool) → (b || false) ≡ b
or_none true = refl
or_none false = refl

pub any_append : {X : Type 0} (p : X → Bool) (xs : List X) (x : X) → list_any p (xs ++ x ∷ []) ≡ (list_any p xs || p x)
any_append p [] x = or_none (p x)
any_append p (y ∷ ys) x = elim (p y) as (λ b. (b || list_any p (ys ++ x ∷ [])) ≡ ((b || list_any p ys) || p x)) [ true ↦ refl | false ↦ any_append p ys x ]

pub not_or : (a b : Bool) → not (a || b) ≡ (not a && not b)
not_or true b = refl
not_or false b = refl

-- one filter that asks both
pub filter-both : {X : Type 0} (p q r : X → Bool) → ((x : X) → r x ≡ (p x && q x)) → (xs : List X) → filter r xs ≡ filter p (filter q xs)
filter-both p q r h [] = refl
filter-both p q r h (x ∷ xs) =
    ap (λ b. cond b (x ∷ filter r xs) (filter r xs)) (h x)
    ∙ elim (p x) as (λ b. p x ≡ b → cond (b && q x) (x ∷ filter r xs) (filter r xs) ≡ filter p (cond (q x) (x ∷ filter q xs) (filter q xs))) [
      | true ↦ λ e. elim (q x) as (λ c. cond c (x ∷ filter r xs) (filter r xs) ≡ filter p (cond c (x ∷ filter q xs) (filter q xs))) [
        | true ↦ ap (λ ys. x ∷ ys) (filter-both p q r h xs) ∙ ap (λ b. cond b (x ∷ filter p (filter q xs)) (filter p (filter q xs))) (sym e)
        | false ↦ filter-both p q r h xs
      ]
      | false ↦ λ e. elim (q x) as (λ c. filter r xs ≡ filter p (cond c (x ∷ filter q xs) (filter q xs))) [
        | true ↦ filter-both p q r h xs ∙ ap (λ b. cond b (x ∷ filter p (filter q xs)) (filter p (filter q xs))) (sym e)
        | false ↦ filter-both p q r h xs
      ]
    ] refl

-- the distinct keys by first appearance, and what is made of each key with its items
abbrev pub keys_in_order : {X G : Type 0} → (X → G) → (G → G → Bool) → List X → List G
keys_in_order key same_key [] = []
keys_in_order key same_key (x ∷ xs) = key x ∷ filter (λ g. not (same_key (key x) g)) (keys_in_order key same_key xs)

abbrev pub by_first_appearance : {X G Y : Type 0} → (X → G) → (G → G → Bool) → (G → List X → Y) → List X → List Y
by_first_appearance key same_key result xs = map (λ k. result k (filter (λ x. same_key (key x) k) xs)) (keys_in_order key same_key xs)

-- a filter_map by a test is a filter
filter_map_by_test : {X : Type 0} (p : X → Bool) (xs : List X) → filter_map (λ x. cond (p x) (Some x) None) xs ≡ filter p xs
filter_map_by_test p [] = refl
filter_map_by_test p (x ∷ xs) = elim (p x) as (λ b. cons_option (cond b (Some x) None) (filter_map (λ x. cond (p x) (Some x) None) xs) ≡ cond b (x ∷ filter p xs) (filter p xs)) [ true ↦ ap (λ ys. x ∷ ys) (filter_map_by_test p xs) | false ↦ filter_map_by_test p xs ]

module _ {K X G Y : Type 0} {R : K → K → Ordering} (o : IsTotalOrder R) (key : X → G) (same_key : G → G → Bool) (itself : (a : G) → same_key a a ≡ true) (result : G → List X → Y) where
  abbrev of_list : G → List (K × X) → List (K × X)
  of_list k es = collected_list (λ _. of_key key same_key k) es

  abbrev result_in : List (K × X) → K → X → Option Y
  result_in es q x = at_tag R q (group_entry result (key x) (of_list (key x) es))

  abbrev result_of : List (K × X) → G → Y
  result_of es k = result k (map (λ e. e.1) (of_list k es))

  abbrev seen : List (K × X) → G → Bool
  seen pre k = list_any (λ e. same_key (key e.1) k) pre

  abbrev Before : List (K × X) → K → Type 0
  Before [] q = Unit {0}
  Before (f ∷ fs) q = (R f.0 q ≡ Less) × Before fs q

  below_in : (k : K) (pre post : List (K × X)) (e : K × X) → T (below_all R k (pre ++ e ∷ post)) → R k e.0 ≡ Less
  below_in k [] post e h = less_from_is_lt _ (T-first _ _ h)
  below_in k (f ∷ pre) post e h = below_in k pre post e (T-second _ _ h)

  before_from_sorted : (pre post : List (K × X)) (e : K × X) → T (is_sorted R (pre ++ e ∷ post)) → Before pre e.0
  before_from_sorted [] post e h = tt
  before_from_sorted (f ∷ pre) post e h = (below_in f.0 pre post e (T-first _ _ h), before_from_sorted pre post e (T-second _ _ h))

  not_tied : (f q : K) → R f q ≡ Less → eq_by_cmp R q f ≡ false
  not_tied f q h = ap is_eq (o.antisymm q f ∙ ap ordering_reverse h)

  -- where the key was seen, its first tag stands before
  seen_gives : (k : G) (pre post : List (K × X)) (q : K) → Before pre q → seen pre k ≡ true → at_tag R q (group_entry result k (of_list k (pre ++ post))) ≡ None
  seen_gives k [] post q h s = cc s
  seen_gives k (f ∷ pre) post q h s = elim (same_key (key f.1) k) as (λ b. (b || seen pre k) ≡ true → at_tag R q (group_entry result k (cons_option (option_map (λ y. (f.0, y)) (cond b (Some f.1) None)) (of_list k (pre ++ post)))) ≡ None) [
    | true ↦ λ s. ap (λ b. cond b (Some (result k (f.1 ∷ map (λ e. e.1) (of_list k (pre ++ post))))) None) (not_tied f.0 q h.0)
    | false ↦ λ s. seen_gives k pre post q h.1 s
  ] s

  -- where it was not, the group begins here
  unseen_list : (k : G) (pre post : List (K × X)) → seen pre k ≡ false → of_list k (pre ++ post) ≡ of_list k post
  unseen_list k [] post s = refl
  unseen_list k (f ∷ pre) post s = elim (same_key (key f.1) k) as (λ b. (b || seen pre k) ≡ false → cons_option (option_map (λ y. (f.0, y)) (cond b (Some f.1) None)) (of_list k (pre ++ post)) ≡ of_list k post) [ true ↦ λ s. cc s | false ↦ λ s. unseen_list k pre post s ] s

  begins_here : (e : K × X) (post : List (K × X)) → of_list (key e.1) (e ∷ post) ≡ e ∷ of_list (key e.1) post
  begins_here e post = ap (λ b. cons_option (option_map (λ y. (e.0, y)) (cond b (Some e.1) None)) (of_list (key e.1) post)) (itself (key e.1))

  unseen_gives : (pre post : List (K × X)) (e : K × X) → seen pre (key e.1) ≡ false → result_in (pre ++ e ∷ post) e.0 e.1 ≡ Some (result_of (pre ++ e ∷ post) (key e.1))
  unseen_gives pre post e s =
      let whole : of_list (key e.1) (pre ++ e ∷ post) ≡ e ∷ of_list (key e.1) post = unseen_list (key e.1) pre (e ∷ post) s ∙ begins_here e post in
      ap (λ es. at_tag R e.0 (group_entry result (key e.1) es)) whole
      ∙ ap (λ r. cond (is_eq r) (Some (result (key e.1) (e.1 ∷ map (λ e. e.1) (of_list (key e.1) post)))) None) (tied_itself o e.0)
      ∙ ap (λ es. Some (result (key e.1) (map (λ e. e.1) es))) (sym whole)

  results_from : (pre post : List (K × X)) → T (is_sorted R (pre ++ post)) → map (λ e. e.1) (collected_list (result_in (pre ++ post)) post) ≡ map (result_of (pre ++ post)) (filter (λ k. not (seen pre k)) (keys_in_order key same_key (map (λ e. e.1) post)))
  results_from pre [] h = refl
  results_from pre (e ∷ post) h =
      let moved : (pre ++ e ∷ []) ++ post ≡ pre ++ e ∷ post = append_assoc pre (e ∷ []) post in
      let ks = keys_in_order key same_key (map (λ e. e.1) post) in
      let rest : map (λ e. e.1) (collected_list (result_in (pre ++ e ∷ post)) post) ≡ map (result_of (pre ++ e ∷ post)) (filter (λ k. not (seen pre k)) (filter (λ g. not (same_key (key e.1) g)) ks)) =
      subst (λ es. map (λ e. e.1) (collected_list (result_in es) post) ≡ map (result_of es) (filter (λ k. not (seen (pre ++ e ∷ []) k)) ks)) moved
      (results_from (pre ++ e ∷ []) post (subst (λ es. T (is_sorted R es)) (sym moved) h))
      ∙ ap (map (result_of (pre ++ e ∷ post))) (filter-both (λ k. not (seen pre k)) (λ g. not (same_key (key e.1) g)) (λ k. not (seen (pre ++ e ∷ []) k))
      (λ k. ap not (any_append (λ f. same_key (key f.1) k) pre e) ∙ not_or (seen pre k) (same_key (key e.1) k)) ks) in
      elim (seen pre (key e.1)) as (λ b. seen pre (key e.1) ≡ b → map (λ e. e.1) (cons_option (option_map (λ y. (e.0, y)) (result_in (pre ++ e ∷ post) e.0 e.1)) (collected_list (result_in (pre ++ e ∷ post)) post))
      ≡ map (result_of (pre ++ e ∷ post)) (cond (not b) (key e.1 ∷ filter (λ k. not (seen pre k)) (filter (λ g. not (same_key (key e.1) g)) ks)) (filter (λ k. not (seen pre k)) (filter (λ g. not (same_key (key e.1) g)) ks)))) [
        | true ↦ λ s. ap (λ y. map (λ e. e.1) (cons_option (option_map (λ y. (e.0, y)) y) (collected_list (result_in (pre ++ e ∷ post)) post))) (seen_gives (key e.1) pre (e ∷ post) e.0 (before_from_sorted pre post e h) s) ∙ rest
        | false ↦ λ s. ap (λ y. map (λ e. e.1) (cons_option (option_map (λ y. (e.0, y)) y) (collected_list (result_in (pre ++ e ∷ post)) post))) (unseen_gives pre post e s) ∙ ap (λ ys. result_of (pre ++ e ∷ post) (key e.1) ∷ ys) rest
      ] refl

  all_kept : {A : Type 0} (xs : List A) → filter (λ _. true) xs ≡ xs
  all_kept [] = refl
  all_kept (x ∷ xs) = ap (λ ys. x ∷ ys) (all_kept xs)

  -- the rows of the groups, in the order of their tags, are the groups by first appearance
  pub values-grouped : (t : FinMap R X) → values (grouped {R = R} key same_key result t) ≡ by_first_appearance key same_key result (values t)
  values-grouped t =
      ap (map (λ e. e.1)) (entries-collected R (λ q x. at_tag R q (group_entry result (key x) (entries (members key same_key (key x) t)))) t)
      ∙ (λ i. map (λ e. e.1) (collected_list (λ q x. at_tag R q (group_entry result (key x) (entries-collected R (λ _. of_key key same_key (key x)) t i))) (entries t)))
      ∙ results_from [] (entries t) (entries_sorted t)
      ∙ ap (map (result_of (entries t))) (all_kept (keys_in_order key same_key (values t)))
      ∙ (λ i. map (λ k. result k ((values-collected_list (of_key key same_key k) (entries t) ∙ filter_map_by_test (λ x. same_key (key x) k) (values t)) i)) (keys_in_order key same_key (values t)))
