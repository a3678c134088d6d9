-- What a changed input changes in the groups.
use Rattle.std.proofs.Common.{◌≡◌, Bool, true, false, cond, List, [], ◌∷◌, map, Option, Some, None, ◌⊎◌, inl, inr, refl, sym, ap, subst, ◌∙◌}
use Rattle.std.specs.Prelude.{◌||◌}
use Rattle.std.specs.Option.{option_and_then}
use Rattle.std.specs.List.{list_any}
use Rattle.std.specs.Ordering.{eq_by_cmp}
use Rattle.std.specs.declared.cmp.Ordering.{Ordering}
use Rattle.std.specs.FinMap.{FinMap, get, entries, find, get-entries, IsAntisymmetric}
use Rattle.df_delta.specs.Keyed.{of_key, members}
use Rattle.df_group.specs.Grouped.{first_some, groups_at as groups_of_at, group_entry, at_tag, grouped}
use Rattle.df_delta.specs.Notes.{IsNote}
use Rattle.df_group.specs.NotedSides.{both_sides}
use Rattle.df_group.proofs.NotedSides.{both_sides_note}
use Rattle.df_delta.proofs.Collected.{get-collected}

some_is_none : {A P : Type 0} (x : A) → Some x ≡ None → P
some_is_none x e = cc e

first_again : {Y : Type 0} (a : Option Y) (b : Bool) → first_some a (cond b a None) ≡ a
first_again (Some y) b = refl
first_again None true = refl
first_again None false = refl

module _ {K X G Y : Type 0} {R : K → K → Ordering} (same : IsAntisymmetric R) (key : X → G) (same_key : G → G → Bool) (yes : (a b : G) → same_key a b ≡ true → a ≡ b) (result : G → List X → Y) where
  abbrev of_group : G → FinMap R X → FinMap R X
  of_group k t = members key same_key k t

  abbrev groups : FinMap R X → FinMap R Y
  groups t = grouped key same_key result t

  pub get-members : (k : G) (t : FinMap R X) (q : K) → get (of_group k t) q ≡ option_and_then (of_key key same_key k) (get t q)
  get-members k t q = get-collected R (λ _. of_key key same_key k) same t q

  -- what the group of the key has at the tag q
  abbrev pub group_at : G → FinMap R X → K → Option Y
  group_at k t q = at_tag R q (group_entry result k (entries (of_group k t)))

  pub get-grouped : (t : FinMap R X) (q : K) → get (groups t) q ≡ option_and_then (λ x. group_at (key x) t q) (get t q)
  get-grouped t q = get-collected R (λ q x. group_at (key x) t q) same t q

  -- a tag where no member stands is no group's first
  not_first_list : (k : G) (es : List (K × X)) (q : K) → find R q es ≡ None → at_tag R q (group_entry result k es) ≡ None
  not_first_list k [] q e = refl
  not_first_list k (f ∷ es) q e = elim (eq_by_cmp R q f.0) as (λ b. cond b (Some f.1) (find R q es) ≡ None → cond b (Some (result k (map (λ e. e.1) (f ∷ es)))) None ≡ None) [ true ↦ λ h. some_is_none f.1 h | false ↦ λ h. refl ] e

  not_first : (k : G) (t : FinMap R X) (q : K) → option_and_then (of_key key same_key k) (get t q) ≡ None → group_at k t q ≡ None
  not_first k t q e = not_first_list k (entries (of_group k t)) q (sym (get-entries (of_group k t) q) ∙ get-members k t q ∙ e)

  -- what the groups of these keys have at the tag q
  abbrev pub groups_at : List G → FinMap R X → K → Option Y
  groups_at ks t q = groups_of_at key same_key result ks t q

  groups_at_none : (ks : List G) (t : FinMap R X) (q : K) → get t q ≡ None → groups_at ks t q ≡ None
  groups_at_none [] t q h = refl
  groups_at_none (k ∷ ks) t q h =
      ap (λ y. first_some y (groups_at ks t q)) (not_first k t q (ap (option_and_then (of_key key same_key k)) h))
      ∙ groups_at_none ks t q h

  groups_at_row : (ks : List G) (t : FinMap R X) (q : K) (x : X) → get t q ≡ Some x → groups_at ks t q ≡ cond (list_any (same_key (key x)) ks) (group_at (key x) t q) None
  groups_at_row [] t q x h = refl
  groups_at_row (k ∷ ks) t q x h =
      ap (first_some (group_at k t q)) (groups_at_row ks t q x h)
      ∙ elim (same_key (key x) k) as (λ b. same_key (key x) k ≡ b → first_some (group_at k t q) (cond (list_any (same_key (key x)) ks) (group_at (key x) t q) None) ≡ cond (b || list_any (same_key (key x)) ks) (group_at (key x) t q) None) [
        | true ↦ λ e. ap (λ j. first_some (group_at j t q) (cond (list_any (same_key (key x)) ks) (group_at (key x) t q) None)) (sym (yes (key x) k e))
            ∙ first_again (group_at (key x) t q) (list_any (same_key (key x)) ks)
        | false ↦ λ e. ap (λ y. first_some y (cond (list_any (same_key (key x)) ks) (group_at (key x) t q) None))
            (not_first k t q (ap (option_and_then (of_key key same_key k)) h ∙ ap (λ b. cond b (Some x) None) e))
      ] refl

  -- a row that a group of another key than these has at the tag q
  record OtherRow (ks : List G) (t : FinMap R X) (q : K) : Type 0 where
    k : G
    row : Y
    other : list_any (same_key k) ks ≡ false
    is : group_at k t q ≡ Some row

  -- these keys have nothing there, and the output has it
  other_is : (ks : List G) (t : FinMap R X) (q : K) (k : G) (row : Y) (a : Option X) → list_any (same_key k) ks ≡ false → group_at k t q ≡ Some row → get t q ≡ a → (groups_at ks t q ≡ None) × (get (groups t) q ≡ Some row)
  other_is ks t q k row None other is h = some_is_none row (sym is ∙ not_first k t q (ap (option_and_then (of_key key same_key k)) h))
  other_is ks t q k row (Some x) other is h = elim (same_key (key x) k) as (λ b. same_key (key x) k ≡ b → (groups_at ks t q ≡ None) × (get (groups t) q ≡ Some row)) [
    | true ↦ λ e.
        let own : key x ≡ k = yes (key x) k e in (
          groups_at_row ks t q x h ∙ ap (λ b. cond b (group_at (key x) t q) None) (ap (λ j. list_any (same_key j) ks) own ∙ other),
          get-grouped t q ∙ ap (option_and_then (λ x. group_at (key x) t q)) h ∙ ap (λ j. group_at j t q) own ∙ is,
        )
    | false ↦ λ e. some_is_none row (sym is ∙ not_first k t q (ap (option_and_then (of_key key same_key k)) h ∙ ap (λ b. cond b (Some x) None) e))
  ] refl

  -- these keys have what the output has there, unless it is of another key
  told : (ks : List G) (t : FinMap R X) (q : K) (a : Option X) → get t q ≡ a → (groups_at ks t q ≡ get (groups t) q) ⊎ OtherRow ks t q
  told ks t q None h = inl (groups_at_none ks t q h ∙ sym (get-grouped t q ∙ ap (option_and_then (λ x. group_at (key x) t q)) h))
  told ks t q (Some x) h =
      let all : get (groups t) q ≡ group_at (key x) t q = get-grouped t q ∙ ap (option_and_then (λ x. group_at (key x) t q)) h in
      elim (list_any (same_key (key x)) ks) as (λ b. list_any (same_key (key x)) ks ≡ b → (groups_at ks t q ≡ get (groups t) q) ⊎ OtherRow ks t q) [
        | true ↦ λ b. inl (groups_at_row ks t q x h ∙ ap (λ b. cond b (group_at (key x) t q) None) b ∙ sym all)
        | false ↦ λ b. elim (group_at (key x) t q) as (λ y. group_at (key x) t q ≡ y → (groups_at ks t q ≡ get (groups t) q) ⊎ OtherRow ks t q) [
          | None ↦ λ e. inl (groups_at_row ks t q x h ∙ ap (λ b. cond b (group_at (key x) t q) None) b ∙ sym (all ∙ e))
          | Some y ↦ λ e. inr (record { k = key x; row = y; other = b; is = e })
        ] refl
      ] refl

  -- a key that is not among these gives the same to both outputs
  pub record Agree (ks : List G) (t u : FinMap R X) : Type 0 where
    pub at : (k : G) → list_any (same_key k) ks ≡ false → group_entry result k (entries (of_group k t)) ≡ group_entry result k (entries (of_group k u))

  led_by_other : (ks : List G) (t u : FinMap R X) (q : K) → Agree ks t u → OtherRow ks t q → IsNote (both_sides (groups_at ks t q) (groups_at ks u q)) (get (groups t) q) (get (groups u) q)
  led_by_other ks t u q agree o =
      let before = other_is ks t q o.k o.row (get t q) o.other o.is refl in
      let after = other_is ks u q o.k o.row (get u q) o.other (ap (at_tag R q) (sym (agree.at o.k o.other)) ∙ o.is) refl in
      subst (λ y. IsNote (both_sides y (groups_at ks u q)) (get (groups t) q) (get (groups u) q)) (sym before.0)
      (subst (λ y. IsNote (both_sides None y) (get (groups t) q) (get (groups u) q)) (sym after.0) (before.1 ∙ sym after.1))

  -- what the groups of these keys had and have leads from output to output
  pub groups_lead : (ks : List G) (t u : FinMap R X) → Agree ks t u → (q : K) → IsNote (both_sides (groups_at ks t q) (groups_at ks u q)) (get (groups t) q) (get (groups u) q)
  groups_lead ks t u agree q = elim (told ks t q (get t q) refl) as (λ _. IsNote (both_sides (groups_at ks t q) (groups_at ks u q)) (get (groups t) q) (get (groups u) q)) [
    | inr o ↦ led_by_other ks t u q agree o
    | inl e ↦ elim (told ks u q (get u q) refl) as (λ _. IsNote (both_sides (groups_at ks t q) (groups_at ks u q)) (get (groups t) q) (get (groups u) q)) [
      | inr o ↦ led_by_other ks t u q agree (record { k = o.k; row = o.row; other = o.other; is = ap (at_tag R q) (agree.at o.k o.other) ∙ o.is })
      | inl f ↦
          subst (λ y. IsNote (both_sides (groups_at ks t q) (groups_at ks u q)) y (get (groups u) q)) e
          (subst (λ y. IsNote (both_sides (groups_at ks t q) (groups_at ks u q)) (groups_at ks t q) y) f (both_sides_note _ _))
    ]
  ]
