-- The views of a state by their places and by their names, of which no two are the same.
use Rattle.std.proofs.Common.{◌≡◌, ℕ, zero, suc, ◌<◌, ◌∙◌, false, cond, List, [], ◌∷◌, map, length, refl, ap, sym, subst, arith}
use Rattle.std.specs.Prelude.{Option, Some, None, bytes_eq, find, option_map, slice_get, unwrap_or}
use Rattle.std.specs.List.{AllByRecursion, IsDistinct}
use Rattle.std.proofs.lemmas.Map.Keys.{IsDistinct-head, IsDistinct-tail}
use Rattle.std.proofs.lemmas.Slice.Eq.{bytes_eq-Decides}
use Rattle.df_plan.specs.CheckedParts.{CheckedParts}
use Rattle.df_state.specs.declared.state.State.{State}
use Rattle.df_state.specs.declared.state.ViewState.{ViewState}
use Rattle.df_state.specs.Reads.{view_names_of, view_plan_of}
use Rattle.df_state.proofs.ListFacts.{found}
use Rattle.df_store.specs.Headings.{headings_of}
use Rattle.df_state.proofs.ListFacts.{length-mapped, map-at, none-past, past, same-items}

name-at : (P : List ℕ → Type 0) (vs : List ViewState) (k : ℕ) (v : ViewState) → AllByRecursion P (map (λ w. w.name) vs) → slice_get vs k ≡ Some v → P v.name
name-at P [] k v all h = absurd (cc)
name-at P (w ∷ ws) zero v all h = subst P (ap (λ (o : Option ViewState). (unwrap_or o v).name) h) all.0
name-at P (w ∷ ws) (suc k) v all h = name-at P ws k v all.1 h

found-at :
    (vs : List ViewState) (k : ℕ) (v : ViewState) → IsDistinct bytes_eq (map (λ w. w.name) vs) → slice_get vs k ≡ Some v →
    find (λ w. bytes_eq w.name v.name) vs ≡ Some v
found-at [] k v d h = absurd (cc)
found-at (w ∷ ws) zero v d h =
    let e : w ≡ v = ap (λ o. unwrap_or o v) h in
    ap (λ b. cond b (Some w) (find (λ u. bytes_eq u.name v.name) ws)) ((bytes_eq-Decides w.name v.name).1 (ap (λ u. u.name) e)) ∙ ap Some e
found-at (w ∷ ws) (suc k) v d h =
    ap (λ b. cond b (Some w) (find (λ u. bytes_eq u.name v.name) ws))
    (name-at (λ n. bytes_eq w.name n ≡ false) ws k v (IsDistinct-head bytes_eq w.name (map (λ u. u.name) ws) d) h)
    ∙ found-at ws k v (IsDistinct-tail bytes_eq w.name (map (λ u. u.name) ws) d) h

-- the view of the name at a place, with its heading there
heading-at :
    (s : State) (k : ℕ) (name : List ℕ) → IsDistinct bytes_eq (map (λ w. w.name) s.views) → slice_get (view_names_of s) k ≡ Some name →
    (p : CheckedParts) × (slice_get (headings_of s) k ≡ Some (name, p)) × (view_plan_of s name ≡ Some p)
heading-at s k name d h = go (slice_get s.views k) refl
  where
    go : (o : Option ViewState) → slice_get s.views k ≡ o → (p : CheckedParts) × (slice_get (headings_of s) k ≡ Some (name, p)) × (view_plan_of s name ≡ Some p)
    go None e = let n = sym h ∙ (map-at (λ w. w.name) s.views k ∙ ap (option_map (λ w. w.name)) e) in absurd (cc)
    go (Some v) e =
        let n : Some name ≡ Some v.name = sym h ∙ (map-at (λ w. w.name) s.views k ∙ ap (option_map (λ w. w.name)) e) in
        let m : v.name ≡ name = sym (ap (λ o. unwrap_or o name) n) in (
          v.plan,
          map-at (λ w. (w.name, w.plan)) s.views k ∙ (ap (option_map (λ w. (w.name, w.plan))) e ∙ ap (λ n. Some (n, v.plan)) m),
          subst (λ n. view_plan_of s n ≡ Some v.plan) m (ap (option_map (λ w. w.plan)) (found-at s.views k v d e)),
        )

-- a view that is the given one has its heading
pub heading-same :
    (s : State) (views : List (List ℕ × CheckedParts)) (at : ℕ) (name : List ℕ) (view : List ℕ × CheckedParts) → IsDistinct bytes_eq (map (λ w. w.name) s.views) →
    slice_get (view_names_of s) at ≡ Some name → slice_get views at ≡ Some view → name ≡ view.0 → view_plan_of s name ≡ Some view.1 →
    slice_get (headings_of s) at ≡ slice_get views at
heading-same s views at name view d named given same plan =
    let x = heading-at s at name d named in
    let p : x.0 ≡ view.1 = ap (λ o. unwrap_or o view.1) (sym x.2 ∙ plan) in
    x.1 ∙ (ap (λ n. Some (n, x.0)) same ∙ (ap (λ q. Some (view.0, q)) p ∙ sym given))

-- where the headings are the given ones, each view is
pub heading-given :
    (s : State) (views : List (List ℕ × CheckedParts)) (at : ℕ) (name : List ℕ) (view : List ℕ × CheckedParts) → IsDistinct bytes_eq (map (λ w. w.name) s.views) →
    slice_get (view_names_of s) at ≡ Some name → slice_get views at ≡ Some view → headings_of s ≡ views →
    (name ≡ view.0) × (view_plan_of s name ≡ Some view.1)
heading-given s views at name view d named given e =
    let x = heading-at s at name d named in
    let both : Some (name, x.0) ≡ Some view = sym x.1 ∙ (ap (λ hs. slice_get hs at) e ∙ given) in (
      ap (λ (o : Option (List ℕ × CheckedParts)). (unwrap_or o view).0) both,
      x.2 ∙ ap (λ (o : Option (List ℕ × CheckedParts)). Some (unwrap_or o view).1) both,
    )

-- as many views, with the same heading at each place
pub headings-same :
    (s : State) (views : List (List ℕ × CheckedParts)) (names : List (List ℕ)) → names ≡ view_names_of s → length names ≡ length views →
    ((k : ℕ) → k < length views → slice_get (headings_of s) k ≡ slice_get views k) → headings_of s ≡ views
headings-same s views names is many same = same-items (headings_of s) views (λ k. go k (slice_get views k) refl)
  where
    long : length (headings_of s) ≡ length views
    long =
        let a = length-mapped (λ (w : ViewState). w.name) s.views in
        let b = length-mapped {Y = List ℕ × CheckedParts} (λ (w : ViewState). (w.name, w.plan)) s.views in
        let c = ap length is in
        omega (arith, a, b, c, many)

    go : (k : ℕ) (o : Option (List ℕ × CheckedParts)) → slice_get views k ≡ o → slice_get (headings_of s) k ≡ slice_get views k
    go k None e = let far = past views k e in none-past (headings_of s) k (omega (arith, far, long)) ∙ sym e
    go k (Some v) e = same k (let f = found views k v e in f.0)
