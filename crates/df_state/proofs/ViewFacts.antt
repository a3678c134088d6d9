-- What stays of views when their tables are taken anew, and when one is added or taken out.
use Rattle.std.proofs.Common.{◌≡◌, ℕ, ◌+◌, ◌≤◌, Bool, true, false, suc, cond, ◌∙◌, List, [], ◌∷◌, ◌++◌, map, filter, length, refl, ap, sym, subst, arith}
use Rattle.std.specs.Prelude.{◌||◌, bytes_eq}
use Rattle.std.specs.Cmp.Lexicographic.{nat_list_eq_equiv}
use Rattle.std.specs.List.{list_any, IsDistinct, AllByRecursion}
use Rattle.std.proofs.lemmas.List.{map-append}
use Rattle.std.proofs.lemmas.Map.Keys.{IsDistinct-head, IsDistinct-tail, IsDistinct-cons, IsDistinct-push}
use Rattle.df_plan.specs.CheckedParts.{CheckedParts}
use Rattle.df_frame.specs.declared.state.FrameState.{FrameState}
use Rattle.df_state.specs.declared.state.ViewState.{ViewState}
use Rattle.df_state.specs.States.{value_over}
use Rattle.df_state.specs.Changes.{refreshed_views}
use Rattle.df_state.specs.Refusals.{has_view}

-- renewed views have their names
pub refreshed_views-names : (frames : List FrameState) (vs : List ViewState) → map (λ v. v.name) (refreshed_views frames vs) ≡ map (λ v. v.name) vs
refreshed_views-names frames [] = refl
refreshed_views-names frames (v ∷ vs) = ap (λ ns. v.name ∷ ns) (refreshed_views-names frames vs)

pub refreshed_views-has : (name : List ℕ) (frames : List FrameState) (vs : List ViewState) → has_view name (refreshed_views frames vs) ≡ has_view name vs
refreshed_views-has name frames [] = refl
refreshed_views-has name frames (v ∷ vs) = ap (λ r. bytes_eq v.name name || r) (refreshed_views-has name frames vs)

-- and the values of their plans as tables
pub refreshed_views-tables : (frames : List FrameState) (vs : List ViewState) → map (λ v. v.table) (refreshed_views frames vs) ≡ map (λ v. value_over frames v.plan) (refreshed_views frames vs)
refreshed_views-tables frames [] = refl
refreshed_views-tables frames (v ∷ vs) = ap (λ ts. value_over frames v.plan ∷ ts) (refreshed_views-tables frames vs)

pub refreshed_views-length : (frames : List FrameState) (vs : List ViewState) → length (refreshed_views frames vs) ≡ length vs
refreshed_views-length frames [] = refl
refreshed_views-length frames (v ∷ vs) = ap suc (refreshed_views-length frames vs)

pub refreshed_views-plans : (P : CheckedParts → Type 0) (frames : List FrameState) (vs : List ViewState) → AllByRecursion (λ v. P v.plan) vs → AllByRecursion (λ v. P v.plan) (refreshed_views frames vs)
refreshed_views-plans P frames [] h = tt
refreshed_views-plans P frames (v ∷ vs) h = (h.0, refreshed_views-plans P frames vs h.1)

-- views whose tables are the values of their plans are renewed as they are
pub refreshed_views-same : (frames : List FrameState) (vs : List ViewState) → map (λ v. v.table) vs ≡ map (λ v. value_over frames v.plan) vs → refreshed_views frames vs ≡ vs
refreshed_views-same frames [] h = refl
refreshed_views-same frames (v ∷ vs) h =
    let here : v.table ≡ value_over frames v.plan = cc in
    let later : map (λ v. v.table) vs ≡ map (λ v. value_over frames v.plan) vs = cc in
    ap (λ t. record { name = v.name; plan = v.plan; table = t } ∷ refreshed_views frames vs) (sym here) ∙ ap (λ ws. v ∷ ws) (refreshed_views-same frames vs later)

all-push : {T : Type 0} (P : T → Type 0) (xs : List T) (y : T) → AllByRecursion P xs → P y → AllByRecursion P (xs ++ y ∷ [])
all-push P [] y h k = (k, tt)
all-push P (x ∷ xs) y h k = (h.0, all-push P xs y h.1 k)

pub plans-push : (P : CheckedParts → Type 0) (vs : List ViewState) (w : ViewState) → AllByRecursion (λ v. P v.plan) vs → P w.plan → AllByRecursion (λ v. P v.plan) (vs ++ w ∷ [])
plans-push P vs w h k = all-push (λ v. P v.plan) vs w h k

named-none : (name : List ℕ) (vs : List ViewState) → has_view name vs ≡ list_any (bytes_eq name) (map (λ v. v.name) vs)
named-none name [] = refl
named-none name (v ∷ vs) =
    ap (λ b. b || has_view name vs) (nat_list_eq_equiv.symm v.name name)
    ∙ ap (λ r. bytes_eq name v.name || r) (named-none name vs)

-- a new name beside distinct ones
pub names-push : (vs : List ViewState) (w : ViewState) → IsDistinct bytes_eq (map (λ v. v.name) vs) → has_view w.name vs ≡ false → IsDistinct bytes_eq (map (λ v. v.name) (vs ++ w ∷ []))
names-push vs w h other =
    subst (IsDistinct bytes_eq) (sym (map-append (λ v. v.name) vs (w ∷ [])))
    (IsDistinct-push nat_list_eq_equiv (map (λ v. v.name) vs) w.name h (sym (named-none w.name vs) ∙ other))

all-names-cond :
    (P : List ℕ → Type 0) (b : Bool) (v : ViewState) (vs : List ViewState) →
    P v.name → AllByRecursion P (map (λ v. v.name) vs) → AllByRecursion P (map (λ v. v.name) (cond b (v ∷ vs) vs))
all-names-cond P true v vs h k = (h, k)
all-names-cond P false v vs h k = k

all-names : (P : List ℕ → Type 0) (p : ViewState → Bool) (vs : List ViewState) → AllByRecursion P (map (λ v. v.name) vs) → AllByRecursion P (map (λ v. v.name) (filter p vs))
all-names P p [] h = tt
all-names P p (v ∷ vs) h = all-names-cond P (p v) v (filter p vs) h.0 (all-names P p vs h.1)

distinct-cond :
    (b : Bool) (v : ViewState) (vs : List ViewState) → AllByRecursion (λ n. bytes_eq v.name n ≡ false) (map (λ v. v.name) vs) →
    IsDistinct bytes_eq (map (λ v. v.name) vs) → IsDistinct bytes_eq (map (λ v. v.name) (cond b (v ∷ vs) vs))
distinct-cond true v vs h k = IsDistinct-cons bytes_eq v.name (map (λ v. v.name) vs) h k
distinct-cond false v vs h k = k

-- of views with distinct names, those that a filter keeps have distinct names
pub names-filter : (p : ViewState → Bool) (vs : List ViewState) → IsDistinct bytes_eq (map (λ v. v.name) vs) → IsDistinct bytes_eq (map (λ v. v.name) (filter p vs))
names-filter p [] h = h
names-filter p (v ∷ vs) h =
    distinct-cond (p v) v (filter p vs)
    (all-names (λ n. bytes_eq v.name n ≡ false) p vs (IsDistinct-head bytes_eq v.name (map (λ v. v.name) vs) h))
    (names-filter p vs (IsDistinct-tail bytes_eq v.name (map (λ v. v.name) vs) h))

plans-cond : (P : CheckedParts → Type 0) (b : Bool) (v : ViewState) (vs : List ViewState) → P v.plan → AllByRecursion (λ v. P v.plan) vs → AllByRecursion (λ v. P v.plan) (cond b (v ∷ vs) vs)
plans-cond P true v vs h k = (h, k)
plans-cond P false v vs h k = k

pub plans-filter : (P : CheckedParts → Type 0) (p : ViewState → Bool) (vs : List ViewState) → AllByRecursion (λ v. P v.plan) vs → AllByRecursion (λ v. P v.plan) (filter p vs)
plans-filter P p [] h = tt
plans-filter P p (v ∷ vs) h = plans-cond P (p v) v (filter p vs) h.0 (plans-filter P p vs h.1)

no-longer-cond : {T : Type 0} (b : Bool) (x : T) (xs : List T) → length (cond b (x ∷ xs) xs) ≤ 1 + length xs
no-longer-cond true x xs = omega arith
no-longer-cond false x xs = omega arith

-- a filter makes a list no longer
pub no-longer : {T : Type 0} (p : T → Bool) (xs : List T) → length (filter p xs) ≤ length xs
no-longer p [] = omega arith
no-longer p (x ∷ xs) = let h = no-longer-cond (p x) x (filter p xs) in let k = no-longer p xs in omega (arith, h, k)

same-at : (frames : List FrameState) (b : Bool) (v : ViewState) (vs : List ViewState) → v.table ≡ value_over frames v.plan → map (λ v. v.table) vs ≡ map (λ v. value_over frames v.plan) vs →
    map (λ v. v.table) (cond b (v ∷ vs) vs) ≡ map (λ v. value_over frames v.plan) (cond b (v ∷ vs) vs)
same-at frames true v vs e h = ap (λ t. t ∷ map (λ v. v.table) vs) e ∙ ap (λ ts. value_over frames v.plan ∷ ts) h
same-at frames false v vs e h = h

-- of views whose tables are the values of their plans, those that a filter keeps have such tables
pub tables-filter : (frames : List FrameState) (p : ViewState → Bool) (vs : List ViewState) → map (λ v. v.table) vs ≡ map (λ v. value_over frames v.plan) vs →
    map (λ v. v.table) (filter p vs) ≡ map (λ v. value_over frames v.plan) (filter p vs)
tables-filter frames p [] h = refl
tables-filter frames p (v ∷ vs) h =
    let here : v.table ≡ value_over frames v.plan = cc in
    let later : map (λ v. v.table) vs ≡ map (λ v. value_over frames v.plan) vs = cc in
    same-at frames (p v) v (filter p vs) here (tables-filter frames p vs later)
