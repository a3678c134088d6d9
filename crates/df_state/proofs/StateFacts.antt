-- How the parts of a catalogue change where its state does.
use Rattle.std.proofs.Common.{◌≡◌, ℕ, ◌+◌, ◌<◌, Bool, true, false, zero, suc, cond, ◌∙◌, List, [], ◌∷◌, map, length, refl, ap, sym, arith}
use Rattle.std.specs.Prelude.{not, nat_lt, Some, None, slice_get, slice_set, bytes_eq, remove, position}
use Rattle.std.specs.List.{IsDistinct, AllByRecursion, position_or_len}
use Rattle.std.specs.Cmp.Lexicographic.{nat_list_eq_equiv}
use Rattle.std.proofs.lemmas.Bool.{ltb-true}
use Rattle.std.proofs.lemmas.Map.Keys.{IsDistinct-head, IsDistinct-tail}
use Rattle.df_state.specs.declared.state.CatalogueParts.{CatalogueParts}
use Rattle.df_state.specs.declared.state.ViewState.{ViewState}
use Rattle.df_state.specs.Changes.{change_at, without_view}

pub state-of : {p q : CatalogueParts} → p ≡ q → p.state ≡ q.state
state-of e = ap (λ (x : CatalogueParts). x.state) e

pub work-of : {p q : CatalogueParts} → p ≡ q → p.work ≡ q.work
work-of e = ap (λ (x : CatalogueParts). x.work) e

pub staged-of : {p q : CatalogueParts} → p ≡ q → p.staged ≡ q.staged
staged-of e = ap (λ (x : CatalogueParts). x.staged) e

pub keeps-of : {p q : CatalogueParts} → p ≡ q → p.keeps ≡ q.keeps
keeps-of e = ap (λ (x : CatalogueParts). x.keeps) e

pub changes-of : {p q : CatalogueParts} → p ≡ q → p.changes ≡ q.changes
changes-of e = ap (λ (x : CatalogueParts). x.changes) e

-- the changed item at its place
pub change-set : {T : Type 0} (change : T → T) (xs : List T) (i : ℕ) (x : T) → slice_get xs i ≡ Some x → change_at i change xs ≡ slice_set xs i (change x)
change-set change [] i x e = cc
change-set change (y ∷ ys) zero x e = let same : y ≡ x = cc in ap (λ z. change z ∷ ys) same
change-set change (y ∷ ys) (suc i) x e = ap (λ zs. y ∷ zs) (change-set change ys i x e)

others-stay :
    (name other : List ℕ) (ws : List ViewState) → bytes_eq other name ≡ true → AllByRecursion (λ n. bytes_eq other n ≡ false) (map (λ v. v.name) ws) → without_view name ws ≡ ws
others-stay name other [] e h = refl
others-stay name other (w ∷ ws) e h =
    let unlike : bytes_eq w.name name ≡ false =
    nat_list_eq_equiv.symm w.name name ∙ (sym (nat_list_eq_equiv.congr other name w.name e) ∙ h.0) in
    ap (λ b. cond (not b) (w ∷ without_view name ws) (without_view name ws)) unlike
    ∙ ap (λ us. w ∷ us) (others-stay name other ws e h.1)

left-at :
    (name : List ℕ) (w : ViewState) (ws : List ViewState) (b : Bool) → bytes_eq w.name name ≡ b →
    cond (not b) (1 + position_or_len (λ v. bytes_eq v.name name) ws) 0 < 1 + length ws →
    AllByRecursion (λ n. bytes_eq w.name n ≡ false) (map (λ v. v.name) ws) →
    (position_or_len (λ v. bytes_eq v.name name) ws < length ws → without_view name ws ≡ remove ws (position_or_len (λ v. bytes_eq v.name name) ws)) →
    cond (not b) (w ∷ without_view name ws) (without_view name ws) ≡ remove (w ∷ ws) (cond (not b) (1 + position_or_len (λ v. bytes_eq v.name name) ws) 0)
left-at name w ws true e h apart later = others-stay name w.name ws e apart
left-at name w ws false e h apart later =
    let at = position_or_len (λ v. bytes_eq v.name name) ws in
    let next : 1 + at ≡ suc at = omega arith in
    ap (λ us. w ∷ us) (later (omega (arith, h))) ∙ ap (remove (w ∷ ws)) (sym next)

-- of views with distinct names, those of other names are all but the first of the name
pub left-named :
    (name : List ℕ) (ws : List ViewState) → IsDistinct bytes_eq (map (λ v. v.name) ws) →
    position_or_len (λ v. bytes_eq v.name name) ws < length ws → without_view name ws ≡ remove ws (position_or_len (λ v. bytes_eq v.name name) ws)
left-named name [] d h = absurd (omega (arith, h))
left-named name (w ∷ ws) d h =
    let long : length (w ∷ ws) ≡ 1 + length ws = omega arith in
    left-at name w ws (bytes_eq w.name name) refl (omega (arith, h, long))
    (IsDistinct-head bytes_eq w.name (map (λ v. v.name) ws) d)
    (λ k. left-named name ws (IsDistinct-tail bytes_eq w.name (map (λ v. v.name) ws) d) k)

pub place-at : (a b at : ℕ) (t : Bool) → nat_lt a b ≡ t → cond t (Some a) None ≡ Some at → (a < b) × (a ≡ at)
place-at a b at true e h = let same : a ≡ at = cc in (ltb-true a b e, same)
place-at a b at false e h = cc

-- the place of the view of a name, where it is taken out
pub left-found :
    (name : List ℕ) (ws : List ViewState) (at : ℕ) → IsDistinct bytes_eq (map (λ v. v.name) ws) →
    position (λ v. bytes_eq v.name name) ws ≡ Some at → without_view name ws ≡ remove ws at
left-found name ws at d h =
    let found = place-at (position_or_len (λ v. bytes_eq v.name name) ws) (length ws) at (nat_lt (position_or_len (λ v. bytes_eq v.name name) ws) (length ws)) refl h in
    left-named name ws d found.0 ∙ ap (remove ws) found.1
