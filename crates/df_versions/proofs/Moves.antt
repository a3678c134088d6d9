-- Each step keeps the rule of versions.
use Rattle.std.proofs.Common.{◌≡◌, ◌≢◌, ℕ, List, [], ◌∷◌, set, refl, sym, ◌∙◌, subst, ⊎_elim}
use mathlib.Core.Option.{some}
use lib.ListN.{get_elem?}
use Rattle.logbook.specs.Pages.{Book}
use Rattle.df_state.specs.declared.state.State.{State}
use Rattle.crossbeam_utils.specs.Register.{Admits, Turns, TurnsAt, Forks, Merges}
use Rattle.atomic_table.proofs.Lists.{at_set, at_snoc}
use Rattle.df_versions.specs.declared.version.KnownVersions.{KnownVersions}
use Rattle.df_versions.specs.declared.version.Published.{Published}
use Rattle.df_versions.specs.VersionRule.{knows_none, AllOf, Kept, Knows, Looks}

pub admits : Admits Kept knows_none
admits x views h seat w at = ⊎_elim (h seat w) (λ (e : knows_none ≡ w). subst (λ (z : KnownVersions). AllOf x.history.0 z.known) e tt) (at_snoc views knows_none w seat at)

-- a step that leaves the history, or goes on in it
pub turns : (seat : ℕ) (v : KnownVersions) (x y : Published) → x.history.0 ≡ y.history.0 → TurnsAt Kept seat v x y Looks
turns seat v x y same views h at =
    let w : KnownVersions = record { known = y.history ∷ [] } in
    let kept : Kept y (set views seat w) = λ j u e.
    ⊎_elim (λ (z : (j ≡ seat) × (w ≡ u)). subst (λ (k : KnownVersions). AllOf y.history.0 k.known) z.1 (refl, tt))
    (λ (z : (j ≢ seat) × (get_elem? views j ≡ some u)). subst (λ b. AllOf b u.known) same (h j u z.1))
    (at_set views seat j w u e) in
    (w, kept, (subst (λ b. AllOf b v.known) same (h seat v at), refl))

pub looks : (seat : ℕ) (v : KnownVersions) → Turns Kept seat v (λ x. x) Looks
looks seat v x = turns seat v x x refl

pub one_book : (b b' : Book) (fs : List (Book × List State)) → AllOf b' fs → Knows b fs → b' ≡ b
one_book b b' [] h k = absurd k
one_book b b' (f ∷ fs) h k = sym h.0 ∙ k

kept-set : (x : Published) (views : List KnownVersions) (seat : ℕ) (w : KnownVersions) → Kept x views → AllOf x.history.0 w.known → Kept x (set views seat w)
kept-set x views seat w h mine j u e =
    ⊎_elim (λ (z : (j ≡ seat) × (w ≡ u)). subst (λ (k : KnownVersions). AllOf x.history.0 k.known) z.1 mine) (λ (z : (j ≢ seat) × (get_elem? views j ≡ some u)). h j u z.1) (at_set views seat j w u e)

pub forks : (seat : ℕ) (v : KnownVersions) → Forks Kept seat v v v
forks seat v x views h at = λ j u e.
    ⊎_elim (kept-set x views seat v h (h seat v at) j u) (λ (z : v ≡ u). subst (λ (k : KnownVersions). AllOf x.history.0 k.known) z (h seat v at)) (at_snoc (set views seat v) v u j e)

pub merges : (seat : ℕ) (v : KnownVersions) (other : ℕ) (w : KnownVersions) → Merges Kept seat v other w w knows_none
merges seat v other w x views h at apart there =
    let theirs : AllOf x.history.0 w.known = ⊎_elim (λ (z : (other ≡ seat) × (w ≡ w)). absurd (apart z.0)) (λ (z : (other ≢ seat) × (get_elem? views other ≡ some w)). h other w z.1) (at_set views seat other w w there) in
    kept-set x (set views seat w) other knows_none (kept-set x views seat w h theirs) tt
