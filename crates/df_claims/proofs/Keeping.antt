-- What the rule says of one seat stays where that seat, or another, steps.
use Rattle.std.proofs.Common.{◌≡◌, ◌≢◌, ℕ, ◌<◌, List, set, subst, ⊎_elim, arith}
use mathlib.Core.Option.{some}
use lib.ListN.{get_elem?}
use Rattle.atomic_table.specs.Table.{State}
use Rattle.atomic_table.proofs.Lists.{at_set}
use Rattle.df_claims.specs.declared.rule.Draws.{Draws}
use Rattle.df_claims.specs.Lawful.{FitsSeat, Lawful, fresh_draws, times_in}
use Rattle.df_claims.proofs.Sums.{sum_by-set}

abbrev pub AllFit : ℕ → List Draws → Type 0
AllFit total views = (seat : ℕ) (v : Draws) → get_elem? views seat ≡ some v → FitsSeat total v

pub fits-set : (total : ℕ) (views : List Draws) (seat : ℕ) (w : Draws) → AllFit total views → FitsSeat total w → AllFit total (set views seat w)
fits-set total views seat w all mine j u e =
    ⊎_elim (λ (z : (j ≡ seat) × (w ≡ u)). subst (FitsSeat total) z.1 mine) (λ (z : (j ≢ seat) × (get_elem? views j ≡ some u)). all j u z.1) (at_set views seat j w u e)

-- a seat got none only where all numbers are drawn
pub all_drawn : (total id : ℕ) (d : Draws) (s : State (Unit {0}) Draws) → 0 < d.misses → Lawful total s → get_elem? s.views id ≡ some d → (n : ℕ) → n < total → times_in n s.views ≡ 1
all_drawn total id d s missed h at n less =
    let some_missed = sum_by-set (λ u. u.misses) s.views id d (fresh_draws 0 total) at in
    let word : ℕ = h.word in
    h.once n (omega (arith, some_missed, h.counted, missed, less))
