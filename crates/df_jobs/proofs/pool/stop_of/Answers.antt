use Rattle.std.proofs.Common.{◌≡◌, ℕ, ◌+◌, ◌<◌, ◌∙◌, List, [], ◌∷◌, ◌++◌, map, length, take, get_or, ap, sym}
use Rattle.std.specs.Prelude.{Option, None}
use Rattle.std.proofs.lemmas.List.Sums.{fold-append}
use Rattle.df_state.proofs.ListFacts.{map-more, take-all, take-more}
use Rattle.df_jobs.specs.Stops.{earlier_of, first_stop}
use Rattle.df_jobs.specs.declared.stop.Stop.{Stop}
use Rattle.df_jobs.specs.declared.worker.Worker.{Worker}
use Rattle.df_jobs.proofs.pool.stop_of.Goals as goal

one-more :
    {A D : Type 0} (ws : List (Worker A D)) (i : ℕ) (w : Worker A D) (was now : Option Stop) → i < length ws → w ≡ get_or ws i w →
    was ≡ first_stop (map (λ w. w.stopped) (take i ws)) → now ≡ earlier_of was w.stopped → now ≡ first_stop (map (λ w. w.stopped) (take (i + 1) ws))
one-more {A = A} {D = D} ws i w was now h is so_far made =
    let stops : List (Worker A D) → List (Option Stop) = map (λ w. w.stopped) in
    made
    ∙ (ap (λ s. earlier_of s w.stopped) so_far
    ∙ (sym (fold-append earlier_of None (stops (take i ws)) (w.stopped ∷ []))
    ∙ (ap first_stop (sym (map-more (λ (v : Worker A D). v.stopped) (take i ws) w))
    ∙ (ap (λ v. first_stop (stops (take i ws ++ v ∷ []))) is
    ∙ ap (λ vs. first_stop (stops vs)) (sym (take-more ws i w h))))))

pub loop-worker-preserved : goal.loop-worker-preserved
loop-worker-preserved g c =
    one-more c.args.workers.now c.loop-worker.worker-index c.worker-item.result c.loop-worker.first c.earlier-first.result c.loop-worker-test.true c.worker-item.is
    c.loop-worker.invariant c.earlier-first.ensures

pub returns : goal.returns
returns g c =
    c.loop-worker.invariant
    ∙ ap (λ ws. first_stop (map (λ w. w.stopped) ws)) (take-all c.args.workers.now c.loop-worker.worker-index c.loop-worker-test.false)
