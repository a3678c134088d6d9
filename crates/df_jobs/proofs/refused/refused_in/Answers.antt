use Rattle.std.proofs.Common.{◌≡◌, ℕ, ◌+◌, ◌<◌, ◌∙◌, List, [], ◌∷◌, ◌++◌, map, length, take, get_or, refl, ap, sym}
use Rattle.std.specs.Prelude.{Option, Some, None, filter_map}
use Rattle.std.specs.List.{cons_option}
use Rattle.df_state.proofs.ListFacts.{map-more, take-more}
use Rattle.df_jobs.specs.declared.jobs.Outcome.{Outcome}
use Rattle.df_jobs.specs.declared.refused.Refused.{Refused}
use Rattle.df_jobs.specs.Jobs.{job_of}
use Rattle.df_jobs.specs.Refused.{refusal}
use Rattle.df_jobs.proofs.refused.refused_in.Goals as goal

cons-append : {X : Type 0} (o : Option X) (xs ys : List X) → cons_option o (xs ++ ys) ≡ cons_option o xs ++ ys
cons-append None xs ys = refl
cons-append (Some x) xs ys = refl

filter-more : {X Y : Type 0} (h : X → Option Y) (xs : List X) (x : X) → filter_map h (xs ++ x ∷ []) ≡ filter_map h xs ++ filter_map h (x ∷ [])
filter-more h [] x = refl
filter-more h (y ∷ ys) x = ap (cons_option (h y)) (filter-more h ys x) ∙ cons-append (h y) (filter_map h ys) (filter_map h (x ∷ []))

one-more :
    (os : List Outcome) (i : ℕ) (o : Outcome) (all before : List Refused) → i < length os → o ≡ get_or os i o →
    all ≡ before ++ filter_map refusal (job_of o ∷ []) → before ≡ filter_map refusal (map job_of (take i os)) →
    all ≡ filter_map refusal (map job_of (take (i + 1) os))
one-more os i o all before h is pushed was =
    pushed
    ∙ (ap (λ b. b ++ filter_map refusal (job_of o ∷ [])) was
    ∙ (sym (filter-more refusal (map job_of (take i os)) (job_of o))
    ∙ (ap (filter_map refusal) (sym (map-more job_of (take i os) o))
    ∙ (ap (λ p. filter_map refusal (map job_of (take i os ++ p ∷ []))) is
    ∙ ap (λ p. filter_map refusal (map job_of p)) (sym (take-more os i o h))))))

pub loop-outcome-preserved : goal.loop-outcome-preserved
loop-outcome-preserved c =
    one-more c.args.outcomes.now c.loop-outcome.outcome-index c.outcome-item.result c.push_refused.new.refused.items c.loop-outcome.refused.items c.loop-outcome-test.true c.outcome-item.is
    c.in_ok-push_refused.ensures c.loop-outcome.invariant
