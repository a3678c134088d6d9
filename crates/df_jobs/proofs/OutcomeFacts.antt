-- Outcomes by job are the jobs.
use Rattle.std.proofs.Common.{◌≡◌, ℕ, zero, suc, ◌+◌, ◌∙◌, List, [], ◌∷◌, ◌++◌, map, length, refl, ap, sym, subst, arith}
use Rattle.std.specs.Prelude.{All, Option, Some, None, option_map, slice_get, unwrap_or}
use Rattle.std.specs.List.{range_with_len}
use Rattle.std.specs.List.Sorted.{IsPermutation}
use Rattle.std.proofs.lemmas.List.FromFn.{length-range_with_len}
use Rattle.std.proofs.lemmas.List.Sorted.{All-permutation, IsPermutation-refl}
use Rattle.df_value.specs.declared.chunk.Piece.{Piece}
use Rattle.df_state.proofs.ListFacts.{found}
use Rattle.df_jobs.specs.declared.jobs.Outcome.{Outcome}
use Rattle.df_jobs.specs.Jobs.{AreOutcomes, IsOutcome, job_of, jobs_of}
use Rattle.df_state.proofs.ListFacts.{length-mapped, map-at, none-past, past, same-items}

pub range-more : (a n : ℕ) → range_with_len a (n + 1) ≡ range_with_len a n ++ (a + n) ∷ []
range-more a zero = let e : a ≡ a + zero = omega arith in ap (λ k. k ∷ []) e
range-more a (suc n) =
    let e : suc n + 1 ≡ suc (n + 1) = omega arith in
    let f : (a + 1) + n ≡ a + suc n = omega arith in
    ap (range_with_len a) e ∙ (ap (λ ys. a ∷ ys) (range-more (a + 1) n) ∙ ap (λ k. a ∷ (range_with_len (a + 1) n ++ k ∷ [])) f)

range-at : (a n k m : ℕ) → slice_get (range_with_len a n) k ≡ Some m → m ≡ a + k
range-at a zero k m h = absurd (cc)
range-at a (suc n) zero m h = let e = ap (λ o. unwrap_or o 0) h in omega (arith, e)
range-at a (suc n) (suc k) m h = let r = range-at (a + 1) n k m h in omega (arith, r)

agree :
    (os : List Outcome) (jobs : List (ℕ × (ℕ × Piece))) (n k : ℕ) (o : Option Outcome) → All (λ x. slice_get jobs x.job ≡ Some (job_of x)) os →
    map (λ x. x.job) os ≡ range_with_len 0 n → n ≡ length jobs → slice_get os k ≡ o → slice_get (map job_of os) k ≡ slice_get jobs k
agree os jobs n k None all e many is =
    let far = past os k is in
    let a = length-mapped (λ (x : Outcome). x.job) os in
    let b = ap length e in
    let c = length-range_with_len 0 n in
    map-at job_of os k ∙ (ap (option_map job_of) is ∙ sym (none-past jobs k (omega (arith, far, a, b, c, many))))
agree os jobs n k (Some x) all e many is =
    let here = found os k x is in
    let its = range-at 0 n k x.job (ap (λ js. slice_get js k) (sym e) ∙ (map-at (λ x. x.job) os k ∙ ap (option_map (λ x. x.job)) is)) in
    let at : x.job ≡ k = omega (arith, its) in
    let one = subst (λ y. slice_get jobs y.job ≡ Some (job_of y)) here.1 (all k x here.0) in
    map-at job_of os k ∙ (ap (option_map job_of) is ∙ sym (subst (λ j. slice_get jobs j ≡ Some (job_of x)) at one))

-- where the outcomes in some order are by job, they are the jobs
pub by-job :
    (chunks : List (List (ℕ × Piece))) (before os : List Outcome) (n : ℕ) → IsPermutation before os → AreOutcomes chunks before →
    map (λ x. x.job) os ≡ range_with_len 0 n → n ≡ length (jobs_of chunks) → map job_of os ≡ jobs_of chunks
by-job chunks before os n perm all e many =
    let moved = All-permutation (λ (x : Outcome). IsOutcome chunks x) before os perm all in
    same-items (map job_of os) (jobs_of chunks) (λ k. agree os (jobs_of chunks) n k (slice_get os k) moved e many refl)

-- where outcomes are by job, they are the jobs
pub in-order :
    (chunks : List (List (ℕ × Piece))) (os : List Outcome) (n : ℕ) → AreOutcomes chunks os → map (λ x. x.job) os ≡ range_with_len 0 n →
    n ≡ length (jobs_of chunks) → map job_of os ≡ jobs_of chunks
in-order chunks os n all e many = by-job chunks os os n (IsPermutation-refl os) all e many

-- the same of outcomes that are read where they are lent
pub compared :
    (chunks : List (List (ℕ × Piece))) (os lent : List Outcome) (n : ℕ) → AreOutcomes chunks os → lent ≡ os → map (λ x. x.job) lent ≡ range_with_len 0 n →
    n ≡ length (jobs_of chunks) → map job_of os ≡ jobs_of chunks
compared chunks os lent n all value e many = in-order chunks os n all (ap (map (λ (o : Outcome). o.job)) (sym value) ∙ e) many
