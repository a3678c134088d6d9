-- Where the jobs of a source stand among those of all frames.
use Rattle.std.proofs.Common.{◌≡◌, ℕ, zero, suc, ◌+◌, ◌-◌, ◌<◌, ◌≤◌, ◌∙◌, List, [], ◌∷◌, ◌++◌, map, length, length-append, refl, ap, arith, sum_by}
use Rattle.std.specs.Prelude.{Option, Some, None, option_map, slice_get}
use Rattle.df_value.specs.declared.chunk.Piece.{Piece}
use Rattle.df_state.proofs.ListFacts.{length-mapped, map-at}
use Rattle.std.proofs.lemmas.List.Sums.{sum_by-cons}
use Rattle.df_jobs.specs.Jobs.{chunks_of, jobs_from, jobs_of, numbered}

pub length-numbered : (start : ℕ → ℕ) (n : ℕ) (ms : List Piece) → length (numbered start n ms) ≡ length ms
length-numbered start n [] = refl
length-numbered start n (m ∷ ms) = let h = length-numbered start (n + 1) ms in omega (arith, h)

pub numbered-at : (start : ℕ → ℕ) (n : ℕ) (ms : List Piece) (k : ℕ) → slice_get (numbered start n ms) k ≡ option_map (λ m. (start (n + k), m)) (slice_get ms k)
numbered-at start n [] k = refl
numbered-at start n (m ∷ ms) zero = let e : n ≡ n + zero = omega arith in ap (λ j. Some (start j, m)) e
numbered-at start n (m ∷ ms) (suc k) =
    let e : (n + 1) + k ≡ n + suc k = omega arith in
    numbered-at start (n + 1) ms k ∙ ap (λ j. option_map (λ m. (start j, m)) (slice_get ms k)) e

pub append-below : {X : Type 0} (xs ys : List X) (k : ℕ) → k < length xs → slice_get (xs ++ ys) k ≡ slice_get xs k
append-below [] ys k h = absurd (omega (arith, h))
append-below (x ∷ xs) ys zero h = refl
append-below (x ∷ xs) ys (suc k) h = append-below xs ys k (omega (arith, h))

pub append-above : {X : Type 0} (xs ys : List X) (k : ℕ) → length xs ≤ k → slice_get (xs ++ ys) k ≡ slice_get ys (k - length xs)
append-above [] ys k h = let e : k ≡ k - 0 = omega arith in ap (slice_get ys) e
append-above (x ∷ xs) ys zero h = absurd (omega (arith, h))
append-above (x ∷ xs) ys (suc k) h =
    let e : k - length xs ≡ suc k - length (x ∷ xs) = omega arith in
    append-above xs ys k (omega (arith, h)) ∙ ap (slice_get ys) e

option_map-map : {X Y Z : Type 0} (f : X → Y) (g : Y → Z) (o : Option X) → option_map g (option_map f o) ≡ option_map (λ x. g (f x)) o
option_map-map f g None = refl
option_map-map f g (Some x) = refl

-- a job of the first of these sources
pub job-here :
    (frame : ℕ) (start : ℕ → ℕ) (ms : List Piece) (rest : List (List (ℕ × Piece))) (k : ℕ) → k < length ms →
    slice_get (jobs_from frame (numbered start 0 ms ∷ rest)) k ≡ option_map (λ m. (frame, (start k, m))) (slice_get ms k)
job-here frame start ms rest k h =
    let there : List (ℕ × (ℕ × Piece)) = map (λ x. (frame, x)) (numbered start 0 ms) in
    let short : k < length there = omega (arith, h, length-numbered start 0 ms, length-mapped {Y = ℕ × (ℕ × Piece)} (λ x. (frame, x)) (numbered start 0 ms)) in
    append-below there (jobs_from (frame + 1) rest) k short
    ∙ (map-at (λ x. (frame, x)) (numbered start 0 ms) k
    ∙ (ap (option_map (λ x. (frame, x))) (numbered-at start 0 ms k)
    ∙ (option_map-map (λ m. (start (0 + k), m)) (λ x. (frame, x)) (slice_get ms k)
    ∙ (let e : 0 + k ≡ k = omega arith in ap (λ j. option_map (λ m. (frame, (start j, m))) (slice_get ms k)) e))))

-- a job of the sources behind the first
pub job-later :
    (frame : ℕ) (start : ℕ → ℕ) (ms : List Piece) (rest : List (List (ℕ × Piece))) (k : ℕ) → length ms ≤ k →
    slice_get (jobs_from frame (numbered start 0 ms ∷ rest)) k ≡ slice_get (jobs_from (frame + 1) rest) (k - length ms)
job-later frame start ms rest k h =
    let there : List (ℕ × (ℕ × Piece)) = map (λ x. (frame, x)) (numbered start 0 ms) in
    let same : length there ≡ length ms = omega (arith, length-numbered start 0 ms, length-mapped {Y = ℕ × (ℕ × Piece)} (λ x. (frame, x)) (numbered start 0 ms)) in
    append-above there (jobs_from (frame + 1) rest) k (omega (arith, h, same))
    ∙ ap (λ n. slice_get (jobs_from (frame + 1) rest) (k - n)) same

jobs-from-sum : (frame : ℕ) (cs : List (List (ℕ × Piece))) → length (jobs_from frame cs) ≡ sum_by length cs
jobs-from-sum frame [] = refl
jobs-from-sum frame (c ∷ cs) =
    let mine : List (ℕ × (ℕ × Piece)) = map (λ x. (frame, x)) c in
    let here = length-append mine (jobs_from (frame + 1) cs) in
    let same = length-mapped {Y = ℕ × (ℕ × Piece)} (λ x. (frame, x)) c in
    let rest = jobs-from-sum (frame + 1) cs in
    let both = sum_by-cons length c cs in
    omega (arith, here, same, rest, both)

chunks-sum : {S : Type 0} (made : S → List Piece) (start : S → ℕ → ℕ) (ss : List S) → sum_by length (chunks_of made start ss) ≡ sum_by (λ s. length (made s)) ss
chunks-sum made start [] = refl
chunks-sum made start (s ∷ ss) =
    let here = length-numbered (start s) 0 (made s) in
    let rest = chunks-sum made start ss in
    let one = sum_by-cons length (numbered (start s) 0 (made s)) (chunks_of made start ss) in
    let both = sum_by-cons (λ s. length (made s)) s ss in
    omega (arith, here, rest, one, both)

-- as many jobs as the sources have chunks
pub jobs-of-chunks : {S : Type 0} (made : S → List Piece) (start : S → ℕ → ℕ) (ss : List S) → length (jobs_of (chunks_of made start ss)) ≡ sum_by (λ s. length (made s)) ss
jobs-of-chunks made start ss = jobs-from-sum 0 (chunks_of made start ss) ∙ chunks-sum made start ss
