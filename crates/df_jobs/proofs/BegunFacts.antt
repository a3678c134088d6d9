-- The good chunks of jobs begin with the numbers of their jobs.
use Rattle.std.proofs.Common.{◌≡◌, ◌+◌, ◌∙◌, ℕ, List, [], ◌∷◌, arith, map, subst, sym}
use Rattle.std.specs.Prelude.{Some, slice_get}
use mathlib.Core.Logic.{inl, inr}
use Rattle.df_value.specs.Chunks.{ChunkParts}
use Rattle.df_value.specs.declared.chunk.Piece.{Piece}
use Rattle.df_value.specs.declared.chunk.Piece.TheVariants.{Bad, Good}
use Rattle.df_jobs.specs.declared.jobs.Outcome.{Outcome}
use Rattle.df_jobs.specs.Jobs.{AreBegun, AreOutcomes, BeginsAt, chunks_of, jobs_from, numbered}
use Rattle.df_jobs.proofs.JobFacts.{numbered-at}
use Rattle.df_state.proofs.ListFacts.{map-at}
use Rattle.df_jobs.proofs.RowFacts.{append-cases, map-some}

module _ {S : Type 0} (made : S → List Piece) (start : S → ℕ → ℕ) (starts : (source : S) (n : ℕ) (c : ChunkParts) → slice_get (made source) n ≡ Some (Good c) → c.first ≡ start source n) where
  piece-begun : (s : S) (k : ℕ) (m : Piece) → slice_get (made s) k ≡ Some m → BeginsAt (start s k) m
  piece-begun s k (Good c) h = starts s k c h
  piece-begun s k (Bad b) h = tt

  job-begun : (frame : ℕ) (ss : List S) (k : ℕ) (j : ℕ × (ℕ × Piece)) → slice_get (jobs_from frame (chunks_of made start ss)) k ≡ Some j → BeginsAt j.1.0 j.1.1
  job-begun frame [] k j h = absurd (cc)
  job-begun frame (s ∷ ss) k j h =
      let pieces = numbered (start s) 0 (made s) in
      let mine : List (ℕ × (ℕ × Piece)) = map (λ x. (frame, x)) pieces in
      elim (append-cases mine (jobs_from (frame + 1) (chunks_of made start ss)) k j h) [
        | inl e ↦ (
            let x = map-some {Y = ℕ × (ℕ × Piece)} (λ y. (frame, y)) (slice_get pieces k) j (sym (map-at {Y = ℕ × (ℕ × Piece)} (λ y. (frame, y)) pieces k) ∙ e) in
            let m = map-some {Y = ℕ × Piece} (λ y. (start s (0 + k), y)) (slice_get (made s) k) x.0 (sym (numbered-at (start s) 0 (made s) k) ∙ x.1) in
            let at : 0 + k ≡ k = omega arith in
            let here : BeginsAt (start s (0 + k)) m.0 = subst (λ n. BeginsAt (start s n) m.0) (sym at) (piece-begun s k m.0 m.1) in
            subst (λ (q : ℕ × (ℕ × Piece)). BeginsAt q.1.0 q.1.1) x.2 (subst (λ (q : ℕ × Piece). BeginsAt q.0 q.1) m.2 here))
        | inr e ↦ job-begun (frame + 1) ss e.0 j e.2
      ]

  -- and so do those of their outcomes
  pub outcomes-begun : (ss : List S) (os : List Outcome) → AreOutcomes (chunks_of made start ss) os → AreBegun os
  outcomes-begun ss os are = λ k d lt. job-begun 0 ss _ _ (are k d lt)
