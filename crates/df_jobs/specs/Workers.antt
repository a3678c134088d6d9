-- Workers: what each of them holds, and the desks of all of them.
use Rattle.std.specs.Prelude.{◌≡◌, ◌≤◌, ◌*◌, ℕ, All, List, [], flat_map, length, vec_capacity}
use Rattle.df_value.specs.declared.chunk.Piece.{Piece}
use Rattle.df_state.specs.Desks.{DeskParts}
use Rattle.df_claims.specs.Seats.{ClaimsView, IsSeatOf}
use Rattle.df_jobs.specs.declared.jobs.Outcome.{Outcome}
use Rattle.df_jobs.specs.declared.pool.WorkerPool.{WorkerPool}
use Rattle.df_jobs.specs.declared.worker.Worker.{Worker}
use Rattle.df_jobs.specs.Jobs.{AreOutcomes}

-- a worker draws jobs from these claims, has at most so many desks, and what it has done are outcomes of jobs
pub record IsWorker {A D : Type 0} (claims : ClaimsView) (most : ℕ) (chunks : List (List (ℕ × Piece))) (w : Worker A D) : Type 0 where
  pub seat : IsSeatOf claims w.seat
  pub desks : length w.desks.items ≤ most
  pub done : AreOutcomes chunks w.done.items

-- a worker of these claims that has done nothing yet, and has at most so many desks
pub record HasNotBegun {A D : Type 0} (claims : ClaimsView) (most : ℕ) (w : Worker A D) : Type 0 where
  pub seat : IsSeatOf claims w.seat
  pub desks : length w.desks.items ≤ most
  pub done : w.done.items ≡ []

-- one that has no desk yet, but room for so many
pub record IsIdle {A D : Type 0} (claims : ClaimsView) (most : ℕ) (w : Worker A D) : Type 0 where
  pub seat : IsSeatOf claims w.seat
  pub desks : w.desks.items ≡ []
  pub room : most ≤ vec_capacity w.desks
  pub done : w.done.items ≡ []

-- the desks of all of these workers
abbrev pub desks_of : {A D : Type 0} → List (Worker A D) → List DeskParts
desks_of ws = flat_map (λ w. w.desks.items) ws

-- all that these workers have done
abbrev pub outcomes_in : {A D : Type 0} → List (Worker A D) → List Outcome
outcomes_in ws = flat_map (λ w. w.done.items) ws

-- the workers of a load, with room for the desks that they give back
pub record IsPool {A D : Type 0} (claims : ClaimsView) (most : ℕ) (chunks : List (List (ℕ × Piece))) (p : WorkerPool A D) : Type 0 where
  pub workers : All (IsWorker claims most chunks) p.workers.items
  pub gathered : p.gathered.items ≡ []
  pub room : length p.workers.items * most ≤ vec_capacity p.gathered
