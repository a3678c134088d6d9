-- What a prepare of a tree does: what it leaves as it was, what it counts, and what it makes.
use Rattle.std.specs.Prelude.{◌≡◌, ℕ, IfOk, List, Result}
use Rattle.std.specs.declared.alloc.AllocError.{AllocError}
use Rattle.df_expr.specs.declared.meter.Meter.{Meter}
use Rattle.df_column.specs.Tables.{TaggedRows}
use Rattle.df_delta.specs.Deltas.{Changes}
use Rattle.df_delta.specs.Differences.{IsDiff}
use Rattle.df_delta.specs.Work.{IsWithin, plus}
use Rattle.df_live.specs.Frames.{changed}
use Rattle.df_live.specs.Staged.{HasRoomFor, LeadsTo}
use Rattle.df_live.specs.Trees.{IsOver, MayFollow, Takes, allowed, budget, output}
use Rattle.df_live.specs.declared.tree.LiveTree.{LiveTree}
use Rattle.df_live.specs.declared.tree.StagedTree.{StagedTree}

-- the tree stands over the frames that it stood over, and gives, takes and may count what it did
pub record Stays (was now : LiveTree) : Type 0 where
  pub contents : (frames : List TaggedRows) → IsOver was frames → IsOver now frames
  pub operator : (frames : List TaggedRows) → output now frames ≡ output was frames
  pub takes : (frames : List TaggedRows) → Takes was frames → Takes now frames
  pub same_budget : budget now ≡ budget was
  pub same_bound : (frames after : List TaggedRows) → allowed now frames after ≡ allowed was frames after

-- what was staged, and the delta, are those of a delta of the frame at f
pub record IsMade (was now : LiveTree) (f : ℕ) (d : Changes) (made : StagedTree × Changes) : Type 0 where
  pub diff : (frames : List TaggedRows) → MayFollow was frames f d → IsDiff (output was frames) (output was (changed frames f d)) made.1
  pub staged : (frames : List TaggedRows) → MayFollow was frames f d → LeadsTo now made.0 (changed frames f d)
  pub room : HasRoomFor now made.0

-- a prepare of a delta of the frame at f, which counts from one meter to the other
pub record IsPrepared (was now : LiveTree) (f : ℕ) (d : Changes) (before after : Meter) (result : Result (StagedTree × Changes) AllocError) : Type 0 where
  pub stays : Stays was now
  pub grows : IsWithin before after
  pub within : IsWithin after (plus before (budget was))
  pub meter : (frames : List TaggedRows) → MayFollow was frames f d → IsWithin after (plus before (allowed was frames (changed frames f d)))
  pub made : IfOk result (IsMade was now f d)
