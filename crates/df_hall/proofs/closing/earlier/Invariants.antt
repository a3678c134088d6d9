use Rattle.std.proofs.Common.{ℕ, ◌<◌, ◌≢◌}
use Rattle.std.specs.Prelude.{slice_index_or}
use Rattle.df_state.specs.Desks.{DeskParts}
use Rattle.df_hall.proofs.closing.earlier.Given as goal

abbrev pub invariant-loop-to : goal.invariant-loop-to
invariant-loop-to g l = (b : ℕ) → b < l.to → (d e : DeskParts) → (slice_index_or l.desks b d).frame ≢ (slice_index_or l.desks l.at e).frame
