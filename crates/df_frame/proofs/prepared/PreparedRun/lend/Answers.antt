use Rattle.std.proofs.Common.{subst}
use Rattle.df_value.specs.Chunks.{ChunkParts}
use Rattle.df_frame.specs.Runs.{IsRun}
use Rattle.df_frame.proofs.prepared.PreparedRun.lend.Goals as goal

pub returns-clause-sound : goal.returns-clause-sound
returns-clause-sound c = subst (λ (x : ChunkParts). IsRun x.schema x.first x.rows) c.self.view_is c.self.invariant.sound
