use Rattle.std.proofs.Common.{subst, sym}
use Rattle.df_delta.specs.Differences.{IsDiff}
use Rattle.df_group.specs.GroupIndex.{output_of}
use Rattle.df_group.proofs.Output.{output_diff}
use Rattle.df_group.proofs.live_group.LiveGroup.changes_with_room.Goals as goal

pub returns-clause-diff : goal.returns-clause-diff
returns-clause-diff c g t u over leads =
    subst (IsDiff (output_of g t) (output_of g u)) (sym c.in_ok-changes.ensures)
    (output_diff g c.args.self.now.index c.args.groups.now t u c.in_ok-notes.notes over leads (c.in_ok-notes.ensures g t u over leads))
