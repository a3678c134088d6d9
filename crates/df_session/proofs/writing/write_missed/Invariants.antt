use Rattle.std.proofs.Common.{flat_map, take}
use Rattle.std.specs.Io.KnownBytes.{Appends}
use Rattle.df_session.specs.ViewChanges.{missed_line}
use Rattle.df_session.proofs.writing.write_missed.Given as goal

abbrev pub invariant-loop-view : goal.invariant-loop-view
invariant-loop-view g l = Appends (g.W.Write.contents l.fn.output) (g.W.Write.contents l.output) (flat_map (missed_line l.number) (take l.view-index l.views))
