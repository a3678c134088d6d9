use Rattle.std.proofs.Common.{◌≡◌}
use Rattle.df_live.specs.Tables.{first_frames, tables_of}
use Rattle.df_live.specs.Views.{IsLive}
use Rattle.df_live.proofs.view.LiveView.new.Given as goal

abbrev pub invariant-loop-frame : goal.invariant-loop-frame
invariant-loop-frame l = record {
  plan : l.view.plan ≡ l.fn.plan;
  live : IsLive l.view (first_frames l.frame (tables_of l.tables));
}
