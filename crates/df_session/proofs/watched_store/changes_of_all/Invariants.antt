use Rattle.std.proofs.Common.{take}
use Rattle.df_session.specs.Watching.{IsToldOf}
use Rattle.df_session.proofs.watched_store.changes_of_all.Given as goal

abbrev pub invariant-loop-view : goal.invariant-loop-view
invariant-loop-view g l = IsToldOf (g.S.ChangeStore.Tells l.store) (take l.view-index l.views) l.text.items
