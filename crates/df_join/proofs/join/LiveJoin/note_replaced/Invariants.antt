use Rattle.std.proofs.Common.{take}
use Rattle.df_join.specs.RowNotes.{Noted, replaced_list}
use Rattle.df_join.specs.Sides.{is_one}
use Rattle.df_join.proofs.join.LiveJoin.note_replaced.Given as goal

abbrev pub invariant-loop-left : goal.invariant-loop-left
invariant-loop-left l = Noted l.initial.notes l.notes (replaced_list l.self.rule (is_one l.self.left_scans) l.tag l.old l.new (take l.left-index l.matching))
