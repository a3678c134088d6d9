use Rattle.std.proofs.Common.{take}
use Rattle.df_join.specs.RowNotes.{Noted, right_list}
use Rattle.df_join.specs.Sides.{is_one}
use Rattle.df_join.proofs.join.LiveJoin.note_right.Given as goal

abbrev pub invariant-loop-left : goal.invariant-loop-left
invariant-loop-left l = Noted l.initial.notes l.notes (right_list l.self.rule (is_one l.self.left_scans) l.lone l.goes l.tag l.right (take l.left-index l.matching))
