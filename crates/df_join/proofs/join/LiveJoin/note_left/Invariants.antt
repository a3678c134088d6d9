use Rattle.std.proofs.Common.{take}
use Rattle.df_join.specs.RowNotes.{Noted, pair_notes}
use Rattle.df_join.specs.Sides.{is_one}
use Rattle.df_join.proofs.join.LiveJoin.note_left.Given as goal

abbrev pub invariant-loop-right : goal.invariant-loop-right
invariant-loop-right l = Noted l.initial.notes l.notes (pair_notes l.self.rule (is_one l.self.left_scans) l.goes l.tag l.left (take l.right-index l.matching))
