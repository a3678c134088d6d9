use Rattle.std.proofs.Common.{◌≡◌, ◌++◌, flat_map, take}
use Rattle.df_sql.specs.Pieces.{piece_text}
use Rattle.df_sql.proofs.statement.Statement.push.Given as goal

abbrev pub invariant-loop-piece : goal.invariant-loop-piece
invariant-loop-piece l = l.self.text.items ≡ l.fn.self.text.items ++ flat_map piece_text (take l.piece-index l.pieces)
