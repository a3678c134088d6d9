use Rattle.std.proofs.Common.{◌≡◌, ◌++◌, drop}
use Rattle.std.specs.Prelude.{flat_map}
use Rattle.std.specs.List.{enumerate_from}
use Rattle.df_value.specs.Pieces.{refused_piece, refused_pieces}
use Rattle.df_csv.specs.Typed.{piece_start}
use Rattle.df_document.specs.Refused.{refused_line}
use Rattle.df_document.proofs.refused.push_refused.Given as goal

abbrev pub invariant-loop-n : goal.invariant-loop-n
invariant-loop-n l =
    l.initial.lines.items ++ flat_map (refused_line l.frame) (refused_pieces (piece_start l.chunk) l.pieces)
    ≡ l.lines.items
    ++ flat_map (refused_line l.frame) (flat_map (λ p. refused_piece (piece_start l.chunk p.0) p.1) (enumerate_from l.n (drop l.n l.pieces)))
