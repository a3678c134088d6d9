use Rattle.std.proofs.Common.{◌≡◌, ◌++◌, drop}
use Rattle.std.specs.Prelude.{flat_map}
use Rattle.df_document.specs.Refused.{paired, refused_in}
use Rattle.df_document.proofs.refused.refused_lines.Given as goal

abbrev pub invariant-loop-i : goal.invariant-loop-i
invariant-loop-i l =
    flat_map (refused_in l.chunk) (paired l.frames l.pieces)
    ≡ l.lines.items ++ flat_map (refused_in l.chunk) (paired (drop l.i l.frames) (drop l.i l.pieces))
