use Rattle.std.proofs.Common.{◌≡◌, take}
use Rattle.df_csv.specs.Sources.{chunks_of}
use Rattle.df_document.proofs.pieces.pieces.Given as goal

abbrev pub invariant-loop-n : goal.invariant-loop-n
invariant-loop-n l = l.out.items ≡ take l.n (chunks_of l.source)
