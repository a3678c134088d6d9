use Rattle.std.proofs.Common.{◌≡◌, take}
use Rattle.std.specs.Prelude.{flat_map}
use Rattle.df_app.specs.Loading.{line_of}
use Rattle.df_app.proofs.refused.lines_of.Given as goal

abbrev pub invariant-loop-one : goal.invariant-loop-one
invariant-loop-one l = l.lines.items ≡ flat_map (line_of l.frames) (take l.one-index l.refused)
