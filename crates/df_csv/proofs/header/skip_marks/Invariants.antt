use Rattle.std.proofs.Common.{◌≡◌, length}
use Rattle.df_csv.specs.Header.{without_marks}
use Rattle.df_csv.proofs.header.skip_marks.Given as goal

abbrev pub invariant-loop-rest : goal.invariant-loop-rest
invariant-loop-rest l = without_marks l.rest ≡ without_marks l.fn.bytes

abbrev pub decreases-loop-rest : goal.decreases-loop-rest
decreases-loop-rest l = length l.rest
