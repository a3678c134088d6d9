use Rattle.std.proofs.Common.{◌≡◌, ◌≤◌, ◌*◌, take}
use Rattle.std.specs.List.{sum_by}
use Rattle.df_session.specs.Framed.{line_ends}
use Rattle.df_session.proofs.writing.line_ends_of.Given as goal

abbrev pub invariant-loop-part : goal.invariant-loop-part
invariant-loop-part l =
    (l.lines ≡ sum_by (λ part. line_ends part.now) (take l.part-index l.parts)) × (l.lines ≤ l.part-index * 18446744073709551616)
