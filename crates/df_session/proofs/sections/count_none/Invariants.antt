use Rattle.std.proofs.Common.{◌≡◌, ◌≤◌, count_by, take}
use Rattle.std.specs.Prelude.{is_none}
use Rattle.df_session.proofs.sections.count_none.Given as goal

abbrev pub invariant-loop-row : goal.invariant-loop-row
invariant-loop-row l = (l.count ≡ count_by is_none (take l.row-index l.rows)) × (l.count ≤ l.row-index)
