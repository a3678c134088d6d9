use Rattle.std.proofs.Common.{◌≡◌, ◌≤◌, ◌+◌, drop}
use Rattle.df_session.specs.Exported.{record_ends, record_ends_behind}
use Rattle.df_session.proofs.exporting.record_ends.Given as goal

abbrev pub invariant-loop-byte : goal.invariant-loop-byte
invariant-loop-byte l =
    (record_ends l.table ≡ l.ends + record_ends_behind l.quoted (drop l.byte-index l.table)) × (l.ends ≤ l.byte-index)
