use Rattle.std.proofs.Common.{◌≡◌, drop}
use Rattle.df_value.specs.Rows.{row_eq}
use Rattle.df_ops.specs.Groups.{key_of}
use Rattle.df_delta.proofs.row_key.RowKeyPartialEq.eq.Given as goal

abbrev pub invariant-loop-at : goal.invariant-loop-at
invariant-loop-at l =
    row_eq (key_of l.indices l.self.row.now) (key_of l.others l.other.row.now)
    ≡ row_eq (key_of (drop l.at l.indices) l.self.row.now) (key_of (drop l.at l.others) l.other.row.now)
