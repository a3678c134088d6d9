use Rattle.std.proofs.Common.{◌≡◌, drop}
use Rattle.df_value.specs.Rows.{row_eq}
use Rattle.df_ops.specs.Groups.{key_of}
use Rattle.df_ops.proofs.groups.is_in_group.Given as goal

abbrev pub invariant-loop-i : goal.invariant-loop-i
invariant-loop-i l =
    row_eq (key_of l.indices l.row) l.cells ≡ row_eq (key_of (drop l.i l.indices) l.row) (drop l.i l.cells)
