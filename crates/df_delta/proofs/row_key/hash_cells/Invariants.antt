use Rattle.std.proofs.Common.{◌≡◌, drop}
use Rattle.std.specs.List.{flat_map, fold}
use Rattle.df_ops.specs.Groups.{key_of}
use Rattle.df_delta.specs.RowKeys.{cell_writes}
use Rattle.df_delta.proofs.row_key.hash_cells.Given as goal

abbrev pub invariant-loop-index : goal.invariant-loop-index
invariant-loop-index g l =
    fold g.H.Hasher.write l.state (flat_map cell_writes (key_of (drop l.index-index l.indices) l.row))
    ≡ fold g.H.Hasher.write l.initial.state (flat_map cell_writes (key_of l.indices l.row))
