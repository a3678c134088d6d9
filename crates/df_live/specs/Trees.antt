-- What a tree of live nodes gives over frames, and when it stands over them.
use Rattle.std.specs.Prelude.{ℕ, ◌<◌, List, length}
use Rattle.df_expr.specs.declared.meter.Meter.{Meter}
use Rattle.df_column.specs.Tables.{TaggedRows}
use Rattle.df_delta.specs.Deltas.{Changes}
use Rattle.df_delta.specs.Differences.{Fits, IsLean}
use Rattle.df_delta.specs.Work.{plus, no_work}
use Rattle.df_live.specs.contracts.joined.JoinOperatorTwoSidedNode.TheImpl.{ghosts as join_node}
use Rattle.df_live.specs.contracts.operator.LiveOperatorLiveNode.TheImpl.{ghosts as operator_node}
use Rattle.df_live.specs.Frames.{frame_at, changed}
use Rattle.df_live.specs.declared.tree.LiveTree.{LiveTree, Scan, Operator', Join'}

-- the rows that it gives over these frames
abbrev pub output : LiveTree → List TaggedRows → TaggedRows
output (Scan f) frames = frame_at frames f
output (Operator' p input node) frames = operator_node.output node (output input frames)
output (Join' p left q right node) frames = join_node.output node (output left frames) (output right frames)

-- every node stands over what the trees below it give over these frames
abbrev pub IsOver : LiveTree → List TaggedRows → Type 0
IsOver (Scan f) frames = Unit {0}
IsOver (Operator' p input node) frames = IsOver input frames × operator_node.IsOver node (output input frames)
IsOver (Join' p left q right node) frames = IsOver left frames × IsOver right frames × join_node.IsOver node (output left frames) (output right frames)

-- every node takes what the trees below it give over these frames
abbrev pub Takes : LiveTree → List TaggedRows → Type 0
Takes (Scan f) frames = Unit {0}
Takes (Operator' p input node) frames = Takes input frames × operator_node.Takes node (output input frames)
Takes (Join' p left q right node) frames = Takes left frames × Takes right frames × join_node.Takes node (output left frames) (output right frames)

-- no prepare counts more
abbrev pub budget : LiveTree → Meter
budget (Scan f) = no_work
budget (Operator' p input node) = plus (budget input) (operator_node.budget node)
budget (Join' p left q right node) = plus (budget left) (plus (budget right) (join_node.budget node))

-- what a prepare may count, by the frames before and after
abbrev pub allowed : LiveTree → List TaggedRows → List TaggedRows → Meter
allowed (Scan f) frames after = no_work
allowed (Operator' p input node) frames after = plus (allowed input frames after) (operator_node.allowed node (output input frames) (output input after))
allowed (Join' p left q right node) frames after =
    plus (allowed left frames after)
    (plus (allowed right frames after)
    (join_node.allowed node (output left frames) (output left after) (output right frames) (output right after)))

-- the tree stands over these frames, and a lean delta of the one at f leads to others that it takes
abbrev pub MayFollow : LiveTree → List TaggedRows → ℕ → Changes → Type 0
MayFollow tree frames f d =
    IsOver tree frames × Takes tree frames × Takes tree (changed frames f d) × (f < length frames) × IsLean d × Fits (frame_at frames f) d
