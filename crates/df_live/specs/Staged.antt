-- What a commit of a staged tree leads to.
use Rattle.std.specs.Prelude.{List}
use Rattle.df_column.specs.Tables.{TaggedRows}
use Rattle.df_live.specs.contracts.joined.JoinOperatorTwoSidedNode.TheImpl.{ghosts as join_node}
use Rattle.df_live.specs.contracts.operator.LiveOperatorLiveNode.TheImpl.{ghosts as operator_node}
use Rattle.df_live.specs.Trees.{output}
use Rattle.df_live.specs.declared.tree.LiveTree.{LiveTree, Scan, Operator', Join'}
use Rattle.df_live.specs.declared.tree.StagedTree.{StagedTree}
use Rattle.df_live.specs.declared.tree.StagedTree.TheVariants as staged

-- a commit of the staged tree leads to these frames
abbrev pub LeadsTo : LiveTree → StagedTree → List TaggedRows → Type 0
LeadsTo (Scan f) staged.Scan frames = Unit {0}
LeadsTo (Operator' p input node) (staged.Operator' q s n) frames = LeadsTo input s frames × operator_node.LeadsTo node n (output input frames)
LeadsTo (Join' p left q right node) (staged.Join' p' s q' s' n) frames =
    LeadsTo left s frames × LeadsTo right s' frames × join_node.LeadsTo node n (output left frames) (output right frames)
LeadsTo _ _ frames = ⊥

-- what was staged is such that a commit may put it in place
abbrev pub HasRoomFor : LiveTree → StagedTree → Type 0
HasRoomFor (Scan f) staged.Scan = Unit {0}
HasRoomFor (Operator' p input node) (staged.Operator' q s n) = HasRoomFor input s × operator_node.HasRoomFor node n
HasRoomFor (Join' p left q right node) (staged.Join' p' s q' s' n) = HasRoomFor left s × HasRoomFor right s' × join_node.HasRoomFor node n
HasRoomFor _ _ = ⊥
