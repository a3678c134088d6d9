use Rattle.std.proofs.Common.{arith, subst, sym}
use Rattle.std.specs.Arc.{arc_value}
use Rattle.df_column.specs.BlockLists.{IsSpliceOf}
use Rattle.df_column.specs.Blocks.{block_rows}
use Rattle.df_column.specs.Changes.{IsHead}
use Rattle.df_column.proofs.KeptMinMax.{head_of_splice}
use Rattle.df_column.proofs.TableLemmas.{head_of_first}
use Rattle.df_column.proofs.leaf.Leaf.first_of_splice.Goals as goal

pub returns-then-staying-gt0 : goal.returns-then-staying-gt0
returns-then-staying-gt0 c =
    head_of_splice c.self.inside.run c.args.run.now c.args.low c.args.high c.self.inside.first (subst (λ bs. IsSpliceOf bs c.args.low c.args.high c.args.run.now) (sym c.self.view_is) c.requires.splice)
    (omega (arith, c.if-staying-gt0.true, c.min-staying.ensures)) c.len.ensures.some c.self.invariant.first_is

pub returns : goal.returns
returns c =
    let b = arc_value c.get.result.now in
    head_of_first c.args.run.now b c.first.result c.requires.some (c.get.ensures b) (subst (λ p. IsHead (block_rows p) c.first.result) c.deref.ensures c.first.ensures)
