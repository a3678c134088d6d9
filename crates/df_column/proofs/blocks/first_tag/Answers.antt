use Rattle.std.proofs.Common.{subst}
use Rattle.std.specs.Arc.{arc_value}
use Rattle.df_column.specs.Blocks.{block_rows}
use Rattle.df_column.specs.Changes.{IsHead}
use Rattle.df_column.proofs.TableLemmas.{head_between}
use Rattle.df_column.proofs.blocks.first_tag.Goals as goal

pub returns-then-range : goal.returns-then-range
returns-then-range c =
    let b = arc_value c.get.result.now in
    head_between c.args.blocks.now c.args.range.start c.args.range.end b c.first.result c.if-range.true c.requires (c.get.ensures b) (subst (λ p. IsHead (block_rows p) c.first.result) c.deref.ensures c.first.ensures)
