use Rattle.std.proofs.Common.{subst}
use Rattle.std.specs.Arc.{arc_value}
use Rattle.df_column.specs.Blocks.{block_rows}
use Rattle.df_column.specs.Changes.{IsHead}
use Rattle.df_column.proofs.TableLemmas.{head_of_first}
use Rattle.df_column.proofs.leaf.Leaf.new.Goals as goal

pub invariant_of-result : goal.invariant_of-result
invariant_of-result c =
    let b = arc_value c.get.result.now in
    record {
      first_is = head_of_first c.args.run b c.first-first.result c.requires (c.get.ensures b) (subst (λ p. IsHead (block_rows p) c.first-first.result) c.deref.ensures c.first-first.ensures);
      least = c.in_ok-least.ensures;
      greatest = c.in_ok-greatest.ensures;
    }
