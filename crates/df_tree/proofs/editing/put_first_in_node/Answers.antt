use Rattle.std.proofs.Common.{ap, sym, ◌∙◌}
use Rattle.df_tree.specs.Leaves.{rank_of, leaves_of}
use Rattle.df_tree.proofs.LeafLemmas.{not_parts}
use Rattle.df_tree.proofs.editing.put_first_in_node.Goals as goal

pub unreachable-requires-in-Parts : goal.unreachable-requires-in-Parts
unreachable-requires-in-Parts g c =
    not_parts {I = g.row.I.Denot} c.in-Parts.field-0.items _ (ap (λ n. leaves_of n) (sym c.in-Parts.is) ∙ c.requires.leaf) (ap (λ n. rank_of n) (sym c.in-Parts.is) ∙ c.requires.rank)
