use Rattle.std.proofs.Common.{rules}
use Rattle.df_tree.proofs.LeafLemmas.{items-shared}
use Rattle.df_tree.proofs.seq.Seq.node.Goals as goal

pub returns-in-Shared-clause-alike : goal.returns-in-Shared-clause-alike
returns-in-Shared-clause-alike g c = search (rules, items-shared)
