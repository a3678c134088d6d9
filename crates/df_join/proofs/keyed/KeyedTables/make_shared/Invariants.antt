use Rattle.indexmap.specs.IndexMap.{IsUnchanged}
use Rattle.df_join.proofs.keyed.KeyedTables.make_shared.Given as goal

abbrev pub invariant-loop-index : goal.invariant-loop-index
invariant-loop-index l = IsUnchanged l.fn.self.tables l.self.tables
