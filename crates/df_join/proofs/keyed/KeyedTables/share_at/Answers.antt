use Rattle.std.proofs.Common.{ap, ◌∙◌}
use Rattle.indexmap.specs.IndexMap.{set_value_at}
use Rattle.df_join.proofs.Groups.{same_value_at}
use Rattle.df_join.proofs.keyed.KeyedTables.share_at.Goals as goal

pub returns-in-Some : goal.returns-in-Some
returns-in-Some c = ap (set_value_at c.args.self.now.tables.entries c.args.index) c.make_shared.ensures ∙ same_value_at c.args.self.now.tables.entries c.args.index c.in-Some.table.now c.in-Some.ensures.value
