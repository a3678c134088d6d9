use Rattle.std.proofs.Common.{cond, Some, ap, ◌∙◌}
use Rattle.indexmap.specs.IndexMap.{get}
use Rattle.df_value.specs.Rows.{row_eq}
use Rattle.df_join.proofs.keyed.KeyedTables.put.Goals as goal

pub returns-in-Ok : goal.returns-in-Ok
returns-in-Ok c k = c.in-Ok.ensures.updates.0 k ∙ ap (λ key. cond (row_eq key k) (Some c.args.table) (get row_eq c.args.self.now.tables k)) c.in_ok-key.ensures
