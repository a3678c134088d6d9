use Rattle.std.proofs.Common.{cond, None, Some, ap, sym, ◌∙◌}
use Rattle.indexmap.specs.IndexMap.{get}
use Rattle.df_value.specs.Rows.{row_eq}
use Rattle.df_join.proofs.Groups.{on_ok_here}
use Rattle.df_join.proofs.keyed.KeyedTables.put_table.Goals as goal

pub returns-then-is_empty-clause-state : goal.returns-then-is_empty-clause-state
returns-then-is_empty-clause-state c k =
    c.swap_remove.ensures.updates.0 k
    ∙ ap (λ b. cond (row_eq c.args.key k) (cond b None (Some c.args.table)) (get row_eq c.args.self.now.tables k)) (sym c.if-is_empty.true ∙ c.is_empty.ensures)

pub returns-else-is_empty-clause-state : goal.returns-else-is_empty-clause-state
returns-else-is_empty-clause-state c k =
    (on_ok_here c.insert.result c.insert.ensures.updates (c.insert.ensures.succeeds c.requires)).0 k
    ∙ ap (λ b. cond (row_eq c.args.key k) (cond b None (Some c.args.table)) (get row_eq c.args.self.now.tables k)) (sym c.if-is_empty.false ∙ c.is_empty.ensures)
