use Rattle.std.proofs.Common.{ap, ◌∙◌, sym}
use Rattle.df_delta.specs.RowKeys.{key_cells}
use Rattle.df_join.specs.Keyed.{rows_or_empty}
use Rattle.df_join.proofs.Index.{kept_rows, null_rows, staged_rows}
use Rattle.df_join.proofs.join.LiveJoin.right_table.Goals as goal

pub returns-then-is_null_key-clause-rows : goal.returns-then-is_null_key-clause-rows
returns-then-is_null_key-clause-rows c r leads = null_rows c.args.self.now.rule c.args.self.now.rule.indices.right r (key_cells c.args.key) (sym c.is_null_key.ensures ∙ c.if-is_null_key.true)

pub returns-in-Some-clause-rows : goal.returns-in-Some-clause-rows
returns-in-Some-clause-rows c r leads =
    staged_rows c.args.self.now.rule c.args.self.now.rule.indices.right c.args.self.now.right c.args.staged.now r (key_cells c.args.key) c.in-Some.table.now (sym c.is_null_key.ensures ∙ c.if-is_null_key.false) leads (sym c.in-Some.ensures.table)

pub returns-in-None-clause-rows : goal.returns-in-None-clause-rows
returns-in-None-clause-rows c r leads =
    ap rows_or_empty c.look-in-None.ensures.table ∙ kept_rows c.args.self.now.rule c.args.self.now.rule.indices.right c.args.self.now.right c.args.staged.now r (key_cells c.args.key) (sym c.is_null_key.ensures ∙ c.if-is_null_key.false) leads (sym c.in-None.ensures.table)
