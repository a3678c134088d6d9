use Rattle.std.proofs.Common.{ap, ◌∙◌, sym}
use Rattle.df_delta.specs.RowKeys.{key_cells}
use Rattle.df_join.specs.Keyed.{rows_or_empty}
use Rattle.df_join.proofs.Index.{known_rows, null_rows}
use Rattle.df_join.proofs.join.LiveJoin.left_table.Goals as goal

pub returns-then-is_null_key-clause-rows : goal.returns-then-is_null_key-clause-rows
returns-then-is_null_key-clause-rows c l over = null_rows c.args.self.now.rule c.args.self.now.rule.indices.left l (key_cells c.args.key) (sym c.is_null_key.ensures ∙ c.if-is_null_key.true)

pub returns-clause-rows : goal.returns-clause-rows
returns-clause-rows c l over =
    ap rows_or_empty c.look.ensures.table ∙ known_rows c.args.self.now.rule c.args.self.now.rule.indices.left c.args.self.now.left l (key_cells c.args.key) (sym c.is_null_key.ensures ∙ c.if-is_null_key.false) over
