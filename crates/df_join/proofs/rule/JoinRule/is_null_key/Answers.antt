use Rattle.std.proofs.Common.{ap, sym, ◌∙◌}
use Rattle.std.specs.Prelude.{◌&&◌, not}
use Rattle.std.specs.List.{list_any}
use Rattle.df_expr.specs.Value.{is_null}
use Rattle.df_delta.specs.RowKeys.{key_cells}
use Rattle.df_join.proofs.Groups.{null_cells}
use Rattle.df_join.proofs.rule.JoinRule.is_null_key.Goals as goal

pub returns-then-not-self : goal.returns-then-not-self
returns-then-not-self c =
    c.has_null.ensures
    ∙ null_cells c.args.key.row.now c.args.key.indices.now
    ∙ ap (λ b. not b && list_any is_null (key_cells c.args.key)) (sym c.if-not-self.true)
