use Rattle.std.proofs.Common.{ap, ◌∙◌, sym, false, cond, Some, None, get_or}
use Rattle.df_column.proofs.Masks.{value_at, null_at, value_past}
use Rattle.df_column.proofs.masked.value_at.Goals as goal

pub returns-then-nulls-at : goal.returns-then-nulls-at
returns-then-nulls-at g c = λ d. null_at c.args.nulls.now c.args.values.now c.args.at d c.requires c.if-at-nulls.true c.if-nulls-at.true

pub returns-else-nulls-at : goal.returns-else-nulls-at
returns-else-nulls-at g c = λ d.
    sym (value_at c.args.nulls.now c.args.values.now c.args.at d false c.index-values-at.result c.requires c.if-at-nulls.true
    ∙ ap (λ b. cond b None (Some (get_or c.args.values.now c.args.at c.index-values-at.result))) c.if-nulls-at.false
    ∙ ap Some (sym c.index-values-at.is))

pub returns-else-at-nulls : goal.returns-else-at-nulls
returns-else-at-nulls g c = λ d.
    let value = c.index-values-at-else-at-nulls in
    ap Some value.is ∙ sym (value_past c.args.nulls.now c.args.values.now c.args.at d value.result c.requires c.if-at-nulls.false)
