use Rattle.std.proofs.Common.{◌∙◌, ap, sym, cond}
use Rattle.indexmap.specs.IndexMap.{get}
use Rattle.df_value.specs.Rows.{row_eq}
use Rattle.df_group.proofs.IndexMaps.{where_ok}
use Rattle.df_group.proofs.Members.{empty_group, live_group}
use Rattle.df_group.proofs.staging.put_group.Goals as goal

pub returns-then-len-eq0-clause-state : goal.returns-then-len-eq0-clause-state
returns-then-len-eq0-clause-state c k =
    c.take_out.ensures.state k
    ∙ ap (λ x. cond (row_eq c.args.key k) x (get row_eq c.args.index.now k)) (sym (empty_group c.args.group (sym c.len.ensures.value ∙ c.if-len-eq0.true)))

pub returns-else-len-eq0-clause-state : goal.returns-else-len-eq0-clause-state
returns-else-len-eq0-clause-state c k =
    (where_ok c.insert.result (c.insert.ensures.succeeds c.requires) c.insert.ensures.updates).0 k
    ∙ ap (λ x. cond (row_eq c.args.key k) x (get row_eq c.args.index.now k)) (sym (live_group c.args.group (λ e. c.if-len-eq0.false (c.len.ensures.value ∙ e))))
