use Rattle.std.proofs.Common.{ap, ◌∙◌}
use Rattle.std.specs.FinMap as finite
use Rattle.df_live.specs.Fresh.{nodes}
use Rattle.df_live.proofs.Sizes.{few_nodes, of_few_nodes}
use Rattle.df_live.proofs.ViewLaws.{first_table, fresh_is_of, fresh_schema}
use Rattle.df_live.proofs.view.LiveView.of_tree.Goals as goal

pub invariant_of-result : goal.invariant_of-result
invariant_of-result c =
    let plan = c.args.plan in
    let few = few_nodes plan.plan plan.frames plan.schema c.requires.checks in
    record { counts = of_few_nodes _ (nodes plan.plan) few c.requires.fresh.budgeted }

pub returns-in-Ok-clause-live : goal.returns-in-Ok-clause-live
returns-in-Ok-clause-live c frames none are =
    let plan = c.args.plan in
    let checks = c.requires.checks in
    let h = c.requires.fresh in
    let of = fresh_is_of c.args.fresh plan checks h in
    let table = first_table plan frames c.in-Ok.table none c.in-Ok.ensures.rows in
    record {
      of_plan = of;
      over = h.over frames none;
      table = table;
      schema = c.in-Ok.ensures.schema ∙ fresh_schema c.args.fresh plan checks h;
      rows = ap finite.values table ∙ of.rows frames are;
    }
