use Rattle.std.proofs.Common.{◌++◌, ◌∙◌, ap}
use Rattle.df_page.specs.Sections.{name_tags}
use Rattle.df_page.specs.Markup.{markup}
use Rattle.df_page.proofs.MarkupFacts.{more, no_tag}
use Rattle.df_page.proofs.sections.push_each_name.Goals as goal

pub loop-column-init : goal.loop-column-init
loop-column-init c = no_tag _

pub loop-column-preserved : goal.loop-column-preserved
loop-column-preserved c =
    more name_tags c.args.schema.now c.column-item.result c.loop-column.column-index _ c.loop-column.out.items _ c.loop-column-test.true c.loop-column.invariant
    (c.in_ok-push_name.ensures ∙ ap (λ x. c.loop-column.out.items ++ markup (name_tags x)) c.column-item.is)
