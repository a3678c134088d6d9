use Rattle.std.proofs.Common.{◌++◌, ◌∙◌, ap}
use Rattle.std.specs.Prelude.{slice_get}
use Rattle.df_page.specs.Cells.{row_tags}
use Rattle.df_page.specs.Markup.{markup}
use Rattle.df_page.specs.Sections.{placed_tags}
use Rattle.df_page.proofs.MarkupFacts.{all_placed, more_placed, no_tag}
use Rattle.df_page.proofs.sections.push_each_row.Goals as goal

pub loop-at-init : goal.loop-at-init
loop-at-init c = no_tag _

pub loop-at-preserved : goal.loop-at-preserved
loop-at-preserved c =
    let columns = c.args.columns.now in
    let before = c.args.before.now in
    let row = c.index-rows-at.result in
    let out = c.loop-at.out.items in
    more_placed (placed_tags columns before) c.args.rows.now row c.loop-at.at _ out _ c.loop-at-test.true c.loop-at.invariant
    (c.in_ok-push_row.ensures
    ∙ (ap (λ b. out ++ markup (row_tags columns b row)) c.row_before.ensures
    ∙ ap (λ r. out ++ markup (row_tags columns (slice_get before c.loop-at.at) r)) c.index-rows-at.is))

pub returns : goal.returns
returns c = all_placed (placed_tags c.args.columns.now c.args.before.now) c.args.rows.now c.loop-at.at _ c.loop-at.out.items c.loop-at-test.false c.loop-at.invariant
