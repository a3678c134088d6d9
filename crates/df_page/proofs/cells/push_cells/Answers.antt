use Rattle.std.proofs.Common.{◌++◌, ◌∙◌, ap, false, get_or}
use Rattle.std.specs.Prelude.{Some}
use Rattle.df_value.specs.Rows.{cell_at}
use Rattle.df_page.specs.declared.columns.Column.{Column}
use Rattle.df_page.specs.Cells.{cell_tags}
use Rattle.df_page.specs.Markup.{markup}
use Rattle.df_page.proofs.MarkupFacts.{all_placed, more_placed, no_tag}
use Rattle.df_page.proofs.cells.push_cells.Goals as goal

pub loop-at-init : goal.loop-at-init
loop-at-init c = no_tag _

pub loop-at-preserved : goal.loop-at-preserved
loop-at-preserved c =
    let none : Column = record { is_number = false; greatest = 0; has_negative = false } in
    let column = get_or c.args.columns.now c.loop-at.at none in
    more_placed (λ p. cell_tags p.1 (cell_at (Some p.0) c.args.row.now)) c.args.columns.now none c.loop-at.at _ c.loop-at.out.items _ c.loop-at-test.true c.loop-at.invariant
    (c.in_ok-push_cell.ensures ∙ ap (λ v. c.loop-at.out.items ++ markup (cell_tags column v)) c.cell_at.ensures)

pub returns : goal.returns
returns c = all_placed (λ p. cell_tags p.1 (cell_at (Some p.0) c.args.row.now)) c.args.columns.now c.loop-at.at _ c.loop-at.out.items c.loop-at-test.false c.loop-at.invariant
