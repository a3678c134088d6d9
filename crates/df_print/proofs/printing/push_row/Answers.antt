use Rattle.std.proofs.Common.{◌∙◌, length, sym}
use Rattle.df_print.specs.Printed.{row_texts}
use Rattle.df_print.proofs.LineFacts.{length-row_texts, line_end, line_turn, row_text_at}
use Rattle.df_print.proofs.printing.push_row.Goals as goal

pub loop-i-preserved : goal.loop-i-preserved
loop-i-preserved c =
    let cell = c.in_ok-cell.cell.now in
    let columns = c.args.columns.now in
    line_turn columns c.args.widths.now (row_texts (length columns) c.args.row.now) c.loop-i.i c.index-columns-i.result cell c.args.out.now.items c.loop-i.out.items _ c.requires (length-row_texts (length columns) c.args.row.now) c.loop-i-test.true (c.in_ok-cell.ensures ∙ sym (row_text_at (length columns) c.loop-i.i c.args.row.now cell c.loop-i-test.true)) c.loop-i.invariant (rw (← c.index-columns-i.is) c.in_ok-push_text.ensures)

pub returns : goal.returns
returns c = line_end c.args.columns.now c.args.widths.now (row_texts (length c.args.columns.now) c.args.row.now) c.loop-i.i c.args.out.now.items c.loop-i.out.items c.push.new.self.items c.requires (length-row_texts (length c.args.columns.now) c.args.row.now) c.loop-i-test.false c.loop-i.invariant c.in_ok-push.ensures.items
