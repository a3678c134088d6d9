use Rattle.std.proofs.Common.{List, IsUtf8}
use Rattle.std.proofs.lemmas.List.{take_all}
use Rattle.std.proofs.lemmas.List.Elements.{All-more}
use Rattle.std.proofs.lemmas.Str.{IsUtf8-string_bytes}
use Rattle.df_print.specs.Printed.{cell_or_null, cell_text, column_texts}
use Rattle.df_print.proofs.ColumnFacts.{column_utf8, filled_all, width_turn}
use Rattle.df_value.specs.declared.cell.Cell.{Cell}
use Rattle.df_print.proofs.widths.column_width.Goals as goal

pub returns-clause-filled : goal.returns-clause-filled
returns-clause-filled c =
    let all = take_all c.loop-row.row-index c.args.rows.now c.loop-row-test.false in
    let header = rw (c.in_ok-header.ensures.value, c.as_str.ensures) at (IsUtf8-string_bytes c.in_ok-header.header) in
    let texts = column_utf8 c.args.at c.args.name.now c.args.rows.now header (rw all at c.loop-row.invariant.utf8) in
    filled_all (column_texts c.args.at c.args.name.now c.args.rows.now) c.loop-row.width texts (rw all at c.loop-row.invariant.width)

pub loop-row-preserved : goal.loop-row-preserved
loop-row-preserved c =
    let rows = c.args.rows.now in
    let i = c.loop-row.row-index in
    let item = c.row-item.result in
    record {
      width = width_turn c.args.at c.args.name.now rows i item c.loop-row.width c.in_ok-width.width c.loop-row-test.true c.loop-row.invariant.width (rw (← c.row-item.is) c.in_ok-width.ensures.greater);
      utf8 = All-more (λ (row : List Cell). IsUtf8 (cell_text (cell_or_null c.args.at row))) rows i item c.loop-row-test.true c.loop-row.invariant.utf8 (rw (← c.row-item.is) c.in_ok-width.ensures.utf8);
    }

pub returns-clause-utf8 : goal.returns-clause-utf8
returns-clause-utf8 c =
    let all = take_all c.loop-row.row-index c.args.rows.now c.loop-row-test.false in
    let header = rw (c.in_ok-header.ensures.value, c.as_str.ensures) at (IsUtf8-string_bytes c.in_ok-header.header) in
    column_utf8 c.args.at c.args.name.now c.args.rows.now header (rw all at c.loop-row.invariant.utf8)
