use Rattle.df_export.specs.JsonLines.{json_line, IsReadBack}
use Rattle.df_export.proofs.Lines.{all_more, lines_more}
use Rattle.df_export.proofs.objects.json_lines.Goals as goal

pub loop-row-preserved : goal.loop-row-preserved
loop-row-preserved c =
    let columns = c.as_slice-columns.result.now in
    let i = c.loop-row.row-index in
    let wrote = rw c.as_slice.ensures at c.in_ok-out.ensures.value in
    let read = rw c.as_slice.ensures at c.in_ok-out.ensures.reads in
    record {
      value = lines_more (json_line columns) c.args.rows.now c.row-item.result i c.loop-row.out.items _ c.loop-row-test.true c.row-item.is c.loop-row.invariant.value wrote;
      reads = all_more (IsReadBack columns) c.args.rows.now c.row-item.result i c.loop-row-test.true c.row-item.is c.loop-row.invariant.reads read;
    }
