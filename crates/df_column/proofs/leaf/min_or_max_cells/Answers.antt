use Rattle.std.proofs.Common.{[], ◌∷◌, length-append, arith}
use Rattle.df_column.proofs.LeafMinMax.{cells_more}
use Rattle.df_column.proofs.leaf.min_or_max_cells.Goals as goal

pub loop-column-preserved : goal.loop-column-preserved
loop-column-preserved c =
    let is = c.loop-column.invariant in
    let cells = c.loop-column.cells.items in
    let l = length-append cells (c.in_ok-cell.cell ∷ []) in
    rw c.in_ok-push.ensures.items (record {
      count = omega (arith, l, is.count);
      cells = cells_more c.args.which c.args.run.now cells c.in_ok-cell.cell c.loop-column.column is.count is.cells c.in_ok-cell.ensures;
    })
