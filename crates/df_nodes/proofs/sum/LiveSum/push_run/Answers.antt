use Rattle.std.proofs.Common.{◌+◌, Some, arith, map, drop, take}
use Rattle.std.specs.FinMap as finite
use Rattle.df_column.specs.Tables.{entry_change}
use Rattle.df_nodes.specs.Sums.{made_output, summed_row}
use Rattle.df_nodes.proofs.Sums.{index_inside, tagged_row}
use Rattle.df_nodes.proofs.WindowValues.{next_tag, one_more}
use Rattle.df_nodes.proofs.sum.LiveSum.push_run.Goals as goal

pub push_at-requires : goal.push_at-requires
push_at-requires c =
    let len = finite.len-entries c.args.input.now.rows in
    let from = c.requires.from in
    index_inside c.args.self.now.places c.args.self.now.index c.args.input.now.rows c.args.all.now c.requires.sums c.loop-at.at (omega arith) (omega arith)

pub loop-at-preserved : goal.loop-at-preserved
loop-at-preserved c =
    let u = c.args.input.now.rows in
    let rows = finite.entries u in
    let n = c.args.self.now in
    let all = c.args.all.now in
    let at = c.loop-at.at in
    let from = c.args.from in
    let len = finite.len-entries u in
    let behind = c.requires.from in
    let q = c.tag.result in
    record {
      added = one_more n.output.rows (made_output n.places n.index u all)
          (map entry_change c.push_at.new.entries.items) (map entry_change c.loop-at.entries.items) (map entry_change c.args.entries.now.items)
          (map (λ x. x.0) (drop from (take at rows))) (map (λ x. x.0) (drop from (take (at + 1) rows))) q
          (summed_row n.places all (Some at))
          c.in_ok-push_at.ensures.added
          (tagged_row n.places n.index u all c.requires.sums at q (omega arith) (omega arith) c.tag.ensures)
          c.loop-at.invariant.added
          (next_tag rows from at q (omega arith) (omega arith) c.tag.ensures);
      rows = λ h. c.in_ok-push_at.ensures.rows (c.loop-at.invariant.rows h);
    }
