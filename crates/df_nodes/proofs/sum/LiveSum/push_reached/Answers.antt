use Rattle.std.proofs.Common.{◌+◌, ◌∙◌, ◌∷◌, ap, sym, arith, length, map, drop, take}
use Rattle.std.specs.FinMap as finite
use Rattle.df_column.specs.Tables.{entry_change}
use Rattle.df_nodes.specs.Rolling.{reached_by}
use Rattle.df_nodes.specs.Sums.{made_output, summed_row}
use Rattle.df_nodes.proofs.Sums.{found_inside, found_row, reached_rest, start_behind}
use Rattle.df_nodes.proofs.WindowReach.{all_reached}
use Rattle.df_nodes.proofs.sum.LiveSum.push_reached.Goals as goal

pub push_at-requires : goal.push_at-requires
push_at-requires c =
    let n = c.args.self.now in
    let all = c.args.all.now in
    found_inside n.places n.index c.args.input.now.rows all c.requires.sums c.args.tag c.requires.behind c.place_and_next-at.result.0 c.place_and_next-at.ensures.found

pub push_run-requires-clause-from : goal.push_run-requires-clause-from
push_run-requires-clause-from c = start_behind c.args.self.now.places c.args.self.now.index c.args.input.now.rows c.args.all.now c.requires.sums c.args.tag c.place_and_next-at.result.1 c.requires.behind c.place_and_next-at.ensures.behind

pub push_run-requires-clause-in_range : goal.push_run-requires-clause-in_range
push_run-requires-clause-in_range c =
    let len = finite.len-entries c.args.input.now.rows in
    let within = c.place_and_next-at.ensures.behind.within in
    omega arith

pub returns-clause-added : goal.returns-clause-added
returns-clause-added c =
    let u = c.args.input.now.rows in
    let n = c.args.self.now in
    let all = c.args.all.now in
    let rows = finite.entries u in
    let len = finite.len-entries u in
    let from = c.place_and_next-at.result.1 in
    all_reached n.output.rows (made_output n.places n.index u all)
    (map entry_change c.push_run.new.entries.items) (map entry_change c.push_at.new.entries.items) (map entry_change c.args.entries.now.items)
    c.args.tag (map (λ x. x.0) (drop from (take c.max.result rows))) (reached_by (length rows + 1) c.args.tag (take c.args.stop rows))
    (summed_row n.places all c.place_and_next-at.result.0)
    c.in_ok-push_at.ensures.added
    (found_row n.places n.index u all c.requires.sums c.args.tag c.requires.behind c.place_and_next-at.result.0 c.place_and_next-at.ensures.found c.place_and_next-at.ensures.absent)
    c.in_ok-push_run.ensures.added
    (reached_rest c.args.tag rows from c.args.stop c.place_and_next-at.ensures.behind (omega arith)
    ∙ ap (λ k. c.args.tag ∷ map (λ x. x.0) (drop from (take k rows))) (sym c.max.ensures))
