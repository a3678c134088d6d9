use Rattle.std.proofs.Common.{◌+◌, ◌-◌, ◌≡◌, ◌∷◌, ap, ◌∙◌, sym, arith, min, map, drop, take}
use Rattle.std.specs.FinMap as finite
use Rattle.df_column.specs.Tables.{entry_change}
use Rattle.df_nodes.specs.Rolling.{reached_by, rolling_output}
use Rattle.df_nodes.specs.Sliding.{output_row}
use Rattle.df_nodes.proofs.Bounds.{reached_run}
use Rattle.df_nodes.proofs.WindowReach.{all_reached}
use Rattle.df_nodes.proofs.WindowValues.{found_row, place_inside}
use Rattle.df_nodes.proofs.window.LiveWindow.push_reached.Goals as goal

pub push_at-requires-clause-inside : goal.push_at-requires-clause-inside
push_at-requires-clause-inside c = place_inside c.args.self.now.rolling c.args.input.now.rows c.args.tag c.place_and_next-at.result.0 c.place_and_next-at.ensures.found

pub push_run-requires-clause-within : goal.push_run-requires-clause-within
push_run-requires-clause-within c =
    let len = finite.len-entries c.args.input.now.rows in
    let within = c.place_and_next-at.ensures.behind.within in
    omega arith

pub returns-clause-added : goal.returns-clause-added
returns-clause-added c =
    let u = c.args.input.now.rows in
    let r = c.args.self.now.rolling in
    let from = c.place_and_next-at.result.1 in
    let end = c.place_and_next-at.result.1 + c.min.result in
    let e : c.min.result ≡ min (c.args.stop - from) (r.w - 1) = omega arith in
    all_reached c.args.self.now.output.rows (rolling_output r u)
    (map entry_change c.push_run.new.entries.items) (map entry_change c.push_at.new.entries.items) (map entry_change c.args.entries.now.items)
    c.args.tag (map (λ x. x.0) (drop from (take end (finite.entries u)))) (reached_by r.w c.args.tag (take c.args.stop (finite.entries u)))
    (output_row r (finite.values u) c.place_and_next-at.result.0)
    c.in_ok-push_at.ensures.added
    (found_row r u c.args.tag c.place_and_next-at.result.0 c.place_and_next-at.ensures.found c.place_and_next-at.ensures.absent)
    c.in_ok-push_run.ensures.added
    (reached_run r.w c.args.tag (finite.entries u) from c.args.stop c.place_and_next-at.ensures.behind
    ∙ ap (λ n. c.args.tag ∷ map (λ x. x.0) (drop from (take (from + n) (finite.entries u)))) (sym e))
