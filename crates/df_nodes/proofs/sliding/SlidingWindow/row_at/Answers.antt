use Rattle.std.proofs.Common.{[], Some, ap, arith, ◌∙◌, get_or, take}
use Rattle.std.specs.FinMap as finite
use Rattle.std.proofs.lemmas.List.{length-map}
use Rattle.df_ops.specs.Aggregates.{cells_of}
use Rattle.df_ops.specs.Windows.{window_of}
use Rattle.df_nodes.specs.Rolling.{put_at, rolling_value}
use Rattle.df_nodes.specs.Sliding.{totals_of}
use Rattle.df_nodes.proofs.WindowMoves.{ready, small_older, small_younger, whole_window}
use Rattle.df_nodes.proofs.sliding.SlidingWindow.row_at.Goals as goal

pub value-requires-clause-some : goal.value-requires-clause-some
value-requires-clause-some c =
    let u = c.args.input.now.rows in
    let len = finite.len-entries u in
    let long = length-map (finite.entries u) (λ x. x.1) in
    let few = c.len-few.ensures.few in
    let value = c.len-few.ensures.value in
    let stack = (ready c.args.rolling.now c.move_to.new.self (finite.values u) c.in_ok-row.ensures.last.over (omega arith)).older in
    omega arith

pub value-requires-clause-older : goal.value-requires-clause-older
value-requires-clause-older c =
    let u = c.args.input.now.rows in
    let len = finite.len-entries u in
    let long = length-map (finite.entries u) (λ x. x.1) in
    let few = c.len-few.ensures.few in
    let value = c.len-few.ensures.value in
    small_older c.args.rolling.now c.move_to.new.self (finite.values u) c.in_ok-row.ensures.last.over (omega arith)

pub value-requires-clause-younger : goal.value-requires-clause-younger
value-requires-clause-younger c =
    let u = c.args.input.now.rows in
    let len = finite.len-entries u in
    let long = length-map (finite.entries u) (λ x. x.1) in
    let few = c.len-few.ensures.few in
    let value = c.len-few.ensures.value in
    small_younger c.args.rolling.now c.move_to.new.self (ready c.args.rolling.now c.move_to.new.self (finite.values u) c.in_ok-row.ensures.last.over (omega arith))

pub returns-clause-row : goal.returns-clause-row
returns-clause-row c =
    let r = c.args.rolling.now in
    let rows = finite.values c.args.input.now.rows in
    let w = c.move_to.new.self in
    let d = totals_of r.kind [] in
    let cell = c.in_ok-cell.ensures (window_of r.w (cells_of r.index (take w.stop rows))) d (whole_window r w rows c.in_ok-row.ensures.last d) in
    ap Some
    (c.in_ok-made.ensures
    ∙ ap (λ row. put_at r.places row c.in_ok-cell.cell) c.in_ok-row.ensures.row
    ∙ ap (put_at r.places (get_or rows c.args.at [])) (cell ∙ ap (λ n. rolling_value r (cells_of r.index (take n rows))) c.in_ok-row.ensures.stop))
