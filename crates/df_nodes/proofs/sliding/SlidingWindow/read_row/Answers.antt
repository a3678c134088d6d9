use Rattle.std.proofs.Common.{[], ap, arith, ◌∙◌, get_or, List, sym}
use Rattle.std.specs.FinMap as finite
use Rattle.std.proofs.lemmas.List.{get_or-map, length-map}
use Rattle.df_value.specs.declared.cell.Cell.{Cell}
use Rattle.df_column.specs.declared.tag.Tag.{Tag}
use Rattle.df_nodes.proofs.WindowMoves.{ready}
use Rattle.df_nodes.proofs.sliding.SlidingWindow.read_row.Goals as goal

pub make_room-requires : goal.make_room-requires
make_room-requires c =
    let u = c.args.input.now.rows in
    let len = finite.len-entries u in
    let long = length-map (finite.entries u) (λ x. x.1) in
    let few = c.len-few.ensures.few in
    let value = c.len-few.ensures.value in
    record { ready = ready c.args.rolling.now c.args.self.now (finite.values u) c.requires.over (omega arith) }

pub push-requires : goal.push-requires
push-requires c =
    let u = c.args.input.now.rows in
    let len = finite.len-entries u in
    let long = length-map (finite.entries u) (λ x. x.1) in
    let few = c.len-few.ensures.few in
    let value = c.len-few.ensures.value in
    record { ready = ready c.args.rolling.now c.make_room.new.self (finite.values u) (c.in_ok-make_room.ensures.over (finite.values u) c.requires.over) (omega arith) }

pub returns-clause-row : goal.returns-clause-row
returns-clause-row c =
    let u = c.args.input.now.rows in
    let d : Tag × List Cell = (record { first = 0; second = 0; third = 0 }, []) in
    let len = finite.len-entries u in
    let inside = c.requires.inside in
    c.in_ok-row.ensures d
    ∙ ap (λ n. (get_or (finite.entries u) n d).1) c.in_ok-make_room.ensures.stop
    ∙ sym (get_or-map (λ x. x.1) (finite.entries u) c.args.self.now.stop d [] (omega arith))

pub returns-clause-over : goal.returns-clause-over
returns-clause-over c =
    let u = c.args.input.now.rows in
    let d : Tag × List Cell = (record { first = 0; second = 0; third = 0 }, []) in
    let len = finite.len-entries u in
    let long = length-map (finite.entries u) (λ x. x.1) in
    let inside = c.requires.inside in
    let stop = c.in_ok-make_room.ensures.stop in
    c.in_ok-push.ensures.over (finite.values u) (omega arith)
    (c.in_ok-row.ensures d ∙ sym (get_or-map (λ x. x.1) (finite.entries u) c.make_room.new.self.stop d [] (omega arith)))
    (c.in_ok-make_room.ensures.over (finite.values u) c.requires.over)
