use Rattle.std.proofs.Common.{arith}
use Rattle.std.specs.FinMap as finite
use Rattle.std.proofs.lemmas.List.{length-map}
use Rattle.df_nodes.proofs.sliding.SlidingWindow.move_to.Goals as goal

pub read_until-requires-clause-over : goal.read_until-requires-clause-over
read_until-requires-clause-over c =
    let u = c.args.input.now.rows in
    let len = finite.len-entries u in
    let long = length-map (finite.entries u) (λ x. x.1) in
    let inside = c.requires.inside in
    c.in_ok-stand_before.ensures.over c.args.rolling.now (finite.values u) (omega arith) c.requires.last.over
