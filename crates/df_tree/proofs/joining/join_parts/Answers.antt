use Rattle.std.proofs.Common.{arith}
use Rattle.df_tree.proofs.JoinLemmas.{joined_both, put_as}
use Rattle.df_tree.proofs.Outcomes.{if_ok_then}
use Rattle.df_tree.proofs.joining.join_parts.Goals as goal

pub returns : goal.returns
returns g c =
    let w = joined_both {I = g.row.I.Denot} c.args.front.now c.args.behind.now c.in_ok-made.made.items c.in_ok-rest.rest.items _ c.requires.level c.requires.others c.requires.some c.requires.same c.in_ok-made.ensures c.in_ok-rest.ensures c.in_ok-append.ensures.items in
    if_ok_then c.push_parts.result c.push_parts.ensures (λ _ h. put_as {I = g.row.I.Denot} _ _ _ _ _ _ w.rank_is w.holds h)

pub push_parts-requires-clause-level : goal.push_parts-requires-clause-level
push_parts-requires-clause-level g c =
    let w = joined_both {I = g.row.I.Denot} c.args.front.now c.args.behind.now c.in_ok-made.made.items c.in_ok-rest.rest.items _ c.requires.level c.requires.others c.requires.some c.requires.same c.in_ok-made.ensures c.in_ok-rest.ensures c.in_ok-append.ensures.items in
    w.level

pub push_parts-requires-clause-some : goal.push_parts-requires-clause-some
push_parts-requires-clause-some g c =
    let w = joined_both {I = g.row.I.Denot} c.args.front.now c.args.behind.now c.in_ok-made.made.items c.in_ok-rest.rest.items _ c.requires.level c.requires.others c.requires.some c.requires.same c.in_ok-made.ensures c.in_ok-rest.ensures c.in_ok-append.ensures.items in
    w.some

pub push_parts-requires-clause-few : goal.push_parts-requires-clause-few
push_parts-requires-clause-few g c =
    let w = joined_both {I = g.row.I.Denot} c.args.front.now c.args.behind.now c.in_ok-made.made.items c.in_ok-rest.rest.items _ c.requires.level c.requires.others c.requires.some c.requires.same c.in_ok-made.ensures c.in_ok-rest.ensures c.in_ok-append.ensures.items in
    omega (arith, w.rank_is, c.requires.few)
