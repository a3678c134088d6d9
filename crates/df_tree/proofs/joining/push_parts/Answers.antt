use Rattle.std.proofs.Common.{rules, ap, ◌∙◌, ◌++◌, ◌∷◌, [], arith}
use Rattle.df_tree.proofs.JoinLemmas.{put_node, put_nodes}
use Rattle.df_tree.proofs.LevelLemmas.{back_piece, front_piece}
use Rattle.df_tree.proofs.joining.push_parts.Goals as goal

pub returns-then-len-le-WIDTH : goal.returns-then-len-le-WIDTH
returns-then-len-le-WIDTH g c = put_node {I = g.row.I.Denot} _ _ c.args.parts.items c.in_ok-node.node c.in_ok-push.ensures.items c.in_ok-node.ensures c.requires.level c.requires.some

pub returns : goal.returns
returns g c =
    put_nodes {I = g.row.I.Denot} _ _ c.args.parts.items _ _ _ c.in_ok-first.first c.in_ok-second.second (c.in_ok-push-3.ensures.items ∙ ap (λ l. l ++ c.in_ok-second.second ∷ []) c.in_ok-push-2.ensures.items) c.in_ok-first.ensures c.in_ok-second.ensures
    c.in_ok-half.ensures.items c.in_ok-half.ensures.tail c.requires.level (search rules) (search rules) (search rules)

pub shared-requires-2-clause-level : goal.shared-requires-2-clause-level
shared-requires-2-clause-level g c = let f = front_piece {I = g.row.I.Denot} c.args.parts.items _ _ c.in_ok-half.ensures.items c.requires.level (search rules) (search rules) in f.0

pub shared-requires-2-clause-few : goal.shared-requires-2-clause-few
shared-requires-2-clause-few g c = let f = front_piece {I = g.row.I.Denot} c.args.parts.items _ _ c.in_ok-half.ensures.items c.requires.level (search rules) (search rules) in let r = f.1.0 in omega (arith, r, c.requires.few)

pub shared-requires-3-clause-level : goal.shared-requires-3-clause-level
shared-requires-3-clause-level g c = let b = back_piece {I = g.row.I.Denot} c.args.parts.items _ _ c.in_ok-half.ensures.tail c.requires.level (search rules) in b.0

pub shared-requires-3-clause-few : goal.shared-requires-3-clause-few
shared-requires-3-clause-few g c = let b = back_piece {I = g.row.I.Denot} c.args.parts.items _ _ c.in_ok-half.ensures.tail c.requires.level (search rules) in let r = b.1.0 in omega (arith, r, c.requires.few)
