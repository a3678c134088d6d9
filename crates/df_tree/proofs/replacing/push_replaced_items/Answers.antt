use Rattle.std.proofs.Common.{◌≤◌, ◌+◌, ◌-◌, ◌++◌, refl, length, take, drop, ap, ◌∙◌, arith, append_assoc, length-append, length-drop}
use Rattle.df_tree.proofs.LeafLemmas.{take_past}
use Rattle.df_tree.proofs.JoinLemmas.{put_as}
use Rattle.df_tree.proofs.Outcomes.{if_ok_then}
use Rattle.df_tree.proofs.replacing.push_replaced_items.Goals as goal

pub returns : goal.returns
returns g c =
    let many : length (drop (c.args.index + 1) c.args.leaf.now) ≤ length c.args.leaf.now - (c.args.index + 1) = let n = length-drop (c.args.index + 1) c.args.leaf.now in omega (arith, n) in
    if_ok_then c.push_items.result c.push_items.ensures
    (λ _ h. put_as {I = g.row.I.Denot} _ _ _ _ _ _ refl
    (c.in_ok-append-2.ensures.items ∙ ap (λ l. l ++ c.in_ok-rest.rest.items) (c.in_ok-append.ensures.items ∙ ap (λ l. l ++ c.args.run.items) c.in_ok-made.ensures) ∙ append_assoc (take c.args.index c.args.leaf.now) c.args.run.items c.in_ok-rest.rest.items
    ∙ ap (λ l. take c.args.index c.args.leaf.now ++ (c.args.run.items ++ l)) (c.in_ok-rest.ensures ∙ take_past _ _ many)) h)

pub push_items-requires : goal.push_items-requires
push_items-requires g c =
    let a = ap length c.in_ok-append-2.ensures.items in
    let b = length-append c.append.new.self.items c.in_ok-rest.rest.items in
    let d = ap length c.in_ok-append.ensures.items in
    let e = length-append c.in_ok-made.made.items c.args.run.items in
    omega (arith, a, b, d, e, c.requires.some)
