use Rattle.std.proofs.Common.{rules, ap, ◌∙◌, ◌++◌, ◌∷◌, []}
use Rattle.df_tree.proofs.LeafLemmas.{items-one}
use Rattle.df_tree.proofs.JoinLemmas.{put_leaf, put_leaves}
use Rattle.df_tree.proofs.joining.push_items.Goals as goal

pub returns-then-len-le-WIDTH : goal.returns-then-len-le-WIDTH
returns-then-len-le-WIDTH g c =
    put_leaf {I = g.row.I.Denot} _ _ c.in_ok-leaf.leaf c.args.run.items c.in_ok-push.ensures.items (ap (λ p. p.0) c.in_ok-leaf.ensures ∙ items-one {I = g.row.I.Denot} c.args.run.items 0) (ap (λ p. p.1) c.in_ok-leaf.ensures) c.requires

pub returns : goal.returns
returns g c =
    put_leaves {I = g.row.I.Denot} _ _ c.in_ok-first.first c.in_ok-second.second _ _ _ c.args.run.items (c.in_ok-push-3.ensures.items ∙ ap (λ l. l ++ c.in_ok-second.second ∷ []) c.in_ok-push-2.ensures.items)
    (ap (λ p. p.0) c.in_ok-first.ensures ∙ items-one {I = g.row.I.Denot} _ 0) (ap (λ p. p.0) c.in_ok-second.ensures ∙ items-one {I = g.row.I.Denot} _ 0) (ap (λ p. p.1) c.in_ok-first.ensures) (ap (λ p. p.1) c.in_ok-second.ensures)
    c.in_ok-half.ensures.items c.in_ok-half.ensures.tail (search rules) (search rules)
