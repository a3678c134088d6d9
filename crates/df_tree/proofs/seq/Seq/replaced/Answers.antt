use Rattle.std.proofs.Common.{[], ◌++◌, ◌+◌, take, drop, ◌∙◌, subst}
use Rattle.df_tree.specs.Leaves.{items}
use Rattle.df_tree.specs.Puts.{ArePut}
use Rattle.df_tree.proofs.JoinLemmas.{put_whole}
use Rattle.df_tree.proofs.Outcomes.{if_ok_then}
use Rattle.df_tree.proofs.seq.Seq.replaced.Goals as goal

pub gathered-requires-clause-level : goal.gathered-requires-clause-level
gathered-requires-clause-level g c =
    let put : ArePut {I = g.row.I.Denot} c.args.self.now.1 (take c.args.index (items {I = g.row.I.Denot} c.args.self.now.0) ++ (c.args.run.items ++ drop (c.args.index + 1) (items {I = g.row.I.Denot} c.args.self.now.0))) [] c.push_replaced.new.to.items = subst (λ o. ArePut {I = g.row.I.Denot} c.args.self.now.1 (take c.args.index (items {I = g.row.I.Denot} c.args.self.now.0) ++ (c.args.run.items ++ drop (c.args.index + 1) (items {I = g.row.I.Denot} c.args.self.now.0))) o c.push_replaced.new.to.items) c.in_ok-made.ensures.items c.in_ok-push_replaced.ensures in
    let whole = put_whole {I = g.row.I.Denot} _ _ _ put in
    whole.0

pub gathered-requires-clause-few : goal.gathered-requires-clause-few
gathered-requires-clause-few g c =
    let put : ArePut {I = g.row.I.Denot} c.args.self.now.1 (take c.args.index (items {I = g.row.I.Denot} c.args.self.now.0) ++ (c.args.run.items ++ drop (c.args.index + 1) (items {I = g.row.I.Denot} c.args.self.now.0))) [] c.push_replaced.new.to.items = subst (λ o. ArePut {I = g.row.I.Denot} c.args.self.now.1 (take c.args.index (items {I = g.row.I.Denot} c.args.self.now.0) ++ (c.args.run.items ++ drop (c.args.index + 1) (items {I = g.row.I.Denot} c.args.self.now.0))) o c.push_replaced.new.to.items) c.in_ok-made.ensures.items c.in_ok-push_replaced.ensures in
    let whole = put_whole {I = g.row.I.Denot} _ _ _ put in
    whole.1.0

pub returns : goal.returns
returns g c =
    let put : ArePut {I = g.row.I.Denot} c.args.self.now.1 (take c.args.index (items {I = g.row.I.Denot} c.args.self.now.0) ++ (c.args.run.items ++ drop (c.args.index + 1) (items {I = g.row.I.Denot} c.args.self.now.0))) [] c.push_replaced.new.to.items = subst (λ o. ArePut {I = g.row.I.Denot} c.args.self.now.1 (take c.args.index (items {I = g.row.I.Denot} c.args.self.now.0) ++ (c.args.run.items ++ drop (c.args.index + 1) (items {I = g.row.I.Denot} c.args.self.now.0))) o c.push_replaced.new.to.items) c.in_ok-made.ensures.items c.in_ok-push_replaced.ensures in
    let whole = put_whole {I = g.row.I.Denot} _ _ _ put in
    if_ok_then c.gathered.result c.gathered.ensures (λ k h. h ∙ whole.1.1)
