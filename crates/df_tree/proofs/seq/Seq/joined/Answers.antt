use Rattle.std.proofs.Common.{[], ◌++◌, max, ◌∙◌, subst}
use Rattle.df_tree.specs.Leaves.{items}
use Rattle.df_tree.specs.Puts.{ArePut}
use Rattle.df_tree.proofs.JoinLemmas.{put_whole}
use Rattle.df_tree.proofs.Outcomes.{if_ok_then}
use Rattle.df_tree.proofs.seq.Seq.joined.Goals as goal

pub gathered-requires-clause-level : goal.gathered-requires-clause-level
gathered-requires-clause-level g c =
    let put : ArePut {I = g.row.I.Denot} (max c.args.self.now.1 c.args.behind.now.1) (items {I = g.row.I.Denot} c.args.self.now.0 ++ items {I = g.row.I.Denot} c.args.behind.now.0) [] c.join.new.to.items = subst (λ o. ArePut {I = g.row.I.Denot} (max c.args.self.now.1 c.args.behind.now.1) (items {I = g.row.I.Denot} c.args.self.now.0 ++ items {I = g.row.I.Denot} c.args.behind.now.0) o c.join.new.to.items) c.in_ok-made.ensures.items c.in_ok-join.ensures in
    let whole = put_whole {I = g.row.I.Denot} _ _ _ put in
    whole.0

pub gathered-requires-clause-few : goal.gathered-requires-clause-few
gathered-requires-clause-few g c =
    let put : ArePut {I = g.row.I.Denot} (max c.args.self.now.1 c.args.behind.now.1) (items {I = g.row.I.Denot} c.args.self.now.0 ++ items {I = g.row.I.Denot} c.args.behind.now.0) [] c.join.new.to.items = subst (λ o. ArePut {I = g.row.I.Denot} (max c.args.self.now.1 c.args.behind.now.1) (items {I = g.row.I.Denot} c.args.self.now.0 ++ items {I = g.row.I.Denot} c.args.behind.now.0) o c.join.new.to.items) c.in_ok-made.ensures.items c.in_ok-join.ensures in
    let whole = put_whole {I = g.row.I.Denot} _ _ _ put in
    whole.1.0

pub returns : goal.returns
returns g c =
    let put : ArePut {I = g.row.I.Denot} (max c.args.self.now.1 c.args.behind.now.1) (items {I = g.row.I.Denot} c.args.self.now.0 ++ items {I = g.row.I.Denot} c.args.behind.now.0) [] c.join.new.to.items = subst (λ o. ArePut {I = g.row.I.Denot} (max c.args.self.now.1 c.args.behind.now.1) (items {I = g.row.I.Denot} c.args.self.now.0 ++ items {I = g.row.I.Denot} c.args.behind.now.0) o c.join.new.to.items) c.in_ok-made.ensures.items c.in_ok-join.ensures in
    let whole = put_whole {I = g.row.I.Denot} _ _ _ put in
    if_ok_then c.gathered.result c.gathered.ensures (λ k h. h ∙ whole.1.1)
