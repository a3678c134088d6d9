use Rattle.std.proofs.Common.{◌≡◌, is_some}
use Rattle.df_column.specs.Changes.{applied}
use Rattle.df_column.specs.Tables.{TaggedRows}
use Rattle.df_delta.specs.Inputs.{MayFollowBoth}
use Rattle.df_join.specs.Probes.{is_staged, nothing_staged}
use Rattle.df_join.specs.Sides.{AreInputs, IsOver, LeadsOver, join_output}
use Rattle.df_join.proofs.Both.{over_left, over_right}
use Rattle.df_join.proofs.Counted.{counts_noted}
use Rattle.df_join.proofs.Staging.{leads_at_first}
use Rattle.df_join.proofs.join.LiveJoin.noted.Goals as goal

right_noted : (c : goal.In_ok-note_left_all) (l r : TaggedRows) → MayFollowBoth (IsOver c.args.self.now) (AreInputs c.args.self.now) l c.args.left.now r c.args.right.now
    → LeadsOver c.args.self.now c.note_right_all.new.staged c.note_right_all.new.notes (join_output c.args.self.now l r) l (applied r c.args.right.now)
right_noted c l r h =
    let j = c.args.self.now in
    over_right j l r c.args.left.now c.args.right.now h c.new-staged.result c.note_right_all.new.staged c.new-notes.result c.note_right_all.new.notes
    (leads_at_first j.rule.indices.right j.right c.new-staged.result r c.new-staged.ensures h.over.right) c.new-notes.ensures
    c.in_ok-note_right_all.ensures.leads

pub returns-clause-leads : goal.returns-clause-leads
returns-clause-leads c l r h =
    over_left c.args.self.now l r c.args.left.now c.args.right.now h c.note_right_all.new.staged c.note_right_all.new.notes c.note_left_all.new.notes (right_noted c l r h)
    c.in_ok-note_left_all.ensures.leads

pub returns-clause-staged : goal.returns-clause-staged
returns-clause-staged c l r h = (right_noted c l r h).right

none : (c : goal.In_ok-note_left_all) → is_staged c.new-staged.result ≡ nothing_staged
none c = λ i k. is_some (c.new-staged.ensures k i)

pub returns-clause-exact : goal.returns-clause-exact
returns-clause-exact c =
    counts_noted c.args.self.now.rule c.new-staged.result c.note_right_all.new.staged c.args.left.now c.args.right.now _ _ _ (none c)
    c.in_ok-note_right_all.ensures.touched c.in_ok-note_right_all.ensures.exact c.in_ok-note_left_all.ensures.exact
