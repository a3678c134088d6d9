use Rattle.df_join.proofs.Both.{leads_both_again, output_again, over_again, staged_both_again, within_meter}
use Rattle.df_join.proofs.join.LiveJoinTwoSidedNode.prepare.Goals as goal

pub returns-in_err-staged-clause-meter : goal.returns-in_err-staged-clause-meter
returns-in_err-staged-clause-meter c l r h = within_meter c.args.self.now l r c.args.left.now c.args.right.now h c.args.meter.now c.changes.new.probes c.changes.ensures.counted

pub returns-in_err-make_ready-clause-meter : goal.returns-in_err-make_ready-clause-meter
returns-in_err-make_ready-clause-meter c l r h = within_meter c.args.self.now l r c.args.left.now c.args.right.now h c.args.meter.now c.changes.new.probes c.changes.ensures.counted

pub returns-in_err-make_ready-clause-contents : goal.returns-in_err-make_ready-clause-contents
returns-in_err-make_ready-clause-contents c l r h = over_again c.args.self.now c.make_ready.new.self c.make_ready.ensures.before l r h

pub returns-in_err-make_ready-clause-operator : goal.returns-in_err-make_ready-clause-operator
returns-in_err-make_ready-clause-operator c l r = output_again c.args.self.now c.make_ready.new.self l r c.make_ready.ensures.before.left_scans c.make_ready.ensures.before.rule

pub returns-clause-meter : goal.returns-clause-meter
returns-clause-meter c l r h = within_meter c.args.self.now l r c.args.left.now c.args.right.now h c.args.meter.now c.changes.new.probes c.changes.ensures.counted

pub returns-clause-contents : goal.returns-clause-contents
returns-clause-contents c l r h = over_again c.args.self.now c.make_ready.new.self c.make_ready.ensures.before l r h

pub returns-clause-operator : goal.returns-clause-operator
returns-clause-operator c l r = output_again c.args.self.now c.make_ready.new.self l r c.make_ready.ensures.before.left_scans c.make_ready.ensures.before.rule

pub returns-clause-staged : goal.returns-clause-staged
returns-clause-staged c l r h = leads_both_again c.args.self.now c.make_ready.new.self c.make_ready.ensures.before c.make_ready.new.staged _ _ (staged_both_again c.args.self.now c.in_ok-staged.staged c.make_ready.new.staged c.make_ready.ensures.staged _ _ (c.in_ok-staged.ensures.staged l r h))
