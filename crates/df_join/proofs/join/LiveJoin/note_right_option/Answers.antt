use Rattle.df_join.proofs.RightSide.{right_absent}
use Rattle.df_join.proofs.Staging.{on_ok_then}
use Rattle.df_join.proofs.join.LiveJoin.note_right_option.Goals as goal

pub returns-in-Some-clause-leads : goal.returns-in-Some-clause-leads
returns-in-Some-clause-leads c = on_ok_then c.note_right_row.result c.note_right_row.ensures.leads (λ leads. rw c.in-Some.is leads)

pub returns-in-None-clause-leads : goal.returns-in-None-clause-leads
returns-in-None-clause-leads c = rw c.in-None.is (λ from l r is stood fits over. right_absent c.args.self.now c.args.goes _ _ from l r c.args.tag stood over)
