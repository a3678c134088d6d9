use Rattle.df_join.specs.Sides.{is_one}
use Rattle.df_join.proofs.LeftSide.{noted_left, noted_absent}
use Rattle.df_join.proofs.Staging.{on_ok_then}
use Rattle.df_join.proofs.join.LiveJoin.note_left_option.Goals as goal

pub returns-in-Some-clause-leads : goal.returns-in-Some-clause-leads
returns-in-Some-clause-leads c = on_ok_then c.note_left_row.result c.note_left_row.ensures.noted (λ noted.
    rw c.in-Some.is (λ from l r h is stood leads. noted_left (is_one c.args.self.now.left_scans) c.args.self.now.rule c.args.self.now.right c.args.staged.now _ _ c.args.goes from l r c.args.tag c.in-Some.row (noted r h.over) h is stood leads))

pub returns-in-None-clause-leads : goal.returns-in-None-clause-leads
returns-in-None-clause-leads c = rw c.in-None.is (λ from l r h is stood leads. noted_absent (is_one c.args.self.now.left_scans) c.args.self.now.rule c.args.self.now.right c.args.staged.now c.args.notes.now c.args.goes from l r c.args.tag stood leads)
