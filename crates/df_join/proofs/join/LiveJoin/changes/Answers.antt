use Rattle.std.proofs.Common.{subst, sym}
use Rattle.df_column.specs.Changes.{applied}
use Rattle.df_delta.specs.Differences.{IsDiff}
use Rattle.df_join.specs.Keyed.{IsIndexOf, LeadsTo}
use Rattle.df_join.specs.Sides.{join_output}
use Rattle.df_join.proofs.Both.{diff_from_notes, left_new_fit, leads_to_both}
use Rattle.df_join.proofs.join.LiveJoin.changes.Goals as goal

pub returns-in_ok-into_delta-in-Ok-clause-diff : goal.returns-in_ok-into_delta-in-Ok-clause-diff
returns-in_ok-into_delta-in-Ok-clause-diff c l r h =
    let j = c.args.self.now in
    let t = join_output j l r in
    let u = join_output j (applied l c.args.left.now) (applied r c.args.right.now) in
    subst (IsDiff t u) (sym c.in_ok-into_delta-in-Ok.ensures) (diff_from_notes c.in_ok-right.notes t u (c.in_ok-right.ensures.leads l r h))

pub returns-in_ok-into_delta-in-Ok-clause-staged : goal.returns-in_ok-into_delta-in-Ok-clause-staged
returns-in_ok-into_delta-in-Ok-clause-staged c l r h =
    let j = c.args.self.now in
    leads_to_both j l r c.args.left.now c.args.right.now h c.in-Ok.left c.in_ok-right.right
    (subst (λ indices. LeadsTo indices j.left c.in-Ok.left (applied l c.args.left.now)) c.as_slice-indices.ensures
    (c.in-Ok.ensures.leads l (subst (λ indices. IsIndexOf indices j.left l) (sym c.as_slice-indices.ensures) h.over.left) h.fits_left (left_new_fit j l r c.args.left.now c.args.right.now h)))
    (c.in_ok-right.ensures.staged l r h)
