use Rattle.std.proofs.Common.{◌≡◌, ◌∙◌, arith, subst, sym}
use Rattle.df_frame.specs.Runs.{IsRun}
use Rattle.df_jobs.proofs.JoinedFacts.{follow-run}
use Rattle.df_jobs.proofs.StoredFacts.{run-follows, run-stands, same-outcomes}
use Rattle.df_jobs.proofs.joining.run_of.Goals as goal

pub new-requires : goal.new-requires
new-requires c =
    let h = c.args.head in
    subst (IsRun h.schema h.first) (sym c.in_ok-rows.ensures.rows) (follow-run h.frame h.schema h.first c.args.outcomes.items c.requires.follow (omega arith) c.requires.few)

pub stored_in-requires : goal.stored_in-requires
stored_in-requires c =
    let h = c.args.head in
    let taken = c.in_ok-rows.ensures in
    run-stands h.frame h.schema h.first c.args.outcomes.items c.in_ok-run.run' _ _ c.requires.follow taken.rows (c.as_slice.ensures.value ∙ taken.parts) c.in_ok-run.ensures

pub returns-clause-joined : goal.returns-clause-joined
returns-clause-joined c =
    let h = c.args.head in
    let taken = c.in_ok-rows.ensures in
    let is =
    run-follows h.frame h.schema h.first c.args.outcomes.items c.in_ok-run.run' _ _ c.requires.follow taken.rows (c.as_slice.ensures.value ∙ taken.parts) c.in_ok-run.ensures _ c.in_ok-outcomes.ensures in
    record { follow = is.0; rows = is.1 }

pub returns-clause-outcomes : goal.returns-clause-outcomes
returns-clause-outcomes c =
    let h = c.args.head in
    let taken = c.in_ok-rows.ensures in
    same-outcomes h.frame h.schema h.first c.args.outcomes.items c.in_ok-run.run' _ _ c.requires.follow taken.rows (c.as_slice.ensures.value ∙ taken.parts) c.in_ok-run.ensures _ c.in_ok-outcomes.ensures
