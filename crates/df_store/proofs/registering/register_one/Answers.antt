use Rattle.std.proofs.Common.{ap}
use Rattle.df_versions.specs.Answered.{told_states}
use Rattle.df_store.proofs.HeadingFacts.{registered-one}
use Rattle.df_store.proofs.RegisterFacts.{of-copy}
use Rattle.df_store.proofs.registering.register_one.Goals as goal

pub returns-in-Ok-clause-registered : goal.returns-in-Ok-clause-registered
returns-in-Ok-clause-registered g c =
    registered-one c.args.catalogue.now c.change_views.new.self _ c.args.view.now c.in_ok-name.name c.in_ok-plan.plan c.in-Ok.told
    c.in_ok-name.ensures c.in_ok-plan.ensures c.in-Ok.ensures.answer c.in-Ok.ensures.history

pub returns-clause-cause : goal.returns-clause-cause
returns-clause-cause g c = λ s ends.
    of-copy c.args.catalogue.now c.change_views.new.self _ s c.args.view.now c.in_ok-name.name c.in_ok-plan.plan c.in-Err.fault c.of_register.result
    (ap told_states c.as_ref.ensures.value) c.in_ok-name.ensures c.in_ok-plan.ensures c.in-Err.ensures.answer c.in-Err.ensures.history ends c.of_register.ensures
