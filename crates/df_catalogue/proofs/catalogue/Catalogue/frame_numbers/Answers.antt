use Rattle.std.proofs.Common.{◌∙◌, sym, ap}
use Rattle.std.specs.Prelude.{Ok, ok_or, option_map}
use Rattle.std.specs.Option.{option_copied}
use Rattle.df_state.specs.declared.fault.CatalogueFault.TheVariants as fault
use Rattle.df_frame.specs.Frames.{numbers_of}
use Rattle.df_catalogue.proofs.catalogue.Catalogue.frame_numbers.Goals as goal

pub returns-in_ok-numbers-in-Some-clause-answer : goal.returns-in_ok-numbers-in-Some-clause-answer
returns-in_ok-numbers-in-Some-clause-answer g c =
    ap (λ o. ok_or (option_map numbers_of o) fault.NoFrame) (sym c.frame_at.ensures.state ∙ ap (λ o. option_map (λ f. f.state) (option_copied o)) c.in-Some.is)
    ∙ ap Ok (sym c.in_ok-numbers-in-Some.ensures)

pub returns-in-None-clause-answer : goal.returns-in-None-clause-answer
returns-in-None-clause-answer g c = (
  λ _. ap (λ o. ok_or (option_map numbers_of o) fault.NoFrame) (sym c.frame_at.ensures.state ∙ ap (λ o. option_map (λ f. f.state) (option_copied o)) c.in-None.is),
  λ e. cc,
)
