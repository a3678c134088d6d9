use Rattle.std.proofs.Common.{ap, inl, subst}
use Rattle.df_session.specs.Declarations.{IsRefusalOfWords}
use Rattle.df_session.proofs.DeclarationFacts.{words-behind}
use Rattle.df_session.proofs.declared_frames.answer_declaring.Goals as goal

pub returns-in-Err : goal.returns-in-Err
returns-in-Err c = (
  ap (λ d. d.document.items) c.in-Err.ensures.kept,
  inl
      (subst (λ ws. IsRefusalOfWords c.args.declared.now.document.items ws c.in-Err.refusal)
      (words-behind _ c.args.words.now _ c.in-frame.len_at_least c.in-frame.is-frame) c.in-Err.ensures.refused),
)
