use Rattle.std.proofs.Common.{◌∙◌, ap, subst}
use Rattle.std.specs.Prelude.{string_bytes}
use Rattle.df_explain.specs.Explanations.{behind_name, IsViewText}
use Rattle.df_explain.proofs.PlaceFacts.{if_ok_then, same_read}
use Rattle.df_explain.proofs.explaining.view_words.Goals as goal

pub returns-in_ok-words-in-Ok : goal.returns-in_ok-words-in-Ok
returns-in_ok-words-in-Ok c =
    if_ok_then c.behind_name.result c.behind_name.ensures
    (λ words e document said.
    let there = string_bytes c.in_ok-words-in-Ok.words in
    let same = same_read c.in-Ok.document document _ c.in-Ok.ensures.answer said in (
      there,
      subst (λ d. IsViewText d c.args.view.now c.args.fault.now there) same c.in_ok-words-in-Ok.ensures,
      e ∙ ap (behind_name c.args.name.now) c.as_str.ensures.value,
    ))
