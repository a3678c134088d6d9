use Rattle.std.proofs.Common.{codes, refl, subst, sym}
use Rattle.std.specs.Prelude.{string_bytes}
use Rattle.df_explain.specs.Places.{IsOneLine}
use Rattle.df_explain.proofs.LineFacts.{place_line, placed, tested}
use Rattle.df_explain.proofs.PlaceFacts.{if_ok_then}
use Rattle.df_explain.proofs.plan_words.words_at_step.Goals as goal

pub returns-clause-line : goal.returns-clause-line
returns-clause-line c =
    if_ok_then c.joined.result c.joined.ensures
    (λ words e. placed c.as_str.result.now (codes ": ") c.first_line.result.now (string_bytes words)
    (subst IsOneLine (sym c.as_str.ensures.value)
    (place_line c.args.frames.now c.args.plan.now c.in_ok-step.step.part.now (string_bytes c.in_ok-step.step.place) c.in_ok-step.ensures.place))
    (tested (codes ": ") refl) c.first_line.ensures e)
