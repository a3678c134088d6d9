use Rattle.std.proofs.Common.{◌∙◌, ap}
use Rattle.std.specs.Prelude.{string_bytes}
use Rattle.df_print.specs.Printed.{escaped_text}
use Rattle.df_explain.specs.Explanations.{frame_named}
use Rattle.df_explain.proofs.PlaceFacts.{if_ok_then}
use Rattle.df_explain.proofs.TreeFacts.{recorded, source_is}
use Rattle.df_explain.proofs.csv_words.csv_words.Goals as goal

pub returns : goal.returns
returns c =
    if_ok_then c.format.result c.format.ensures.ok
    (λ words e. recorded c.args.document.now c.args.frame.now c.as_str-name.result.now c.as_str-source.result.now c.first_line-what.result.now (string_bytes words)
    c.first_line-what.ensures
    (c.as_str-name.ensures.value ∙ (c.in_ok-name.ensures.value ∙ ap escaped_text c.as_str.ensures))
    (c.as_str-source.ensures.value ∙ (c.in_ok-source.ensures
    ∙ source_is c.frame_named.result (frame_named c.args.document.now c.args.frame.now) (c.frame_named.ensures ∙ ap (frame_named c.args.document.now) c.as_str-2.ensures)))
    e)
