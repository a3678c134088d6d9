use Rattle.std.proofs.Common.{◌∙◌, ◌++◌, ap, codes}
use Rattle.std.specs.Prelude.{string_bytes}
use Rattle.toml.specs.View.{table_view}
use Rattle.df_explain.proofs.PlaceFacts.{if_ok_then}
use Rattle.df_explain.proofs.TreeFacts.{told}
use Rattle.df_explain.proofs.views_words.behind_place.Goals as goal

pub returns : goal.returns
returns c =
    if_ok_then c.joined.result c.joined.ensures
    (λ words e. told c.args.named.now (string_bytes c.in_ok-place.place) c.first_line.result.now (string_bytes words) (table_view c.args.tree.now) c.location_of.result c.args.fault.now
    c.first_line.ensures c.in_ok-place.ensures c.location_of.ensures
    (e ∙ ap (λ t. c.args.named.now ++ (codes ": " ++ t)) (c.as_str-2.ensures.value ∙ (c.in_ok-there.ensures ∙ ap (λ t. t ++ c.first_line.result.now) c.as_str.ensures.value))))
