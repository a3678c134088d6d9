use Rattle.std.proofs.Common.{◌≤◌, ◌∙◌, arith, length}
use Rattle.std.specs.Prelude.{string_bytes}
use Rattle.toml.specs.View.{table_view}
use Rattle.df_text.proofs.Utf8.{utf8_fails, utf8_holds}
use Rattle.df_explain.proofs.PlaceFacts.{if_ok_then}
use Rattle.df_explain.proofs.TreeFacts.{shape_of_bytes, shape_of_none, shape_of_tree}
use Rattle.df_explain.proofs.explaining.shape_words.Goals as goal

pub returns-in_default : goal.returns-in_default
returns-in_default c =
    if_ok_then c.without_tree.result c.without_tree.ensures
    (λ words h. shape_of_bytes c.args.name.now c.args.bytes.now c.as_str.result.now (string_bytes words) c.args.fault.now
    (utf8_fails c.args.bytes.now c.in_default.ensures.cases.0) (c.as_str.ensures.value ∙ c.in_ok-named.ensures.value) h)

pub returns-in-Ok-table_from_str : goal.returns-in-Ok-table_from_str
returns-in-Ok-table_from_str c =
    if_ok_then c.views_words.result c.views_words.ensures
    (λ words h. shape_of_tree c.args.name.now c.args.bytes.now c.as_str-in-Ok-table_from_str.result.now (string_bytes words) (table_view c.in-Ok-table_from_str.tree) c.args.fault.now
    (utf8_holds c.args.bytes.now c.in-Ok.ensures.cases.1) (rw c.in-Ok.ensures.cases.0 at c.in-Ok-table_from_str.ensures.ok)
    (c.as_str-in-Ok-table_from_str.ensures.value ∙ c.in_ok-named.ensures.value) h)

pub returns-in-Some : goal.returns-in-Some
returns-in-Some c =
    let span = c.in-Some.ensures.range in
    let within = rw c.in-Ok.ensures.cases.0 at c.in-Err.ensures.span in
    let before : c.in-Some.span.start ≤ length c.args.bytes.now = omega (arith, span.0, within.0, within.1) in
    let none = rw c.in-Ok.ensures.cases.0 at (c.in-Err.ensures.refused (λ m. let e = c.in-Some.ensures.none.1 m in cc)) in
    if_ok_then c.without_tree-in-Some.result c.without_tree-in-Some.ensures
    (λ words h. shape_of_none c.args.name.now c.args.bytes.now c.as_str-in-Some.result.now c.as_str-in-Some-2.result.now (string_bytes words) c.args.fault.now
    c.in-Some.span.start c.line_at.result (utf8_holds c.args.bytes.now c.in-Ok.ensures.cases.1) none before c.line_at.ensures
    (c.as_str-in-Some.ensures.value ∙ c.in_ok-named.ensures.value) (c.as_str-in-Some-2.ensures.value ∙ c.in_ok-named-in-Some.ensures) h)
