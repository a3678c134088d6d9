use Rattle.std.proofs.Common.{◌≡◌, ◌∙◌, ◌++◌, ◌+◌, ap, codes, subst, sym}
use Rattle.std.specs.Prelude.{Some, slice_get, string_bytes}
use Rattle.df_print.specs.Printed.{escaped_text}
use Rattle.df_explain.specs.Explanations.{between}
use Rattle.df_explain.specs.Places.{part_text}
use Rattle.df_explain.proofs.PlaceFacts.{if_ok_then, same_found}
use Rattle.df_explain.proofs.plan_words.plan_words.Goals as goal

pub returns-in-Some : goal.returns-in-Some
returns-in-Some c =
    if_ok_then c.words_in_view.result c.words_in_view.ensures
    (λ words h index view named found.
    let same = same_found c.in-Some.index index _ (rw (c.as_slice.ensures, c.as_str.ensures, c.in-Some.is) at c.index_of_name.ensures.value) named in
    let p = h view (subst (λ i. slice_get c.args.document.now.views i ≡ Some view) (sym same) found) in (
      p.0,
      p.1,
      p.2 ∙ ap (λ i. part_text (codes "view") (i + 1) (Some (escaped_text c.args.view.now)) ++ (between c.args.fault.now ++ p.0)) same,
    ))
