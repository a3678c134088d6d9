use Rattle.std.proofs.Common.{◌∙◌}
use Rattle.df_page.proofs.MarkFacts.{changed_of}
use Rattle.df_page.proofs.marks.push_changed.Goals as goal

pub returns : goal.returns
returns c =
    changed_of c.args.old.now _ _ _ _ _ (c.as_slice.ensures.value ∙ c.in_ok-text.ensures) c.in_ok-extend_from_slice.ensures.items c.in_ok-push_escaped.ensures.value
    c.in_ok-extend_from_slice-2.ensures.items
