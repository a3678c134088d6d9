use Rattle.std.proofs.Common.{◌≡◌, ◌∙◌, Bool, true, false, ap, not, refl, sym}
use Rattle.std.specs.Prelude.{T}
use Rattle.std.specs.Ordering.{is_gt}
use Rattle.df_column.proofs.SkippingLemmas.{none_above_cell, none_above_none}
use Rattle.df_column.proofs.leaf.is_none_above.Goals as goal

is_false : (b : Bool) → T (not b) → b ≡ false
is_false true h = absurd h
is_false false h = refl

pub returns-in-Some : goal.returns-in-Some
returns-in-Some c = λ cells is h.
    none_above_cell c.args.value.now c.in-Some.greatest cells (sym (c.is_gt.ensures ∙ ap is_gt c.cmp.ensures) ∙ is_false c.is_gt.result h) (sym c.in-Some.is ∙ is)

pub returns-in-None : goal.returns-in-None
returns-in-None c = λ cells is h. none_above_none c.args.value.now cells (sym c.in-None.is ∙ is)
