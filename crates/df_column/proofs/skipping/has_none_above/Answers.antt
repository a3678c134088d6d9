use Rattle.std.proofs.Common.{◌≡◌, ◌∙◌, Bool, true, false, ap, not, refl, subst, sym}
use Rattle.std.specs.Prelude.{T}
use Rattle.std.specs.Ordering.{is_gt}
use Rattle.df_value.specs.declared.cell.Cell.TheVariants as cell
use Rattle.df_column.specs.BlockMinMax.{IsMinOrMaxAt}
use Rattle.df_column.specs.Columns.{column_cells}
use Rattle.df_column.specs.declared.min_max.MinMax.TheVariants as min_max
use Rattle.df_column.proofs.SkippingLemmas.{none_above_greatest, none_above_nothing}
use Rattle.df_column.proofs.skipping.has_none_above.Goals as goal

is_false : (b : Bool) → T (not b) → b ≡ false
is_false true h = absurd h
is_false false h = refl

pub returns-in-Some : goal.returns-in-Some
returns-in-Some c = λ h.
    let cells = column_cells c.args.column.now in
    none_above_greatest c.args.value.now cells c.in-Some.at
    (sym (c.is_gt.ensures ∙ ap is_gt (c.compare_with.ensures cell.Null)) ∙ is_false c.is_gt.result h)
    (subst (IsMinOrMaxAt min_max.Max cells) c.in-Some.is c.requires)

pub returns-in-None : goal.returns-in-None
returns-in-None c = λ h.
    let cells = column_cells c.args.column.now in
    none_above_nothing c.args.value.now cells (subst (IsMinOrMaxAt min_max.Max cells) c.in-None.is c.requires)
