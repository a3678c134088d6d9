use Rattle.std.proofs.Common.{◌∙◌, [], ◌∷◌, ap, refl, sym}
use Rattle.std.specs.FinMap as finite
use Rattle.df_value.specs.declared.cell.CellType.TheVariants as dtype
use Rattle.df_ops.specs.Places.{places_of}
use Rattle.df_ops.specs.Windows.{cum_sum_at}
use Rattle.df_delta.proofs.FitRows.{fits_as}
use Rattle.df_nodes.specs.Rolling.{put_at}
use Rattle.df_nodes.proofs.FitOutputs.{summed_fits}
use Rattle.df_nodes.proofs.PrefixValues.{over_none}
use Rattle.df_nodes.proofs.Sums.{summed_is, summed_rows}
use Rattle.df_nodes.proofs.sum.LiveSum.new.Goals as goal

pub returns-clause-output : goal.returns-clause-output
returns-clause-output c t =
    let name = c.args.output.now in
    summed_is c.args.schema.now name c.args.column.now _ _ c.position.ensures.value
    (c.from_vec.ensures ∙ c.in_ok-places.ensures ∙ ap (λ columns. places_of columns ((name, dtype.Wide) ∷ [])) (c.as_slice.ensures ∙ c.columns.ensures.value)) t

pub returns-clause-rows : goal.returns-clause-rows
returns-clause-rows c t = ap finite.values (returns-clause-output c t) ∙ summed_rows c.args.schema.now c.args.output.now c.args.column.now t

pub returns-clause-over : goal.returns-clause-over
returns-clause-over c = (c.in_ok-new.ensures.rows, c.in_ok-new-2.ensures.rows ∙ sym (over_none (put_at c.from_vec.result) cum_sum_at c.position.result))

pub returns-clause-takes : goal.returns-clause-takes
returns-clause-takes c t fit = (
  fits_as _ _ t t (c.in_ok-new.ensures.schema ∙ c.in_ok-copy.ensures) refl fit,
  fits_as _ _ _ _ (c.in_ok-new-2.ensures.schema ∙ c.in_ok-made.ensures) (returns-clause-output c t)
      (summed_fits c.args.schema.now c.args.output.now t fit c.args.column.now),
)
