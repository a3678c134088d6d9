use Rattle.std.proofs.Common.{◌∙◌, [], ◌∷◌, ap, refl, sym}
use Rattle.std.specs.FinMap as finite
use Rattle.df_ops.specs.NamedColumns.{with_columns}
use Rattle.df_delta.proofs.FitRows.{fits_as}
use Rattle.df_nodes.proofs.FitOutputs.{rolled_fits}
use Rattle.df_nodes.proofs.PrefixLaws.{rolled_rows}
use Rattle.df_nodes.specs.Rolling.{put_at, rolling_value}
use Rattle.df_nodes.proofs.PrefixValues.{over_none}
use Rattle.df_nodes.proofs.window.LiveWindow.new.Goals as goal

pub returns-clause-rows : goal.returns-clause-rows
returns-clause-rows c t = ap finite.values (c.in_ok-rolling.ensures.output t) ∙ rolled_rows c.args.schema.now c.args.output.now c.args.kind c.args.column.now c.args.w c.args.m t

pub returns-clause-over : goal.returns-clause-over
returns-clause-over c = (c.in_ok-new.ensures.rows, c.in_ok-new-2.ensures.rows ∙ sym (let r = c.in_ok-rolling.rolling in over_none (put_at r.places) (rolling_value r) r.index))

pub returns-clause-takes : goal.returns-clause-takes
returns-clause-takes c t fit =
    let a = c.args in (
      fits_as _ _ t t (c.in_ok-new.ensures.schema ∙ c.in_ok-copy.ensures) refl fit,
      fits_as _ _ _ _ (c.in_ok-new-2.ensures.schema ∙ c.in_ok-made.ensures ∙ ap (λ d. with_columns a.schema.now ((a.output.now, d) ∷ [])) c.rolling_dtype.ensures) (c.in_ok-rolling.ensures.output t)
          (rolled_fits a.schema.now a.output.now t fit a.kind a.column.now a.w a.m c.requires.typed),
    )
