use Rattle.std.proofs.Common.{◌∙◌, sym}
use Rattle.df_value.specs.Rows.{row_fits}
use Rattle.df_state.proofs.AllPass.{all-map}
use Rattle.df_state.proofs.checks.all_fit.Goals as goal

pub returns : goal.returns
returns c = c.each_fits.ensures ∙ sym (all-map (row_fits c.args.schema.now) (λ r. r.1) c.args.rows.now)
