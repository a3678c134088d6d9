use Rattle.std.proofs.Common.{◌∙◌, Some, refl, sym, ap}
use Rattle.std.specs.Prelude.{bytes_eq, option_map}
use Rattle.df_state.proofs.Places.{none-named, placed-found}
use Rattle.dataframes.proofs.dashboard.schema_named.Goals as goal

pub returns-in_err-at : goal.returns-in_err-at
returns-in_err-at c =
    rw (c.from_residual.ensures, none-named (λ v. bytes_eq v.0 c.args.name.now) c.args.views.now (sym c.index_of_name.ensures.value ∙ c.in_err-at.was)) refl

pub returns : goal.returns
returns c =
    ap (λ v. Some v.1) (sym c.index-views-at.is)
    ∙ sym (ap (option_map (λ v. v.1)) (placed-found (λ v. bytes_eq v.0 c.args.name.now) c.args.views.now c.in_ok-at.at c.index-views-at.result (sym c.index_of_name.ensures.value ∙ c.in_ok-at.was) c.index-views-at.is))
