use Rattle.std.proofs.Common.{Some, ap, sym, ◌∙◌}
use Rattle.df_state.specs.declared.state.CatalogueParts.{CatalogueParts}
use Rattle.df_versions.specs.Histories.{last_state}
use Rattle.df_hall.proofs.hall.Hall.close.Goals as goal

pub returns-in-Ok-clause-state : goal.returns-in-Ok-clause-state
returns-in-Ok-clause-state g c =
    let parts = c.into_parts-catalogue.ensures in record {
      last = record {
        history = c.into_parts-catalogue.result.1;
        over = c.end.ensures.over;
        last = ap last_state parts.publisher ∙ (parts.state ∙ ap (λ (p : CatalogueParts). Some p.state) (sym c.in-Ok.ensures.catalogue));
      };
      allowed = c.end.ensures.allowed;
    }
