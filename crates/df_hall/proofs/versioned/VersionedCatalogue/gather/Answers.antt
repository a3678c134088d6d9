use Rattle.std.proofs.Common.{Some, ap, subst, sym, ◌∙◌}
use Rattle.df_state.specs.declared.state.CatalogueParts.{CatalogueParts}
use Rattle.df_hall.specs.LastChanges.{AreOfLastStep}
use Rattle.df_hall.proofs.versioned.VersionedCatalogue.gather.Goals as goal

pub invariant_of-self : goal.invariant_of-self
invariant_of-self g c =
    let same = sym c.gather_audited.ensures.same in
    (c.self.invariant.0 ∙ ap (λ (p : CatalogueParts). Some p.state) same, c.self.invariant.1, subst (AreOfLastStep c.self.inside.publisher) same c.self.invariant.2)
