use Rattle.std.proofs.Common.{subst, sym}
use Rattle.df_store.specs.Grown.{HaveGrown}
use Rattle.df_store.proofs.GrownFacts.{grown-itself}
use Rattle.df_store.proofs.loading.LoadingCatalogue.over.Goals as goal

pub invariant_of-result : goal.invariant_of-result
invariant_of-result g c =
    let chunks = g.B.Beginning.chunks in
    let history = g.B.Beginning.history in
    (subst (HaveGrown chunks history) (sym c.requires.history) (grown-itself chunks history), c.requires.allowed)
