use Rattle.std.proofs.Common.{subst, sym}
use Rattle.df_store.proofs.GrownFacts.{grown-through}
use Rattle.df_store.proofs.loading.LoadingCatalogue.append.Goals as goal

pub invariant_of-self : goal.invariant_of-self
invariant_of-self g c = (
  grown-through g.B.Beginning.chunks g.B.Beginning.history c.self.inside.catalogue c.change_rows.new.self _ c.args.desk.now.frame _ _ c.change_rows.result c.self.invariant.0
      c.requires (c.change.ensures c.args.desk.now.frame) c.change_rows.ensures.answer c.change_rows.ensures.history,
  c.self.invariant.1,
)

pub change_rows-requires : goal.change_rows-requires
change_rows-requires g c =
    let frame = c.args.desk.now.frame in
    record { allowed = subst g.J.Naming.allows (sym (c.change.ensures frame)) (c.self.invariant.1 frame _) }
