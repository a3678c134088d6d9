use Rattle.std.proofs.Common.{ap, sym, subst}
use Rattle.df_tree.specs.Leaves.{leaves_of, leaves_of_link, Kept}
use Rattle.df_tree.proofs.PlanLemmas.{kept_shared}
use Rattle.df_tree.proofs.halving.own.Goals as goal

pub returns-in_ok-own-clause-kept : goal.returns-in_ok-own-clause-kept
returns-in_ok-own-clause-kept g c =
    subst (λ l. Kept {I = g.row.I.Denot} (leaves_of_link l) (leaves_of c.in_ok-own.own.value)) (sym c.in-Shared.is)
    (kept_shared {I = g.row.I.Denot} (leaves_of c.in-Shared.node.value) (leaves_of c.in_ok-own.own.value) (ap (λ p. p.0) c.in_ok-own.ensures.alike))
