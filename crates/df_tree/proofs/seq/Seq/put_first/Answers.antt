use Rattle.std.proofs.Common.{ap, sym, ◌∙◌, arith}
use Rattle.df_tree.specs.Leaves.{leaves_of, leaves_of_link}
use Rattle.df_tree.proofs.LeafLemmas.{not_shared}
use Rattle.df_tree.proofs.seq.Seq.put_first.Goals as goal

pub unreachable-requires : goal.unreachable-requires
unreachable-requires g c =
    let parts = ap (λ l. leaves_of_link l) (sym c.in-Shared.is) ∙ ap (λ v. v.0) c.self.view_is ∙ c.requires.leaf in
    let none = not_shared {I = g.row.I.Denot} (leaves_of c.in-Shared.field-0.value) _ c.requires.room parts in
    omega (arith, none, c.requires.reserved)
