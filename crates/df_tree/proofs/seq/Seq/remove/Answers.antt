use Rattle.std.proofs.Common.{ap, ◌∙◌}
use Rattle.std.specs.List.{remove}
use Rattle.df_tree.proofs.EditLemmas.{items_take}
use Rattle.df_tree.proofs.ReadyLemmas.{reserved_room}
use Rattle.df_tree.proofs.seq.Seq.remove.Goals as goal

pub take_at-requires : goal.take_at-requires
take_at-requires g c = reserved_room {I = g.row.I.Denot} _ _ _ c.requires c.in_ok-reserve_at.ensures.kept c.in_ok-reserve_at.ensures.reserved

pub returns-clause-gone : goal.returns-clause-gone
returns-clause-gone g c =
    c.take_at.ensures.gone.kept.items
    ∙ items_take {I = g.row.I.Denot} _ _ _ c.take_at.ensures.gone.edited
    ∙ ap (λ l. remove l c.args.index) c.in_ok-reserve_at.ensures.kept.items
