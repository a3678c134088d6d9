use Rattle.std.proofs.Common.{ap, ◌∙◌}
use Rattle.std.specs.Prelude.{slice_set}
use Rattle.df_tree.proofs.EditLemmas.{items_put}
use Rattle.df_tree.proofs.ReadyLemmas.{reserved_room}
use Rattle.df_tree.proofs.seq.Seq.set.Goals as goal

pub put-requires : goal.put-requires
put-requires g c = reserved_room {I = g.row.I.Denot} _ _ _ c.requires c.in_ok-reserve_at.ensures.kept c.in_ok-reserve_at.ensures.reserved

pub returns : goal.returns
returns g c = items_put {I = g.row.I.Denot} _ _ _ _ c.put.ensures.edited ∙ ap (λ l. slice_set l c.args.index c.args.item) c.in_ok-reserve_at.ensures.kept.items
