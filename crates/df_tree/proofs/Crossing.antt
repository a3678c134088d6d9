-- A sequence may go to another thread, and threads may share it, where its items and their measures may. Its nodes stand behind
-- an Arc, which crosses where its contents both cross and may be shared: so the knot of the tree wants, beside each lemma of
-- Send, that of Sync.
use denote.RattleType.{RattleType}
use denote.Param.Send.{IsSend, IsSync, sendable}
use Rattle.std.proofs.Crossing.{crosses}
use Rattle.df_tree.proofs.seq.Seq.TheLaws.TheKnot as seq
use Rattle.df_tree.specs.contracts.seq.Seq as Seq
use Rattle.df_tree.specs.declared.item.Item.{Ghosts}
use Rattle.df_tree.specs.declared.item.Monoid.{Ghosts as Sums}

module _ (I M : RattleType) (g : Ghosts I.Denot M.Denot) (h : Sums M.Denot) (item_send : IsSend I) (item_sync : IsSync I) (measure_send : IsSend M) (measure_sync : IsSync M) where
  pub seq_send : IsSend (Seq.the_row I M g h)
  seq_send = seq.both_send-Seq I M g h
      (search (sendable, crosses) depth 20) (search (sendable, crosses) depth 20) (search (sendable, crosses) depth 20)
      (search (sendable, crosses) depth 20) (search (sendable, crosses) depth 20) (search (sendable, crosses) depth 20)
      (search (sendable, crosses) depth 20) (search (sendable, crosses) depth 20) (search (sendable, crosses) depth 20)
      (search (sendable, crosses) depth 20) (search (sendable, crosses) depth 20) (search (sendable, crosses) depth 20)

  pub seq_sync : IsSync (Seq.the_row I M g h)
  seq_sync = seq.both_sync-Seq I M g h
      (search (sendable, crosses) depth 20) (search (sendable, crosses) depth 20) (search (sendable, crosses) depth 20)
      (search (sendable, crosses) depth 20) (search (sendable, crosses) depth 20) (search (sendable, crosses) depth 20)
      (search (sendable, crosses) depth 20) (search (sendable, crosses) depth 20) (search (sendable, crosses) depth 20)
      (search (sendable, crosses) depth 20) (search (sendable, crosses) depth 20) (search (sendable, crosses) depth 20)
