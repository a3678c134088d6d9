use Rattle.std.proofs.Common.{◌≡◌, take}
use Rattle.df_session.specs.Loading.{HasLoaded, pieces_of_load}
use Rattle.df_session.proofs.loading.append_pieces.Given as goal

abbrev pub invariant-loop-n : goal.invariant-loop-n
invariant-loop-n g l =
    HasLoaded g.S.ViewStore.Makes g.S.ViewStore.Refuses g.S.ViewStore.Keeps l.frame l.at l.fn.store l.store
    (take l.n (pieces_of_load l.frame.schema l.records)) l.loaded
    × (l.loaded.first ≡ l.fn.loaded.first)
