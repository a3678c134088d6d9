use Rattle.std.proofs.Common.{flat_map}
use Rattle.df_session.specs.Filling.{AreMade, piece_appends}
use Rattle.df_session.proofs.filling.enter_pieces.Given as goal

abbrev pub invariant-loop-made : goal.invariant-loop-made
invariant-loop-made g l = AreMade g.S.ViewStore.Makes l.fn.store l.store (flat_map (piece_appends l.frame) l.yielded)
