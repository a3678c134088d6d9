use Rattle.std.proofs.Common.{◌≡◌, ◌*◌, map, take}
use Rattle.df_session.specs.Declarations.{words_of_columns}
use Rattle.df_session.proofs.declared_frames.columns_of.Given as goal

abbrev pub invariant-loop-at : goal.invariant-loop-at
invariant-loop-at l = words_of_columns (map (λ c. (c.0.now, c.1.now)) l.columns.items) ≡ map (λ w. w.now) (take (2 * l.at) l.words)
