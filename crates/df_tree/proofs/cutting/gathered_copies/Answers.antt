use Rattle.std.proofs.Common.{ap, ◌∙◌, arith}
use Rattle.df_tree.proofs.LeafLemmas.{alike_whole}
use Rattle.df_tree.proofs.LevelLemmas.{level_alike}
use Rattle.df_tree.proofs.Outcomes.{if_ok_then}
use Rattle.df_tree.proofs.cutting.gathered_copies.Goals as goal

pub gathered-requires-clause-level : goal.gathered-requires-clause-level
gathered-requires-clause-level g c = level_alike {I = g.row.I.Denot} _ _ c.in_ok-made.ensures c.requires.level

pub gathered-requires-clause-few : goal.gathered-requires-clause-few
gathered-requires-clause-few g c = λ h. let r = ap (λ p. p.1) (alike_whole {I = g.row.I.Denot} _ _ c.in_ok-made.ensures) in omega (arith, r, c.requires.few)

pub returns : goal.returns
returns g c = if_ok_then c.gathered.result c.gathered.ensures (λ k h. h ∙ ap (λ p. p.0) (alike_whole {I = g.row.I.Denot} _ _ c.in_ok-made.ensures))
