use Rattle.std.proofs.Common.{◌≡◌, ◌++◌, take}
use Rattle.std.specs.Prelude.{flat_map, codes}
use Rattle.df_app.proofs.output.joined_behind.Given as goal

abbrev pub invariant-loop-block : goal.invariant-loop-block
invariant-loop-block l = l.text.items ≡ l.first ++ flat_map (λ block. codes "\n" ++ block) (take l.block-index l.rest)
