use Rattle.std.proofs.Common.{◌≡◌, ◌++◌, codes, flat_map, take}
use Rattle.df_writing.specs.ExpressionData.{output_data}
use Rattle.df_writing.specs.Texts.{data_text}
use Rattle.df_writing.proofs.expressions.push_outputs.Given as goal

abbrev pub invariant-loop-output : goal.invariant-loop-output
invariant-loop-output l = l.text.items ≡ l.fn.text.items ++ flat_map (λ o. codes ", " ++ data_text (output_data o)) (take l.output-index l.outputs)
