use Rattle.std.proofs.Common.{◌≡◌, ◌++◌, codes, flat_map, take}
use Rattle.df_writing.specs.ExpressionData.{aggregate_data}
use Rattle.df_writing.specs.Texts.{data_text}
use Rattle.df_writing.proofs.aggregates.push_aggregates.Given as goal

abbrev pub invariant-loop-aggregate : goal.invariant-loop-aggregate
invariant-loop-aggregate l =
    l.text.items ≡ l.fn.text.items ++ flat_map (λ a. codes ", " ++ data_text (aggregate_data a)) (take l.aggregate-index l.aggregates)
