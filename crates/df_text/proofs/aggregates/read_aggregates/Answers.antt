use Rattle.std.proofs.Common.{arith, rules}
use Rattle.toml.specs.View.{view}
use Rattle.df_text.specs.AggregateItems.{next_aggregate_of}
use Rattle.df_text.proofs.ReadSteps.{read_more, read_whole}
use Rattle.df_text.proofs.aggregates.read_aggregates.Goals as goal

pub loop-value-preserved : goal.loop-value-preserved
loop-value-preserved c =
    read_more view (next_aggregate_of c.args.location) c.args.values.now c.loop-value.value-index _ c.loop-value.aggregates.items _ c.value-item.result _
    (omega arith) c.value-item.is c.loop-value.invariant (search rules) c.in_ok-push.ensures.items

pub returns : goal.returns
returns c =
    read_whole view (next_aggregate_of c.args.location) c.args.values.now c.loop-value.value-index _ c.loop-value.aggregates.items _
    (omega arith) c.loop-value.invariant c.from_vec.ensures
