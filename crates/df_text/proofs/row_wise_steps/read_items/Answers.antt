use Rattle.std.proofs.Common.{arith, rules}
use Rattle.toml.specs.View.{view}
use Rattle.df_text.specs.RowWiseSteps.{next_item_of}
use Rattle.df_text.proofs.ReadSteps.{read_more, read_whole}
use Rattle.df_text.proofs.row_wise_steps.read_items.Goals as goal

pub loop-value-preserved : goal.loop-value-preserved
loop-value-preserved c =
    read_more view (next_item_of c.args.location) c.args.values.now c.loop-value.value-index _ c.loop-value.items.items _ c.value-item.result _
    (omega arith) c.value-item.is c.loop-value.invariant (search rules) c.in_ok-push.ensures.items

pub returns : goal.returns
returns c =
    read_whole view (next_item_of c.args.location) c.args.values.now c.loop-value.value-index _ c.loop-value.items.items _
    (omega arith) c.loop-value.invariant c.from_vec.ensures
