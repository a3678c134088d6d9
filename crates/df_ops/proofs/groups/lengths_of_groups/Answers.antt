use Rattle.df_ops.specs.Groups.{group_of}
use Rattle.df_value.specs.declared.cell.Cell.{Cell}
use Rattle.std.proofs.Common.{◌∙◌, List, ap, length, map, refl}
use Rattle.df_ops.proofs.Steps.{all_done, made_is, mapped_more}
use Rattle.df_ops.proofs.groups.lengths_of_groups.Goals as goal

pub returns : goal.returns
returns c =
    let size = λ (k : List Cell). length (group_of c.args.indices.now c.args.rows.now k) in
    all_done (map size) c.as_slice-keys.result.now _ _ _ c.loop-key-test.false c.loop-key.invariant refl
    ∙ ap (map size) (c.as_slice-keys.ensures.value ∙ c.in_ok-keys.ensures)

pub loop-key-preserved : goal.loop-key-preserved
loop-key-preserved c =
    mapped_more _ _ _ _ _ _ _ c.loop-key-test.true c.key-item.is c.loop-key.invariant
    (made_is _ _ _ c.group_length.ensures c.in_ok-push_made.ensures.1) c.in_ok-push_made.ensures.2
