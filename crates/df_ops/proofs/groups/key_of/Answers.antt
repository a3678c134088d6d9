use Rattle.std.proofs.Common.{◌∙◌, refl}
use Rattle.df_value.specs.Rows.{cell_at}
use Rattle.df_ops.specs.Groups.{key_of}
use Rattle.df_ops.proofs.Steps.{answered, made_is, mapped_at, all_done}
use Rattle.df_ops.proofs.groups.key_of.Goals as goal

pub loop-index-preserved : goal.loop-index-preserved
loop-index-preserved c =
    let pushed = c.in_ok-push_made.ensures in
    mapped_at (λ p. cell_at p c.args.row.now) c.args.indices.now _ _ _ _ pushed.0 c.loop-index-test.true c.loop-index.invariant
    (made_is _ _ _ c.to_cell.ensures.value pushed.1 ∙ c.cell_at.ensures) pushed.2

pub returns : goal.returns
returns c =
    answered _ _ _ c.new.ensures
    (all_done (λ indices. key_of indices c.args.row.now) c.args.indices.now _ _ _ c.loop-index-test.false c.loop-index.invariant refl)
