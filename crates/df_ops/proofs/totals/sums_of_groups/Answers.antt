use Rattle.df_ops.specs.Groups.{group_of}
use Rattle.df_value.specs.declared.cell.Cell.{Cell}
use Rattle.std.proofs.Common.{arith, ◌∙◌, [], ◌∷◌, ◌++◌, ap, List, map, refl}
use Rattle.df_ops.proofs.Steps.{mapped_more, all_done}
use Rattle.std.specs.Prelude.{ℤ}
use Rattle.std.specs.Int.{w128}
use Rattle.std.proofs.lemmas.Int.{ints, to_z-of_z}
use Rattle.df_ops.specs.Aggregates.{cells_of, sum_of}
use Rattle.df_ops.proofs.totals.sums_of_groups.Goals as goal

pub loop-key-preserved : goal.loop-key-preserved
loop-key-preserved c =
    mapped_more _ _ _ _ _ _ _ (omega arith) c.key-item.is c.loop-key.invariant
    (c.sum_of.ensures.value ∙ ap (λ rows. sum_of (cells_of c.args.index rows)) (c.as_slice.ensures.value ∙ c.in_ok-group.ensures))
    (c.in_ok-push.ensures.items ∙ ap (λ (v : ℤ). c.loop-key.sums.items ++ v ∷ []) (to_z-of_z w128 c.sum_of.result (omega (arith, ints))))

pub returns : goal.returns
returns c =
    let rows = c.args.rows.now in
    let sum = λ (k : List Cell). sum_of (cells_of c.args.index (group_of c.args.indices.now rows k)) in
    all_done (map sum) c.as_slice-keys.result.now _ _ _ c.loop-key-test.false c.loop-key.invariant refl
    ∙ ap (map sum) (c.as_slice-keys.ensures.value ∙ c.in_ok-keys.ensures.value)
