use Rattle.std.proofs.Common.{arith, [], refl}
use Rattle.df_ops.proofs.Steps.{joined_more, all_done}
use Rattle.std.proofs.lemmas.List.Elements.{filter-append}
use Rattle.df_value.specs.Rows.{row_eq}
use Rattle.df_ops.specs.Groups.{group_of, key_of}
use Rattle.df_ops.proofs.groups.group_of.Goals as goal

pub loop-row-preserved : goal.loop-row-preserved
loop-row-preserved c =
    joined_more (λ rows. group_of c.args.indices.now rows c.args.key.now)
    (filter-append (λ r. row_eq (key_of c.args.indices.now r) c.args.key.now))
    [] c.args.rows.now _ _ _ _ (omega arith) c.row-item.is c.loop-row.invariant c.in_ok-keep_in_group.ensures

pub returns : goal.returns
returns c =
    all_done (λ rows. group_of c.args.indices.now rows c.args.key.now) c.args.rows.now _ _ _
    c.loop-row-test.false c.loop-row.invariant refl
