use Rattle.df_ops.specs.Groups.{distinct_after, key_of}
use Rattle.std.proofs.lemmas.List.{at_drop_all}
use Rattle.std.proofs.Common.{◌∙◌, map, sym}
use Rattle.df_ops.proofs.groups.distinct_keys.Goals as goal

pub returns : goal.returns
returns c =
    let indices = c.args.indices.now in
    sym
    (c.loop-row.invariant
    ∙ at_drop_all (λ rows. distinct_after c.loop-row.keys.items (map (key_of indices) rows)) c.args.rows.now c.loop-row.row-index c.loop-row-test.false)
