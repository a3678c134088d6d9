use Rattle.std.proofs.Common.{◌++◌, ap, List, map, length, arith}
use Rattle.std.specs.Map.{lookup}
use Rattle.indexmap.specs.IndexMap.{get}
use Rattle.df_value.specs.Rows.{row_eq}
use Rattle.df_value.specs.declared.cell.Cell.{Cell}
use Rattle.df_ops.specs.Groups.{key_of}
use Rattle.df_column.specs.Tables.{entry_change}
use Rattle.df_delta.specs.Keyed.{kept_changes}
use Rattle.df_delta.specs.declared.keyed.KeyChanges.{KeyChanges}
use Rattle.df_delta.proofs.KeyedChanges.{made, made_step, made_whole}
use Rattle.df_delta.proofs.keyed.keyed_changes.Goals as goal

pub loop-entry-init : goal.loop-entry-init
loop-entry-init c = record {
  changes = λ k. ap (λ (es : List (List Cell × KeyChanges)). kept_changes (lookup (row_eq k) es) ++ made (key_of c.args.indices.now) k (map entry_change c.entries-entry-items.result.now)) c.new-by_key.ensures.empty;
  whole = c.entries-entry-items.ensures.all;
  short = c.entries-entry-items.ensures.len;
  few = omega (arith, ap (λ (es : List (List Cell × KeyChanges)). length es) c.new-by_key.ensures.empty);
}

pub loop-entry-preserved : goal.loop-entry-preserved
loop-entry-preserved c = record {
  changes = λ k. made_step (key_of c.args.indices.now) k (kept_changes (get row_eq c.loop-entry.by_key k)) (kept_changes (get row_eq c.add_entry.new.by_key k)) _
      c.entries-entry-items.result.now c.loop-entry.entry-index c.entry-item.result c.loop-entry-test.true c.entry-item.is (c.in_ok-add_entry.ensures.changes k) (c.loop-entry.invariant.changes k);
  whole = c.loop-entry.invariant.whole;
  short = c.loop-entry.invariant.short;
  few = omega (arith, c.in_ok-add_entry.ensures.few, c.loop-entry.invariant.few);
}

pub returns-clause-changes : goal.returns-clause-changes
returns-clause-changes c k = made_whole (key_of c.args.indices.now) k c.args.delta.now (kept_changes (get row_eq c.loop-entry.by_key k))
    c.entries-entry-items.result.now c.loop-entry.entry-index c.loop-entry-test.false c.loop-entry.invariant.whole (c.loop-entry.invariant.changes k)

pub returns-clause-few : goal.returns-clause-few
returns-clause-few c = omega (arith, c.loop-entry.invariant.few, c.loop-entry.invariant.short, c.loop-entry-test.false)
