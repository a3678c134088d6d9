use Rattle.std.proofs.Common.{◌∙◌, None, Some, ap, cond, map, rules}
use Rattle.df_column.specs.Tables.{entry_change}
use Rattle.indexmap.specs.IndexMap.{get}
use Rattle.df_value.specs.Rows.{row_eq}
use Rattle.df_delta.specs.RowKeys.{key_cells}
use Rattle.df_delta.specs.SameRows.{with_change}
use Rattle.df_delta.specs.declared.keyed.KeyChanges.{KeyChanges}
use Rattle.df_delta.proofs.KeyedChanges.{change_added, on_ok_then}
use Rattle.df_delta.proofs.keyed.add_change.Goals as goal

pub returns-in-Some-clause-changes : goal.returns-in-Some-clause-changes
returns-in-Some-clause-changes c =
    let before = c.args.by_key.now in
    let made : KeyChanges = record { entries = c.push_change.new.entries } in
    let after = c.get_mut.follows.lender made in
    let updates = (c.get_mut.follows.holds made).3 (search rules) in
    on_ok_then c.push_change.result c.push_change.ensures.added (λ added k.
    change_added (key_cells c.args.key) k (get row_eq before k) (get row_eq after k) (Some c.in-Some.changes.now) made c.args.tag c.args.old c.args.new (updates.0 k) added
    (λ e. c.in-Some.ensures.value ∙ ap (get row_eq before) e))

pub returns-in-Ok-clause-changes : goal.returns-in-Ok-clause-changes
returns-in-Ok-clause-changes c k =
    let before = c.args.by_key.now in
    let made : KeyChanges = record { entries = c.push_change-2.new.entries } in
    let same = c.get_mut.follows.holds-at-none in
    let is_key = c.in_ok-key.ensures in
    change_added (key_cells c.args.key) k (get row_eq before k) (get row_eq c.insert.new.self k) None made c.args.tag c.args.old c.args.new
    (c.in-Ok.ensures.updates.0 k ∙ (λ i. cond (row_eq (is_key i) k) (Some made) (get row_eq (same i) k)))
    (c.in_ok-push_change.ensures.added ∙ ap (λ es. with_change (map entry_change es) c.args.tag c.args.old c.args.new) c.new.ensures.items)
    (λ e. c.in_default.ensures.value ∙ ap (get row_eq before) e)
