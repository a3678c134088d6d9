use Rattle.std.proofs.Common.{◌≡◌, ◌∙◌, ap, sym, false, cond, Some, None}
use Rattle.indexmap.specs.IndexMap.{get}
use Rattle.df_value.specs.Rows.{row_eq}
use Rattle.df_value.specs.RowEq.{row_eq-Decides}
use Rattle.df_ops.specs.Groups.{key_of}
use Rattle.df_delta.specs.Keyed.{kept_changes}
use Rattle.df_delta.specs.SameRows.{with_change}
use Rattle.df_delta.proofs.KeyedChanges.{both_of_one_key, both_of_two_keys, not_both, on_ok_then}
use Rattle.df_delta.proofs.keyed.add_both.Goals as goal

pub returns-then-eq-clause-changes : goal.returns-then-eq-clause-changes
returns-then-eq-clause-changes c = on_ok_then c.add_change.result c.add_change.ensures.changes (λ added k.
    let key = key_of c.args.indices.now in
    let es = kept_changes (get row_eq c.args.by_key.now k) in
    let old = c.args.old.now in
    let new = c.args.new.now in
    let keys : key old ≡ key new = (row_eq-Decides (key old) (key new)).0 (sym c.eq.ensures ∙ c.if-eq.true) in
    added k
    ∙ (λ i. cond (row_eq (key old) k) (with_change es c.args.tag (Some (c.in_ok-old_row.ensures i)) (Some (c.in_ok-new_row.ensures i))) es)
    ∙ both_of_one_key es c.args.tag old new (row_eq (key old) k) (row_eq (key new) k) (ap (λ x. row_eq x k) keys))

pub returns-clause-changes : goal.returns-clause-changes
returns-clause-changes c = on_ok_then c.add_new.result c.add_new.ensures.changes (λ added k.
    let key = key_of c.args.indices.now in
    let es = kept_changes (get row_eq c.args.by_key.now k) in
    let old = c.args.old.now in
    let new = c.args.new.now in
    let differ : row_eq (key old) (key new) ≡ false = sym c.eq.ensures ∙ c.if-eq.false in
    added k
    ∙ ap (λ x. with_change x c.args.tag None (cond (row_eq (key new) k) (Some new) None)) (c.in_ok-add_old.ensures.changes k)
    ∙ both_of_two_keys es c.args.tag old new (row_eq (key old) k) (row_eq (key new) k) (not_both (key old) (key new) k differ))
