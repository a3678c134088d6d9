use Rattle.std.proofs.Common.{◌∙◌, ap, drop, map, subst, sym, take}
use Rattle.std.specs.Option.{IfSome}
use Rattle.std.proofs.lemmas.Result.{IfOk-weaker}
use Rattle.df_column.specs.Blocks.{rows_of_blocks}
use Rattle.df_column.specs.Changes.{after_changes}
use Rattle.df_column.specs.Columns.{dtype_of_column}
use Rattle.df_column.specs.Rows.{AreNewRows, is_row_if_any}
use Rattle.df_column.specs.Tables.{AreRising, entry_change}
use Rattle.df_column.specs.Tags.{tag_cmp}
use Rattle.df_column.specs.TreeChanges.{AreChangedBetween}
use Rattle.df_column.proofs.ChangedParts.{in_three, rest_all}
use Rattle.df_column.proofs.PartLemmas.{all_drop, all_take}
use Rattle.df_column.proofs.TableChanges.{applied_sorted, sorted_dropped, sorted_taken}
use Rattle.df_column.proofs.sharing.edited_blocks.Goals as goal

pub with_others-requires-clause-rows : goal.with_others-requires-clause-rows
with_others-requires-clause-rows c =
    let h = subst (λ o. IfSome o (λ e. AreChangedBetween (map dtype_of_column c.args.columns.now) c.args.blocks.now c.args.entries.now e.list e.from e.to)) c.in-Some.is c.in_ok-with_changed_leaves.ensures in
    applied_sorted (rows_of_blocks c.args.blocks.now) (rows_of_blocks c.in-Some.field-0.list) (drop c.in-Some.field-0.from (take c.in-Some.field-0.to c.args.entries.now)) c.requires.rows h.rows

pub with_others-requires-clause-entries : goal.with_others-requires-clause-entries
with_others-requires-clause-entries c =
    subst AreRising (sym (rest_all c.in-Some.field-0.to c.args.entries.now)) (sorted_dropped c.in-Some.field-0.to c.args.entries.now c.requires.entries)

pub with_others-requires-clause-fits : goal.with_others-requires-clause-fits
with_others-requires-clause-fits c =
    let dtypes = map dtype_of_column c.args.columns.now in
    subst (AreNewRows dtypes) (sym (rest_all c.in-Some.field-0.to c.args.entries.now)) (all_drop (λ e. is_row_if_any dtypes e.new) c.in-Some.field-0.to c.args.entries.now c.requires.fits)

pub with_others-requires-in-Some-clause-rows : goal.with_others-requires-in-Some-clause-rows
with_others-requires-in-Some-clause-rows c =
    let h = subst (λ o. IfSome o (λ e. AreChangedBetween (map dtype_of_column c.args.columns.now) c.args.blocks.now c.args.entries.now e.list e.from e.to)) c.in-Some.is c.in_ok-with_changed_leaves.ensures in
    let es = c.args.entries.now in
    let list = rows_of_blocks c.in-Some.field-0.list in
    applied_sorted list (rows_of_blocks c.in_ok-list-in-Some.list) (drop c.in-Some.field-0.to es)
    (applied_sorted (rows_of_blocks c.args.blocks.now) list (drop c.in-Some.field-0.from (take c.in-Some.field-0.to es)) c.requires.rows h.rows)
    (c.in_ok-list-in-Some.ensures.rows ∙ ap (λ es. after_changes tag_cmp list (map entry_change es)) (rest_all c.in-Some.field-0.to es))

pub with_others-requires-in-Some-clause-entries : goal.with_others-requires-in-Some-clause-entries
with_others-requires-in-Some-clause-entries c = sorted_taken c.in-Some.field-0.from c.args.entries.now c.requires.entries

pub with_others-requires-in-Some-clause-fits : goal.with_others-requires-in-Some-clause-fits
with_others-requires-in-Some-clause-fits c = all_take (λ e. is_row_if_any (map dtype_of_column c.args.columns.now) e.new) c.in-Some.field-0.from c.args.entries.now c.requires.fits

pub returns-in_ok-list-in-Some-clause-rows : goal.returns-in_ok-list-in-Some-clause-rows
returns-in_ok-list-in-Some-clause-rows c =
    let h = subst (λ o. IfSome o (λ e. AreChangedBetween (map dtype_of_column c.args.columns.now) c.args.blocks.now c.args.entries.now e.list e.from e.to)) c.in-Some.is c.in_ok-with_changed_leaves.ensures in
    let es = c.args.entries.now in
    let first = map entry_change (take c.in-Some.field-0.from es) in
    let list = rows_of_blocks c.in-Some.field-0.list in
    let behind = c.in_ok-list-in-Some.ensures.rows ∙ ap (λ es. after_changes tag_cmp list (map entry_change es)) (rest_all c.in-Some.field-0.to es) in
    let last = map entry_change (drop c.in-Some.field-0.to es) in
    IfOk-weaker c.with_others-in-Some.result _ _
    (λ l e. e ∙ ap (λ rs. after_changes tag_cmp rs first) (behind ∙ ap (λ rs. after_changes tag_cmp rs last) h.rows)
    ∙ in_three (rows_of_blocks c.args.blocks.now) es c.in-Some.field-0.from c.in-Some.field-0.to h.ordered c.requires.entries h.before)
    c.with_others-in-Some.ensures.rows
