use Rattle.std.proofs.Common.{◌∙◌, ap, subst, sym}
use Rattle.std.specs.FinMap as finite
use Rattle.df_column.specs.Changes.{applied}
use Rattle.df_column.specs.TagOrder.{tag_total, tag_same}
use Rattle.df_column.specs.Tables.{entry_change}
use Rattle.df_column.specs.Tags.{tag_cmp}
use Rattle.df_delta.specs.ChangeOf.{row_wise_change}
use Rattle.df_delta.specs.Differences.{IsDiff}
use Rattle.df_delta.specs.SameRows.{same_row}
use Rattle.df_delta.proofs.ChangeOf.{row_wise_diff}
use Rattle.df_delta.proofs.Loops.{collected_all, sorted_from_collected}
use Rattle.df_delta.proofs.SameRows.{same_row_yes, same_row_no}
use Rattle.df_nodes.specs.RowOperators.{result_of, row_wise_output}
use Rattle.df_nodes.proofs.row_wise.row_wise_changes.Goals as goal

pub from_entries-requires : goal.from_entries-requires
from_entries-requires c =
    let change = row_wise_change same_row (result_of c.args.operator.now) in
    record {
      rising = sorted_from_collected tag_cmp entry_change (λ _. change) c.args.delta.now _
          (collected_all tag_cmp entry_change (λ _. change) c.args.delta.now _ _ _ c.loop-entry-test.false c.loop-entry.invariant.whole c.loop-entry.invariant.done);
      rows = c.loop-entry.invariant.rows;
    }

pub returns-clause-diff : goal.returns-clause-diff
returns-clause-diff c t fits =
    let op = c.args.operator.now in
    let d = c.args.delta.now in
    let change = row_wise_change same_row (result_of op) in
    let whole = collected_all tag_cmp entry_change (λ _. change) d _ _ _ c.loop-entry-test.false c.loop-entry.invariant.whole c.loop-entry.invariant.done in
    subst (λ e. IsDiff (row_wise_output op t) (row_wise_output op (applied t d)) e)
    (sym (c.from_entries.ensures ∙ ap finite.from_sorted whole))
    (row_wise_diff same_row same_row_yes same_row_no (result_of op) tag_total tag_same t d fits)
