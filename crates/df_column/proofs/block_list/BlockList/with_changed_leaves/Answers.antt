use Rattle.std.proofs.Common.{◌∙◌, ◌++◌, ap, arith, map, refl, sym}
use Rattle.df_column.specs.BlockLists.{rows_in}
use Rattle.df_column.specs.Columns.{dtype_of_column}
use Rattle.df_column.specs.Rows.{is_row_if_any}
use Rattle.df_column.proofs.BlockListLemmas.{rows_both}
use Rattle.df_column.proofs.ChangedNodes.{list_changed}
use Rattle.df_column.proofs.ChangedTrees.{types_cut_rest, types_cut_two}
use Rattle.df_column.proofs.ListParts.{all_taken}
use Rattle.df_column.proofs.PartLemmas.{all_take}
use Rattle.df_column.proofs.TableChanges.{sorted_taken}
use Rattle.df_column.proofs.TagRuns.{sorted_left, sorted_right}
use Rattle.df_column.proofs.block_list.BlockList.with_changed_leaves.Goals as goal

pub entries_of_leaves-to-requires : goal.entries_of_leaves-to-requires
entries_of_leaves-to-requires c = sorted_right c.args.self.now c.self.inside.leaves c.self.inside.tail (sym c.self.view_is) c.requires.rows

pub changed-requires-clause-rows : goal.changed-requires-clause-rows
changed-requires-clause-rows c = sorted_left c.args.self.now c.self.inside.leaves c.self.inside.tail (sym c.self.view_is) c.requires.rows

pub changed-requires-clause-types : goal.changed-requires-clause-types
changed-requires-clause-types c = types_cut_two (map dtype_of_column c.args.columns.now) c.args.self.now c.self.inside.leaves c.self.inside.tail (sym c.self.view_is) c.requires.types

pub changed-requires-clause-entries : goal.changed-requires-clause-entries
changed-requires-clause-entries c = sorted_taken c.entries_of_leaves-to.result c.args.entries.now c.requires.entries

pub changed-requires-clause-fits : goal.changed-requires-clause-fits
changed-requires-clause-fits c = all_take (λ e. is_row_if_any (map dtype_of_column c.args.columns.now) e.new) c.entries_of_leaves-to.result c.args.entries.now c.requires.fits

pub invariant_of-list : goal.invariant_of-list
invariant_of-list c =
    let both = rows_both c.in_ok-leaves.leaves c.in_ok-tail.tail in
    let tail = ap rows_in (c.in_ok-tail.ensures ∙ all_taken c.self.inside.tail c.len.result (omega (arith, c.len.ensures.value))) in
    omega (arith, both, tail, c.rows.ensures.value, c.rows-2.ensures.value, c.in_ok-end_behind.ensures.value, c.in_ok-end_behind.ensures.few)

pub returns : goal.returns
returns c =
    let dtypes = map dtype_of_column c.args.columns.now in
    list_changed dtypes c.args.self.now c.self.inside.leaves c.self.inside.tail c.args.entries.now c.entries_of_leaves-to.result c.in_ok-leaves.from c.in_ok-leaves.leaves c.in_ok-tail.tail (c.in_ok-leaves.leaves ++ c.in_ok-tail.tail) (sym c.self.view_is)
    c.entries_of_leaves-to.ensures.within c.entries_of_leaves-to.ensures.apart c.in_ok-leaves.ensures
    (c.in_ok-tail.ensures ∙ all_taken c.self.inside.tail c.len.result (omega (arith, c.len.ensures.value))) refl (types_cut_rest dtypes c.args.self.now c.self.inside.leaves c.self.inside.tail (sym c.self.view_is) c.requires.types)
