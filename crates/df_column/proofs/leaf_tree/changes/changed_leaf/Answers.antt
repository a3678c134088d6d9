use Rattle.std.proofs.Common.{◌≡◌, ◌∙◌, ◌++◌, T, ap, drop, map, subst, sym, take}
use Rattle.std.specs.FinMap.{is_sorted}
use Rattle.std.specs.Option.{IfSome}
use Rattle.std.proofs.lemmas.Result.{IfOk-weaker}
use Rattle.df_column.specs.BlockLists.{blocks_of_leaves}
use Rattle.df_column.specs.Blocks.{AreOfDtypes, rows_of_blocks}
use Rattle.df_column.specs.Changes.{after_changes}
use Rattle.df_column.specs.Columns.{dtype_of_column}
use Rattle.df_column.specs.Tables.{entry_change}
use Rattle.df_column.specs.Tags.{tag_cmp}
use Rattle.df_column.proofs.ChangedTrees.{only_blocks, only_rows, only_types, rows_replaced, types_replaced}
use Rattle.df_column.proofs.SharedLemmas.{sorted_between}
use Rattle.df_column.proofs.leaf_tree.changes.changed_leaf.Goals as goal

pub with_changes-requires-clause-rows : goal.with_changes-requires-clause-rows
with_changes-requires-clause-rows c =
    let low = c.untouched-low.result in
    let high = c.reached-high.result in
    subst (λ bs. T (is_sorted tag_cmp (rows_of_blocks (drop low (take high bs))))) (sym (c.in_ok-blocks.ensures ∙ c.run.ensures)) (sorted_between low high c.args.leaf.now c.requires.rows)

pub returns-in-Some-clause-rows : goal.returns-in-Some-clause-rows
returns-in-Some-clause-rows c =
    let low = c.untouched-low.result in
    let high = c.reached-high.result in
    let dtypes = map dtype_of_column c.args.columns.now in
    let old = c.in_ok-blocks.blocks in
    let own : old ≡ c.args.leaf.now = c.in_ok-blocks.ensures ∙ c.run.ensures in
    let made = c.in_ok-made.made in
    let added = after_changes tag_cmp (rows_of_blocks (drop low (take high old))) (map entry_change c.args.entries.now) in
    let edited = subst (λ o. IfSome o (λ l. l ≡ take low c.args.leaf.now ++ (made ++ drop high c.args.leaf.now))) c.in-Some.is c.in_ok-edited.ensures in
    IfOk-weaker c.of_leaf.result _ _
    (λ tree h. let is : blocks_of_leaves tree ≡ take low old ++ (made ++ drop high old) =
    only_blocks (tree) c.in-Some.edited _ h (edited ∙ ap (λ bs. take low bs ++ (made ++ drop high bs)) (sym own)) in
    rows_replaced old made (blocks_of_leaves tree) low high c.args.entries.now c.reached-high.ensures.ordered c.untouched-low.ensures.apart c.reached-high.ensures.apart
    (only_rows dtypes added c.new-none.result made c.new-none.ensures c.in_ok-made.ensures) is
    ∙ ap (λ bs. after_changes tag_cmp (rows_of_blocks bs) (map entry_change c.args.entries.now)) own)
    c.of_leaf.ensures

pub returns-in-Some-clause-types : goal.returns-in-Some-clause-types
returns-in-Some-clause-types c =
    let low = c.untouched-low.result in
    let high = c.reached-high.result in
    let dtypes = map dtype_of_column c.args.columns.now in
    let old = c.in_ok-blocks.blocks in
    let own : old ≡ c.args.leaf.now = c.in_ok-blocks.ensures ∙ c.run.ensures in
    let made = c.in_ok-made.made in
    let added = after_changes tag_cmp (rows_of_blocks (drop low (take high old))) (map entry_change c.args.entries.now) in
    let edited = subst (λ o. IfSome o (λ l. l ≡ take low c.args.leaf.now ++ (made ++ drop high c.args.leaf.now))) c.in-Some.is c.in_ok-edited.ensures in
    IfOk-weaker c.of_leaf.result _ _
    (λ tree h. let is : blocks_of_leaves tree ≡ take low old ++ (made ++ drop high old) =
    only_blocks (tree) c.in-Some.edited _ h (edited ∙ ap (λ bs. take low bs ++ (made ++ drop high bs)) (sym own)) in
    types_replaced dtypes old made (blocks_of_leaves tree) low high (subst (AreOfDtypes dtypes) (sym own) c.requires.types)
    (only_types dtypes added c.new-none.result made c.new-none.ensures c.in_ok-made.ensures) is)
    c.of_leaf.ensures

pub returns-clause-rows : goal.returns-clause-rows
returns-clause-rows c =
    let low = c.untouched-low.result in
    let high = c.reached-high.result in
    let dtypes = map dtype_of_column c.args.columns.now in
    let old = c.in_ok-blocks.blocks in
    let own : old ≡ c.args.leaf.now = c.in_ok-blocks.ensures ∙ c.run.ensures in
    let made = c.in_ok-made.made in
    let added = after_changes tag_cmp (rows_of_blocks (drop low (take high old))) (map entry_change c.args.entries.now) in
    IfOk-weaker c.leaves_with.result _ _
    (λ tree h. rows_replaced old made (blocks_of_leaves tree) low high c.args.entries.now c.reached-high.ensures.ordered c.untouched-low.ensures.apart c.reached-high.ensures.apart
    (only_rows dtypes added c.new-none.result made c.new-none.ensures c.in_ok-made.ensures) h
    ∙ ap (λ bs. after_changes tag_cmp (rows_of_blocks bs) (map entry_change c.args.entries.now)) own)
    c.leaves_with.ensures

pub returns-clause-types : goal.returns-clause-types
returns-clause-types c =
    let low = c.untouched-low.result in
    let high = c.reached-high.result in
    let dtypes = map dtype_of_column c.args.columns.now in
    let old = c.in_ok-blocks.blocks in
    let own : old ≡ c.args.leaf.now = c.in_ok-blocks.ensures ∙ c.run.ensures in
    let made = c.in_ok-made.made in
    let added = after_changes tag_cmp (rows_of_blocks (drop low (take high old))) (map entry_change c.args.entries.now) in
    IfOk-weaker c.leaves_with.result _ _
    (λ tree h. types_replaced dtypes old made (blocks_of_leaves tree) low high (subst (AreOfDtypes dtypes) (sym own) c.requires.types)
    (only_types dtypes added c.new-none.result made c.new-none.ensures c.in_ok-made.ensures) h)
    c.leaves_with.ensures
