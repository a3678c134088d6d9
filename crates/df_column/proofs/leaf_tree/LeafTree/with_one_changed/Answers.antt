use Rattle.std.proofs.Common.{◌≡◌, ◌∙◌, ◌<◌, ◌-◌, ◌+◌, ◌++◌, None, T, ap, arith, drop, length, length-drop, map, refl, subst, sym, take}
use Rattle.std.specs.Option.{option_copied}
use Rattle.std.specs.Ordering.{is_gt, is_lt}
use Rattle.std.specs.Prelude.{not, slice_get}
use Rattle.std.proofs.lemmas.List.{length-take-le}
use Rattle.df_column.specs.BlockLists.{blocks_of_leaves}
use Rattle.df_column.specs.Blocks.{AreOfDtypes, rows_of_blocks}
use Rattle.df_column.specs.Changes.{after_changes}
use Rattle.df_column.specs.Columns.{dtype_of_column}
use Rattle.df_column.specs.LeafTrees.{reaches}
use Rattle.df_column.specs.Rows.{is_row_if_any}
use Rattle.df_column.specs.Tables.{entry_change}
use Rattle.df_column.specs.Tags.{tag_cmp}
use Rattle.std.specs.FinMap.{is_sorted}
use Rattle.df_column.proofs.ChangedLeaves.{all_changed, one_changed, within_first}
use Rattle.df_column.proofs.ChangedTrees.{types_cut}
use Rattle.df_column.proofs.LeafOrder.{above_between, not_below, place_before, reaches_is}
use Rattle.df_column.proofs.LeafTreeLemmas.{leaf_at}
use Rattle.df_column.proofs.ListParts.{all_taken}
use Rattle.df_column.proofs.PartLemmas.{all_drop, all_take}
use Rattle.df_column.proofs.SharedLemmas.{before_last, nothing_before}
use Rattle.df_column.proofs.TableChanges.{sorted_dropped, sorted_taken}
use Rattle.df_column.proofs.TagRuns.{sorted_left, sorted_right}
use Rattle.df_column.proofs.leaf_tree.LeafTree.with_one_changed.Goals as goal

pub returns-in_default-clause-none : goal.returns-in_default-clause-none
returns-in_default-clause-none c =
    let dtypes = map dtype_of_column c.args.columns.now in
    let ls = c.args.self.now in
    let es = c.args.entries.now in
    let end = c.args.changed.now.at in
    let to = c.args.changed.now.from in
    let h = c.requires.changed in
    let none : None ≡ slice_get (take to es) (length (take to es) - 1) = sym (ap option_copied c.in_default.is) ∙ c.last.ensures.value in
    all_changed dtypes ls c.args.changed.now.tree es end to h c.requires.rows c.requires.types (nothing_before (take to es) (rows_of_blocks (blocks_of_leaves (take end ls))) none)

pub returns-then-count-eq0-clause-none : goal.returns-then-count-eq0-clause-none
returns-then-count-eq0-clause-none c =
    let dtypes = map dtype_of_column c.args.columns.now in
    let ls = c.args.self.now in
    let es = c.args.entries.now in
    let end = c.args.changed.now.at in
    let to = c.args.changed.now.from in
    let h = c.requires.changed in
    let e = c.in-Some.last.now in
    let none = sym c.if-count-eq0.true ∙ c.min-count.ensures in
    let above = above_between e.tag ls c.leaves_up_to.result.count end 0 c.leaves_up_to.ensures.full c.requires.rows c.leaves_up_to.ensures.place none in
    all_changed dtypes ls c.args.changed.now.tree es end to h c.requires.rows c.requires.types
    (before_last (take to es) e (rows_of_blocks (blocks_of_leaves (take end ls))) c.in-Some.ensures.value (sorted_taken to es c.requires.entries) above)

pub slice_bounds-changed_leaf-count : goal.slice_bounds-changed_leaf-count
slice_bounds-changed_leaf-count c =
    let dtypes = map dtype_of_column c.args.columns.now in
    let ls = c.args.self.now in
    let es = c.args.entries.now in
    let end = c.args.changed.now.at in
    let to = c.args.changed.now.from in
    let h = c.requires.changed in
    let e = c.in-Some.last.now in
    let at = c.min-count.result - 1 in
    let full = c.leaves_up_to.ensures.full in
    let within = h.within in
    let lt : at < length ls = omega (arith, c.min-count.ensures, within, c.if-count-eq0.false) in
    let leaf = leaf_at ls at c.leaf-leaf.result.now lt c.leaf-leaf.ensures in
    let reached = place_before (reaches e.tag) ls c.leaves_up_to.result.count at c.leaf-leaf.result.now c.leaves_up_to.ensures.place.before (omega (arith, c.min-count.ensures, c.if-count-eq0.false)) c.leaf-leaf.ensures in
    let first = c.first_tag.result in
    let up_to : T (not (is_gt (tag_cmp first e.tag))) = subst (λ b. T b) (sym reached ∙ reaches_is c.leaf-leaf.result.now first e.tag c.first_tag.ensures) tt in
    let less : c.entries_before-from.result < to = within_first (λ e. is_lt (tag_cmp e.tag first)) es to c.entries_before-from.result e h.changed.within c.in-Some.ensures.value (not_below first e.tag up_to) c.entries_before-from.ensures.count in
    let n = length-take-le to es h.changed.within in
    omega (arith, n, less)

pub slice_bounds-changed_leaf-start : goal.slice_bounds-changed_leaf-start
slice_bounds-changed_leaf-start c =
    let dtypes = map dtype_of_column c.args.columns.now in
    let ls = c.args.self.now in
    let es = c.args.entries.now in
    let end = c.args.changed.now.at in
    let to = c.args.changed.now.from in
    let h = c.requires.changed in
    let e = c.in-Some.last.now in
    let at = c.min-count.result - 1 in
    let full = c.leaves_up_to.ensures.full in
    let within = h.within in
    let lt : at < length ls = omega (arith, c.min-count.ensures, within, c.if-count-eq0.false) in
    let leaf = leaf_at ls at c.leaf-leaf.result.now lt c.leaf-leaf.ensures in
    let reached = place_before (reaches e.tag) ls c.leaves_up_to.result.count at c.leaf-leaf.result.now c.leaves_up_to.ensures.place.before (omega (arith, c.min-count.ensures, c.if-count-eq0.false)) c.leaf-leaf.ensures in
    let first = c.first_tag.result in
    let up_to : T (not (is_gt (tag_cmp first e.tag))) = subst (λ b. T b) (sym reached ∙ reaches_is c.leaf-leaf.result.now first e.tag c.first_tag.ensures) tt in
    let less : c.entries_before-from.result < to = within_first (λ e. is_lt (tag_cmp e.tag first)) es to c.entries_before-from.result e h.changed.within c.in-Some.ensures.value (not_below first e.tag up_to) c.entries_before-from.ensures.count in
    let n = length-take-le to es h.changed.within in
    omega (arith, n, less)

pub changed_leaf-requires-clause-rows : goal.changed_leaf-requires-clause-rows
changed_leaf-requires-clause-rows c =
    let dtypes = map dtype_of_column c.args.columns.now in
    let ls = c.args.self.now in
    let es = c.args.entries.now in
    let end = c.args.changed.now.at in
    let to = c.args.changed.now.from in
    let h = c.requires.changed in
    let e = c.in-Some.last.now in
    let at = c.min-count.result - 1 in
    let full = c.leaves_up_to.ensures.full in
    let within = h.within in
    let lt : at < length ls = omega (arith, c.min-count.ensures, within, c.if-count-eq0.false) in
    let leaf = leaf_at ls at c.leaf-leaf.result.now lt c.leaf-leaf.ensures in
    let behind = blocks_of_leaves (drop (at + 1) ls) in
    subst (λ bs. T (is_sorted tag_cmp (rows_of_blocks bs))) (sym c.leaf.ensures)
    (sorted_left (c.leaf-leaf.result.now ++ behind) c.leaf-leaf.result.now behind refl (sorted_right (blocks_of_leaves ls) (blocks_of_leaves (take at ls)) (c.leaf-leaf.result.now ++ behind) leaf.cut c.requires.rows))

pub changed_leaf-requires-clause-types : goal.changed_leaf-requires-clause-types
changed_leaf-requires-clause-types c =
    let dtypes = map dtype_of_column c.args.columns.now in
    let ls = c.args.self.now in
    let es = c.args.entries.now in
    let end = c.args.changed.now.at in
    let to = c.args.changed.now.from in
    let h = c.requires.changed in
    let e = c.in-Some.last.now in
    let at = c.min-count.result - 1 in
    let full = c.leaves_up_to.ensures.full in
    let within = h.within in
    let lt : at < length ls = omega (arith, c.min-count.ensures, within, c.if-count-eq0.false) in
    let leaf = leaf_at ls at c.leaf-leaf.result.now lt c.leaf-leaf.ensures in
    subst (AreOfDtypes dtypes) (sym c.leaf.ensures) (types_cut dtypes (blocks_of_leaves ls) (blocks_of_leaves (take at ls)) c.leaf-leaf.result.now (blocks_of_leaves (drop (at + 1) ls)) leaf.cut c.requires.types).middle

pub changed_leaf-requires-clause-entries : goal.changed_leaf-requires-clause-entries
changed_leaf-requires-clause-entries c =
    let es = c.args.entries.now in
    let to = c.args.changed.now.from in
    let from = c.entries_before-from.result in
    sorted_taken (length (take to es) - from) (drop from (take to es)) (sorted_dropped from (take to es) (sorted_taken to es c.requires.entries))

pub changed_leaf-requires-clause-fits : goal.changed_leaf-requires-clause-fits
changed_leaf-requires-clause-fits c =
    let dtypes = map dtype_of_column c.args.columns.now in
    let es = c.args.entries.now in
    let to = c.args.changed.now.from in
    let from = c.entries_before-from.result in
    all_take (λ e. is_row_if_any dtypes e.new) (length (take to es) - from) (drop from (take to es)) (all_drop (λ e. is_row_if_any dtypes e.new) from (take to es) (all_take (λ e. is_row_if_any dtypes e.new) to es c.requires.fits))

pub returns-clause-more : goal.returns-clause-more
returns-clause-more c =
    let dtypes = map dtype_of_column c.args.columns.now in
    let ls = c.args.self.now in
    let es = c.args.entries.now in
    let end = c.args.changed.now.at in
    let to = c.args.changed.now.from in
    let h = c.requires.changed in
    let e = c.in-Some.last.now in
    let at = c.min-count.result - 1 in
    let full = c.leaves_up_to.ensures.full in
    let within = h.within in
    let lt : at < length ls = omega (arith, c.min-count.ensures, within, c.if-count-eq0.false) in
    let leaf = leaf_at ls at c.leaf-leaf.result.now lt c.leaf-leaf.ensures in
    let reached = place_before (reaches e.tag) ls c.leaves_up_to.result.count at c.leaf-leaf.result.now c.leaves_up_to.ensures.place.before (omega (arith, c.min-count.ensures, c.if-count-eq0.false)) c.leaf-leaf.ensures in
    let first = c.first_tag.result in
    let up_to : T (not (is_gt (tag_cmp first e.tag))) = subst (λ b. T b) (sym reached ∙ reaches_is c.leaf-leaf.result.now first e.tag c.first_tag.ensures) tt in
    let less : c.entries_before-from.result < to = within_first (λ e. is_lt (tag_cmp e.tag first)) es to c.entries_before-from.result e h.changed.within c.in-Some.ensures.value (not_below first e.tag up_to) c.entries_before-from.ensures.count in
    let from = c.entries_before-from.result in
    let own = drop from (take to es) in
    let n = length-take-le to es h.changed.within in
    let m = length-drop from (take to es) in
    let whole : take (length (take to es) - from) own ≡ own = all_taken own (length (take to es) - from) (omega (arith, m)) in
    let more : at + 1 ≡ c.min-count.result = omega (arith, c.if-count-eq0.false) in
    let above = above_between e.tag ls c.leaves_up_to.result.count end (at + 1) full c.requires.rows c.leaves_up_to.ensures.place (more ∙ c.min-count.ensures) in
    let before = before_last (take to es) e (rows_of_blocks (blocks_of_leaves (drop (at + 1) (take end ls)))) c.in-Some.ensures.value (sorted_taken to es c.requires.entries) above in
    let rows = c.in_ok-made.ensures.rows ∙ ap (λ bs. after_changes tag_cmp (rows_of_blocks bs) (map entry_change (take (length (take to es) - from) own))) c.leaf.ensures
    ∙ ap (λ fs. after_changes tag_cmp (rows_of_blocks c.leaf-leaf.result.now) (map entry_change fs)) whole in
    one_changed dtypes ls c.args.changed.now.tree es end to h c.requires.rows c.requires.types at from c.leaf-leaf.result.now first (omega (arith, c.min-count.ensures, c.if-count-eq0.false)) leaf c.first_tag.ensures c.requires.entries
    c.entries_before-from.ensures.count (omega (arith, less)) before c.in_ok-made.made c.in_ok-tree.tree rows c.in_ok-made.ensures.types c.in_ok-tree.ensures
