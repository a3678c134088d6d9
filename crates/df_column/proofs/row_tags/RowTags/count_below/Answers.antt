use Rattle.std.proofs.Common.{rules, ◌-◌, ◌∙◌, ap, arith, drop, length, map, sym, subst}
use Rattle.std.specs.List.{prefix_len}
use Rattle.std.proofs.lemmas.List.{length-map}
use Rattle.std.specs.Ordering.{is_lt}
use Rattle.std.proofs.lemmas.List.Sums.{prefix_len-drop_all, prefix_len-drop_no}
use Rattle.df_column.specs.RowTags.{number_tag, tags_in}
use Rattle.df_column.specs.Rows.{AreRisingTags}
use Rattle.df_column.specs.Tags.{tag_cmp}
use Rattle.df_column.proofs.MergeLemmas.{rest_of}
use Rattle.df_column.proofs.RowTagLemmas.{all_before, kept_rest}
use Rattle.df_column.proofs.TagPlaces.{rising_rest}
use Rattle.df_column.proofs.row_tags.RowTags.count_below.Goals as goal
use Rattle.df_column.proofs.row_tags.RowTags.count_below.Goals.{then-from-rows-via-else-from-rows+then-not-is_below, then-from-rows-via-then-from-rows}

pub returns-then-from-rows-clause-count : goal.returns-then-from-rows-clause-count
returns-then-from-rows-clause-count c =
    let ts = c.args.self.now in
    elim c.then-from-rows.branch [
      | then-from-rows-via-then-from-rows w ↦ sym (prefix_len-drop_all _ ts c.args.from (omega (arith, w.if-from-rows.true, c.len-rows.ensures)))
      | then-from-rows-via-else-from-rows+then-not-is_below w ↦ sym (prefix_len-drop_no (λ t. is_lt (tag_cmp t c.args.tag)) ts c.args.from c.args.tag (omega (arith, w.if-from-rows.false, c.len-rows.ensures, c.requires.from)) (search rules))
    ]

pub returns-then-is_below-clause-count : goal.returns-then-is_below-clause-count
returns-then-is_below-clause-count c =
    ap (λ n. n - c.args.from) c.len-rows.ensures
    ∙ all_before c.args.self.now c.args.from c.args.tag (c.len-rows.result - 1) c.args.tag c.requires.rising (omega (arith, c.len-rows.ensures, c.if-from-rows.false, c.requires.from)) (omega (arith, c.len-rows.ensures, c.if-from-rows.false, c.requires.from)) (search rules)

pub numbers_below-requires : goal.numbers_below-requires
numbers_below-requires c =
    let whole = sym c.self.view_is ∙ ap tags_in c.in-Numbers.is ∙ ap (map number_tag) (sym c.deref.ensures.value) in
    subst AreRisingTags (kept_rest number_tag c.args.self.now c.deref.result.now c.args.from whole) (rising_rest c.args.self.now c.args.from c.requires.rising)

pub tags_below-requires : goal.tags_below-requires
tags_below-requires c =
    let whole = sym c.self.view_is ∙ ap tags_in c.in-Whole.is ∙ sym c.deref-in-Whole.ensures.value in
    subst AreRisingTags (ap (drop c.args.from) whole ∙ sym (rest_of c.deref-in-Whole.result.now c.args.from)) (rising_rest c.args.self.now c.args.from c.requires.rising)

pub returns-in-Numbers-clause-count : goal.returns-in-Numbers-clause-count
returns-in-Numbers-clause-count c =
    let whole = sym c.self.view_is ∙ ap tags_in c.in-Numbers.is ∙ ap (map number_tag) (sym c.deref.ensures.value) in
    c.numbers_below.ensures.count ∙ ap (prefix_len (λ t. is_lt (tag_cmp t c.args.tag))) (sym (kept_rest number_tag c.args.self.now c.deref.result.now c.args.from whole))

pub offset_bounds-deref-from : goal.offset_bounds-deref-from
offset_bounds-deref-from c =
    let whole = sym c.self.view_is ∙ ap tags_in c.in-Numbers.is ∙ ap (map number_tag) (sym c.deref.ensures.value) in
    let many = ap length whole in
    let same = length-map c.deref.result.now number_tag in
    omega (arith, many, same, c.requires.from, c.in-Numbers.numbers.ok)

pub slice_bounds-numbers_below-start : goal.slice_bounds-numbers_below-start
slice_bounds-numbers_below-start c =
    let whole = sym c.self.view_is ∙ ap tags_in c.in-Numbers.is ∙ ap (map number_tag) (sym c.deref.ensures.value) in
    let many = ap length whole in
    let same = length-map c.deref.result.now number_tag in
    omega (arith, many, same, c.requires.from, c.in-Numbers.numbers.ok)

pub slice_bounds-numbers_below-end : goal.slice_bounds-numbers_below-end
slice_bounds-numbers_below-end c =
    let whole = sym c.self.view_is ∙ ap tags_in c.in-Numbers.is ∙ ap (map number_tag) (sym c.deref.ensures.value) in
    let many = ap length whole in
    let same = length-map c.deref.result.now number_tag in
    omega (arith, many, same, c.requires.from, c.in-Numbers.numbers.ok)

pub slice_bounds-numbers_below-count : goal.slice_bounds-numbers_below-count
slice_bounds-numbers_below-count c =
    let whole = sym c.self.view_is ∙ ap tags_in c.in-Numbers.is ∙ ap (map number_tag) (sym c.deref.ensures.value) in
    let many = ap length whole in
    let same = length-map c.deref.result.now number_tag in
    omega (arith, many, same, c.requires.from, c.in-Numbers.numbers.ok)

pub offset_bounds-deref-from-in-Whole : goal.offset_bounds-deref-from-in-Whole
offset_bounds-deref-from-in-Whole c =
    let whole = sym c.self.view_is ∙ ap tags_in c.in-Whole.is ∙ sym c.deref-in-Whole.ensures.value in
    let many = ap length whole in
    omega (arith, many, c.requires.from, c.in-Whole.tags.ok)

pub slice_bounds-tags_below-start : goal.slice_bounds-tags_below-start
slice_bounds-tags_below-start c =
    let whole = sym c.self.view_is ∙ ap tags_in c.in-Whole.is ∙ sym c.deref-in-Whole.ensures.value in
    let many = ap length whole in
    omega (arith, many, c.requires.from, c.in-Whole.tags.ok)

pub slice_bounds-tags_below-end : goal.slice_bounds-tags_below-end
slice_bounds-tags_below-end c =
    let whole = sym c.self.view_is ∙ ap tags_in c.in-Whole.is ∙ sym c.deref-in-Whole.ensures.value in
    let many = ap length whole in
    omega (arith, many, c.requires.from, c.in-Whole.tags.ok)

pub slice_bounds-tags_below-count : goal.slice_bounds-tags_below-count
slice_bounds-tags_below-count c =
    let whole = sym c.self.view_is ∙ ap tags_in c.in-Whole.is ∙ sym c.deref-in-Whole.ensures.value in
    let many = ap length whole in
    omega (arith, many, c.requires.from, c.in-Whole.tags.ok)
