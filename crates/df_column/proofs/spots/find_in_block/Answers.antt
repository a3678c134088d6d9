use Rattle.std.specs.Prelude.{IsTrue}
use Rattle.std.proofs.Common.{◌∙◌, false, ap, arith, map, get_or, length, refl, subst, sym}
use Rattle.std.proofs.lemmas.List.{get_or_default}
use Rattle.std.specs.List.{prefix_len}
use Rattle.std.specs.Ordering.{is_lt}
use Rattle.df_column.specs.Columns.{column_cells}
use Rattle.df_column.specs.Rows.{AreRisingTags}
use Rattle.df_column.specs.Tags.{tag_cmp}
use Rattle.df_column.specs.declared.tag.Tag.{Tag}
use Rattle.df_column.proofs.TagPlaces.{gap_behind, place_behind, rising_tags}
use Rattle.df_column.proofs.spots.find_in_block.Goals as goal
use Rattle.df_column.proofs.spots.find_in_block.Goals.{else-row-len-via-then-row-len+else-same, else-row-len-via-else-row-len}

abbrev none : Tag
none = record { first = 0; second = 0; third = 0 }

pub count_below-row-requires-clause-rising : goal.count_below-row-requires-clause-rising
count_below-row-requires-clause-rising c = subst AreRisingTags (sym c.tags-tags.ensures.tags) (rising_tags c.args.block.now.tags (map column_cells c.args.block.now.columns) c.requires)

pub returns-then-same-clause-found : goal.returns-then-same-clause-found
returns-then-same-clause-found c =
    let b = c.args.block.now in
    let count = c.count_below-row.ensures.count ∙ ap (prefix_len (λ t. is_lt (tag_cmp t c.args.tag))) c.tags-tags.ensures.tags in
    let here = sym (c.get.ensures none) ∙ c.if-same.ensures.0 refl in
    let l = c.len.ensures ∙ ap length c.tags-tags.ensures.tags in
    place_behind b.tags (map column_cells b.columns) c.args.tag c.count_below-row.result count none (omega (arith, l, c.if-row-len.true))
    (ap (λ ts. get_or ts c.count_below-row.result none) (sym c.tags-tags.ensures.tags) ∙ here)

not_true : IsTrue false → ⊥
not_true h = cc

pub returns-else-row-len-clause-absent : goal.returns-else-row-len-clause-absent
returns-else-row-len-clause-absent c =
    let b = c.args.block.now in
    let n = c.count_below-row.result in
    let count = c.count_below-row.ensures.count ∙ ap (prefix_len (λ t. is_lt (tag_cmp t c.args.tag))) c.tags-tags.ensures.tags in
    let l = c.len.ensures ∙ ap length c.tags-tags.ensures.tags in
    gap_behind b.tags (map column_cells b.columns) c.args.tag n count c.requires
    (λ t inside e. elim c.else-row-len.branch [
      | else-row-len-via-then-row-len+else-same w ↦ not_true (w.if-same.ensures.1 (w.get.ensures none ∙ ap (λ ts. get_or ts n none) c.tags-tags.ensures.tags ∙ get_or_default b.tags n none t inside ∙ e))
      | else-row-len-via-else-row-len w ↦ omega (arith, l, inside, w.if-row-len.false)
    ])
