use Rattle.std.proofs.Common.{◌≡◌, ◌∙◌, ap, arith, get_or, length, subst, sym}
use Rattle.std.specs.Prelude.{T}
use Rattle.df_column.proofs.SkippingLemmas.{no_tags_above, no_tags_past}
use Rattle.df_column.proofs.skipping.push_tags_in_block.Goals as goal

pub returns-then-index-columns : goal.returns-then-index-columns
returns-then-index-columns c =
    let l = ap length c.columns-columns.ensures.columns in
    no_tags_past c.args.value.now c.args.block.now c.args.index c.args.tags.now.items (omega (arith, l, c.if-index-columns.true))

pub returns-then-has_none_above : goal.returns-then-has_none_above
returns-then-has_none_above c =
    let l = ap length c.columns-columns.ensures.columns in
    let column = c.index-columns-index.result in
    let is : column ≡ get_or c.args.block.now.columns c.args.index column = c.index-columns-index.is ∙ ap (λ cs. get_or cs c.args.index column) c.columns-columns.ensures.columns in
    no_tags_above c.args.value.now c.args.block.now c.args.index column c.args.tags.now.items c.columns-columns.ensures.even (omega (arith, l, c.if-index-columns.false)) is
    (c.has_none_above.ensures (subst T (sym c.if-has_none_above.true) tt))
