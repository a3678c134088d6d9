use Rattle.std.proofs.Common.{◌≡◌, ◌∙◌, [], Some, None, IfOk, ap, arith, get_or, length, subst, sym}
use Rattle.df_column.specs.MinMaxCells.{min_or_max_with}
use Rattle.df_column.specs.declared.column.Column.{Column}
use Rattle.df_column.specs.declared.column.Column.TheVariants as column_as
use Rattle.df_column.proofs.MinMaxLemmas.{min_or_max_with_none}
use Rattle.df_column.proofs.SkippingLemmas.{at_itself, min_or_max_there, past_columns}
use Rattle.df_column.proofs.min_max_of_blocks.min_or_max_in_block.Goals as goal

none : Column
none = column_as.Int []

pub returns-then-index-columns : goal.returns-then-index-columns
returns-then-index-columns c =
    let l = ap length c.columns-columns.ensures.columns in
    sym (past_columns c.args.which c.args.best c.args.block.now c.args.index (omega (arith, l, c.if-index-columns.true)))

pub returns-in-Some : goal.returns-in-Some
returns-in-Some c =
    let l = ap length c.columns-columns.ensures.columns in
    let column = c.index-columns-index.result in
    let is : column ≡ get_or c.args.block.now.columns c.args.index column = c.index-columns-index.is ∙ ap (λ cs. get_or cs c.args.index column) c.columns-columns.ensures.columns in
    subst (λ o. IfOk c.min_or_max.result (λ v. v ≡ min_or_max_with c.args.which c.args.best o))
    (min_or_max_there c.args.which c.args.block.now c.args.index column (Some c.in-Some.at) c.columns-columns.ensures.even (omega (arith, l, c.if-index-columns.false)) is (c.in-Some.ensures column))
    c.min_or_max.ensures

pub returns-in-None : goal.returns-in-None
returns-in-None c =
    let l = ap length c.columns-columns.ensures.columns in
    let columns = c.args.block.now.columns in
    let column = get_or columns c.args.index none in
    sym (ap (min_or_max_with c.args.which c.args.best) (sym (min_or_max_there c.args.which c.args.block.now c.args.index column None c.columns-columns.ensures.even (omega (arith, l, c.if-index-columns.false)) (at_itself columns c.args.index none (omega (arith, l, c.if-index-columns.false))) (c.in-None.ensures column)))
    ∙ min_or_max_with_none c.args.which c.args.best)
