use Rattle.std.proofs.Common.{◌∙◌, ap, sym}
use Rattle.df_value.specs.CellOrder.{cell_cmp}
use Rattle.df_column.proofs.CellTests.{null_behind, null_first, value_there}
use Rattle.df_column.proofs.min_max_search.compare_values.Goals as goal

pub returns-in-Some-Some : goal.returns-in-Some-Some
returns-in-Some-Some g c =
    let first = ap g.T.CellValue.cell_of c.in-Some-Some.is-0 in
    let second = ap g.T.CellValue.cell_of c.in-Some-Some.is-1 in
    c.compare.ensures ∙ sym (λ i. cell_cmp (first i) (second i))

pub returns-in-Some-None : goal.returns-in-Some-None
returns-in-Some-None g c =
    let cell_of = g.T.CellValue.cell_of in
    sym (null_behind _ _ (value_there cell_of g.met.T.CellValue.some _ _ c.in-Some-None.is-0) (ap cell_of c.in-Some-None.is-1 ∙ g.met.T.CellValue.null))

pub returns-in-None-Some : goal.returns-in-None-Some
returns-in-None-Some g c =
    let cell_of = g.T.CellValue.cell_of in
    sym (null_first _ _ (ap cell_of c.in-None-Some.is-0 ∙ g.met.T.CellValue.null) (value_there cell_of g.met.T.CellValue.some _ _ c.in-None-Some.is-1))

pub returns-in-None-None : goal.returns-in-None-None
returns-in-None-None g c =
    let cell_of = g.T.CellValue.cell_of in
    let first = ap cell_of c.in-None-None.is-0 ∙ g.met.T.CellValue.null in
    let second = ap cell_of c.in-None-None.is-1 ∙ g.met.T.CellValue.null in
    sym (λ i. cell_cmp (first i) (second i))
