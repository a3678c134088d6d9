use Rattle.std.proofs.Common.{◌≡◌, ◌∙◌, ◌+◌, List, [], ap, arith, get_or, map, refl, sym}
use Rattle.std.proofs.lemmas.Bool.{false≢true}
use Rattle.std.proofs.lemmas.List.{get_or_default}
use Rattle.df_value.specs.declared.cell.Cell.{Cell}
use Rattle.df_value.specs.RowEq.{row_eq-Decides}
use Rattle.df_column.specs.Blocks.{block_rows}
use Rattle.df_column.specs.Columns.{column_cells}
use Rattle.df_column.specs.Rows.{row_at}
use Rattle.df_column.specs.declared.tag.Tag.{Tag}
use Rattle.df_column.proofs.RowLemmas.{row_in_rows}
use Rattle.df_column.proofs.RunRows.{all_stand, stand_one}
use Rattle.df_column.proofs.spots.are_rows_in.Goals as goal
use Rattle.df_column.proofs.spots.are_rows_in.Goals.{then-get-first-via-then-get-first, then-get-first-via-else-get-first+then-not-is_row}

pub loop-at-preserved : goal.loop-at-preserved
loop-at-preserved c =
    let b = c.args.block.now in
    let place = c.args.low + c.loop-at.at in
    let columns = map column_cells b.columns in
    let none : Tag = record { first = 0; second = 0; third = 0 } in
    let here : (d : Tag × List Cell) → get_or (block_rows b) place d ≡ (get_or b.tags place none, row_at columns place) = λ d. row_in_rows b.tags columns place d none (omega (arith, c.requires.within, c.loop-at-test.true)) in
    let same : row_at columns place ≡ c.index-rows-at.result = (row_eq-Decides (row_at columns place) c.index-rows-at.result).0 (sym c.is_row.ensures ∙ c.if-not-is_row.false) in
    stand_one (block_rows b) c.args.low c.args.first c.args.rows.now c.loop-at.at c.loop-at.invariant c.loop-at-test.true
    (λ d. ap (λ r. r.0.first) (here d) ∙ ap (λ ts. (get_or ts place none).first) (sym c.tags-tags.ensures.tags) ∙ ap (λ (t : Tag). t.first) (sym (c.get.ensures none)) ∙ c.if-get-first.false)
    (λ d. ap (λ r. r.1) (here d) ∙ same ∙ c.index-rows-at.is ∙ get_or_default c.args.rows.now c.loop-at.at c.index-rows-at.result d.1 c.loop-at-test.true)

pub returns-then-get-first : goal.returns-then-get-first
returns-then-get-first c =
    let b = c.args.block.now in
    let at = c.loop-at.at in
    let place = c.args.low + at in
    let columns = map column_cells b.columns in
    let none : Tag = record { first = 0; second = 0; third = 0 } in
    let d : Tag × List Cell = (none, []) in
    let here : get_or (block_rows b) place d ≡ (get_or b.tags place none, row_at columns place) = row_in_rows b.tags columns place d none (omega (arith, c.requires.within, c.loop-at-test.true)) in
    let number : c.get.result.first ≡ (get_or (block_rows b) place d).0.first =
    ap (λ (t : Tag). t.first) (c.get.ensures none) ∙ ap (λ ts. (get_or ts place none).first) c.tags-tags.ensures.tags ∙ sym (ap (λ r. r.0.first) here) in (
      λ h. absurd (cc),
      λ stand. elim c.then-get-first.branch [
        | then-get-first-via-then-get-first w ↦ absurd (w.if-get-first.true (number ∙ stand.numbers at d c.loop-at-test.true))
        | then-get-first-via-else-get-first+then-not-is_row w ↦
            let row = w.index-rows-at.result in
            let same : row_at columns place ≡ row =
            sym (ap (λ r. r.1) here) ∙ stand.rows_are at d c.loop-at-test.true
            ∙ sym (w.index-rows-at.is ∙ get_or_default c.args.rows.now at row d.1 c.loop-at-test.true) in
            absurd (false≢true (sym w.if-not-is_row.true ∙ w.is_row.ensures ∙ (row_eq-Decides (row_at columns place) row).1 same))
      ],
    )

pub returns : goal.returns
returns c = (
  λ h. all_stand (block_rows c.args.block.now) c.args.low c.args.first c.args.rows.now c.loop-at.at c.loop-at.invariant (omega (arith, c.loop-at-test.false)),
  λ stand. refl,
)
