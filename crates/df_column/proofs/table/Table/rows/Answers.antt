use Rattle.std.proofs.Common.{◌∙◌, ◌++◌, ◌+◌, ap, append-nil, append_assoc, arith, drop, map, sym}
use Rattle.std.specs.Arc.{arc_value}
use Rattle.std.proofs.lemmas.List.{map-append}
use Rattle.df_column.specs.Blocks.{block_rows, rows_of_blocks}
use Rattle.df_column.proofs.MergeLemmas.{drop_past}
use Rattle.df_column.proofs.TableLemmas.{rows_step}
use Rattle.df_column.proofs.table.Table.rows.Goals as goal

pub loop-at-preserved : goal.loop-at-preserved
loop-at-preserved c =
    let b = arc_value c.get.result.now in
    let later = rows_of_blocks (drop (c.loop-at.at + 1) c.blocks-blocks.result.now) in
    let step = rows_step c.blocks-blocks.result.now c.loop-at.at b (omega (arith, c.len-at-end.ensures, c.loop-at-test.true)) (c.get.ensures b) in
    ap (λ out. out ++ map (λ r. r.1) later) (c.in_ok-push_rows.ensures ∙ ap (λ p. c.loop-at.out.items ++ map (λ r. r.1) (block_rows p)) c.deref.ensures)
    ∙ append_assoc c.loop-at.out.items (map (λ r. r.1) (block_rows b)) (map (λ r. r.1) later)
    ∙ ap (λ rs. c.loop-at.out.items ++ rs) (sym (ap (map (λ r. r.1)) step ∙ map-append (λ r. r.1) (block_rows b) later)) ∙ c.loop-at.invariant

pub returns : goal.returns
returns c =
    let out = c.loop-at.out.items in
    let end = drop_past c.blocks-blocks.result.now c.loop-at.at (omega (arith, c.len-at-end.ensures, c.loop-at-test.false)) in
    sym (append-nil out) ∙ ap (λ bs. out ++ map (λ r. r.1) (rows_of_blocks bs)) (sym end) ∙ c.loop-at.invariant ∙ ap (map (λ r. r.1)) c.blocks-blocks.ensures.rows
