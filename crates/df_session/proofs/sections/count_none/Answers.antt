use Rattle.std.proofs.Common.{◌∙◌, ap, arith, cond, count_by, refl}
use Rattle.std.specs.Prelude.{is_none}
use Rattle.std.proofs.lemmas.List.{take_all}
use Rattle.df_session.proofs.SectionFacts.{counted_more}
use Rattle.df_session.proofs.sections.count_none.Goals as goal

pub loop-row-preserved : goal.loop-row-preserved
loop-row-preserved c =
    let row = c.row-item.result in
    let step = counted_more is_none c.args.rows.now c.loop-row.row-index row _ c.loop-row-test.true refl in
    let one = c.one_if_none-count.ensures.value ∙ ap (λ r. cond (is_none r) 1 0) c.row-item.is in
    (omega (arith, step, one, c.loop-row.invariant.0), omega (arith, c.one_if_none-count.ensures.few, c.loop-row.invariant.1))

pub returns : goal.returns
returns c = c.loop-row.invariant.0 ∙ ap (count_by is_none) (take_all c.loop-row.row-index c.args.rows.now c.loop-row-test.false)
