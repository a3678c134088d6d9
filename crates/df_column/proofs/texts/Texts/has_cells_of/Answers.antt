use Rattle.std.proofs.Common.{None, ◌∙◌, ap, arith, sym}
use Rattle.std.proofs.lemmas.Bool.{false≢true}
use Rattle.df_column.specs.Texts.{text_now}
use Rattle.df_column.specs.ValueCells.{text_cell}
use Rattle.df_column.proofs.Places.{mapped_length}
use Rattle.df_column.proofs.SameRows.{cell_is_that, one_more_cell, text_same}
use Rattle.df_column.proofs.texts.Texts.has_cells_of.Goals as goal

pub loop-k-preserved : goal.loop-k-preserved
loop-k-preserved c =
    let l = mapped_length text_cell c.args.self.now in
    let m = mapped_length text_cell c.args.other.now in
    one_more_cell text_cell c.args.self.now c.args.at c.args.other.now c.args.from c.loop-k.k (text_now c.get.result) (text_now c.get-in-loop-k.result) None c.loop-k.invariant
    (omega (arith, l, c.requires.within, c.loop-k-test.true)) (omega (arith, m, c.requires.within_other, c.loop-k-test.true))
    (c.get.ensures None) (c.get-in-loop-k.ensures None) (ap text_cell (c.is_same_text.ensures.0 c.if-not-is_same_text.false))

pub returns-then-not-is_same_text : goal.returns-then-not-is_same_text
returns-then-not-is_same_text c =
    let l = mapped_length text_cell c.args.self.now in
    let m = mapped_length text_cell c.args.other.now in
    let t = text_now c.get.result in
    let u = text_now c.get-in-loop-k.result in (
      λ h. absurd (cc),
      λ all.
          let same = cell_is_that text_cell c.args.self.now c.args.at c.args.other.now c.args.from c.args.count c.loop-k.k t u None all c.loop-k-test.true
          (omega (arith, l, c.requires.within, c.loop-k-test.true)) (omega (arith, m, c.requires.within_other, c.loop-k-test.true))
          (c.get.ensures None) (c.get-in-loop-k.ensures None) in
          absurd (false≢true (sym c.if-not-is_same_text.true ∙ c.is_same_text.ensures.1 (text_same t u same))),
    )
