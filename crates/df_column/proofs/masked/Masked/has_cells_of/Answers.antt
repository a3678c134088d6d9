use Rattle.std.proofs.Common.{None, ◌∙◌, arith, sym}
use Rattle.std.proofs.lemmas.Bool.{false≢true}
use Rattle.df_column.proofs.Places.{mapped_length}
use Rattle.df_column.proofs.SameRows.{cell_is_that, one_more_cell}
use Rattle.df_column.proofs.masked.Masked.has_cells_of.Goals as goal

pub loop-k-preserved : goal.loop-k-preserved
loop-k-preserved g c =
    let cell_of = g.T.CellValue.cell_of in
    let l = mapped_length cell_of c.args.self.now in
    let m = mapped_length cell_of c.args.other.now in
    one_more_cell cell_of c.args.self.now c.args.at c.args.other.now c.args.from c.loop-k.k c.get.result c.get-in-loop-k.result None c.loop-k.invariant
    (omega (arith, l, c.requires.within, c.loop-k-test.true)) (omega (arith, m, c.requires.within_other, c.loop-k-test.true))
    (c.get.ensures None) (c.get-in-loop-k.ensures None) (c.is_same_value.ensures.0 c.if-not-is_same_value.false)

pub returns-then-not-is_same_value : goal.returns-then-not-is_same_value
returns-then-not-is_same_value g c =
    let cell_of = g.T.CellValue.cell_of in
    let l = mapped_length cell_of c.args.self.now in
    let m = mapped_length cell_of c.args.other.now in (
      λ h. absurd (cc),
      λ all.
          let same = cell_is_that cell_of c.args.self.now c.args.at c.args.other.now c.args.from c.args.count c.loop-k.k c.get.result c.get-in-loop-k.result None all c.loop-k-test.true
          (omega (arith, l, c.requires.within, c.loop-k-test.true)) (omega (arith, m, c.requires.within_other, c.loop-k-test.true))
          (c.get.ensures None) (c.get-in-loop-k.ensures None) in
          absurd (false≢true (sym c.if-not-is_same_value.true ∙ c.is_same_value.ensures.1 same)),
    )
