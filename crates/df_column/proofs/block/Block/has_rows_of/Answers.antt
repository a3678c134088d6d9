use Rattle.std.proofs.Common.{◌≡◌, ◌∙◌, ◌<◌, ap, arith, get_or, length, map, refl, subst, sym}
use Rattle.std.specs.Prelude.{T}
use Rattle.std.proofs.lemmas.Bool.{false≢true}
use Rattle.std.proofs.lemmas.List.{get_or_default}
use Rattle.df_column.specs.Columns.{column_cells}
use Rattle.df_column.specs.RowRuns.{AreThose}
use Rattle.df_column.specs.Rows.{are_even}
use Rattle.df_column.proofs.BlockLemmas.{even_at}
use Rattle.df_column.proofs.SameRows.{as_many_columns, cells_are_those, rows_are_those, tags_are_those}
use Rattle.df_column.proofs.block.Block.has_rows_of.Goals as goal
use Rattle.df_column.proofs.block.Block.has_rows_of.Goals.{then-columns-others-via-then-columns-others, then-columns-others-via-else-columns-others+then-not-has_tags_of}

pub has_cells_of-requires-clause-within : goal.has_cells_of-requires-clause-within
has_cells_of-requires-clause-within c =
    let column = c.index-columns-column in
    let even = subst (λ cs. T (are_even (length c.args.self.now.tags) (map column_cells cs))) (sym c.columns-columns.ensures.columns) c.columns-columns.ensures.even in
    let n = ap (λ k. length (column_cells k)) column.is ∙ even_at (length c.args.self.now.tags) c.columns-columns.result.now c.loop-column.column column.result even c.loop-column-test.true in
    omega (arith, n, c.requires.within)

pub has_cells_of-requires-clause-within_other : goal.has_cells_of-requires-clause-within_other
has_cells_of-requires-clause-within_other c =
    let column = c.index-others-column in
    let even = subst (λ cs. T (are_even (length c.args.other.now.tags) (map column_cells cs))) (sym c.columns-others.ensures.columns) c.columns-others.ensures.even in
    let n = ap (λ k. length (column_cells k)) column.is ∙ even_at (length c.args.other.now.tags) c.columns-others.result.now c.loop-column.column column.result even (omega (arith, c.loop-column-test.true, c.if-columns-others.false)) in
    omega (arith, n, c.requires.within_other)

pub returns : goal.returns
returns c = (
  λ h. rows_are_those c.args.self.now c.args.at c.args.other.now c.args.from c.args.count
      c.tags.result.now c.tags-else-columns-others.result.now c.columns-columns.result.now c.columns-others.result.now
      c.tags.ensures.tags c.tags-else-columns-others.ensures.tags c.columns-columns.ensures.columns c.columns-others.ensures.columns
      c.requires.within c.requires.within_other c.if-columns-others.false (c.has_tags_of.ensures.0 c.if-not-has_tags_of.false)
      (λ j lt. c.loop-column.invariant j (omega (arith, lt, c.loop-column-test.false))),
  λ all. refl,
)

pub returns-then-columns-others : goal.returns-then-columns-others
returns-then-columns-others c =
    let a = c.args.self.now in
    let b = c.args.other.now in (
      λ h. absurd (cc),
      λ all. elim c.then-columns-others.branch [
        | then-columns-others-via-then-columns-others w ↦
            absurd (w.if-columns-others.true (ap length c.columns-columns.ensures.columns
            ∙ as_many_columns a c.args.at b c.args.from c.args.count c.requires.within c.requires.within_other all c.requires.some
            ∙ sym (ap length c.columns-others.ensures.columns)))
        | then-columns-others-via-else-columns-others+then-not-has_tags_of w ↦
            let tags = tags_are_those a c.args.at b c.args.from c.args.count c.requires.within c.requires.within_other all in
            let own = subst (λ ts. AreThose ts c.args.at b.tags c.args.from c.args.count) (sym w.tags.ensures.tags) tags in
            let both = subst (λ ts. AreThose w.tags.result.now c.args.at ts c.args.from c.args.count) (sym w.tags-else-columns-others.ensures.tags) own in
            absurd (false≢true (sym w.if-not-has_tags_of.true ∙ w.has_tags_of.ensures.1 both))
      ],
    )

pub returns-then-not-has_cells_of : goal.returns-then-not-has_cells_of
returns-then-not-has_cells_of c =
    let a = c.args.self.now in
    let b = c.args.other.now in
    let column = c.index-columns-column in
    let other = c.index-others-column in
    let j = c.loop-column.column in
    let columns = c.columns-columns.ensures in
    let others = c.columns-others.ensures in
    let many : length a.columns ≡ length b.columns = sym (ap length columns.columns) ∙ c.if-columns-others.false ∙ ap length others.columns in
    let lt = c.loop-column-test.true in
    let low : j < length a.columns = let e = ap length columns.columns in omega (arith, lt, e) in
    let is : column.result ≡ get_or a.columns j column.result = column.is ∙ ap (λ cs. get_or cs j column.result) columns.columns in
    let default = get_or_default b.columns j other.result column.result (omega (arith, low, many)) in
    let is_other : other.result ≡ get_or b.columns j column.result = other.is ∙ ap (λ cs. get_or cs j other.result) others.columns ∙ default in (
      λ h. absurd (cc),
      λ all.
          let cells = cells_are_those a c.args.at b c.args.from c.args.count c.requires.within c.requires.within_other all columns.even others.even many j column.result low in
          let own = subst (λ k. AreThose (column_cells k) c.args.at (column_cells (get_or b.columns j column.result)) c.args.from c.args.count) (sym is) cells in
          let both = subst (λ k. AreThose (column_cells column.result) c.args.at (column_cells k) c.args.from c.args.count) (sym is_other) own in
          absurd (false≢true (sym c.if-not-has_cells_of.true ∙ c.has_cells_of.ensures.1 both)),
    )
