use Rattle.std.proofs.Common.{sym, ap, ◌∙◌, length, arith, subst}
use Rattle.df_column.specs.Columns.{column_cells, dtype_of_column}
use Rattle.df_column.specs.Picks.{AreFit, AreWithin}
use Rattle.df_column.proofs.BlockLemmas.{even_at, fit_at}
use Rattle.df_column.proofs.block.spliced_column.Goals as goal

pub spliced-requires-clause-in_range : goal.spliced-requires-clause-in_range
spliced-requires-clause-in_range c =
    let column = c.index-columns-at in
    let n = ap (λ k. length (column_cells k)) column.is ∙ even_at _ c.args.columns.now c.args.at column.result c.requires.even c.requires.at in
    omega (arith, n, c.requires.in_range)

pub spliced-requires-clause-within : goal.spliced-requires-clause-within
spliced-requires-clause-within c =
    let column = c.index-columns-at in
    let n = ap (λ k. length (column_cells k)) column.is ∙ even_at _ c.args.columns.now c.args.at column.result c.requires.even c.requires.at in
    subst (λ m. AreWithin m c.args.picks.now) (sym n) c.requires.within

pub spliced-requires-clause-fits : goal.spliced-requires-clause-fits
spliced-requires-clause-fits c =
    let column = c.index-columns-at in
    subst (λ k. AreFit (dtype_of_column k) c.args.at c.args.picks.now) (sym column.is) (fit_at c.args.columns.now c.args.picks.now c.args.at column.result c.requires.rows c.requires.at)

pub spliced-requires-clause-few : goal.spliced-requires-clause-few
spliced-requires-clause-few c =
    let column = c.index-columns-at in
    let n = ap (λ k. length (column_cells k)) column.is ∙ even_at _ c.args.columns.now c.args.at column.result c.requires.even c.requires.at in
    omega (arith, n, c.requires.few)
