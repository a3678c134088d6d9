use Rattle.std.proofs.Common.{length, map, ap, sym, subst, ◌∙◌}
use Rattle.df_column.specs.BlockMinMax.{AreMinMax, AreSplicedFrom}
use Rattle.df_column.specs.Columns.{column_cells}
use Rattle.df_column.proofs.BlockMinMax.{splice_from}
use Rattle.df_column.proofs.BlockLemmas.{block_made}
use Rattle.df_column.proofs.block.Block.spliced.Goals as goal

pub min_max_of-requires : goal.min_max_of-requires
min_max_of-requires c =
    let cells = rw c.in_ok-tags.ensures.second at c.spliced_columns-made.ensures.cells in
    let is = ap (map column_cells) c.deref.ensures.value ∙ cells in
    subst (λ cs. AreSplicedFrom (record { low = c.args.low; high = c.args.high; count = length c.args.picks.now }) cs c.args.known.now) (sym is)
    (splice_from c.args.low c.args.high (length c.args.tags.now) (map column_cells c.args.columns.now) c.args.picks.now c.args.known.now c.requires.known c.requires.even c.requires.ordered c.requires.in_range)

pub invariant_of-result : goal.invariant_of-result
invariant_of-result c =
    let tags = rw c.in_ok-tags.ensures.first at c.spliced.ensures in
    let cells = rw c.in_ok-tags.ensures.second at c.spliced_columns-made.ensures.cells in
    record {
      block = (block_made c.args.low c.args.high c.args.tags.now _ c.args.columns.now _ c.args.picks.now c.requires.ordered c.requires.in_range c.requires.even c.requires.rows c.requires.some c.requires.few tags cells).sound;
      min_max = subst (λ cs. AreMinMax (map column_cells cs) c.in_ok-min_max.min_max.items) c.deref.ensures.value c.in_ok-min_max.ensures;
    }

pub returns-clause-rows : goal.returns-clause-rows
returns-clause-rows c =
    let tags = rw c.in_ok-tags.ensures.first at c.spliced.ensures in
    let cells = rw c.in_ok-tags.ensures.second at c.spliced_columns-made.ensures.cells in
    (block_made c.args.low c.args.high c.args.tags.now _ c.args.columns.now _ c.args.picks.now c.requires.ordered c.requires.in_range c.requires.even c.requires.rows c.requires.some c.requires.few tags cells).rows
