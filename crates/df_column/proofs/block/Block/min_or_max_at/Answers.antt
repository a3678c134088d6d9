use Rattle.std.proofs.Common.{get_or, sym, subst}
use Rattle.df_column.specs.BlockMinMax.{IsMinOrMaxAt}
use Rattle.df_column.specs.Columns.{column_cells}
use Rattle.df_column.proofs.BlockMinMax.{kept_at}
use Rattle.df_column.proofs.block.Block.min_or_max_at.Goals as goal

pub returns-in-Min : goal.returns-in-Min
returns-in-Min c = λ d.
    let columns = c.args.self.now.columns in
    let kept = c.known_at-min_max.result in
    subst (λ e. IsMinOrMaxAt e (column_cells (get_or columns c.args.column d)) kept.least) (sym c.in-Min.is)
    (kept_at columns c.min_max.result.now c.args.column d kept c.min_max.ensures c.requires c.known_at-min_max.ensures).least

pub returns-in-Max : goal.returns-in-Max
returns-in-Max c = λ d.
    let columns = c.args.self.now.columns in
    let kept = c.known_at-min_max.result in
    subst (λ e. IsMinOrMaxAt e (column_cells (get_or columns c.args.column d)) kept.greatest) (sym c.in-Max.is)
    (kept_at columns c.min_max.result.now c.args.column d kept c.min_max.ensures c.requires c.known_at-min_max.ensures).greatest
