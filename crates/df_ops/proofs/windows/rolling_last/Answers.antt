use Rattle.std.proofs.lemmas.Result.{IfOk-weaker}
use Rattle.df_ops.specs.Aggregates.{cells_of}
use Rattle.df_ops.proofs.WindowFacts.{window_cells}
use Rattle.df_ops.proofs.WindowLaws.{sum_is_running}
use Rattle.df_ops.proofs.windows.rolling_last.Goals as goal

pub returns-clause-value : goal.returns-clause-value
returns-clause-value c =
    rw (window_cells c.args.index c.args.w c.args.rows.now, ← c.last_rows.ensures) c.rolling_of_window.ensures

pub returns-clause-whole : goal.returns-clause-whole
returns-clause-whole c =
    IfOk-weaker c.rolling_of_window.result _ _
    (λ x e. sum_is_running c.args.kind c.args.w c.args.m (cells_of c.args.index c.args.rows.now) x e) (returns-clause-value c)
