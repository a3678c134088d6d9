use Rattle.std.proofs.Common.{◌∙◌, Some, ap, map, sym}
use Rattle.std.specs.FinMap as finite
use Rattle.std.proofs.lemmas.Result.{IfOk-weaker}
use Rattle.df_column.specs.MinMaxCells.{cells_at, min_or_max_of}
use Rattle.df_column.proofs.SkippingLemmas.{no_min_or_max}
use Rattle.df_column.proofs.table.Table.min_or_max.Goals as goal

pub returns-in_default : goal.returns-in_default
returns-in_default c =
    sym (ap (λ i. min_or_max_of c.args.which (cells_at i (finite.values c.args.self.now.rows))) c.in_default.is ∙ no_min_or_max c.args.which (finite.values c.args.self.now.rows))

pub returns : goal.returns
returns c =
    IfOk-weaker c.min_or_max.result _ _
    (λ cell h. h
    ∙ ap (λ es. min_or_max_of c.args.which (cells_at (Some c.in-Some.index) (map (λ r. r.1) es))) c.blocks-2.ensures.rows
    ∙ ap (λ i. min_or_max_of c.args.which (cells_at i (finite.values c.args.self.now.rows))) (sym c.in-Some.is))
    c.min_or_max.ensures
