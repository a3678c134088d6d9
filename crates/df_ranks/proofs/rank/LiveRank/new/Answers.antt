use Rattle.std.proofs.Common.{◌∙◌, ap, refl}
use Rattle.std.specs.FinMap as finite
use Rattle.df_value.specs.Schemas.{column_index}
use Rattle.df_delta.proofs.FitRows.{fits_as}
use Rattle.df_ranks.specs.Ranked.{ranked}
use Rattle.df_ranks.proofs.FitRanks.{ranked_fits}
use Rattle.df_ranks.proofs.RankTables.{over_none, ranked_rows}
use Rattle.df_ranks.proofs.rank.LiveRank.new.Goals as goal

pub returns-clause-output : goal.returns-clause-output
returns-clause-output c t = λ i. ranked (c.in_ok-column.ensures.schema i) (c.in_ok-column.ensures.name i) (c.in_ok-column.ensures.kind i) (c.in_ok-column.ensures.index i) t

pub returns-clause-rows : goal.returns-clause-rows
returns-clause-rows c t = ap finite.values (returns-clause-output c t) ∙ ranked_rows c.args.schema.now c.args.output.now c.args.kind c.args.column.now t

pub returns-clause-over : goal.returns-clause-over
returns-clause-over c =
    let column = c.in_ok-column.column in
    over_none column.schema column.name column.kind column.index c.in_ok-input.input c.in_ok-output.output c.new-4.result c.in_ok-input.ensures.rows c.in_ok-output.ensures.rows c.new-4.ensures

pub returns-clause-takes : goal.returns-clause-takes
returns-clause-takes c t fit =
    let a = c.args in
    record {
      rows = fits_as _ _ t t (c.in_ok-input.ensures.schema ∙ c.in_ok-copy.ensures) refl fit;
      ranks = fits_as _ _ _ _ (c.in_ok-output.ensures.schema ∙ c.in_ok-made.ensures) (returns-clause-output c t)
          (ranked_fits a.schema.now a.output.now a.kind (column_index a.column.now a.schema.now) t fit);
    }
