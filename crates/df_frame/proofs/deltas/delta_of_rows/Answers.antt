use Rattle.std.proofs.Common.{◌∙◌, length, ap, subst, sym}
use Rattle.std.specs.Prelude.{T}
use Rattle.std.specs.FinMap as finite
use Rattle.std.specs.List.{enumerate_from}
use Rattle.df_column.specs.Tags.{tag_cmp}
use Rattle.df_frame.specs.Numbers.{is_rising}
use Rattle.df_frame.proofs.DeltaFacts.{coming-rise}
use Rattle.df_frame.proofs.FrameFacts.{enumerated-numbers}
use Rattle.df_frame.proofs.Rising.{rising-block}
use Rattle.df_frame.proofs.deltas.delta_of_rows.Goals as goal

pub from_entries-requires : goal.from_entries-requires
from_entries-requires c =
    let rows = c.args.rows.items in record {
      rising =
          subst (λ es. T (finite.is_sorted tag_cmp es)) (sym c.in_ok-entries.ensures.changes)
          (coming-rise (enumerate_from c.args.first rows) (ap is_rising (enumerated-numbers c.args.first rows) ∙ rising-block c.args.first (length rows)));
      rows = c.in_ok-entries.ensures.rows;
    }
