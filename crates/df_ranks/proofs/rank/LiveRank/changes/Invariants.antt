use Rattle.std.proofs.Common.{◌≡◌, ◌++◌, map, drop}
use Rattle.std.specs.Prelude.{T}
use Rattle.std.specs.List.{list_all}
use Rattle.df_column.specs.Tables.{entry_change}
use Rattle.df_delta.specs.Deltas.{has_row}
use Rattle.df_delta.specs.Reached.{changes_at}
use Rattle.df_ranks.specs.Counts.{counted_rank}
use Rattle.df_ranks.specs.Known.{AreNumbers}
use Rattle.df_ranks.specs.Ranked.{with_ranks}
use Rattle.df_ranks.proofs.rank.LiveRank.changes.Given as goal

abbrev pub invariant-loop-tag : goal.invariant-loop-tag
invariant-loop-tag l =
    let changes = changes_at l.self.output.rows (with_ranks l.self.column.schema l.self.column.name l.self.column.index (counted_rank l.self.column.kind l.counts) l.input.rows) in
    record {
      done : map entry_change l.entries.items ++ changes (drop l.tag-index l.tags) ≡ changes l.tags;
      rows : T (list_all has_row l.entries.items);
      known : AreNumbers l.self.column.kind l.counts l.known;
    }
