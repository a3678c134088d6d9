use Rattle.std.proofs.Common.{◌≡◌, ◌≤◌, ◌+◌, ◌-◌, ◌++◌, map, drop, take, length}
use Rattle.df_column.specs.Sizes.{most_rows}
use Rattle.df_column.specs.Lookups.{IsLookup}
use Rattle.df_column.specs.Texts.{ArePlaces, pool_text}
use Rattle.df_column.proofs.texts.adding.push_range.Given as goal

abbrev pub invariant-loop-at : goal.invariant-loop-at
invariant-loop-at l =
    record {
      sound : ArePlaces l.pool l.places;
      from : l.low ≤ l.at;
      few : length l.places + (l.high - l.at) ≤ most_rows;
      lookup : IsLookup l.pool l.lookup;
      texts : map (pool_text l.pool) l.places ≡ map (pool_text l.initial.pool) l.initial.places ++ drop l.low (take l.at l.old);
    }
