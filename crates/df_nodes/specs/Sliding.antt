-- A window that moves on over rows, and what a rolling column takes of its cells.
use Rattle.std.specs.Prelude.{◌≡◌, ℕ, pos, ◌+◌, ◌+ℤ◌, ◌-◌, ◌≤◌, ◌≤ℤ◌, ◌^◌, List, [], ◌∷◌, ◌++◌, Option, Some, None, drop, length, slice_index_or, take}
use Rattle.df_value.specs.declared.cell.Cell.{Cell}
use Rattle.df_ops.specs.Aggregates.{cells_of, count_of, min_or_max_in, non_null, sum_of}
use Rattle.df_ops.specs.LoopStates.{min_or_max_with}
use Rattle.df_ops.specs.declared.min_max.MinMax.{MinMax}
use Rattle.df_ops.specs.declared.min_max.MinMax.TheVariants as min_max
use Rattle.df_ops.specs.declared.windows.RollKind.{RollKind}
use Rattle.df_ops.specs.declared.windows.RollKind.TheVariants as roll
use Rattle.df_nodes.specs.Rolling.{put_at, rolling_value}
use Rattle.df_nodes.specs.declared.rolling.Rolling.{Rolling}
use Rattle.df_nodes.specs.declared.sliding.SlidingWindow.{SlidingWindow}
use Rattle.df_nodes.specs.declared.window_totals.Totals.{Totals}

-- the end of the order of cells that is kept; that of a sum is never asked for
abbrev pub end_of : RollKind → MinMax
end_of roll.Sum = min_max.Min
end_of roll.Min = min_max.Min
end_of roll.Max = min_max.Max

-- the number of cells that are not null, their sum, and the one that none lies beyond
abbrev pub totals_of : RollKind → List Cell → Totals
totals_of kind cells = record { count = count_of cells; sum = sum_of cells; extreme = min_or_max_in (end_of kind) (non_null cells) }

-- those of two lists of cells as one
abbrev pub joined_totals : RollKind → Totals → Totals → Totals
joined_totals kind a b = record { count = a.count + b.count; sum = a.sum +ℤ b.sum; extreme = min_or_max_with (end_of kind) a.extreme b.extreme }

-- the totals of no cell, of the last, of the last two, and so on
abbrev pub stacked : RollKind → List Cell → List Totals
stacked kind [] = totals_of kind [] ∷ []
stacked kind (c ∷ cs) = stacked kind cs ++ totals_of kind (c ∷ cs) ∷ []

-- a cell adds a number of 64 bits to a sum
pub record IsWord (c : Cell) : Type 0 where
  pub low : pos 0 ≤ℤ (sum_of (c ∷ []) +ℤ pos (2 ^ 63))
  pub high : sum_of (c ∷ []) ≤ℤ pos (2 ^ 63)

abbrev pub AreWords : List Cell → Type 0
AreWords [] = Unit {0}
AreWords (c ∷ cs) = IsWord c × AreWords cs

-- totals that can be joined with others in 64 and 128 bits
pub record IsSmall (t : Totals) : Type 0 where
  pub few : t.count ≤ 2 ^ 62
  pub low : pos 0 ≤ℤ (t.sum +ℤ pos (2 ^ 124))
  pub high : t.sum ≤ℤ pos (2 ^ 124)

-- the window has the cells of a column from `start` up to `stop`: the older ones, before `middle`, by their totals
-- alone, the younger ones as they are and by their totals
pub record IsOver (r : Rolling) (w : SlidingWindow) (rows : List (List Cell)) : Type 0 where
  pub ordered : w.start ≤ w.middle
  pub younger_last : w.middle ≤ w.stop
  pub within : w.stop ≤ length rows
  pub older : w.older.items ≡ stacked r.kind (drop w.start (take w.middle (cells_of r.index rows)))
  pub younger : w.younger.items ≡ drop w.middle (take w.stop (cells_of r.index rows))
  pub totals : w.totals ≡ totals_of r.kind (drop w.middle (take w.stop (cells_of r.index rows)))
  pub words : AreWords (drop w.start (take w.stop (cells_of r.index rows)))

-- the window ends at a row and has as many rows as the column asks for, or all before where there are fewer
pub record IsLast (r : Rolling) (w : SlidingWindow) (rows : List (List Cell)) : Type 0 where
  pub over : IsOver r w rows
  pub whole : w.start ≡ w.stop - r.w

-- the younger cells can be taken as totals
pub record IsReady (r : Rolling) (w : SlidingWindow) : Type 0 where
  pub ordered : w.start ≤ w.middle
  pub younger_last : w.middle ≤ w.stop
  pub few : w.stop ≤ 2 ^ 60
  pub older : length w.older.items ≡ (w.middle - w.start) + 1
  pub younger : length w.younger.items ≡ w.stop - w.middle
  pub totals : w.totals ≡ totals_of r.kind w.younger.items
  pub words : AreWords w.younger.items

-- the window has read one row more, and let the oldest go where it had as many as the column asks for
pub record IsMoved (w : ℕ) (old new : SlidingWindow) : Type 0 where
  pub stop : new.stop ≡ old.stop + 1
  pub wide : new.start ≤ old.start + ((old.stop + 1) - (old.start + w))
  pub few : old.stop ≤ old.start + w → new.stop ≤ new.start + w

-- the window can move on to the one that ends at a row, without a row too many
pub record IsBefore (w at : ℕ) (s : SlidingWindow) : Type 0 where
  pub before : s.stop ≤ at
  pub wide : s.start ≤ at + 1 - w
  pub few : s.stop ≤ s.start + w

-- the totals of all its cells
abbrev pub whole_totals : Rolling → SlidingWindow → Totals → Totals
whole_totals r w d = joined_totals r.kind (slice_index_or w.older.items (length w.older.items - 1) d) w.totals

-- what the column gives at this index of all rows, if there is one
abbrev pub output_row : Rolling → List (List Cell) → Option ℕ → Option (List Cell)
output_row r rows None = None
output_row r rows (Some at) = Some (put_at r.places (slice_index_or rows at []) (rolling_value r (cells_of r.index (take (at + 1) rows))))
