-- Where a value stands among others that are counted.
use Rattle.std.specs.Prelude.{◌≡◌, ℕ, List, IfNone}
use Rattle.std.specs.Option.{IfSome}
use Rattle.std.specs.FinMap.{find}
use Rattle.df_value.specs.CellOrder.{cell_cmp}
use Rattle.df_value.specs.declared.cell.Cell.{Cell}
use Rattle.df_tree.specs.Partitions.{IsPlace}
use Rattle.df_counts.specs.Places.{is_below, IsGap, IsThere}
use Rattle.df_counts.specs.declared.position.Position.{Position}

-- so many entries are before the value, and it has this count there; or it has none, and all behind are greater
pub record IsPosition (es : List (Cell × ℕ)) (v : Cell) (p : Position) : Type 0 where
  pub place : IsPlace (is_below v) es p.index
  pub count : p.count ≡ find cell_cmp v es
  pub there : IfSome p.count (λ n. IsThere es p.index v)
  pub gap : IfNone p.count (IsGap es p.index v)
