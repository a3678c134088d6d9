-- When a live node's promise holds: it stands over an input that it takes, and a lean delta that fits leads to
-- another that it takes.
use Rattle.df_column.specs.Changes.{applied}
use Rattle.df_column.specs.Tables.{TaggedRows}
use Rattle.df_delta.specs.Deltas.{Changes}
use Rattle.df_delta.specs.Differences.{Fits, IsLean}

-- a node of one input, by what it stands over and what it takes
pub record MayFollow (IsOver Takes : TaggedRows → Type 0) (t : TaggedRows) (d : Changes) : Type 0 where
  pub over : IsOver t
  pub before : Takes t
  pub after : Takes (applied t d)
  pub lean : IsLean d
  pub fits : Fits t d

-- a node of two inputs, to which two deltas come together
pub record MayFollowBoth (IsOver Takes : TaggedRows → TaggedRows → Type 0) (l : TaggedRows) (d : Changes) (r : TaggedRows) (e : Changes) : Type 0 where
  pub over : IsOver l r
  pub before : Takes l r
  pub after : Takes (applied l d) (applied r e)
  pub lean_left : IsLean d
  pub fits_left : Fits l d
  pub lean_right : IsLean e
  pub fits_right : Fits r e
