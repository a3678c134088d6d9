-- Which of several reasons why workers stopped comes first.
use Rattle.std.specs.Prelude.{List, Option, Some, None, fold}
use Rattle.df_jobs.specs.declared.stop.Stop.{Stop}
use Rattle.df_jobs.specs.declared.stop.Stop.TheVariants as stop

-- of two reasons why workers stopped, the one that a load answers: Memory, then Spent, then Ahead
abbrev pub earlier_stop : Stop → Stop → Stop
earlier_stop stop.Memory other = stop.Memory
earlier_stop stop.Spent stop.Memory = stop.Memory
earlier_stop stop.Spent stop.Spent = stop.Spent
earlier_stop stop.Spent stop.Ahead = stop.Spent
earlier_stop stop.Ahead other = other

-- the same where workers may have stopped or not
abbrev pub earlier_of : Option Stop → Option Stop → Option Stop
earlier_of None next = next
earlier_of (Some first) None = Some first
earlier_of (Some first) (Some next) = Some (earlier_stop first next)

-- of the reasons why these workers stopped the one that a load answers; none where none stopped
abbrev pub first_stop : List (Option Stop) → Option Stop
first_stop stops = fold earlier_of None stops
