-- What a hall answers to a change.
use Rattle.std.specs.Prelude.{ℕ, List, Result}
use Rattle.df_value.specs.declared.cell.CellType.{CellType}
use Rattle.df_state.specs.declared.change.Change.{Change}
use Rattle.df_state.specs.declared.state.State.{State}
use Rattle.df_versions.specs.Answered.{AnswersChange}
use Rattle.df_versions.specs.Histories.{IsHistoryOver}
use Rattle.df_versions.specs.declared.fault.ChangeFault.{ChangeFault}

-- a change is answered so after some lawful history over frames of these schemas, for a caller who was told of so many
-- states. What a lock holds has no name in a clause, so nothing more ties that history to a hall. What is told does, which
-- is of the hall's own history
pub record AnswersOverHistory {J : Type 0} (schemas : List (List (List ℕ × CellType))) (floor : ℕ) (c : Change) (result : Result (List State) (ChangeFault J)) : Type 0 where
  pub history : List State
  pub over : IsHistoryOver schemas history
  pub answer : AnswersChange history floor c result
