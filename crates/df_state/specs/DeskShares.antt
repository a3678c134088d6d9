-- How a desk's numbers stand to its shares of the ledgers.
use Rattle.std.specs.Prelude.{◌≡◌, ◌<◌, ◌≤◌, ℕ}
use Rattle.df_state.specs.Ledgers.{parts_of_ledger}
use Rattle.df_value.specs.Limits as limits

-- a desk is of one of 8 frames; it has the amounts and the parts of both shares, each written as its parts and its
-- amount, of two ledgers of 524,288 parts each
pub record IsDesk (frame accepted deleted parts : ℕ) (ledgers of_accepted of_deleted : ℕ × ℕ) : Type 0 where
  pub within : frame < limits.most_frames
  pub some : 0 < parts
  pub most : parts ≤ parts_of_ledger
  pub accepted_ledger : ledgers.0 ≡ parts_of_ledger
  pub deleted_ledger : ledgers.1 ≡ parts_of_ledger
  pub accepted_parts : of_accepted.0 ≡ parts
  pub deleted_parts : of_deleted.0 ≡ parts
  pub accepted_amount : of_accepted.1 ≡ accepted
  pub deleted_amount : of_deleted.1 ≡ deleted
