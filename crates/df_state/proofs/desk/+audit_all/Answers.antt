use Rattle.std.proofs.Common.{arith}
use Rattle.std.proofs.lemmas.Grind.{common_steps}
use Rattle.df_state.proofs.desk.+audit_all.Goals as goal

pub returns-in_default-clause-desks : goal.returns-in_default-clause-desks
returns-in_default-clause-desks g t c = grind (arith, common_steps)

pub returns-in_default-clause-accepted_book : goal.returns-in_default-clause-accepted_book
returns-in_default-clause-accepted_book g t c = grind (arith, common_steps)

pub returns-in_default-clause-deleted_book : goal.returns-in_default-clause-deleted_book
returns-in_default-clause-deleted_book g t c = grind (arith, common_steps)

pub returns-in_default-clause-accepted_parts : goal.returns-in_default-clause-accepted_parts
returns-in_default-clause-accepted_parts g t c = grind (arith, common_steps)

pub returns-in_default-clause-accepted_amount : goal.returns-in_default-clause-accepted_amount
returns-in_default-clause-accepted_amount g t c = grind (arith, common_steps)

pub returns-in_default-clause-deleted_parts : goal.returns-in_default-clause-deleted_parts
returns-in_default-clause-deleted_parts g t c = grind (arith, common_steps)

pub returns-in_default-clause-deleted_amount : goal.returns-in_default-clause-deleted_amount
returns-in_default-clause-deleted_amount g t c = grind (arith, common_steps)

pub returns-in_default-clause-most_accepted : goal.returns-in_default-clause-most_accepted
returns-in_default-clause-most_accepted g t c = grind (arith, common_steps)

pub returns-in_default-clause-most_deleted : goal.returns-in_default-clause-most_deleted
returns-in_default-clause-most_deleted g t c = grind (arith, common_steps)

pub returns-in_default-clause-all_accepted : goal.returns-in_default-clause-all_accepted
returns-in_default-clause-all_accepted g t c = grind (arith, common_steps)

pub returns-in_default-clause-all_deleted : goal.returns-in_default-clause-all_deleted
returns-in_default-clause-all_deleted g t c = grind (arith, common_steps)

pub returns-in_default-clause-accepted_ledger : goal.returns-in_default-clause-accepted_ledger
returns-in_default-clause-accepted_ledger g t c = grind (arith, common_steps)

pub returns-in_default-clause-deleted_ledger : goal.returns-in_default-clause-deleted_ledger
returns-in_default-clause-deleted_ledger g t c = grind (arith, common_steps)

pub give-requires-clause-has_parts : goal.give-requires-clause-has_parts
give-requires-clause-has_parts g t c = grind (arith, common_steps)

pub give-requires-clause-has_amount : goal.give-requires-clause-has_amount
give-requires-clause-has_amount g t c = grind (arith, common_steps)

pub give-requires-clause-left_backed : goal.give-requires-clause-left_backed
give-requires-clause-left_backed g t c = grind (arith, common_steps)

pub give-requires-clause-given_backed : goal.give-requires-clause-given_backed
give-requires-clause-given_backed g t c = grind (arith, common_steps)

pub give-requires-2-clause-has_parts : goal.give-requires-2-clause-has_parts
give-requires-2-clause-has_parts g t c = grind (arith, common_steps)

pub give-requires-2-clause-has_amount : goal.give-requires-2-clause-has_amount
give-requires-2-clause-has_amount g t c = grind (arith, common_steps)

pub give-requires-2-clause-left_backed : goal.give-requires-2-clause-left_backed
give-requires-2-clause-left_backed g t c = grind (arith, common_steps)

pub give-requires-2-clause-given_backed : goal.give-requires-2-clause-given_backed
give-requires-2-clause-given_backed g t c = grind (arith, common_steps)

pub give-requires-3-clause-has_parts : goal.give-requires-3-clause-has_parts
give-requires-3-clause-has_parts g t c = grind (arith, common_steps)

pub give-requires-3-clause-has_amount : goal.give-requires-3-clause-has_amount
give-requires-3-clause-has_amount g t c = grind (arith, common_steps)

pub give-requires-3-clause-left_backed : goal.give-requires-3-clause-left_backed
give-requires-3-clause-left_backed g t c = grind (arith, common_steps)

pub give-requires-3-clause-given_backed : goal.give-requires-3-clause-given_backed
give-requires-3-clause-given_backed g t c = grind (arith, common_steps)

pub give-requires-4-clause-has_parts : goal.give-requires-4-clause-has_parts
give-requires-4-clause-has_parts g t c = grind (arith, common_steps)

pub give-requires-4-clause-has_amount : goal.give-requires-4-clause-has_amount
give-requires-4-clause-has_amount g t c = grind (arith, common_steps)

pub give-requires-4-clause-left_backed : goal.give-requires-4-clause-left_backed
give-requires-4-clause-left_backed g t c = grind (arith, common_steps)

pub give-requires-4-clause-given_backed : goal.give-requires-4-clause-given_backed
give-requires-4-clause-given_backed g t c = grind (arith, common_steps)

pub returns-clause-desks : goal.returns-clause-desks
returns-clause-desks g t c = grind (arith, common_steps)

pub returns-clause-accepted_book : goal.returns-clause-accepted_book
returns-clause-accepted_book g t c = grind (arith, common_steps)

pub returns-clause-deleted_book : goal.returns-clause-deleted_book
returns-clause-deleted_book g t c = grind (arith, common_steps)

pub returns-clause-accepted_parts : goal.returns-clause-accepted_parts
returns-clause-accepted_parts g t c = grind (arith, common_steps)

pub returns-clause-accepted_amount : goal.returns-clause-accepted_amount
returns-clause-accepted_amount g t c = grind (arith, common_steps)

pub returns-clause-deleted_parts : goal.returns-clause-deleted_parts
returns-clause-deleted_parts g t c = grind (arith, common_steps)

pub returns-clause-deleted_amount : goal.returns-clause-deleted_amount
returns-clause-deleted_amount g t c = grind (arith, common_steps)

pub returns-clause-most_accepted : goal.returns-clause-most_accepted
returns-clause-most_accepted g t c = grind (arith, common_steps)

pub returns-clause-most_deleted : goal.returns-clause-most_deleted
returns-clause-most_deleted g t c = grind (arith, common_steps)

pub returns-clause-all_accepted : goal.returns-clause-all_accepted
returns-clause-all_accepted g t c = grind (arith, common_steps)

pub returns-clause-all_deleted : goal.returns-clause-all_deleted
returns-clause-all_deleted g t c = grind (arith, common_steps)

pub returns-clause-accepted_ledger : goal.returns-clause-accepted_ledger
returns-clause-accepted_ledger g t c = grind (arith, common_steps)

pub returns-clause-deleted_ledger : goal.returns-clause-deleted_ledger
returns-clause-deleted_ledger g t c = grind (arith, common_steps)
