use Rattle.std.proofs.Common.{inl, inr}
use Rattle.dataframes.proofs.loading.load_into.Goals as goal

pub returns-in-Ok-with_capacity : goal.returns-in-Ok-with_capacity
returns-in-Ok-with_capacity g c = inl (c.in-Ok.records, c.in-Ok.ensures, inl c.load_records.ensures)

pub returns-in-Err-with_capacity : goal.returns-in-Err-with_capacity
returns-in-Err-with_capacity g c = inl (c.in-Ok.records, c.in-Ok.ensures, inr c.not_loaded.ensures)
