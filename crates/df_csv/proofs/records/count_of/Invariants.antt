use Rattle.std.proofs.Common.{◌≡◌, ◌≤◌, length, take}
use Rattle.df_csv.specs.Records.{records_of_parts}
use Rattle.df_csv.proofs.records.count_of.Given as goal

abbrev pub invariant-loop-part : goal.invariant-loop-part
invariant-loop-part l = (l.count ≡ length (records_of_parts (take l.part-index l.parts))) × (l.count ≤ 1048576)
