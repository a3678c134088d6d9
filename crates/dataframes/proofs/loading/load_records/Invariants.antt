use Rattle.std.proofs.Common.{◌≡◌, ◌≤◌, length, vec_capacity}
use Rattle.df_csv.specs.Typed.{piece_count}
use Rattle.df_value.specs.Limits.{most_rows_of_chunk}
use Rattle.dataframes.specs.Loads.{AreAnswers}
use Rattle.dataframes.proofs.loading.load_records.Given as goal

abbrev pub invariant-loop-part : goal.invariant-loop-part
invariant-loop-part g l = record {
  room : piece_count most_rows_of_chunk (length l.records.records) ≤ vec_capacity l.parts;
  count : length l.parts.items ≡ l.part;
  answers : AreAnswers g.S.History.Naming.schemas l.frame l.records.schema l.records.records l.part l.parts.items;
}
