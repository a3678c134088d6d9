use Rattle.std.proofs.Common.{◌≡◌, ◌+◌, ◌*◌, ◌-◌, ◌≤◌, length}
use Rattle.csv.specs.Records.{fields_of}
use Rattle.df_csv.specs.Rows.{IsPlain, rows_left}
use Rattle.df_csv.specs.Records.{EveryText, after_rows, checked_records, rows_of_width}
use Rattle.df_csv.proofs.rows.read_rows.Given as goal

abbrev pub invariant-records : goal.invariant-records
invariant-records g l = record {
  plain : IsPlain g.R.Read.remaining l.reader;
  below : l.count ≤ 1048576;
  texts : EveryText (rows_left g.R.Read.remaining l.reader);
  even : length (fields_of l.fields) ≡ l.count * length l.indices;
  so_far : checked_records l.width l.indices 1 (rows_left g.R.Read.remaining l.initial.reader)
      ≡ after_rows (rows_of_width (length l.indices) l.count (fields_of l.fields)) (checked_records l.width l.indices (l.count + 1) (rows_left g.R.Read.remaining l.reader));
}

abbrev pub decreases-records : goal.decreases-records
decreases-records g l = 1048577 - l.count
