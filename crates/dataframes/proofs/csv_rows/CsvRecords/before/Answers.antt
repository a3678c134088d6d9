use Rattle.std.proofs.Common.{arith}
use Rattle.df_csv.proofs.PieceFacts.{starts_within}
use Rattle.df_value.specs.Limits.{most_rows_of_chunk}
use Rattle.dataframes.proofs.csv_rows.CsvRecords.before.Goals as goal

pub overflow_mul-result : goal.overflow_mul-result
overflow_mul-result c =
    let s = starts_within c.args.part most_rows_of_chunk _ (omega arith) c.requires in
    omega (arith, s, c.args.self.now.sound.few)
