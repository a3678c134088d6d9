use Rattle.std.proofs.Common.{rules}
use Rattle.dataframes.proofs.csv_rows.CsvRecords.rows.Goals as goal

pub returns-in-Ok-Good : goal.returns-in-Ok-Good
returns-in-Ok-Good c = (c.in-Ok-Good.chunk, search rules, search rules)
