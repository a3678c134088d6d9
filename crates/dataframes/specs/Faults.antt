-- What the faults of a service tell.
use Rattle.std.specs.Prelude.{Bool, true, false}
use Rattle.df_csv.specs.declared.fault.CsvFault.TheVariants as csv_fault
use Rattle.df_value.specs.declared.chunk.ChunkFault.TheVariants as chunk_fault
use Rattle.df_versions.specs.declared.fault.ChangeFault.TheVariants as change_fault
use Rattle.dataframes.specs.declared.csv_rows.LinesFault.TheVariants.{Csv}
use Rattle.dataframes.specs.declared.fault.ServiceFault.{ServiceFault}
use Rattle.dataframes.specs.declared.fault.ServiceFault.TheVariants.{Lines, Refused, Rows}

module _ {J : Type 0} where
  -- memory was refused, and nothing else
  abbrev pub is_memory : ServiceFault J → Bool
  is_memory (Lines (Csv csv_fault.Memory)) = true
  is_memory (Rows chunk_fault.Memory) = true
  is_memory (Refused change_fault.Memory) = true
  is_memory _ = false
