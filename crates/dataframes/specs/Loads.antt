-- What comes of a CSV file that is loaded into a frame of an open service.
use Rattle.std.specs.Prelude.{◌≡◌, ◌<◌, ◌++◌, ◌⊎◌, ℕ, zero, suc, List, [], ◌∷◌, Option, None, Some, Result, Ok, Err, length}
use Rattle.df_csv.specs.Records.{FieldRows}
use Rattle.df_csv.specs.Typed.{piece_count, piece_start}
use Rattle.df_value.specs.Limits.{most_rows_of_chunk}
use Rattle.df_value.specs.declared.cell.Cell.{Cell}
use Rattle.df_value.specs.declared.cell.CellType.{CellType}
use Rattle.df_value.specs.declared.chunk.ChunkFault.TheVariants.{Memory}
use Rattle.dataframes.specs.Appends.{AppendsToBooks, ReadsLines}
use Rattle.dataframes.specs.Lines.{IsTypedPart}
use Rattle.dataframes.specs.declared.books.Appended.{Appended}
use Rattle.dataframes.specs.declared.csv_rows.CsvRecords.{CsvRecords}
use Rattle.dataframes.specs.declared.csv_rows.LinesFault.{LinesFault}
use Rattle.dataframes.specs.declared.fault.ServiceFault.{ServiceFault}
use Rattle.dataframes.specs.declared.fault.ServiceFault.TheVariants.{Lines, Rows}
use Rattle.dataframes.specs.declared.loading.Loaded.{Loaded}

module _ {J : Type 0} where
  -- what is answered to a part of a file's records: what is answered to the rows that it makes, or why it makes none
  abbrev pub LoadsPart : List (List (List ℕ × CellType)) → ℕ → List (List ℕ × CellType) → FieldRows → ℕ → Result (Appended J) (ServiceFault J) → Type 0
  LoadsPart schemas frame schema records part result =
      ((rows : List (List Cell)) × IsTypedPart schema records part (Ok rows) × AppendsToBooks schemas frame rows result)
      ⊎ ((fault : LinesFault) × IsTypedPart schema records part (Err fault) × (result ≡ Err (Lines fault)))

  -- this was answered to the first so many parts, in turn
  abbrev pub AreAnswers : List (List (List ℕ × CellType)) → ℕ → List (List ℕ × CellType) → FieldRows → ℕ → List (Appended J) → Type 0
  AreAnswers schemas frame schema records zero answers = answers ≡ []
  AreAnswers schemas frame schema records (suc part) answers =
      (before : List (Appended J))
      × (a : Appended J)
      × (answers ≡ before ++ a ∷ [])
      × AreAnswers schemas frame schema records part before
      × LoadsPart schemas frame schema records part (Ok a)

  -- What comes of records: all parts have entered, or those before the first one that is refused. Counted are the records of those that entered.
  abbrev pub LoadsParts : List (List (List ℕ × CellType)) → ℕ → List (List ℕ × CellType) → FieldRows → ℕ → List (Appended J) → Option (ServiceFault J) → Type 0
  LoadsParts schemas frame schema records rows answers None =
      AreAnswers schemas frame schema records (piece_count most_rows_of_chunk (length records)) answers × (rows ≡ length records)
  LoadsParts schemas frame schema records rows answers (Some fault) =
      (part : ℕ)
      × (part < piece_count most_rows_of_chunk (length records))
      × AreAnswers schemas frame schema records part answers
      × LoadsPart schemas frame schema records part (Err fault)
      × (rows ≡ piece_start most_rows_of_chunk part)

  -- the same, of what is answered to a file
  abbrev pub LoadsRecords : List (List (List ℕ × CellType)) → ℕ → List (List ℕ × CellType) → FieldRows → Loaded J → Type 0
  LoadsRecords schemas frame schema records loaded = LoadsParts schemas frame schema records loaded.rows loaded.parts.items loaded.refused

  -- nothing has entered, for this reason
  pub record IsNotLoaded (fault : ServiceFault J) (loaded : Loaded J) : Type 0 where
    pub rows : loaded.rows ≡ 0
    pub parts : loaded.parts.items ≡ []
    pub refused : loaded.refused ≡ Some fault

  -- What comes of lines of CSV: what comes of the records that they have, or that memory was refused; or why they have none.
  abbrev pub LoadsLines : List (List (List ℕ × CellType)) → ℕ → List ℕ → Loaded J → Type 0
  LoadsLines schemas frame lines loaded =
      ((file : CsvRecords)
      × ReadsLines {J = J} schemas frame lines (Ok file)
      × (LoadsRecords schemas frame file.schema file.records loaded ⊎ IsNotLoaded (Rows Memory) loaded))
      ⊎ ((fault : ServiceFault J) × ReadsLines schemas frame lines (Err fault) × IsNotLoaded fault loaded)
