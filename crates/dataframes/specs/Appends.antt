-- What is answered to rows that are appended.
use Rattle.std.specs.Prelude.{◌≡◌, ◌≤◌, ◌⊎◌, ℕ, List, [], ◌∷◌, Some, IsTrue, false, Result, Ok, Err, length, slice_get}
use Rattle.df_value.specs.Chunks.{ChunkParts}
use Rattle.df_value.specs.Names.{has_name}
use Rattle.df_value.specs.declared.cell.Cell.{Cell}
use Rattle.df_value.specs.declared.cell.CellType.{CellType}
use Rattle.df_value.specs.declared.chunk.ChunkFault.TheVariants.{Memory}
use Rattle.df_state.specs.declared.change.Change.{Change}
use Rattle.df_state.specs.declared.change.Change.TheVariants.{Append, DropView}
use Rattle.df_state.specs.declared.state.State.{State}
use Rattle.dataframes.specs.Books.{BooksParts, IsAnswered, IsNext}
use Rattle.dataframes.specs.Lines.{HaveNoRecords, IsReadFrom, SayRows}
use Rattle.dataframes.specs.declared.books.Appended.{Appended}
use Rattle.dataframes.specs.declared.csv_rows.CsvRecords.{CsvRecords}
use Rattle.dataframes.specs.declared.csv_rows.LinesFault.{LinesFault}
use Rattle.dataframes.specs.declared.csv_rows.LinesFault.TheVariants.{Csv}
use Rattle.dataframes.specs.declared.fault.ServiceFault.{ServiceFault}
use Rattle.dataframes.specs.declared.fault.ServiceFault.TheVariants.{FixedView, Lines, NoFrame, Rows, Refused}

-- what lines of CSV say under the schema of a frame
pub record SayRowsOfFrame (schemas : List (List (List ℕ × CellType))) (frame : ℕ) (lines : List ℕ) (result : Result (List (List Cell)) LinesFault) : Type 0 where
  pub schema : List (List ℕ × CellType)
  pub of_frame : slice_get schemas frame ≡ Some schema
  pub said : SayRows schema lines result

module _ {J : Type 0} where
  -- what is answered to a chunk that is appended, beside its first number and how many rows it has
  abbrev pub IsAppendedChunk : List (List (List ℕ × CellType)) → BooksParts → ℕ → ChunkParts → Result (Appended J) (ServiceFault J) → BooksParts → Type 0
  IsAppendedChunk schemas old frame chunk (Ok a) new =
      (a.first ≡ chunk.first) × (a.rows ≡ length chunk.rows) × IsAnswered {J = J} schemas old (Append frame chunk) (Ok a.told) new
  IsAppendedChunk schemas old frame chunk (Err f) new = IsAnswered {J = J} schemas old (Append frame chunk) (Err f) new

  -- the same of rows, which are the frame's next chunk
  pub record IsNextAppended (schemas : List (List (List ℕ × CellType))) (old : BooksParts) (frame : ℕ) (rows : List (List Cell)) (result : Result (Appended J) (ServiceFault J)) (new : BooksParts) : Type 0 where
    pub chunk : ChunkParts
    pub next : IsNext schemas old frame rows (Ok chunk)
    pub answer : IsAppendedChunk schemas old frame chunk result new

  -- The rows were appended behind those that the frame had accepted, or were not, and the books are as they were.
  abbrev pub Appends : List (List (List ℕ × CellType)) → BooksParts → ℕ → List (List Cell) → Result (Appended J) (ServiceFault J) → BooksParts → Type 0
  Appends schemas old frame rows (Ok a) new = IsNextAppended schemas old frame rows (Ok a) new
  Appends schemas old frame rows (Err NoFrame) new = (length schemas ≤ frame) × (new ≡ old)
  Appends schemas old frame rows (Err (Lines f)) new = ⊥
  Appends schemas old frame rows (Err FixedView) new = ⊥
  Appends schemas old frame rows (Err (Rows f)) new = IsNext schemas old frame rows (Err f) × (new ≡ old)
  Appends schemas old frame rows (Err (Refused f)) new = IsNextAppended schemas old frame rows (Err (Refused f)) new

  -- the same for some books: those that stand behind a lock have no name in a clause
  abbrev pub AppendsToBooks : List (List (List ℕ × CellType)) → ℕ → List (List Cell) → Result (Appended J) (ServiceFault J) → Type 0
  AppendsToBooks schemas frame rows result = (old : BooksParts) × (new : BooksParts) × Appends schemas old frame rows result new

  abbrev pub AnswersOfBooks : List (List (List ℕ × CellType)) → Change → Result (List State) (ServiceFault J) → Type 0
  AnswersOfBooks schemas c result = (old : BooksParts) × (new : BooksParts) × IsAnswered {J = J} schemas old c result new

  -- the rows of lines of CSV, or why there are none
  abbrev pub AreRowsOfLines : List (List (List ℕ × CellType)) → ℕ → List ℕ → Result (List (List Cell)) (ServiceFault J) → Type 0
  AreRowsOfLines schemas frame lines (Ok rows) = SayRowsOfFrame schemas frame lines (Ok rows)
  AreRowsOfLines schemas frame lines (Err NoFrame) = length schemas ≤ frame
  AreRowsOfLines schemas frame lines (Err (Lines f)) = SayRowsOfFrame schemas frame lines (Err f)
  AreRowsOfLines schemas frame lines (Err (Rows f)) = ⊥
  AreRowsOfLines schemas frame lines (Err FixedView) = ⊥
  AreRowsOfLines schemas frame lines (Err (Refused f)) = ⊥

  -- what is answered to lines of CSV that are read for a frame: their records under its columns, or why they have none
  abbrev pub ReadsLines : List (List (List ℕ × CellType)) → ℕ → List ℕ → Result CsvRecords (ServiceFault J) → Type 0
  ReadsLines schemas frame lines (Ok file) =
      (schema : List (List ℕ × CellType)) × (slice_get schemas frame ≡ Some schema) × IsReadFrom schema lines file.schema file.records
  ReadsLines schemas frame lines (Err NoFrame) = length schemas ≤ frame
  ReadsLines schemas frame lines (Err (Lines (Csv f))) =
      (schema : List (List ℕ × CellType)) × (slice_get schemas frame ≡ Some schema) × HaveNoRecords schema lines f
  ReadsLines schemas frame lines (Err (Lines f)) = ⊥
  ReadsLines schemas frame lines (Err (Rows f)) = ⊥
  ReadsLines schemas frame lines (Err FixedView) = ⊥
  ReadsLines schemas frame lines (Err (Refused f)) = ⊥

  -- lines say rows, and this is answered to these
  pub record AppendsRowsOfLines (schemas : List (List (List ℕ × CellType))) (frame : ℕ) (lines : List ℕ) (result : Result (Appended J) (ServiceFault J)) : Type 0 where
    pub rows : List (List Cell)
    pub said : SayRowsOfFrame schemas frame lines (Ok rows)
    pub answer : AppendsToBooks schemas frame rows result

  -- What is answered to lines of CSV that are appended: what is answered to the rows that they say, or why they say none.
  abbrev pub AppendsLines : List (List (List ℕ × CellType)) → ℕ → List ℕ → Result (Appended J) (ServiceFault J) → Type 0
  AppendsLines schemas frame lines (Ok a) = AppendsRowsOfLines schemas frame lines (Ok a)
  AppendsLines schemas frame lines (Err NoFrame) = length schemas ≤ frame
  AppendsLines schemas frame lines (Err (Lines f)) = SayRowsOfFrame schemas frame lines (Err f)
  AppendsLines schemas frame lines (Err (Rows f)) = AppendsRowsOfLines schemas frame lines (Err (Rows f))
  AppendsLines schemas frame lines (Err FixedView) = ⊥
  AppendsLines schemas frame lines (Err (Refused f)) = AppendsRowsOfLines schemas frame lines (Err (Refused f))

  -- what is answered to one row, whose memory may be refused before it is appended
  abbrev pub AppendsOne : List (List (List ℕ × CellType)) → ℕ → List Cell → Result (Appended J) (ServiceFault J) → Type 0
  AppendsOne schemas frame row result = (result ≡ Err (Rows Memory)) ⊎ AppendsToBooks schemas frame (row ∷ []) result

  -- What is answered to the dropping of a view: where it is one of those with which the service was opened, it stays.
  abbrev pub AnswersDrop : List (List (List ℕ × CellType)) → List (List ℕ × List (List ℕ × CellType)) → List ℕ → Result (List State) (ServiceFault J) → Type 0
  AnswersDrop schemas fixed name (Err FixedView) = IsTrue (has_name (λ v. v.0) name fixed)
  AnswersDrop schemas fixed name result = (has_name (λ v. v.0) name fixed ≡ false) × AnswersOfBooks schemas (DropView name) result
