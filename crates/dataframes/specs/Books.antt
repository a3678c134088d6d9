-- The books of a service, and what becomes of them at a change.
use Rattle.std.specs.Prelude.{◌≡◌, ◌≤◌, ◌⊎◌, ℕ, List, [], Option, Some, None, Result, Ok, Err, length, map, slice_get}
use Rattle.std.specs.List.{range_with_len}
use Rattle.df_value.specs.Chunks.{ChunkParts, MakesChunk}
use Rattle.df_value.specs.ChunkFaults.{chunk_fault}
use Rattle.df_value.specs.Limits.{row_numbers}
use Rattle.df_value.specs.declared.cell.Cell.{Cell}
use Rattle.df_value.specs.declared.cell.CellType.{CellType}
use Rattle.df_value.specs.declared.chunk.ChunkFault.{ChunkFault}
use Rattle.df_value.specs.declared.chunk.ChunkFault.TheVariants as chunk_fault_of
use Rattle.df_state.specs.Desks.{DeskParts, desks_after}
use Rattle.df_state.specs.declared.change.Change.{Change}
use Rattle.df_state.specs.declared.change.Change.TheVariants.{Append, Delete, DropView, Register, Replace}
use Rattle.df_state.specs.declared.state.State.{State}
use Rattle.df_hall.specs.Halls.{AnswersOverHistory}
use Rattle.df_versions.specs.declared.fault.ChangeFault.{ChangeFault}
use Rattle.dataframes.specs.declared.fault.ServiceFault.{ServiceFault}
use Rattle.dataframes.specs.declared.fault.ServiceFault.TheVariants.{FixedView, Lines, NoFrame, Rows, Refused}

-- the states that were told of the last change, and the desks, which count the rows of each frame
pub record BooksParts : Type 0 where
  pub told : List State
  pub desks : List DeskParts

-- each desk is at the index of its frame
abbrev pub InOrder : List DeskParts → Type 0
InOrder desks = map (λ d. d.frame) desks ≡ range_with_len 0 (length desks)

-- the states that were told; none before the first change
abbrev pub states_told : Option (List State) → List State
states_told None = []
states_told (Some told) = told

-- a change of a frame that is not among so many
abbrev pub HasNoFrame : ℕ → Change → Type 0
HasNoFrame count (Append f chunk) = count ≤ f
HasNoFrame count (Delete f numbers) = count ≤ f
HasNoFrame count (Replace f rows) = count ≤ f
HasNoFrame count (Register name plan) = ⊥
HasNoFrame count (DropView name) = ⊥

-- why rows are no chunk of a schema behind so many rows: its memory was refused, the chunk's first fault, or no number is left
abbrev pub IsNoChunk : List (List ℕ × CellType) → ℕ → List (List Cell) → ChunkFault → Type 0
IsNoChunk schema accepted rows fault =
    (fault ≡ chunk_fault_of.Memory)
    ⊎ ((chunk_fault schema accepted rows ≡ Some fault)
    ⊎ ((row_numbers ≤ accepted) × (fault ≡ chunk_fault_of.NumberTooLarge)))

-- rows as a chunk of a schema whose numbers begin behind so many rows
abbrev pub IsNumbered : List (List ℕ × CellType) → ℕ → List (List Cell) → Result ChunkParts ChunkFault → Type 0
IsNumbered schema accepted rows (Ok chunk) = MakesChunk schema accepted rows chunk
IsNumbered schema accepted rows (Err fault) = IsNoChunk schema accepted rows fault

-- so, by the schema of a frame and the rows that its desk counts; None where there is no such frame
pub record IsNext (schemas : List (List (List ℕ × CellType))) (books : BooksParts) (frame : ℕ) (rows : List (List Cell)) (result : Result ChunkParts ChunkFault) : Type 0 where
  pub desk : DeskParts
  pub there : slice_get books.desks frame ≡ Some desk
  pub schema : List (List ℕ × CellType)
  pub of_frame : slice_get schemas frame ≡ Some schema
  pub numbered : IsNumbered schema desk.accepted rows result

abbrev pub IsNextOr : List (List (List ℕ × CellType)) → BooksParts → ℕ → List (List Cell) → Option (Result ChunkParts ChunkFault) → Type 0
IsNextOr schemas books frame rows None = length schemas ≤ frame
IsNextOr schemas books frame rows (Some result) = IsNext schemas books frame rows result

module _ {J : Type 0} where
  -- What the hall answers to a change of a frame through its desk, or that there is no such frame.
  abbrev pub IsThrough : List (List (List ℕ × CellType)) → BooksParts → Change → Option (Result (List State) (ChangeFault J)) → BooksParts → Type 0
  IsThrough schemas old c None new = HasNoFrame (length schemas) c × (new ≡ old)
  IsThrough schemas old c (Some (Ok told)) new =
      AnswersOverHistory {J = J} schemas (length old.told) c (Ok told) × (new ≡ record old { desks = desks_after old.desks c })
  IsThrough schemas old c (Some (Err f)) new = AnswersOverHistory {J = J} schemas (length old.told) c (Err f) × (new ≡ old)

  -- What is told of a change that was made is kept.
  abbrev pub IsKept : BooksParts → Result (List State) (ChangeFault J) → Result (List State) (ServiceFault J) → BooksParts → Type 0
  IsKept old (Ok told) (Ok answer) new = (answer ≡ told) × (new ≡ record old { told = told })
  IsKept old (Err f) (Err fault) new = (fault ≡ Refused f) × (new ≡ old)
  IsKept old answer result new = ⊥

  -- What is answered to a change, in the hall's words, and the books after it: its history is longer than that of every
  -- change before, and the desks count its rows. Else the books are as they were.
  abbrev pub IsAnswered : List (List (List ℕ × CellType)) → BooksParts → Change → Result (List State) (ServiceFault J) → BooksParts → Type 0
  IsAnswered schemas old c (Ok told) new =
      AnswersOverHistory {J = J} schemas (length old.told) c (Ok told) × (new ≡ record { told = told; desks = desks_after old.desks c })
  IsAnswered schemas old c (Err NoFrame) new = HasNoFrame (length schemas) c × (new ≡ old)
  IsAnswered schemas old c (Err (Lines f)) new = ⊥
  IsAnswered schemas old c (Err (Rows f)) new = ⊥
  IsAnswered schemas old c (Err FixedView) new = ⊥
  IsAnswered schemas old c (Err (Refused f)) new = AnswersOverHistory {J = J} schemas (length old.told) c (Err f) × (new ≡ old)
