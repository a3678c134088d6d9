-- A load: the chunks of a file enter a frame one after another, each as an append behind all rows before it. A chunk that is refused is
-- told in a line, and left out; it takes no numbers.
use Rattle.std.specs.Prelude.{◌≡◌, ◌⊎◌, ◌+◌, ◌-◌, ◌++◌, ◌<◌, ◌≤◌, ℕ, Bool, true, false, zero, suc, List, [], ◌∷◌, Option, Some, None, Ok, Err, codes, decimal, length, slice_get, take}
use Rattle.df_value.specs.ChunkFaults.{chunk_fault}
use Rattle.df_value.specs.declared.cell.Cell.{Cell}
use Rattle.df_value.specs.Limits.{row_numbers}
use Rattle.df_value.specs.Schemas.{Columns}
use Rattle.df_value.specs.declared.chunk.ChunkFault.{ChunkFault}
use Rattle.df_value.specs.declared.chunk.ChunkFault.TheVariants as chunk_faults
use Rattle.df_value.specs.declared.chunk.Piece.{Piece}
use Rattle.df_value.specs.declared.chunk.Piece.TheVariants as made
use Rattle.df_csv.specs.Records.{FieldRows, GivesRead}
use Rattle.df_csv.specs.Typed.{piece_start, pieces_of}
use Rattle.df_csv.specs.declared.fault.CsvFault.{CsvFault}
use Rattle.df_print.specs.Printed.{escaped_text}
use Rattle.df_document.specs.Files.{IsKnownState}
use Rattle.df_document.specs.Opening.{records_of_file}
use Rattle.df_document.specs.Refused.{refused_line}
use Rattle.df_document.specs.declared.files.FileState.{FileState}
use Rattle.df_state.specs.declared.change.Change.{Change}
use Rattle.df_state.specs.declared.change.Change.TheVariants.{Append}
use Rattle.df_state.specs.declared.fault.CatalogueFault.TheVariants as fault
use Rattle.df_session.specs.Asked.{frame_index_of}
use Rattle.df_session.specs.Greetings.{plural_end}
use Rattle.df_session.specs.Texts.{text_of}
use Rattle.df_session.specs.declared.definitions.Definitions.{Definitions}
use Rattle.df_session.specs.declared.refusal.Refusal.{Refusal}
use Rattle.df_session.specs.declared.refusal.Refusal.TheVariants as refusal
use Rattle.df_text.specs.declared.document.FrameSpec.{FrameSpec}

-- so many records are a chunk
abbrev pub records_of_chunk : ℕ
records_of_chunk = 1000

-- the pieces of records
abbrev pub pieces_of_load : Columns → FieldRows → List Piece
pieces_of_load schema records = pieces_of schema records_of_chunk records

-- the append of rows of these columns, numbered from this number on, to the frame at this index
abbrev pub append_from : ℕ → Columns → ℕ → List (List Cell) → Change
append_from at columns next rows = Append at (record { schema = columns; first = next; rows = rows })

-- why rows are no chunk of these columns from this number on
abbrev pub IsUnnumbered : Columns → ℕ → List (List Cell) → Refusal → Type 0
IsUnnumbered columns next rows r =
    ((f : ChunkFault) × (r ≡ refusal.Chunk f) × (chunk_fault columns next rows ≡ Some f))
    ⊎ ((r ≡ refusal.Chunk chunk_faults.NumberTooLarge) × (row_numbers ≤ next))

-- what a load did: the number of its first row and the one behind its last, the lines of the chunks that are left out, what is said of the
-- rows that entered, and whether memory was refused
pub record LoadedParts : Type 0 where
  pub first : ℕ
  pub next : ℕ
  pub refused : List ℕ
  pub entered : List ℕ
  pub is_cut : Bool

-- what a chunk of rows that is left out is told with: how many rows of the file stand before it, and why
abbrev pub left_out_line : FrameSpec → ℕ → Refusal → List ℕ
left_out_line frame before r =
    codes "refused " ++ (escaped_text frame.name ++ (codes " " ++ (decimal before ++ (codes ": " ++ (text_of frame.name r ++ codes "\n")))))

-- what is said of so many rows that entered from a number on
abbrev pub entered_text : ℕ → ℕ → List ℕ
entered_text first zero = codes "ok 0 rows\n"
entered_text first (suc n) =
    codes "ok " ++ (decimal (suc n) ++ (codes " row" ++ (plural_end (suc n) ++ (codes ", " ++ (decimal first ++ (codes ".."
    ++ (decimal (first + n) ++ codes "\n")))))))

-- what is said of its rows is so
abbrev pub IsTold : LoadedParts → Type 0
IsTold l = l.entered ≡ entered_text l.first (l.next - l.first)

-- a load goes on by so many rows and this line, and what is said of its rows stays so
pub record IsMoreBy (old new : LoadedParts) (count : ℕ) (line : List ℕ) : Type 0 where
  pub first : new.first ≡ old.first
  pub next : new.next ≡ old.next + count
  pub refused : new.refused ≡ old.refused ++ line
  pub told : IsTold old → IsTold new

-- by what a store makes, refuses and keeps where it makes no change, in the frame of this description and index
module _ {S : Type 0} (Makes : S → S → Change → Type 0) (Refuses : S → S → Change → Refusal → Type 0) (Keeps : S → S → Type 0)
    (frame : FrameSpec) (at : ℕ)
  where
    -- Why rows do not enter from this number on: there are no such numbers, memory is refused, or the store refuses them.
    abbrev pub IsLeftOut : S → S → ℕ → List (List Cell) → Refusal → Type 0
    IsLeftOut old new next rows r =
        IsUnnumbered frame.schema next rows r ⊎ ((r ≡ refusal.Memory) ⊎ Refuses old new (append_from at frame.schema next rows) r)

    -- Rows, before which so many stand in the file: they enter from this number on, or they are left out and told in this line. So many
    -- enter.
    abbrev pub AreRowsTried : S → S → ℕ → ℕ → List (List Cell) → ℕ → List ℕ → Type 0
    AreRowsTried old new before next rows count line =
        (Makes old new (append_from at frame.schema next rows) × (count ≡ length rows) × (line ≡ []))
        ⊎ ((r : Refusal) × IsLeftOut old new next rows r × Keeps old new × (count ≡ 0) × (line ≡ left_out_line frame before r))

    -- the rows of a piece; one with a bad cell has none that could enter
    abbrev pub IsTried : S → S → ℕ → ℕ → Piece → ℕ → List ℕ → Type 0
    IsTried old new before next (made.Bad cell) count line = (new ≡ old) × (count ≡ 0) × (line ≡ refused_line frame (before, cell))
    IsTried old new before next (made.Good chunk) count line = AreRowsTried old new before next chunk.rows count line

    -- Pieces, the first of which has this index in the file, one after another: all of their rows that enter have numbers that follow
    -- each other, from this one on.
    abbrev pub AreTried : S → S → ℕ → ℕ → List Piece → ℕ → List ℕ → Type 0
    AreTried old new n next [] count lines = (new ≡ old) × (count ≡ 0) × (lines ≡ [])
    AreTried old new n next (p ∷ ps) count lines =
        (mid : S) × (here : ℕ) × (line : List ℕ) × (further : ℕ) × (rest : List ℕ)
        × IsTried old mid (piece_start records_of_chunk n) next p here line × AreTried mid new (n + 1) (next + here) ps further rest
        × (count ≡ here + further) × (lines ≡ line ++ rest)

    -- what a load did of these pieces, and says of them
    abbrev pub HasLoaded : S → S → List Piece → LoadedParts → Type 0
    HasLoaded old new pieces l =
        (count : ℕ) × (l.next ≡ l.first + count) × (l.entered ≡ entered_text l.first count)
        × AreTried old new 0 l.first pieces count l.refused

    -- Some of the first of these pieces were loaded, and the next one was not tried: memory was refused.
    abbrev pub HasLoadedSome : S → S → List Piece → LoadedParts → Type 0
    HasLoadedSome old new pieces l =
        (n : ℕ) × (mid : S) × (n < length pieces) × HasLoaded old mid (take n pieces) l × Keeps mid new

    -- all pieces were, or some
    abbrev pub IsLoaded : S → S → List Piece → LoadedParts → Bool → Type 0
    IsLoaded old new pieces l false = HasLoaded old new pieces l
    IsLoaded old new pieces l true = HasLoadedSome old new pieces l

    -- a load of what is known of a file, from the number on that the store has for further rows
    abbrev pub IsLoadOf : (ℕ → Type 0) → FileState → S → S → LoadedParts → Type 0
    IsLoadOf Next file old new l =
        (records : FieldRows) × (IsKnownState file → records_of_file file frame.schema ≡ Ok records) × Next l.first
        × IsLoaded old new (pieces_of_load frame.schema records) l l.is_cut

-- The load of a file into the document's frame of a name, from the number on that the store has for its further rows.
module _ {S : Type 0} (Makes : S → S → Change → Type 0) (Refuses : S → S → Change → Refusal → Type 0) (Keeps : S → S → Type 0)
    (Next : S → ℕ → ℕ → Type 0)
  where
    abbrev pub IsLoad : Definitions → List ℕ → FileState → S → S → LoadedParts → Type 0
    IsLoad d name file old new l =
        (at : ℕ) × (frame : FrameSpec) × (frame_index_of d name ≡ Some at) × (slice_get d.document.frames at ≡ Some frame)
        × IsLoadOf Makes Refuses Keeps frame at (Next old at) file old new l

-- What a file is refused with, when its records are to be of these columns: its fault, or that memory was refused.
abbrev pub IsRefusalOfFile : FileState → Columns → Refusal → Type 0
IsRefusalOfFile file columns (refusal.File f) = IsKnownState file → GivesRead (Err f) (records_of_file file columns)
IsRefusalOfFile file columns r = r ≡ refusal.Memory

-- What a load is refused with: `C11` where there is no frame; else what the file is.
abbrev pub IsRefusalOfLoad : FileState → Option FrameSpec → Refusal → Type 0
IsRefusalOfLoad file None r = r ≡ refusal.Store fault.NoFrame
IsRefusalOfLoad file (Some frame) r = IsRefusalOfFile file frame.schema r
