-- Changes that are asked for: which change of the frames and views each is, and why it is refused.
use Rattle.std.specs.Prelude.{◌≡◌, ◌⊎◌, ⊤, ℕ, List, Option, Some, None, Result, Ok, Err, length, map, option_map, slice_get, IsOk, IsTrue}
use Rattle.df_value.specs.Names.{index_of_name}
use Rattle.df_value.specs.declared.cell.Cell.{Cell}
use Rattle.df_value.specs.declared.cell.CellType.{CellType}
use Rattle.df_value.specs.Chunks.{ChunkParts, IsChunk}
use Rattle.df_value.specs.Rows.{rows_fit}
use Rattle.df_state.specs.declared.change.Change.{Change}
use Rattle.df_state.specs.declared.change.Change.TheVariants.{Append, Delete, Replace, Register, DropView}
use Rattle.df_state.specs.declared.fault.CatalogueFault.TheVariants as fault
use Rattle.df_plan.specs.CheckedParts.{CheckedParts}
use Rattle.df_session.specs.declared.command.AskedChange.{AskedChange}
use Rattle.df_session.specs.declared.command.AskedChange.TheVariants as asked
use Rattle.df_session.specs.declared.refusal.Mistake.TheVariants as mistake
use Rattle.df_session.specs.declared.refusal.Refusal.{Refusal}
use Rattle.df_session.specs.declared.refusal.Refusal.TheVariants as refusal
use Rattle.df_session.specs.Told.{numbers_told}
use Rattle.std.specs.Global.{Vec}
use Rattle.df_session.specs.declared.definitions.Definitions.{Definitions}
use Rattle.df_text.specs.declared.document.FrameSpec.{FrameSpec}
use Rattle.df_text.specs.declared.document.ViewSpec.{ViewSpec}

-- the index of the frame of a name
abbrev pub frame_index_of : Definitions → List ℕ → Option ℕ
frame_index_of d name = index_of_name (λ (f : FrameSpec). f.name) name d.document.frames

-- the plan at an index
abbrev pub plan_at : Definitions → Option ℕ → Option CheckedParts
plan_at d None = None
plan_at d (Some at) = slice_get d.plans at

-- the plan of the view of a name
abbrev pub plan_named : Definitions → List ℕ → Option CheckedParts
plan_named d name = plan_at d (index_of_name (λ (v : ViewSpec). v.name) name d.document.views)

-- a chunk of the schema of the document's frame at this place, whose first number is this
abbrev pub IsChunkOf : Definitions → ℕ → ℕ → ChunkParts → Type 0
IsChunkOf d at first chunk =
    (option_map (λ (f : FrameSpec). f.schema) (slice_get d.document.frames at) ≡ Some chunk.schema)
    × (chunk.first ≡ first)
    × IsChunk chunk.schema chunk.first chunk.rows

-- rows of the schema of the document's frame at this place, behind these numbers
abbrev pub AreRowsOf : Definitions → ℕ → List ℕ → List (ℕ × List Cell) → Type 0
AreRowsOf d at numbers rows =
    (schema : List (List ℕ × CellType))
    × (option_map (λ (f : FrameSpec). f.schema) (slice_get d.document.frames at) ≡ Some schema)
    × (map (λ r. r.0) rows ≡ numbers)
    × IsTrue (rows_fit schema (map (λ r. r.1) rows))

-- The change that is asked for, with the lines that were read for it, or why they were not: one that takes rows is one only
-- with lines.
abbrev pub IsAsked : {T : Type 0} → Definitions → AskedChange → Result T Refusal → Change → Type 0
IsAsked d (asked.Append frame first) lines (Append at chunk) =
    IsOk lines × (frame_index_of d frame.now ≡ Some at) × IsChunkOf d at first chunk
IsAsked d (asked.Delete frame numbers) lines (Delete at ns) = (frame_index_of d frame.now ≡ Some at) × (ns ≡ numbers)
IsAsked d (asked.Replace frame numbers) lines (Replace at rows) =
    IsOk lines × (frame_index_of d frame.now ≡ Some at) × AreRowsOf d at numbers rows
IsAsked d (asked.Register view) lines (Register name plan) = (name ≡ view.now) × (plan_named d view.now ≡ Some plan)
IsAsked d (asked.DropView view) lines (DropView name) = name ≡ view.now
IsAsked d change lines _ = ⊥

-- What may be wrong with lines that were read, when they are to be a chunk.
abbrev pub IsLineFault : Refusal → Type 0
IsLineFault (refusal.Mistake m) = ⊥
IsLineFault (refusal.Store f) = ⊥
IsLineFault (refusal.File f) = ⊥
IsLineFault (refusal.Frame f) = ⊥
IsLineFault (refusal.Definition f words) = ⊥
IsLineFault (refusal.Version f) = ⊥
IsLineFault (refusal.Write f) = ⊥
IsLineFault r = ⊤

-- What may be wrong with lines that were read, when they are to be rows behind numbers: what may be wrong with a chunk of
-- them, or that there are not as many.
abbrev pub IsRowsFault : Refusal → Type 0
IsRowsFault (refusal.Mistake m) = m ≡ mistake.OtherRowCount
IsRowsFault r = IsLineFault r

-- the change that is asked for is one that was made
module _ (Makes : Change → Type 0) where
  abbrev pub IsMadeAsAsked : {T : Type 0} → Definitions → AskedChange → Result T Refusal → Type 0
  IsMadeAsAsked d asked lines = (change : Change) × IsAsked d asked lines change × Makes change

  -- The lines that were read were accepted as a chunk of the frame at this place, whose rows begin at the number that the store has
  -- for them; what is answered tells their numbers.
  abbrev pub IsAppended : {T : Type 0} → (ℕ → ℕ → Type 0) → Definitions → Option ℕ → Result T Refusal → Vec ℕ → Type 0
  IsAppended Next d (Some at) lines text =
      (chunk : ChunkParts) × IsOk lines × Next at chunk.first × IsChunkOf d at chunk.first chunk
      × (text.items ≡ numbers_told chunk.first (length chunk.rows)) × Makes (Append at chunk)
  IsAppended Next d None lines text = ⊥

-- by what a store refuses each change with
module _ (Refuses : Change → Refusal → Type 0) where
  -- A refusal of a command that makes this change: the store's, or that memory was refused.
  abbrev pub IsRefusalOfChange : Change → Refusal → Type 0
  IsRefusalOfChange change r = (r ≡ refusal.Memory) ⊎ Refuses change r

  -- A refusal of a command that makes this change of the frame at this place: `C11` where there is none.
  abbrev pub IsRefusalAtFrame : (ℕ → Change) → Option ℕ → Refusal → Type 0
  IsRefusalAtFrame change (Some at) r = IsRefusalOfChange (change at) r
  IsRefusalAtFrame change None r = r ≡ refusal.Store fault.NoFrame

  -- A refusal of a command that registers a view of this name and plan: that the document has none, where it has none.
  abbrev pub IsRefusalOfRegister : List ℕ → Option CheckedParts → Refusal → Type 0
  IsRefusalOfRegister name (Some plan) r = IsRefusalOfChange (Register name plan) r
  IsRefusalOfRegister name None r = r ≡ refusal.Mistake mistake.NoView

  -- A refusal of lines that were read, at the frame at this place: they are no chunk, or the store refuses the chunk that they
  -- are.
  abbrev pub IsRefusalOfLines : Definitions → ℕ → ℕ → Refusal → Type 0
  IsRefusalOfLines d at first r = IsLineFault r ⊎ ((chunk : ChunkParts) × IsChunkOf d at first chunk × Refuses (Append at chunk) r)

  -- A refusal of an append to the frame at this place, its first number and its lines, or why they were not read: `C11` where
  -- there is no frame; else that of the lines.
  abbrev pub IsRefusalOfAppend : {T : Type 0} → Definitions → Option ℕ → ℕ → Result T Refusal → Refusal → Type 0
  IsRefusalOfAppend d None first lines r = r ≡ refusal.Store fault.NoFrame
  IsRefusalOfAppend d (Some at) first (Err f) r = r ≡ f
  IsRefusalOfAppend d (Some at) first (Ok lines) r = IsRefusalOfLines d at first r

  -- A refusal of lines that were read, at the frame at this place: they are no chunk behind its numbers, or the store refuses the
  -- chunk that they are.
  abbrev pub IsRefusalOfNextLines : Definitions → ℕ → Refusal → Type 0
  IsRefusalOfNextLines d at r = IsLineFault r ⊎ ((chunk : ChunkParts) × IsChunkOf d at chunk.first chunk × Refuses (Append at chunk) r)

  -- A refusal of an append behind all numbers of the frame at this place, with its lines, or why they were not read: `C11` where
  -- there is no frame; else that of the lines.
  abbrev pub IsRefusalOfAppendNext : {T : Type 0} → Definitions → Option ℕ → Result T Refusal → Refusal → Type 0
  IsRefusalOfAppendNext d None lines r = r ≡ refusal.Store fault.NoFrame
  IsRefusalOfAppendNext d (Some at) (Err f) r = r ≡ f
  IsRefusalOfAppendNext d (Some at) (Ok lines) r = IsRefusalOfNextLines d at r

  -- A refusal of lines that were read, at the frame at this place: they are no rows behind the numbers, or the store refuses to
  -- put the rows that they are there.
  abbrev pub IsRefusalOfRows : Definitions → ℕ → List ℕ → Refusal → Type 0
  IsRefusalOfRows d at numbers r =
      IsRowsFault r ⊎ ((rows : List (ℕ × List Cell)) × AreRowsOf d at numbers rows × Refuses (Replace at rows) r)

  -- A refusal to put rows at numbers of the frame at this place, with their lines, or why they were not read: `C11` where there
  -- is no frame; else that of the lines.
  abbrev pub IsRefusalOfReplace : {T : Type 0} → Definitions → Option ℕ → List ℕ → Result T Refusal → Refusal → Type 0
  IsRefusalOfReplace d None numbers lines r = r ≡ refusal.Store fault.NoFrame
  IsRefusalOfReplace d (Some at) numbers (Err f) r = r ≡ f
  IsRefusalOfReplace d (Some at) numbers (Ok lines) r = IsRefusalOfRows d at numbers r

  -- A refusal of the change that is asked for, with the lines that were read for it, or why they were not.
  abbrev pub IsRefusalOfAsked : {T : Type 0} → Definitions → AskedChange → Result T Refusal → Refusal → Type 0
  IsRefusalOfAsked d (asked.Append frame first) lines r = IsRefusalOfAppend d (frame_index_of d frame.now) first lines r
  IsRefusalOfAsked d (asked.Delete frame numbers) lines r = IsRefusalAtFrame (λ at. Delete at numbers) (frame_index_of d frame.now) r
  IsRefusalOfAsked d (asked.Replace frame numbers) lines r = IsRefusalOfReplace d (frame_index_of d frame.now) numbers lines r
  IsRefusalOfAsked d (asked.Register view) lines r = IsRefusalOfRegister view.now (plan_named d view.now) r
  IsRefusalOfAsked d (asked.DropView view) lines r = IsRefusalOfChange (DropView view.now) r
