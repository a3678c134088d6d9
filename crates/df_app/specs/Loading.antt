-- What a run writes of the catalogue into which the sources of a document were loaded, and why such a load is refused.
use Rattle.std.specs.Prelude.{◌≡◌, ⊤, ℕ, List, [], ◌∷◌, ◌++◌, length, map, codes, filter_map, flat_map, slice_get, MatchOption, Option, Some, None, Result, Ok, Err}
use Rattle.std.specs.List.{join_by}
use Rattle.df_value.specs.declared.cell.Cell.{Cell}
use Rattle.df_value.specs.declared.chunk.Piece.{Piece}
use Rattle.df_csv.specs.Sources as csv_sources
use Rattle.df_csv.specs.Sources.{CsvParts}
use Rattle.df_plan.specs.CheckedParts.{CheckedParts}
use Rattle.df_print.specs.Printed.{printed}
use Rattle.df_state.specs.declared.fault.CatalogueFault.{CatalogueFault}
use Rattle.df_state.specs.declared.state.State.{State}
use Rattle.df_state.specs.Desks.{first_desks}
use Rattle.df_state.specs.Reads.{view_rows_of}
use Rattle.df_state.specs.States.{IsLegal}
use Rattle.df_jobs.specs.declared.refused.Refused.{Refused}
use Rattle.df_jobs.specs.Jobs as jobs
use Rattle.df_jobs.specs.Loaded.{AreLoaded}
use Rattle.df_store.specs.Headings.{headings_of}
use Rattle.df_store.specs.Loads.{IsLeft, IsNotLeft}
use Rattle.df_store.specs.declared.fault.LoadCause.{LoadCause}
use Rattle.df_jobs.specs.Refused.{refusal}
use Rattle.df_text.specs.declared.document.FrameSpec.{FrameSpec}
use Rattle.df_text.specs.declared.document.ViewSpec.{ViewSpec}
use Rattle.df_document.specs.Opening.{schemas_of}
use Rattle.df_document.specs.Refused.{paired, refused_line}
use Rattle.df_document.specs.declared.opening.SourcedDocument.{SourcedDocument}
use Rattle.df_app.specs.Faults.{named_cause_of}
use Rattle.df_app.specs.Output.{refused_block}
use Rattle.df_app.specs.declared.fault.NamedLoadCause.{NamedLoadCause}
use Rattle.df_app.specs.declared.fault.RunFault.{RunFault}
use Rattle.df_app.specs.declared.fault.RunFault.TheVariants as fault
use Rattle.df_app.specs.declared.outcome.Outcome.{Outcome}
use Rattle.df_app.specs.declared.outcome.Outcome.TheVariants as outcome
use Rattle.df_app.specs.declared.outcome.Output.{Output}

-- the views of a document by name and plan
abbrev pub headings_in : List ViewSpec → List CheckedParts → List (List ℕ × CheckedParts)
headings_in views plans = map (λ v. (v.0.name, v.1)) (paired views plans)

-- the chunks of sources, each behind the number of its first row, and their jobs
abbrev pub numbered_chunks : List CsvParts → List (List (ℕ × Piece))
numbered_chunks sources = jobs.chunks_of csv_sources.chunks_of csv_sources.start_of sources

abbrev pub jobs_of_sources : List CsvParts → List (ℕ × (ℕ × Piece))
jobs_of_sources sources = jobs.jobs_of (numbered_chunks sources)

abbrev pub rows_or_none : Result (List (List Cell)) CatalogueFault → List (List Cell)
rows_or_none (Ok rows) = rows
rows_or_none (Err f) = []

-- the printed table that a state has under the name of a view
abbrev pub printed_in : State → List ℕ × CheckedParts → List ℕ
printed_in s view = printed view.0 view.1.schema (rows_or_none (view_rows_of s view.0))

abbrev pub line_in_frame : Refused → Option FrameSpec → List ℕ
line_in_frame r None = []
line_in_frame r (Some frame) = refused_line frame (r.first, r.cell)

-- the line of a chunk that was refused
abbrev pub line_of : List FrameSpec → Refused → List ℕ
line_of frames r = line_in_frame r (slice_get frames r.frame)

-- the tables of a state and the lines of the refused chunks
abbrev pub text_of_load : State → List FrameSpec → List (List ℕ × CheckedParts) → List Refused → List ℕ
text_of_load s frames views refused =
    join_by (λ block. block) (codes "\n") (map (printed_in s) views ++ refused_block (flat_map (line_of frames) refused))

abbrev pub outcome_of_load : List Refused → Outcome
outcome_of_load [] = outcome.Clean
outcome_of_load (r ∷ rs) = outcome.Refused

-- a state into which the sources of a document were loaded with its views, and the chunks that were refused
pub record IsLoadOf (d : SourcedDocument) (s : State) (refused : List Refused) : Type 0 where
  pub legal : IsLegal s
  pub loaded : AreLoaded (jobs_of_sources d.sources) s
  pub views : headings_of s ≡ headings_in d.document.views d.plans
  pub left_out : refused ≡ filter_map refusal (jobs_of_sources d.sources)

-- what is written of such a state
pub record IsOutputOfLoad (d : SourcedDocument) (o : Output) : Type 0 where
  pub state : State
  pub refused : List Refused
  pub load : IsLoadOf d state refused
  pub text : o.text ≡ text_of_load state d.document.frames (headings_in d.document.views d.plans) refused
  pub ends : o.outcome ≡ outcome_of_load refused

-- a load of the sources of a document with its views, into the fresh frames of a hall with this history, that left this state, or
-- nothing, is refused for this
abbrev pub IsCauseOfLoad : SourcedDocument → List State → Option State → LoadCause → Type 0
IsCauseOfLoad d told left cause =
    let desks = first_desks (length d.document.frames) in
    let views = headings_in d.document.views d.plans in
    MatchOption left (IsNotLeft (schemas_of d.document.frames) (numbered_chunks d.sources) views desks cause told)
    (λ s. IsLeft (schemas_of d.document.frames) (numbered_chunks d.sources) views desks cause told s)

-- such a load is refused for the cause of which this is the one with the name of its frame
pub record IsLoadRefused (d : SourcedDocument) (named : NamedLoadCause) : Type 0 where
  pub cause : LoadCause
  pub name : named_cause_of d.document.frames cause ≡ Some named
  pub told : List State
  pub left : Option State
  pub is : IsCauseOfLoad d told left cause

-- the fault of such a load: memory was refused, or it was
abbrev pub IsFaultOfLoad : SourcedDocument → RunFault → Type 0
IsFaultOfLoad d (fault.Document f) = ⊥
IsFaultOfLoad d (fault.Load named) = IsLoadRefused d named
IsFaultOfLoad d fault.Write = ⊥
IsFaultOfLoad d fault.Memory = ⊤
