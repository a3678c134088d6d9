-- The texts that questions are answered with.
use Rattle.std.specs.Prelude.{◌++◌, ℕ, List, Option, Some, None, codes, decimal, length, option_map, slice_get}
use Rattle.df_frame.specs.Frames.{numbers_of, rows_of}
use Rattle.df_state.specs.Reads.{live_of, view_named, view_names_of}
use Rattle.df_state.specs.declared.fault.CatalogueFault.TheVariants as fault
use Rattle.df_frame.specs.declared.state.FrameState.{FrameState}
use Rattle.df_state.specs.declared.state.CatalogueParts.{CatalogueParts}
use Rattle.df_state.specs.declared.state.State.{State}
use Rattle.df_state.specs.declared.state.ViewState.{ViewState}
use Rattle.df_expr.specs.declared.meter.Meter.{Meter}
use Rattle.df_session.specs.Parts.{numbered_in, part_in}
use Rattle.df_session.specs.Described.{frames_text, plan_text, schema_named, schema_text}
use Rattle.df_session.specs.declared.command.Format.{Format}
use Rattle.df_session.specs.declared.command.Part.{Part}
use Rattle.df_shell.specs.Checks.{first_differing}
use Rattle.df_session.specs.Asked.{frame_index_of}
use Rattle.df_session.specs.Told.{books_line, check_text, names_text}
use Rattle.df_session.specs.declared.command.Question.{Question}
use Rattle.df_session.specs.declared.command.Question.TheVariants as question
use Rattle.df_session.specs.declared.definitions.Definitions.{Definitions}
use Rattle.df_session.specs.declared.refusal.Mistake.TheVariants as mistake
use Rattle.df_session.specs.declared.refusal.Refusal.{Refusal}
use Rattle.df_session.specs.declared.refusal.Refusal.TheVariants as refusal
use Rattle.df_text.specs.declared.document.FrameSpec.{FrameSpec}

-- a part of the table of a view in a format, under this name
abbrev pub view_text : List ℕ → Part → Format → ViewState → List ℕ
view_text name part format v = part_in format name v.plan.schema part v.table

-- the table of a frame in a format, and the numbers of its rows
abbrev pub rows_text : Format → FrameSpec → FrameState → List ℕ
rows_text format spec frame = numbered_in format spec.name spec.schema (rows_of frame) (numbers_of frame)

-- a frame's books
abbrev pub books_text : FrameState → List ℕ
books_text frame = books_line (length frame.accepted) (length frame.deleted) (length frame.rows)

-- the counters of work
abbrev pub work_text : Meter → List ℕ
work_text m =
    codes "evals " ++ (decimal m.evals ++ (codes ", finishes " ++ (decimal m.finishes ++ (codes ", probes " ++ (decimal m.probes
    ++ (codes ", windows " ++ (decimal m.windows ++ codes "\n")))))))

-- of a frame's description and state, where both are there
abbrev pub text_at : (FrameSpec → FrameState → List ℕ) → Option FrameSpec → Option FrameState → Option (List ℕ)
text_at text (Some spec) (Some frame) = Some (text spec frame)
text_at text (Some spec) None = None
text_at text None frame = None

-- of a frame at this index, where the document and the state have one there
abbrev pub frame_text : (FrameSpec → FrameState → List ℕ) → Definitions → State → Option ℕ → Option (List ℕ)
frame_text text d s (Some at) = text_at text (slice_get d.document.frames at) (slice_get s.frames at)
frame_text text d s None = None

-- what a question is answered with, if it can be
abbrev pub text_of_question : Definitions → CatalogueParts → Question → Option (List ℕ)
text_of_question d c question.Frames = Some (frames_text d (live_of c.state))
text_of_question d c (question.Schema name) = option_map schema_text (schema_named d name.now)
text_of_question d c (question.Plan view) = plan_text d view.now
text_of_question d c (question.Show view part format) = option_map (view_text view.now part format) (view_named view.now c.state.views)
text_of_question d c (question.Rows frame format) = frame_text (rows_text format) d c.state (frame_index_of d frame.now)
text_of_question d c (question.Books frame) = frame_text (λ spec. books_text) d c.state (frame_index_of d frame.now)
text_of_question d c question.Views = Some (names_text (view_names_of c.state))
text_of_question d c question.Check = Some (check_text (first_differing c.state))
text_of_question d c question.Work = Some (work_text c.work)
text_of_question d c question.Version = None

-- what a question is refused with where it cannot be answered
abbrev pub refusal_of_question : Question → Refusal
refusal_of_question (question.Schema name) = refusal.Mistake mistake.NoTable
refusal_of_question (question.Plan view) = refusal.Mistake mistake.NoView
refusal_of_question (question.Show view part format) = refusal.Store fault.NoView
refusal_of_question question.Version = refusal.Mistake mistake.OnlyWithHall
refusal_of_question _ = refusal.Store fault.NoFrame
