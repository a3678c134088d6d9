-- The texts that questions are answered with from a version, by the schemas and plans that the document gives.
use Rattle.std.specs.Prelude.{◌++◌, ℕ, Bool, true, not, List, Option, Some, None, Result, Ok, codes, decimal, find, length, map, option_map, slice_get}
use Rattle.std.specs.Cmp.Lexicographic.{pointwise}
use Rattle.df_value.specs.declared.cell.Cell.{Cell}
use Rattle.df_value.specs.Rows.{row_eq}
use Rattle.df_state.specs.Desks.{DeskParts}
use Rattle.df_state.specs.Pictures.{PictureParts, frame_len_in, value_in, view_rows_in}
use Rattle.df_state.specs.declared.fault.CatalogueFault.{CatalogueFault}
use Rattle.df_plan.specs.CheckedParts.{CheckedParts}
use Rattle.df_session.specs.Parts.{numbered_in, part_in}
use Rattle.df_session.specs.Described.{frames_text, plan_text, schema_named, schema_text}
use Rattle.df_session.specs.declared.command.Format.{Format}
use Rattle.df_session.specs.declared.command.Part.{Part}
use Rattle.df_session.specs.Asked.{frame_index_of, plan_named}
use Rattle.df_session.specs.Told.{books_line, check_text, names_text}
use Rattle.df_shell.specs.Questions.{refusal_of_question}
use Rattle.df_session.specs.declared.command.Question.{Question}
use Rattle.df_session.specs.declared.command.Question.TheVariants as question
use Rattle.df_session.specs.declared.definitions.Definitions.{Definitions}
use Rattle.df_session.specs.declared.refusal.Mistake.TheVariants as mistake
use Rattle.df_session.specs.declared.refusal.Refusal.{Refusal}
use Rattle.df_session.specs.declared.refusal.Refusal.TheVariants as refusal
use Rattle.df_text.specs.declared.document.FrameSpec.{FrameSpec}

-- a part of the rows of a view in a format, under its name with the schema of its plan, where it has one
abbrev pub shown_text : List ℕ → Part → Format → Option CheckedParts → Result (List (List Cell)) CatalogueFault → Option (List ℕ)
shown_text name part format (Some plan) (Ok rows) = Some (part_in format name plan.schema part rows)
shown_text name part format plan rows = None

-- the rows of a frame behind their numbers in a format, and the numbers
abbrev pub numbered_text : Format → Option FrameSpec → Option (List (ℕ × List Cell)) → Option (List ℕ)
numbered_text format (Some spec) (Some rows) = Some (numbered_in format spec.name spec.schema (map (λ r. r.1) rows) (map (λ r. r.0) rows))
numbered_text format spec rows = None

-- the books of a frame: what its desk counted, and how many rows it has
abbrev pub counted_text : Option DeskParts → Option (List (ℕ × List Cell)) → Option (List ℕ)
counted_text (Some desk) (Some rows) = Some (books_line desk.accepted desk.deleted (length rows))
counted_text desk rows = None

-- of the frame at this index, if there is one
abbrev pub text_of_index : (ℕ → Option (List ℕ)) → Option ℕ → Option (List ℕ)
text_of_index text (Some at) = text at
text_of_index text None = None

-- whether the rows of a view are others than its plan gives over the frames
abbrev pub differs_from : PictureParts → Option CheckedParts → Result (List (List Cell)) CatalogueFault → Bool
differs_from p (Some plan) (Ok rows) = not (pointwise row_eq rows (value_in p plan))
differs_from p plan rows = true

-- the name of the first view that differs
abbrev pub first_differing_in : Definitions → PictureParts → Option (List ℕ)
first_differing_in d p = find (λ name. differs_from p (plan_named d name) (view_rows_in p name)) (map (λ v. v.0) p.views)

-- the number of a version
abbrev pub version_line : ℕ → List ℕ
version_line number = codes "version " ++ (decimal number ++ codes "\n")

-- what a question is answered with from the version of this number and picture, if it can be
abbrev pub text_of_version : Definitions → List DeskParts → ℕ × PictureParts → Question → Option (List ℕ)
text_of_version d desks v question.Frames = Some (frames_text d (frame_len_in v.1))
text_of_version d desks v (question.Schema name) = option_map schema_text (schema_named d name.now)
text_of_version d desks v (question.Plan view) = plan_text d view.now
text_of_version d desks v (question.Show view part format) = shown_text view.now part format (plan_named d view.now) (view_rows_in v.1 view.now)
text_of_version d desks v (question.Rows frame format) =
    text_of_index (λ at. numbered_text format (slice_get d.document.frames at) (slice_get v.1.frames at)) (frame_index_of d frame.now)
text_of_version d desks v (question.Books frame) =
    text_of_index (λ at. counted_text (slice_get desks at) (slice_get v.1.frames at)) (frame_index_of d frame.now)
text_of_version d desks v question.Views = Some (names_text (map (λ w. w.0) v.1.views))
text_of_version d desks v question.Check = Some (check_text (first_differing_in d v.1))
text_of_version d desks v question.Work = None
text_of_version d desks v question.Version = Some (version_line v.0)

-- what a question is refused with where it cannot be answered
abbrev pub refusal_with_hall : Question → Refusal
refusal_with_hall question.Work = refusal.Mistake mistake.NotWithHall
refusal_with_hall q = refusal_of_question q
