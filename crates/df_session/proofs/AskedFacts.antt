-- The rows that lines make in a frame of a document.
use Rattle.std.proofs.Common.{◌≡◌, ◌<◌, ℕ, zero, suc, List, [], ◌∷◌, arith, get_or, length, map, refl}
use Rattle.std.specs.Prelude.{IfOk, IsTrue, Result, Ok, Err, Some, option_map, slice_get}
use Rattle.df_text.specs.declared.document.FrameSpec.{FrameSpec}
use Rattle.df_value.specs.declared.cell.Cell.{Cell}
use Rattle.df_value.specs.declared.cell.CellType.{CellType}
use Rattle.df_value.specs.Rows.{rows_fit}
use Rattle.df_session.specs.Asked.{AreRowsOf}
use Rattle.df_session.specs.declared.definitions.Definitions.{Definitions}
use Rattle.df_session.specs.declared.refusal.Refusal.{Refusal}

-- the schema of the frame at an index
pub schema-at :
    (frames : List FrameSpec) (at : ℕ) (d : FrameSpec) → at < length frames →
    option_map (λ (f : FrameSpec). f.schema) (slice_get frames at) ≡ Some (get_or frames at d).schema
schema-at [] at d lt = absurd (omega (arith, lt))
schema-at (f ∷ fs) zero d lt = refl
schema-at (f ∷ fs) (suc at) d lt = schema-at fs at d (omega (arith, lt))

-- rows that fit the schema of the frame there, behind these numbers
pub rows-are :
    (d : Definitions) (at : ℕ) (numbers : List ℕ) (schema : List (List ℕ × CellType)) (r : Result (List (ℕ × List Cell)) Refusal) →
    option_map (λ (f : FrameSpec). f.schema) (slice_get d.document.frames at) ≡ Some schema → IfOk r (λ rows. map (λ x. x.0) rows ≡ numbers) →
    IfOk r (λ rows. IsTrue (rows_fit schema (map (λ x. x.1) rows))) → IfOk r (AreRowsOf d at numbers)
rows-are d at numbers schema (Ok rows) is same fit = (schema, is, same, fit)
rows-are d at numbers schema (Err r) is same fit = tt
