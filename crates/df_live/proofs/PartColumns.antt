-- The columns of what a checked plan means are those that the check found.
use Rattle.std.proofs.Common.{◌≡◌, ℕ, zero, suc, List, [], ◌∷◌, refl, subst, sym}
use Rattle.std.specs.Prelude.{IsTrue, Ok, ◌&&◌}
use Rattle.std.specs.FinMap as finite
use Rattle.std.specs.Option.{IfSome}
use Rattle.df_value.specs.declared.cell.Cell.{Cell}
use Rattle.df_value.specs.Rows.{rows_fit}
use Rattle.df_value.specs.Schemas.{Columns}
use Rattle.df_column.specs.Tables.{TaggedRows}
use Rattle.df_column.specs.Tags.{tag_cmp}
use Rattle.df_join.specs.Spread.{HasKeys, IsTagOver}
use Rattle.df_plan.specs.Checks.{plan_check}
use Rattle.df_plan.specs.Meaning.{frames_fit}
use Rattle.df_plan.specs.declared.plan.Plan.{Plan}
use Rattle.df_live.specs.Frames.{AreFrames, frame_at, rows_of_frames}
use Rattle.df_live.specs.Meaning.{meaning}
use Rattle.df_live.proofs.KeptTags.{values_none}
use Rattle.df_live.proofs.Parts.{within_limits}
use Rattle.df_live.proofs.PlanLaws.{law_columns}

-- an empty frame for each schema
abbrev no_frames : List Columns → List TaggedRows
no_frames [] = []
no_frames (s ∷ schemas) = finite.empty ∷ no_frames schemas

none_at : (schemas : List Columns) (f : ℕ) → frame_at (no_frames schemas) f ≡ finite.empty
none_at [] f = refl
none_at (s ∷ schemas) zero = refl
none_at (s ∷ schemas) (suc f) = none_at schemas f

none_fit : (schemas : List Columns) → IsTrue (frames_fit schemas (rows_of_frames (no_frames schemas)))
none_fit [] = refl
none_fit (s ∷ schemas) =
    subst (λ (rs : List (List Cell)). IsTrue (rows_fit s rs && frames_fit schemas (rows_of_frames (no_frames schemas)))) (sym values_none) (none_fit schemas)

none_tagged : HasKeys (IsTagOver 1) (finite.empty {X = List Cell} {R = tag_cmp})
none_tagged = record { at = λ q. subst (λ o. IfSome o (λ _. IsTagOver 1 q)) (sym (finite.get-empty tag_cmp q)) tt }

are_frames : (schemas : List Columns) → AreFrames schemas (no_frames schemas)
are_frames schemas = record {
  fit = none_fit schemas;
  tags = λ f. subst (HasKeys (IsTagOver 1)) (sym (none_at schemas f)) none_tagged;
}

pub meant_columns : (schemas : List Columns) (p : Plan) (cs : Columns) → plan_check p schemas ≡ Ok cs → (meaning schemas p).columns ≡ cs
meant_columns schemas p cs checks = law_columns schemas (no_frames schemas) (are_frames schemas) p cs checks (within_limits p schemas cs checks).1
