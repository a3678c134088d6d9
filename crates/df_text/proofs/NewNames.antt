-- The names of frames and views are new ones, each after those that stand before it.
use Rattle.std.proofs.Common.{◌≡◌, Bool, true, false, cond, ℕ, List, [], ◌∷◌, ◌++◌, length, Result, Ok, Err, IfOk, refl}
use Rattle.df_value.specs.Names.{AreDistinct, has_name, distinct-push}
use Rattle.df_plan.specs.declared.plan.Plan.TheVariants.{Scan}
use Rattle.toml.specs.Data.{Data}
use Rattle.df_text.specs.declared.document.FrameSpec.{FrameSpec}
use Rattle.df_text.specs.declared.document.ViewSpec.{ViewSpec}
use Rattle.df_text.specs.declared.document.Location.{Location}
use Rattle.df_text.specs.declared.document.Location.TheVariants as location
use Rattle.df_text.specs.declared.fault.ViewsFault.{ViewsFault}
use Rattle.df_text.specs.declared.fault.ViewsFault.TheVariants as fault
use Rattle.df_text.specs.Reading.{read_after, read_each}
use Rattle.df_text.specs.Tree.{table_value}
use Rattle.df_text.specs.Frames.{entries_of_frame, frame_of, new_name, schema_column_of, schema_of}
use Rattle.df_text.specs.Document.{entries_of_view, new_view_name, view_of}
use Rattle.df_text.specs.Sources.{frame_named}
use Rattle.df_text.specs.Steps.{steps_at}
use Rattle.df_text.proofs.ReadFacts.{given, then_gives}

-- where each item that is read has a new name, no name stands twice
pub distinct_give :
    {D A : Type 0} (name_of : A → List ℕ) (read : List A → D → Result A ViewsFault) →
    ((before : List A) (d : D) → IfOk (read before d) (λ x. has_name name_of (name_of x) before ≡ false)) →
    (before : List A) (ds : List D) → AreDistinct name_of [] before → IfOk (read_after read before ds) (λ xs. AreDistinct name_of [] xs)
distinct_give name_of read each before [] h = h
distinct_give name_of read each before (d ∷ ds) h =
    then_gives _ (read before d) _ (λ x is.
    distinct_give name_of read each (before ++ x ∷ []) ds
    (distinct-push name_of [] before x h (given (λ y. has_name name_of (name_of y) before ≡ false) (read before d) x (each before d) is)))

-- the name that passed the test
passed_name : (b : Bool) (at : Location) (name passed : List ℕ) → cond b (Err (fault.Doubled at)) (Ok name) ≡ Ok passed → (b ≡ false) × (name ≡ passed)
passed_name true at name passed e = absurd (cc)
passed_name false at name passed e = (refl, cc)

pub frame_new : (before : List FrameSpec) (d : Data) → IfOk (frame_of before d) (λ (f : FrameSpec). has_name (λ (g : FrameSpec). g.name) f.name before ≡ false)
frame_new before d =
    let at = location.Frame (length before) in
    then_gives _ (table_value at d) _ (λ ms _. then_gives _ (entries_of_frame at ms) _ (λ entries _.
    then_gives _ (read_each (schema_column_of at) entries.columns) _ (λ columns _.
    then_gives _ (schema_of (length before) columns) _ (λ schema _.
    then_gives _ (new_name at entries.name before) _ (λ name is.
    let passed = passed_name (has_name (λ (g : FrameSpec). g.name) entries.name before) at entries.name name is in
    rw (← passed.1) passed.0)))))

pub view_new : (frames : List FrameSpec) (before : List ViewSpec) (d : Data)
    → IfOk (view_of frames before d) (λ (v : ViewSpec). has_name (λ (w : ViewSpec). w.name) v.name before ≡ false)
view_new frames before d =
    let at = location.View (length before) in
    then_gives _ (table_value at d) _ (λ ms _. then_gives _ (entries_of_view at ms) _ (λ entries _.
    then_gives _ (new_view_name at entries.name before) _ (λ name is.
    then_gives _ (frame_named at entries.source frames) _ (λ i _.
    then_gives _ (steps_at at frames (Scan i) ms) _ (λ p _.
    let passed = passed_name (has_name (λ (w : ViewSpec). w.name) entries.name before) at entries.name name is in
    rw (← passed.1) passed.0)))))
