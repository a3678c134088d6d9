-- Why a load into the frames of a document is refused, and that the frame which the cause is about is one of them.
use Rattle.std.proofs.Common.{◌≡◌, ℕ, ◌∙◌, List, length, ap, subst}
use Rattle.std.proofs.lemmas.List.{length-map}
use Rattle.std.specs.Prelude.{MatchOption, Option, Some, None, option_map}
use Rattle.df_value.specs.declared.chunk.Piece.{Piece}
use Rattle.df_value.specs.Schemas.{Columns}
use Rattle.df_plan.specs.CheckedParts.{CheckedParts}
use Rattle.df_state.specs.Desks.{DeskParts, first_desks}
use Rattle.df_state.specs.declared.state.State.{State}
use Rattle.df_store.specs.declared.fault.LoadCause.{LoadCause}
use Rattle.df_store.specs.Faults.{IsOfFrames}
use Rattle.df_store.specs.Loads.{IsLeft, IsNotLeft}
use Rattle.df_store.proofs.CauseFacts.{cause-of-frames}
use Rattle.df_document.specs.Opening.{schemas_of}
use Rattle.df_document.specs.declared.opening.SourcedDocument.{SourcedDocument}
use Rattle.df_text.specs.declared.document.FrameSpec.{FrameSpec}
use Rattle.df_app.specs.Faults.{named_cause_of}
use Rattle.df_app.specs.Loading.{IsLoadRefused, headings_in, numbered_chunks}
use Rattle.df_app.specs.declared.fault.NamedLoadCause.{NamedLoadCause}

-- of a document as many frames are loaded as it has
pub cause-of-document :
    {L : Type 0} (state_of : L → State) (frames : List FrameSpec) (schemas : List Columns) (chunks : List (List (ℕ × Piece)))
    (views : List (List ℕ × CheckedParts)) (desks : List DeskParts) (cause : LoadCause) (told : List State) (left : Option L) → schemas ≡ schemas_of frames →
    MatchOption left (IsNotLeft schemas chunks views desks cause told) (λ l. IsLeft schemas chunks views desks cause told (state_of l)) → IsOfFrames (length frames) cause
cause-of-document state_of frames schemas chunks views desks cause told left of is =
    subst (λ (n : ℕ). IsOfFrames n cause) (ap length of ∙ length-map frames _) (cause-of-frames state_of schemas chunks views desks cause told left is)

-- what a load says of its cause, by the state that it left
by-state :
    {L : Type 0} (state_of : L → State) (schemas : List Columns) (chunks : List (List (ℕ × Piece))) (views : List (List ℕ × CheckedParts)) (desks : List DeskParts)
    (cause : LoadCause) (told : List State) (left : Option L) → MatchOption left (IsNotLeft schemas chunks views desks cause told) (λ l. IsLeft schemas chunks views desks cause told (state_of l)) →
    MatchOption (option_map state_of left) (IsNotLeft schemas chunks views desks cause told) (λ s. IsLeft schemas chunks views desks cause told s)
by-state state_of schemas chunks views desks cause told (Some l) is = is
by-state state_of schemas chunks views desks cause told None is = is

-- a load of a document that was refused
pub load-refused :
    {L : Type 0} (state_of : L → State) (d : SourcedDocument) (frames : List FrameSpec) (schemas : List Columns) (chunks : List (List (ℕ × Piece)))
    (views : List (List ℕ × CheckedParts)) (desks : List DeskParts) (cause : LoadCause) (told : List State) (left : Option L) (named : NamedLoadCause) →
    frames ≡ d.document.frames → schemas ≡ schemas_of d.document.frames → chunks ≡ numbered_chunks d.sources → views ≡ headings_in d.document.views d.plans →
    desks ≡ first_desks (length d.document.frames) →
    MatchOption left (IsNotLeft schemas chunks views desks cause told) (λ l. IsLeft schemas chunks views desks cause told (state_of l)) →
    named_cause_of frames cause ≡ Some named → IsLoadRefused d named
load-refused state_of d frames schemas chunks views desks cause told left named shown of are headed first is name =
    let state = option_map state_of left in
    let own = schemas_of d.document.frames in
    let made = numbered_chunks d.sources in
    let h0 = by-state state_of schemas chunks views desks cause told left is in
    let h1 = subst (λ (x : List Columns). MatchOption state (IsNotLeft x chunks views desks cause told) (λ s. IsLeft x chunks views desks cause told s)) of h0 in
    let h2 = subst (λ (x : List (List (ℕ × Piece))). MatchOption state (IsNotLeft own x views desks cause told) (λ s. IsLeft own x views desks cause told s)) are h1 in
    let h3 = subst (λ (x : List (List ℕ × CheckedParts)). MatchOption state (IsNotLeft own made x desks cause told) (λ s. IsLeft own made x desks cause told s)) headed h2 in
    record {
      cause = cause;
      name = subst (λ (x : List FrameSpec). named_cause_of x cause ≡ Some named) shown name;
      told = told;
      left = state;
      is = subst (λ (x : List DeskParts). MatchOption state (IsNotLeft own made (headings_in d.document.views d.plans) x cause told)
          (λ s. IsLeft own made (headings_in d.document.views d.plans) x cause told s)) first h3;
    }
