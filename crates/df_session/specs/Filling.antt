-- The changes that open a store: the good pieces of each frame enter in their order, and then all views are registered.
use Rattle.std.specs.Prelude.{◌≡◌, ◌++◌, ℕ, List, [], ◌∷◌, flat_map, map}
use Rattle.std.specs.List.{enumerate_from, zip}
use Rattle.df_value.specs.declared.chunk.Piece.{Piece}
use Rattle.df_value.specs.declared.chunk.Piece.TheVariants as made
use Rattle.df_plan.specs.CheckedParts.{CheckedParts}
use Rattle.df_state.specs.declared.change.Change.{Change}
use Rattle.df_state.specs.declared.change.Change.TheVariants.{Append, Register}
use Rattle.df_session.specs.declared.definitions.Definitions.{Definitions}
use Rattle.df_text.specs.declared.document.ViewSpec.{ViewSpec}

-- the appends of a piece of the frame at this place: one, and none where it has a bad cell
abbrev pub piece_appends : ℕ → Piece → List Change
piece_appends at (made.Good chunk) = Append at chunk ∷ []
piece_appends at (made.Bad cell) = []

-- the appends of a frame's pieces
abbrev pub frame_appends : ℕ × List Piece → List Change
frame_appends frame = flat_map (piece_appends frame.0) frame.1

-- the registration of a view with its plan
abbrev pub registration : ViewSpec × CheckedParts → Change
registration view = Register view.0.name view.1

-- the changes that open a store
abbrev pub opening_changes : Definitions → List (List Piece) → List Change
opening_changes d pieces =
    flat_map frame_appends (enumerate_from 0 pieces) ++ map registration (zip d.document.views d.plans)

-- the changes were made in turn, where this is what makes each of them
module _ {S : Type 0} (Makes : S → S → Change → Type 0) where
  abbrev pub AreMade : S → S → List Change → Type 0
  AreMade old new [] = new ≡ old
  AreMade old new (c ∷ cs) = (next : S) × Makes old next c × AreMade next new cs
