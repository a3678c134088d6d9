-- All that is published is of one history.
use Rattle.std.specs.Prelude.{◌≡◌, ℕ, List, [], ◌∷◌}
use mathlib.Core.Option.{some}
use lib.ListN.{get_elem?}
use Rattle.logbook.specs.Pages.{Book}
use Rattle.df_state.specs.declared.state.State.{State}
use Rattle.df_versions.specs.declared.version.KnownVersions.{KnownVersions}
use Rattle.df_versions.specs.declared.version.Published.{Published}

abbrev pub knows_none : KnownVersions
knows_none = record { known = [] }

abbrev pub AllOf : Book → List (Book × List State) → Type 0
AllOf b [] = Unit {0}
AllOf b (f ∷ fs) = (f.0 ≡ b) × AllOf b fs

abbrev pub Kept : Published → List KnownVersions → Type 0
Kept p views = (seat : ℕ) (w : KnownVersions) → get_elem? views seat ≡ some w → AllOf p.history.0 w.known

-- the version that is seen is of the history of those seen before
abbrev pub Looks : KnownVersions → Published → Published → KnownVersions → Type 0
Looks v x y w = AllOf y.history.0 v.known × (w.known ≡ y.history ∷ [])

-- a version of this history was seen
abbrev pub Knows : Book → List (Book × List State) → Type 0
Knows b [] = ⊥
Knows b (f ∷ fs) = f.0 ≡ b
