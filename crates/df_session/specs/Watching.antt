-- Views that are watched: what each accepted change of rows does to them is told behind its answer, for each of them in the order in
-- which their watches began.
use Rattle.std.specs.Prelude.{◌≡◌, ◌⊎◌, ◌++◌, ⊤, ℕ, Bool, true, false, not, List, [], ◌∷◌, Option, Some, None, Result, Ok, Err, bytes_eq, filter, flat_map, if◌then◌else◌}
use Rattle.std.specs.Global.{Vec}
use Rattle.std.specs.List.{list_any}
use Rattle.df_state.specs.declared.change.Change.{Change}
use Rattle.df_state.specs.declared.change.Change.TheVariants.{Append, Delete, DropView, Register, Replace}
use Rattle.df_state.specs.declared.fault.CatalogueFault.TheVariants as fault
use Rattle.df_session.specs.ViewChanges.{missed_line}
use Rattle.df_session.specs.declared.answering.Answer.{Answer}
use Rattle.df_session.specs.declared.answering.Answer.TheVariants as answer
use Rattle.df_session.specs.declared.command.Watching.{Watching}
use Rattle.df_session.specs.declared.command.Watching.TheVariants as watching
use Rattle.df_session.specs.declared.refusal.Mistake.TheVariants as mistake
use Rattle.df_session.specs.declared.refusal.Refusal.{Refusal}
use Rattle.df_session.specs.declared.refusal.Refusal.TheVariants as refusal

-- the names of the views that are watched; what is still to be told of them; and whether something of them is missed, which could not
-- be told
pub record WatchParts : Type 0 where
  pub names : List (List ℕ)
  pub told : List ℕ
  pub is_missing : Bool

abbrev pub is_watched : List ℕ → List (List ℕ) → Bool
is_watched name names = list_any (λ n. bytes_eq n name) names

-- the names with this one, behind the others if it is none of them
abbrev pub with_name : List ℕ → List (List ℕ) → List (List ℕ)
with_name name names = if is_watched name names then names else names ++ name ∷ []

-- the names without this one
abbrev pub without_name : List ℕ → List (List ℕ) → List (List ℕ)
without_name name names = filter (λ n. not (bytes_eq n name)) names

-- by how a store tells what the last change did to the view of a name
module _ (Tells : List ℕ → Result (Option (Vec ℕ)) Refusal → Type 0) where
  -- the text tells what it did to each of these views, in their order
  abbrev pub IsToldOf : List (List ℕ) → List ℕ → Type 0
  IsToldOf [] text = text ≡ []
  IsToldOf (name ∷ names) text =
      (first : Vec ℕ) × (rest : List ℕ) × Tells name (Ok (Some first)) × IsToldOf names rest × (text ≡ first.items ++ rest)

  -- What was told of the last change stands behind what is still to be told; or it is missed, and so is all from there on.
  abbrev pub HasToldRows : WatchParts → WatchParts → Type 0
  HasToldRows old new =
      (new ≡ record old { is_missing = true })
      ⊎ ((text : List ℕ) × IsToldOf old.names text × (old.is_missing ≡ false) × (new ≡ record old { told = old.told ++ text }))

  -- what is to be told once a change was made; a view that was dropped is no longer watched
  abbrev pub HasTold : Change → WatchParts → WatchParts → Type 0
  HasTold (Append at chunk) old new = HasToldRows old new
  HasTold (Delete at numbers) old new = HasToldRows old new
  HasTold (Replace at rows) old new = HasToldRows old new
  HasTold (Register name plan) old new = new ≡ old
  HasTold (DropView name) old new = new ≡ record old { names = without_name name old.names }

-- by how a store answers whether a view of the name is registered, turns to keeping changes or from it, and tells what the last change
-- did to the view of a name
module _ {S : Type 0}
    (Finds : S → S → List ℕ → Result Bool Refusal → Type 0)
    (Turns : S → S → Bool → Type 0)
    (Tells : S → List ℕ → Result (Option (Vec ℕ)) Refusal → Type 0)
    (name : List ℕ)
  where
    -- the first view that is watched has the store keep changes
    abbrev pub TurnsOn : List (List ℕ) → S → S → Type 0
    TurnsOn [] old new = Turns old new true
    TurnsOn (n ∷ names) old new = new ≡ old

    -- none is watched any longer, and it keeps them no longer
    abbrev pub TurnsOff : List (List ℕ) → S → S → Type 0
    TurnsOff [] old new = Turns old new false
    TurnsOff (n ∷ names) old new = new ≡ old

    -- the view is registered, and it is watched
    abbrev pub HasBegun : S → WatchParts → S → WatchParts → Type 0
    HasBegun old before new after =
        (mid : S) × Finds old mid name (Ok true) × TurnsOn before.names mid new
        × (after ≡ record before { names = with_name name before.names })

    -- the view is not watched
    abbrev pub HasEnded : S → WatchParts → S → WatchParts → Type 0
    HasEnded old before new after =
        TurnsOff after.names old new × (after ≡ record before { names = without_name name before.names })

    -- A refusal to watch a view: there is none of the name, it is not known whether there is, or memory was refused.
    abbrev pub IsRefusalOfWatch : S → S → Refusal → Type 0
    IsRefusalOfWatch old new r =
        ((r ≡ refusal.Memory) × (new ≡ old)) ⊎ (Finds old new name (Err r)
        ⊎ (((r ≡ refusal.Store fault.NoView) × Finds old new name (Ok false)) ⊎ ((r ≡ refusal.Memory) × Finds old new name (Ok true))))

    -- why a view has no changes that is not watched
    abbrev pub IsUnwatched : S → S → Refusal → Type 0
    IsUnwatched old new r =
        ((r ≡ refusal.Store fault.NoView) × Finds old new name (Ok false))
        ⊎ ((r ≡ refusal.Mistake mistake.NotWatched) × Finds old new name (Ok true))

    -- what the last change did to the view, where it is watched; else why it is not told
    abbrev pub IsChangesOf : S → S → Bool → Result (Vec ℕ) Refusal → Type 0
    IsChangesOf old new true (Ok text) = Tells old name (Ok (Some text)) × (new ≡ old)
    IsChangesOf old new true (Err r) =
        (Tells old name (Err r) ⊎ ((r ≡ refusal.Mistake mistake.NoChange) × Tells old name (Ok None))) × (new ≡ old)
    IsChangesOf old new false (Ok text) = ⊥
    IsChangesOf old new false (Err r) = Finds old new name (Err r) ⊎ IsUnwatched old new r

    -- The answer to a command about the changes of the view.
    abbrev pub IsAnswerToWatching : Watching → S → WatchParts → S → WatchParts → Result Answer Refusal → Type 0
    IsAnswerToWatching watching.Begin old before new after (Ok answer.Accepted) = HasBegun old before new after
    IsAnswerToWatching watching.Begin old before new after (Err r) = IsRefusalOfWatch old new r × (after ≡ before)
    IsAnswerToWatching watching.End old before new after (Ok answer.Accepted) = HasEnded old before new after
    IsAnswerToWatching watching.Ask old before new after (Ok (answer.Told text)) =
        IsChangesOf old new (is_watched name before.names) (Ok text) × (after ≡ before)
    IsAnswerToWatching watching.Ask old before new after (Err r) =
        IsChangesOf old new (is_watched name before.names) (Err r) × (after ≡ before)
    IsAnswerToWatching asked old before new after result = ⊥

-- what is written of what is to be told, where the last change has this number
abbrev pub told_text : ℕ → WatchParts → List ℕ
told_text number w = w.told ++ (if w.is_missing then flat_map (missed_line number) w.names else [])
