-- Views that a session defines: each is one more view of its document, and what it defines is kept with the document's views.
use Rattle.std.specs.Prelude.{◌≡◌, ◌⊎◌, ℕ, List, [], ◌∷◌, ◌++◌, Result, Ok, Err}
use Rattle.std.specs.Global.{Vec}
use Rattle.df_state.specs.declared.change.Change.{Change}
use Rattle.df_state.specs.declared.change.Change.TheVariants.{Register}
use Rattle.df_plan.specs.CheckedParts.{CheckedParts}
use Rattle.df_text.specs.declared.document.ViewSpec.{ViewSpec}
use Rattle.df_document.specs.Opening.{next_view_in}
use Rattle.df_document.specs.declared.fault.DocumentFault.{DocumentFault}
use Rattle.df_explain.specs.Explanations.{AreWordsOf}
use Rattle.df_explain.specs.Places.{IsOneLine}
use Rattle.df_session.specs.declared.definitions.Definitions.{Definitions}
use Rattle.df_session.specs.declared.refusal.Refusal.{Refusal}
use Rattle.df_session.specs.declared.refusal.Refusal.TheVariants as refusal

-- the view that a name, a frame's name and steps say behind all views so far, with its plan
abbrev pub view_defined : Definitions → List ℕ → List ℕ → List ℕ → Result (ViewSpec × CheckedParts) DocumentFault
view_defined d name source steps = next_view_in d.document name source steps

-- the definitions with one more view
abbrev pub with_view : Definitions → ViewSpec → CheckedParts → Definitions
with_view d view plan = record {
  document = record { frames = d.document.frames; views = d.document.views ++ view ∷ [] };
  plans = d.plans ++ plan ∷ [];
}

-- A refusal of a view: its fault, with what is wrong in one line that begins with the place in its steps, or that memory was refused.
abbrev pub IsFaultOfView : Definitions → List ℕ → List ℕ → List ℕ → Refusal → Type 0
IsFaultOfView d name source steps r =
    (r ≡ refusal.Memory)
    ⊎ ((f : DocumentFault) × (words : List ℕ) × (r ≡ refusal.Definition f words) × (view_defined d name source steps ≡ Err f)
    × IsOneLine words × AreWordsOf d.document name source steps f words)

-- the view was defined: it checks, it was registered under its name, and it is kept behind all others
module _ (Makes : Change → Type 0) where
  abbrev pub IsDefined : Definitions → Definitions → List ℕ → List ℕ → Result (Vec ℕ) Refusal → Type 0
  IsDefined d after name source (Ok steps) =
      (view : ViewSpec) × (plan : CheckedParts) × (view_defined d name source steps.items ≡ Ok (view, plan))
      × (after ≡ with_view d view plan) × Makes (Register name plan)
  IsDefined d after name source (Err f) = ⊥

-- by what a store refuses each change with
module _ (Refuses : Change → Refusal → Type 0) where
  -- A refusal of a view that checks: the store's.
  abbrev pub IsRefusalOfChecked : Result (ViewSpec × CheckedParts) DocumentFault → List ℕ → Refusal → Type 0
  IsRefusalOfChecked (Ok v) name r = Refuses (Register name v.1) r
  IsRefusalOfChecked (Err f) name r = ⊥

  -- A refusal to define a view: why its steps were not had; its fault, or that memory was refused; or the store's.
  abbrev pub IsRefusalOfDefine : Definitions → List ℕ → List ℕ → Result (Vec ℕ) Refusal → Refusal → Type 0
  IsRefusalOfDefine d name source (Ok steps) r =
      IsFaultOfView d name source steps.items r ⊎ IsRefusalOfChecked (view_defined d name source steps.items) name r
  IsRefusalOfDefine d name source (Err f) r = r ≡ f
