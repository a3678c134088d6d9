-- The table of a view that a store gives, by the view's name.
use Rattle.std.specs.Prelude.{◌≡◌, ◌⊎◌, ℕ, List, Some, None, Result, Ok, Err, bytes_eq, find, option_map}
use Rattle.std.specs.FinMap as finite
use Rattle.df_state.specs.Pictures.{PictureParts}
use Rattle.df_state.specs.Reads.{view_named, view_schema_of}
use Rattle.df_state.specs.declared.fault.CatalogueFault.TheVariants as fault
use Rattle.df_state.specs.declared.state.State.{State}
use Rattle.df_catalogue.specs.KeptChanges.{tagged_table_of}
use Rattle.df_session.specs.Asked.{plan_named}
use Rattle.df_session.specs.declared.definitions.Definitions.{Definitions}
use Rattle.df_session.specs.declared.refusal.Refusal.{Refusal}
use Rattle.df_session.specs.declared.refusal.Refusal.TheVariants as refusal
use Rattle.df_session.specs.declared.view_table.ViewTable.{ViewTable}

-- that of a view of a state: the schema of its plan, and its rows, also by their tags
pub record IsTableOf (s : State) (name : List ℕ) (v : ViewTable) : Type 0 where
  pub named : v.name ≡ name
  pub schema : view_schema_of s name ≡ Some v.schema
  pub tagged : tagged_table_of s name ≡ Some v.table.rows
  pub rows : option_map (λ w. w.table) (view_named name s.views) ≡ Some (finite.values v.table.rows)

-- The table of the view of a name is given from a state; or the state has no such view, or memory was refused.
abbrev pub GivesTable : State → List ℕ → Result ViewTable Refusal → Type 0
GivesTable s name (Ok v) = IsTableOf s name v
GivesTable s name (Err r) = (r ≡ refusal.Memory) ⊎ ((r ≡ refusal.Store fault.NoView) × (view_named name s.views ≡ None))

-- that of a view of a picture: the schema of the plan that the document gives it, and its rows
pub record IsTableIn (d : Definitions) (p : PictureParts) (name : List ℕ) (v : ViewTable) : Type 0 where
  pub named : v.name ≡ name
  pub schema : option_map (λ plan. plan.schema) (plan_named d name) ≡ Some v.schema
  pub rows : option_map (λ w. w.1) (find (λ w. bytes_eq w.0 name) p.views) ≡ Some (finite.values v.table.rows)

-- The table of the view of a name is given from a picture; or the document or the picture has no such view, or memory was refused.
abbrev pub GivesTableIn : Definitions → PictureParts → List ℕ → Result ViewTable Refusal → Type 0
GivesTableIn d p name (Ok v) = IsTableIn d p name v
GivesTableIn d p name (Err r) =
    (r ≡ refusal.Memory)
    ⊎ ((r ≡ refusal.Store fault.NoView) × ((plan_named d name ≡ None) ⊎ (option_map (λ w. w.1) (find (λ w. bytes_eq w.0 name) p.views) ≡ None)))
