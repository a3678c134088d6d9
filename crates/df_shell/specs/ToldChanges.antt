-- What a session is told of the last change: its number, and what it did to a view.
use Rattle.std.specs.Prelude.{◌≡◌, ◌+◌, ◌-◌, ⊤, ℕ, min, Bool, List, Option, Some, None, Result, Ok, Err, bytes_eq, is_some, length, map}
use Rattle.std.specs.Global.{Vec}
use Rattle.std.specs.List.{list_any}
use Rattle.df_column.specs.Tables.{TaggedRows}
use Rattle.df_delta.specs.Deltas.{Changes}
use Rattle.df_state.specs.Pictures.{PictureParts}
use Rattle.df_state.specs.Reads.{last_changes_of, view_named, view_names_of}
use Rattle.df_state.specs.declared.state.CatalogueParts.{CatalogueParts}
use Rattle.df_state.specs.declared.state.State.{State}
use Rattle.df_catalogue.specs.KeptChanges.{tagged_table_of}
use Rattle.df_catalogue.specs.declared.keeping.ViewChanges.{ViewChanges}
use Rattle.df_hall.specs.LastChanges.{IsLastChange}
use Rattle.df_session.specs.ViewChanges.{change_lines, change_text}
use Rattle.df_session.specs.declared.refusal.Refusal.{Refusal}
use Rattle.df_session.specs.declared.refusal.Refusal.TheVariants as refusal

-- the number of the change behind that of a number: no number is above 2^64 - 1
abbrev pub number_behind : ℕ → ℕ
number_behind n = min (n + 1) 18446744073709551615

-- What a catalogue keeps of the last change, which has this number, is told of the view of a name, by its table now.
abbrev pub TellsLast : CatalogueParts → ℕ → List ℕ → Result (Option (Vec ℕ)) Refusal → Type 0
TellsLast c number name (Ok (Some text)) =
    (d : Changes) × (after : TaggedRows) × (last_changes_of c name ≡ Some d) × (tagged_table_of c.state name ≡ Some after)
    × (text.items ≡ change_text name number (change_lines after d))
TellsLast c number name (Ok None) = last_changes_of c name ≡ None
TellsLast c number name (Err r) = r ≡ refusal.Memory

-- whether a state has a view of a name
abbrev pub FindsView : State → List ℕ → Result Bool Refusal → Type 0
FindsView s name (Ok found) = found ≡ is_some (view_named name s.views)
FindsView s name (Err r) = ⊥

-- the names of the views of a state
abbrev pub NamesViews : State → Result (List (List ℕ)) Refusal → Type 0
NamesViews s (Ok names) = names ≡ view_names_of s
NamesViews s (Err r) = r ≡ refusal.Memory

-- the number of the last change of a history
abbrev pub last_number : List State → ℕ
last_number told = length told - 1

-- What the last change of a history did to the view of a name is told. That nothing is told says nothing.
abbrev pub TellsInHall : List State → List ℕ → Result (Option (Vec ℕ)) Refusal → Type 0
TellsInHall told name (Ok (Some text)) =
    (v : ViewChanges) × IsLastChange told name v × (text.items ≡ change_text name (last_number told) (change_lines v.table.rows v.changes))
TellsInHall told name (Ok None) = ⊤
TellsInHall told name (Err r) = r ≡ refusal.Memory

-- whether a picture has a view of a name
abbrev pub FindsIn : PictureParts → List ℕ → Result Bool Refusal → Type 0
FindsIn p name (Ok found) = found ≡ list_any (λ n. bytes_eq n name) (map (λ v. v.0) p.views)
FindsIn p name (Err r) = r ≡ refusal.Memory

-- the names of the views of a picture
abbrev pub NamesIn : PictureParts → Result (List (List ℕ)) Refusal → Type 0
NamesIn p (Ok names) = names ≡ map (λ v. v.0) p.views
NamesIn p (Err r) = r ≡ refusal.Memory
