-- The tree of a TOML document, as the TOML standard (1.1) has it, and what its values are asked for.
use Rattle.std.specs.Prelude.{◌≡◌, ◌≢◌, ◌&&◌, ℕ, Bool, true, List, [], ◌∷◌, Option, Some, None, Result, Ok, Err, MatchResult, String, if◌then◌else◌}
use Rattle.std.specs.List.{list_any}
use Rattle.std.specs.Str.{bytes_eq, is_utf8}
use Rattle.std.specs.BTreeMap.{BTreeMap}
use Rattle.std.specs.declared.alloc.Global.{Global}
use Rattle.toml.specs.Parse.{parse_document}
use Rattle.toml.specs.View.{table_view}
use Rattle.toml.specs.declared.value.Value.{Value}
use Rattle.toml.specs.Data.{Data, string, array, table, Items, no_items, item, Members, no_members, member, get_member}
use Rattle.df_text.specs.declared.document.Location.{Location}
use Rattle.df_text.specs.declared.fault.ViewsFault.{ViewsFault}
use Rattle.df_text.specs.declared.fault.ViewsFault.TheVariants as fault

abbrev pub parsed : Option Members → Result Members ViewsFault
parsed (Some ms) = Ok ms
parsed None = Err fault.NotToml

-- the top table of a document: UTF-8 that is TOML
abbrev pub tree_of : List ℕ → Result Members ViewsFault
tree_of bytes = if is_utf8 bytes then parsed (parse_document bytes) else Err fault.NotToml

-- the table is the tree, unless the answer is that memory was refused
abbrev pub GivesTable : Result Members ViewsFault → Result (BTreeMap (String Global) Value) ViewsFault → Type 0
GivesTable want result = MatchResult result (λ t. want ≡ Ok (table_view t)) (λ f. f ≢ fault.Memory → want ≡ Err f)

-- whether each key passes the test
unfoldable pub keys_pass : (List ℕ → Bool) → Members → Bool
keys_pass p no_members = true
keys_pass p (member k d ms) = p k && keys_pass p ms

-- whether a table has no key but these
abbrev pub has_only_keys : List (List ℕ) → Members → Bool
has_only_keys keys ms = keys_pass (λ k. list_any (bytes_eq k) keys) ms

-- what must be there
abbrev pub required : {A : Type 0} → Location → Option A → Result A ViewsFault
required location (Some x) = Ok x
required location None = Err (fault.Shape location)

-- the value at a key that must be there
abbrev pub value_at : Location → List ℕ → Members → Result Data ViewsFault
value_at location key ms = required location (get_member key ms)

abbrev pub text_in : Location → Data → Result (List ℕ) ViewsFault
text_in location (string s) = Ok s
text_in location _ = Err (fault.Shape location)

unfoldable pub list_of : Items → List Data
list_of no_items = []
list_of (item d ds) = d ∷ list_of ds

abbrev pub array_in : Location → Data → Result (List Data) ViewsFault
array_in location (array ds) = Ok (list_of ds)
array_in location _ = Err (fault.Shape location)

abbrev pub table_value : Location → Data → Result Members ViewsFault
table_value location (table ms) = Ok ms
table_value location _ = Err (fault.Shape location)

-- the first item, and those after it
abbrev pub first_in : Location → List Data → Result (Data × List Data) ViewsFault
first_in location (d ∷ ds) = Ok (d, ds)
first_in location [] = Err (fault.Shape location)

-- the item of an array of one
abbrev pub only_in : Location → List Data → Result Data ViewsFault
only_in location (d ∷ []) = Ok d
only_in location _ = Err (fault.Shape location)

-- the items of an array of two
abbrev pub pair_in : Location → List Data → Result (Data × Data) ViewsFault
pair_in location (d ∷ e ∷ []) = Ok (d, e)
pair_in location _ = Err (fault.Shape location)

-- the items of an array of three
abbrev pub triple_in : Location → List Data → Result (Data × Data × Data) ViewsFault
triple_in location (d ∷ e ∷ f ∷ []) = Ok (d, e, f)
triple_in location _ = Err (fault.Shape location)

-- nothing more
abbrev pub none_in : Location → List Data → Result (Unit {0}) ViewsFault
none_in location [] = Ok tt
none_in location _ = Err (fault.Shape location)
