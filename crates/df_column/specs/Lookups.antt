-- How the texts of a pool are looked up.
use Rattle.std.specs.Prelude.{◌≡◌, ℕ, List, map}
use Rattle.df_column.specs.declared.texts.adding.Lookup.{Lookup}
use Rattle.df_column.specs.declared.texts.adding.Lookup.TheVariants.{Along, ByHash}

-- the set, where there is one, has the texts of the pool
abbrev pub IsLookup : List (List ℕ) → Lookup → Type 0
IsLookup pool Along = Unit {0}
IsLookup pool (ByHash known) = map (λ t. t.now) known.keys ≡ pool
