-- The groups of tagged rows: one row for each key, at the tag of the key's first row.
use Rattle.std.specs.Prelude.{Bool, cond, List, [], ◌∷◌, map, Option, Some, None}
use Rattle.std.specs.Ordering.{eq_by_cmp}
use Rattle.std.specs.declared.cmp.Ordering.{Ordering}
use Rattle.std.specs.FinMap.{FinMap, entries}
use Rattle.df_delta.specs.Collected.{collected}
use Rattle.df_delta.specs.Keyed.{members}

-- the group's row, at the tag of the group's first row
abbrev pub group_entry : {K X G Y : Type 0} → (G → List X → Y) → G → List (K × X) → Option (K × Y)
group_entry result k [] = None
group_entry result k (e ∷ es) = Some (e.0, result k (map (λ e. e.1) (e ∷ es)))

-- the row of the pair, where its tag is q
abbrev pub at_tag : {K Y : Type 0} → (K → K → Ordering) → K → Option (K × Y) → Option Y
at_tag R q None = None
at_tag R q (Some e) = cond (eq_by_cmp R q e.0) (Some e.1) None

-- one row for each key, at the tag of the key's first row
abbrev pub grouped : {K X G Y : Type 0} {R : K → K → Ordering} → (X → G) → (G → G → Bool) → (G → List X → Y) → FinMap R X → FinMap R Y
grouped {R = R} key same_key result t = collected (λ q x. at_tag R q (group_entry result (key x) (entries (members key same_key (key x) t)))) t

-- the first of two rows, of which each may be missing
abbrev pub first_some : {Y : Type 0} → Option Y → Option Y → Option Y
first_some (Some y) b = Some y
first_some None b = b

-- what the groups of these keys have at the tag q
abbrev pub groups_at : {K X G Y : Type 0} {R : K → K → Ordering} → (X → G) → (G → G → Bool) → (G → List X → Y) → List G → FinMap R X → K → Option Y
groups_at key same_key result [] t q = None
groups_at {R = R} key same_key result (k ∷ ks) t q = first_some (at_tag R q (group_entry result k (entries (members key same_key k t)))) (groups_at key same_key result ks t q)
