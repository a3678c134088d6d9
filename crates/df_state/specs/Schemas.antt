-- Whether two schemas are the same: their columns have the same names and types in the same order. The test is the one
-- that `==` makes of schemas, and decides it by the lemma below.
use Rattle.std.specs.Prelude.{◌≡◌, ◌↔◌, ℕ, Bool, IsTrue, List}
use Rattle.std.specs.Cmp.Lexicographic.{pointwise}
use Rattle.df_value.specs.declared.cell.CellType.{CellType}
use Rattle.df_value.specs.Exactly.{list_decides}
use Rattle.df_value.specs.contracts.schema.SchemaPartialEq.TheImpl.{ghosts}
use Rattle.df_value.specs.contracts.schema.SchemaExact.TheImpl.Laws.{decides-law}

abbrev pub schema_eq : List (List ℕ × CellType) → List (List ℕ × CellType) → Bool
schema_eq a b = ghosts.eq a b

pub schema_eq-Decides : (a b : List (List ℕ × CellType)) → IsTrue (schema_eq a b) ↔ (a ≡ b)
schema_eq-Decides = decides-law

-- the same of lists of schemas
abbrev pub schemas_eq : List (List (List ℕ × CellType)) → List (List (List ℕ × CellType)) → Bool
schemas_eq xs ys = pointwise schema_eq xs ys

pub schemas_eq-Decides : (xs ys : List (List (List ℕ × CellType))) → IsTrue (schemas_eq xs ys) ↔ (xs ≡ ys)
schemas_eq-Decides xs ys = list_decides schema_eq-Decides xs ys
