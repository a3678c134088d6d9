-- How look-ups of keys are counted.
use Rattle.std.specs.Prelude.{ℕ, ◌≤◌, ◌+◌, Bool, false, ◌||◌, cond, List, [], ◌∷◌, Option, Some, None, is_some}
use Rattle.std.specs.FinMap as finite
use Rattle.indexmap.specs.IndexMap.{get}
use Rattle.df_value.specs.Rows.{row_eq}
use Rattle.df_expr.specs.declared.meter.Meter.{Meter}
use Rattle.df_delta.specs.Deltas.{Changes}
use Rattle.df_ops.specs.Groups.{key_of}
use Rattle.df_join.specs.RowNotes.{Note}
use Rattle.df_join.specs.Rules.{Cells, is_null_key}
use Rattle.df_join.specs.declared.keyed.KeyedTables.{KeyedTables}
use Rattle.df_join.specs.declared.rule.JoinRule.{JoinRule}

-- a counter grows by at most n
abbrev pub Grows : ℕ → ℕ → ℕ → Type 0
Grows old new n = (old ≤ new) × (new ≤ old + n)

-- so many look-ups of a key
abbrev pub probes : ℕ → Meter
probes n = record { evals = 0; finishes = 0; probes = n; windows = 0 }

-- whether the table of a key is staged
abbrev pub is_staged : KeyedTables → Cells → Bool
is_staged staged = λ k. is_some (get row_eq staged.tables k)

-- the look-ups of a key: among what is staged, and where it is not there, among what is kept
abbrev pub probes_over : Bool → ℕ
probes_over staged = cond staged 1 2

-- the look-ups for the left rows that match, and for the right ones as they are staged
abbrev pub probes_left : JoinRule → Cells → ℕ
probes_left rule key = cond (is_null_key rule key) 0 1

abbrev pub probes_right : JoinRule → Cells → Bool → ℕ
probes_right rule key staged = cond (is_null_key rule key) 0 (probes_over staged)

abbrev pub nothing_staged : Cells → Bool
nothing_staged = λ _. false

module _ (indices : List (Option ℕ)) where
  -- the keys that are staged once this row is, too
  abbrev pub with_key : Option Cells → (Cells → Bool) → Cells → Bool
  with_key None s = s
  with_key (Some row) s = λ k. row_eq (key_of indices row) k || s k

  -- and once these changes are
  abbrev pub with_keys : (Cells → Bool) → List Note → Cells → Bool
  with_keys s [] = s
  with_keys s (e ∷ es) = with_keys (with_key e.1.new (with_key e.1.old s)) es

  -- the look-ups to stage a row
  abbrev pub stage_probes : (Cells → Bool) → Option Cells → ℕ
  stage_probes s None = 0
  stage_probes s (Some row) = probes_over (s (key_of indices row))

  -- for a change, where a row costs so much over the staged keys: its old row, then its new one
  abbrev pub change_probes : ((Cells → Bool) → Option Cells → ℕ) → (Cells → Bool) → Option Cells → Option Cells → ℕ
  change_probes cost s old new = cost s old + cost (with_key old s) new

  -- for changes one after another
  abbrev pub all_probes : ((Cells → Bool) → Option Cells → ℕ) → (Cells → Bool) → List Note → ℕ
  all_probes cost s [] = 0
  all_probes cost s (e ∷ es) = change_probes cost s e.1.old e.1.new + all_probes cost (with_key e.1.new (with_key e.1.old s)) es

-- the look-ups to note a left row over the staged right keys r
abbrev pub note_probes : JoinRule → (Cells → Bool) → Option Cells → ℕ
note_probes rule r None = 0
note_probes rule r (Some row) = probes_right rule (key_of rule.indices.left row) (r (key_of rule.indices.left row))

-- the look-ups to stage and note a right row
abbrev pub right_probes : JoinRule → (Cells → Bool) → Option Cells → ℕ
right_probes rule s None = 0
right_probes rule s (Some row) = probes_over (s (key_of rule.indices.right row)) + probes_left rule (key_of rule.indices.right row)

-- the look-ups to note two deltas: the right one is staged and noted, then the left one is noted over the right side as it
-- will be
abbrev pub probes_noted : JoinRule → Changes → Changes → ℕ
probes_noted rule d e =
    all_probes rule.indices.right (right_probes rule) nothing_staged (finite.entries e)
    + all_probes rule.indices.left (λ _. note_probes rule (with_keys rule.indices.right nothing_staged (finite.entries e))) nothing_staged (finite.entries d)

-- and to stage the left one, too
abbrev pub probes_made : JoinRule → Changes → Changes → ℕ
probes_made rule d e = probes_noted rule d e + all_probes rule.indices.left (stage_probes rule.indices.left) nothing_staged (finite.entries d)
