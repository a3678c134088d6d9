-- The place of a record in the parts.
use Rattle.std.proofs.Common.{◌≡◌, ◌+◌, ◌-◌, ◌<◌, ◌≤◌, ℕ, List, [], ◌++◌, length, drop, get_or, sym, ap, arith, ◌∙◌}
use Rattle.std.proofs.lemmas.List.{drop_more, get_or_append_left, get_or-append-add, length-append}
use Rattle.df_csv.specs.Records.{FieldRows, record_at, records_of_parts}
use Rattle.df_csv.proofs.BufferFacts.{record_get}

-- the record at this index is the one at a place of these parts
pub record Stands (all : FieldRows) (row : ℕ) (parts : List FieldRows) (place : ℕ) : Type 0 where
  pub within : place < length (records_of_parts parts)
  pub same : record_at (records_of_parts parts) place ≡ record_at all row

here : (part rest : FieldRows) (place : ℕ) → place < length part → record_at part place ≡ record_at (part ++ rest) place
here part rest place h = record_get part place ∙ sym (get_or_append_left part rest [] place h) ∙ sym (record_get (part ++ rest) place)

behind : (part rest : FieldRows) (place : ℕ) → length part ≤ place → record_at rest (place - length part) ≡ record_at (part ++ rest) place
behind part rest place h =
    let e : length part + (place - length part) ≡ place = omega arith in
    record_get rest (place - length part)
    ∙ sym (get_or-append-add part rest (place - length part) [])
    ∙ ap (λ i. get_or (part ++ rest) i []) e
    ∙ sym (record_get (part ++ rest) place)

parts_more : (parts : List FieldRows) (i : ℕ) (part : FieldRows) → i < length parts → part ≡ get_or parts i part → records_of_parts (drop i parts) ≡ part ++ records_of_parts (drop (i + 1) parts)
parts_more parts i part h is = ap records_of_parts (drop_more parts i part h) ∙ ap (λ (p : FieldRows). p ++ records_of_parts (drop (i + 1) parts)) (sym is)

pub stands_here : (all : FieldRows) (row : ℕ) (parts : List FieldRows) (i place : ℕ) (part : FieldRows) → Stands all row (drop i parts) place → i < length parts → part ≡ get_or parts i part
    → place < length part → record_at part place ≡ record_at all row
stands_here all row parts i place part s h is k =
    here part (records_of_parts (drop (i + 1) parts)) place k ∙ sym (ap (λ (r : FieldRows). record_at r place) (parts_more parts i part h is)) ∙ s.same

pub stands_behind : (all : FieldRows) (row : ℕ) (parts : List FieldRows) (i place : ℕ) (part : FieldRows) → Stands all row (drop i parts) place → i < length parts → part ≡ get_or parts i part
    → length part ≤ place → Stands all row (drop (i + 1) parts) (place - length part)
stands_behind all row parts i place part s h is k =
    let split = parts_more parts i part h is in
    let size : length (records_of_parts (drop i parts)) ≡ length part + length (records_of_parts (drop (i + 1) parts)) = ap length split ∙ length-append part (records_of_parts (drop (i + 1) parts)) in
    record {
      within = omega (arith, s.within, size, k);
      same = behind part (records_of_parts (drop (i + 1) parts)) place k ∙ sym (ap (λ (r : FieldRows). record_at r place) split) ∙ s.same;
    }
