-- One field or one record after the other.
use Rattle.std.proofs.Common.{◌≡◌, ◌+◌, ◌<◌, ◌≤◌, ℕ, List, [], ◌∷◌, length, take, drop, Some, sym, ap, arith, ◌∙◌}
use Rattle.std.specs.Prelude.{slice_get}
use Rattle.std.proofs.lemmas.List.{drop_more, get_or-take, get_or-drop, length-drop, length-take-le}
use Rattle.std.proofs.lemmas.List.Elements.{All-get_or}
use Rattle.std.proofs.lemmas.Option.{get_or_from_slice_get, slice_get_within, unwrap_or-slice_get}
use Rattle.df_csv.specs.Records.{IsRecords, FieldRows, record_at}

pub drop_field : (fields : List (List ℕ)) (i : ℕ) (field : List ℕ) → slice_get fields i ≡ Some field → drop i fields ≡ field ∷ drop (i + 1) fields
drop_field fields i field e =
    drop_more fields i [] (slice_get_within fields i field e) ∙ ap (λ f. f ∷ drop (i + 1) fields) (get_or_from_slice_get fields i field [] e)

pub drop_record : (rows : FieldRows) (first len i : ℕ) → i < len → first + len ≤ length rows
    → drop i (take len (drop first rows)) ≡ record_at rows (first + i) ∷ drop (i + 1) (take len (drop first rows))
drop_record rows first len i h k =
    let part = take len (drop first rows) in
    let size : length part ≡ len = length-take-le len (drop first rows) (omega (arith, k, length-drop {A = List (List ℕ)})) in
    drop_more part i [] (omega (arith, h, size))
    ∙ ap (λ r. r ∷ drop (i + 1) part) (get_or-take len (drop first rows) i [] h ∙ get_or-drop first rows i [] ∙ sym (unwrap_or-slice_get rows (first + i) []))

pub record_even : (width : ℕ) (rows : FieldRows) (i : ℕ) → IsRecords width rows → i < length rows → length (record_at rows i) ≡ width
record_even width rows i sound h =
    ap length (unwrap_or-slice_get rows i []) ∙ All-get_or (λ (r : List (List ℕ)). length r ≡ width) rows i [] h sound.even
