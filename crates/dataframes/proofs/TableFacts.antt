-- The rows of a table at their places.
use Rattle.std.proofs.Common.{◌≡◌, ℕ, ◌<◌, ◌≤◌, List, get_or, length, Some, None, sym, ap, subst, ◌∙◌}
use Rattle.std.specs.Prelude.{slice_get}
use Rattle.std.proofs.lemmas.List.{get_or-map, length-map}
use Rattle.std.proofs.lemmas.Option.{slice_get-get_or, slice_get_past}
use Rattle.std.specs.FinMap as finite
use Rattle.df_value.specs.declared.cell.Cell.{Cell}
use Rattle.df_column.specs.Tables.{TaggedRows}
use Rattle.df_column.specs.declared.tag.Tag.{Tag}

-- how many they are
pub values-length : (m : TaggedRows) → length (finite.values m) ≡ finite.len m
values-length m = length-map (finite.entries m) (λ e. e.1) ∙ sym (finite.len-entries m)

-- none stands past the end
pub none-past : (m : TaggedRows) (place : ℕ) → finite.len m ≤ place → None ≡ slice_get (finite.values m) place
none-past m place past = sym (slice_get_past (finite.values m) place (subst (λ n. n ≤ place) (sym (values-length m)) past))

-- the row at a place
pub row-here : (m : TaggedRows) (place : ℕ) (row : List Cell) → place < finite.len m → ((d : Tag × List Cell) → row ≡ (get_or (finite.entries m) place d).1) → Some row ≡ slice_get (finite.values m) place
row-here m place row lt is =
    let d : Tag × List Cell = (record { first = 0; second = 0; third = 0 }, row) in
    let in_entries : place < length (finite.entries m) = subst (λ n. place < n) (finite.len-entries m) lt in
    let in_values : place < length (finite.values m) = subst (λ n. place < n) (sym (values-length m)) lt in
    sym (slice_get-get_or (finite.values m) place row in_values ∙ ap Some (get_or-map (λ e. e.1) (finite.entries m) place d row in_entries ∙ sym (is d)))
