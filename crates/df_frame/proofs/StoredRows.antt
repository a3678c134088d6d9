-- Rows that stand in a table from an index on, as a list of their own.
use Rattle.std.proofs.Common.{◌≡◌, ℕ, ◌+◌, ◌<◌, ◌≤◌, ◌∙◌, List, ap, drop, get_or, length, map, sym, arith}
use Rattle.std.specs.FinMap as finite
use Rattle.std.proofs.lemmas.List.{length-drop, length-map, length-take-le}
use Rattle.df_value.specs.declared.cell.Cell.{Cell}
use Rattle.df_column.specs.RowRuns.{AreThose, StandFrom}
use Rattle.df_column.specs.Tables.{TableParts, TaggedRows}
use Rattle.df_column.specs.declared.tag.Tag.{Tag}
use Rattle.df_frame.specs.FrameTables.{at_tag, numbered_rows, row_tag}
use Rattle.df_frame.specs.Stored.{IsStored, rows_from}
use Rattle.df_frame.proofs.FrameTableFacts.{table-length, tag-at-place}

-- as many rows as are asked for
pub rows_from_length : (t : TableParts) (low len : ℕ) → low + len ≤ finite.len t.rows → length (rows_from t low len) ≡ len
rows_from_length t low len within =
    let all = finite.len-entries t.rows in
    let mapped = length-map (finite.entries t.rows) (λ e. e.1) in
    let behind = length-drop low (finite.values t.rows) in
    length-take-le len (drop low (finite.values t.rows)) (omega (arith, within, all, mapped, behind))

-- where the rows stand in the table of a frame too, they are the same there, with their tags
pub stored-alike :
    (t : TaggedRows) → map at_tag (numbered_rows t) ≡ finite.entries t → (own : TableParts) (first low len at : ℕ) → IsStored own first low len →
    at + len ≤ finite.len t → StandFrom (finite.entries t) at (first + 1) (rows_from own low len) → AreThose (finite.entries t) at (finite.entries own.rows) low len
stored-alike t tags own first low len at stored within stand = record {
  each = λ k d lt.
      let many = rows_from_length own low len stored.within in
      let inside : k < length (rows_from own low len) = omega (arith, lt, many) in
      let long = table-length t in
      let there : at + k < length (numbered_rows t) = omega (arith, lt, within, long) in
      let m = get_or (map (λ (r : ℕ × List Cell). r.0) (numbered_rows t)) (at + k) 0 in
      let tag : (get_or (finite.entries t) (at + k) d).0 ≡ row_tag m = tag-at-place t tags (at + k) d there in
      let risen = stand.numbers k d inside in
      let its : (get_or (finite.entries t) (at + k) d).0.first ≡ m + 1 = ap (λ (q : Tag). q.first) tag in
      let number : m ≡ first + k = omega (arith, risen, its) in
      let same_tag = tag ∙ (ap row_tag number ∙ sym (stored.tags k d lt)) in
      let same_row = stand.rows_are k d inside ∙ sym (stored.stand.rows_are k d inside) in
      λ i. (same_tag i, same_row i);
}
