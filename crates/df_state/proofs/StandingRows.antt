-- Rows that stand one behind the other in the table of a frame.
use Rattle.std.proofs.Common.{◌≡◌, ℕ, ◌+◌, ◌-◌, ◌<◌, ◌≤◌, List, get_or, length, map, ap, subst, sym, ◌∙◌, arith}
use Rattle.std.specs.Prelude.{IsSomeAnd, Some, option_and_then, option_map, slice_get, unwrap_or}
use Rattle.std.specs.FinMap as finite
use Rattle.std.proofs.lemmas.Option.{get_or_from_slice_get, slice_get-get_or, slice_get-map, slice_get_within}
use Rattle.df_value.specs.declared.cell.Cell.{Cell}
use Rattle.df_column.specs.RowRuns.{StandFrom}
use Rattle.df_column.specs.Tables.{TaggedRows}
use Rattle.df_column.specs.declared.tag.Tag.{Tag}
use Rattle.df_frame.specs.FrameTables.{at_tag, numbered_row, numbered_rows}
use Rattle.df_state.specs.Pictures.{AreRowsIn, PictureParts, ReachesIn, row_in}
use Rattle.df_frame.proofs.FrameTableFacts.{some_entry, table-length, tag-at-place}

-- rows that stand in the table of a picture's frame from a place on are the frame's from there on
pub rows-stand :
    (p : PictureParts) (frame : ℕ) (t : TaggedRows) → slice_get p.frames frame ≡ Some (numbered_rows t) → (place n : ℕ) (rows : List (List Cell)) →
    place + length rows ≤ finite.len t → StandFrom (finite.entries t) place (n + 1) rows → AreRowsIn p frame place n rows
rows-stand p frame t is place n rows within stand = record {
  at = λ k row h.
      let d = some_entry in
      let es = finite.entries t in
      let e = get_or es (place + k) d in
      let low = slice_get_within rows k row h in
      let there : place + k < length es = omega (arith, low, within, finite.len-entries t) in
      let risen = stand.numbers k d low in
      let number : e.0.first - 1 ≡ n + k = omega (arith, risen) in
      let cells : e.1 ≡ row = stand.rows_are k d low ∙ get_or_from_slice_get rows k row d.1 h in
      ap (option_and_then (λ rs. slice_get rs (place + k))) is
      ∙ (slice_get-map numbered_row es (place + k)
      ∙ (ap (option_map numbered_row) (slice_get-get_or es (place + k) d there)
      ∙ (ap (λ m. Some (m, e.1)) number ∙ ap (λ cs. Some (n + k, cs)) cells)));
}

-- a frame of a picture has as many rows as its table
pub table-reaches :
    (p : PictureParts) (frame : ℕ) (t : TaggedRows) → slice_get p.frames frame ≡ Some (numbered_rows t) → (place count : ℕ) → place + count ≤ finite.len t →
    ReachesIn p frame place count
table-reaches p frame t is place count within =
    let many = table-length t in
    subst (λ o. IsSomeAnd (option_map length o) (λ n. place + count ≤ n)) (sym is) (omega (arith, within, many))

pub table-reached :
    (p : PictureParts) (frame : ℕ) (t : TaggedRows) → slice_get p.frames frame ≡ Some (numbered_rows t) → (place count : ℕ) → ReachesIn p frame place count →
    place + count ≤ finite.len t
table-reached p frame t is place count reach =
    let many = table-length t in
    let within : place + count ≤ length (numbered_rows t) = subst (λ o. IsSomeAnd (option_map length o) (λ n. place + count ≤ n)) is reach in
    omega (arith, within, many)

-- rows that are a frame's from a place on stand in its table from there on
pub rows-found :
    (p : PictureParts) (frame : ℕ) (t : TaggedRows) → slice_get p.frames frame ≡ Some (numbered_rows t) → map at_tag (numbered_rows t) ≡ finite.entries t →
    (place n : ℕ) (rows : List (List Cell)) → place + length rows ≤ finite.len t → AreRowsIn p frame place n rows → StandFrom (finite.entries t) place (n + 1) rows
rows-found p frame t is tags place n rows within are = record {
  numbers = λ k d low.
      let tag : (get_or (finite.entries t) (place + k) d).0.first ≡ get_or (map (λ (r : ℕ × List Cell). r.0) (numbered_rows t)) (place + k) 0 + 1 =
      ap (λ (q : Tag). q.first) (tag-at-place t tags (place + k) d (there k low)) in
      let number : (get_or (finite.entries t) (place + k) d).0.first - 1 ≡ n + k = ap (λ (r : ℕ × List Cell). r.0) (same k d low) in
      omega (arith, tag, number);
  rows_are = λ k d low. ap (λ (r : ℕ × List Cell). r.1) (same k d low);
} where
  there : (k : ℕ) → k < length rows → place + k < length (numbered_rows t)
  there k low = let many = table-length t in omega (arith, within, low, many)

  same : (k : ℕ) (d : Tag × List Cell) → k < length rows → numbered_row (get_or (finite.entries t) (place + k) d) ≡ (n + k, get_or rows k d.1)
  same k d low =
      let es = finite.entries t in
      let row = get_or rows k d.1 in
      let inside : place + k < length es = omega (arith, within, low, finite.len-entries t) in
      let read : row_in p frame (place + k) ≡ Some (numbered_row (get_or es (place + k) d)) =
      ap (option_and_then (λ rs. slice_get rs (place + k))) is
      ∙ (slice_get-map numbered_row es (place + k)
      ∙ ap (option_map numbered_row) (slice_get-get_or es (place + k) d inside)) in
      ap (λ o. unwrap_or o (n + k, row)) (sym read ∙ are.at k row (slice_get-get_or rows k d.1 low))
