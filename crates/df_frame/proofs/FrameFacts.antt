-- A sound frame stays sound when it accepts a chunk that is not refused, and when rows are taken out of it or replaced.
use Rattle.std.proofs.Common.{◌≡◌, ℕ, ◌+◌, ◌<◌, ◌≤◌, Bool, true, false, zero, suc, cond, ◌∙◌, List, [], ◌∷◌, ◌++◌, map, filter, length, take, get_or, refl, ap, sym, arith}
use Rattle.std.specs.Prelude.{IsTrue, not, ◌&&◌, ◌||◌, ◌==◌, nat_lt, Option, None, Some, unwrap_or}
use Rattle.std.specs.List.{list_all, range_with_len, enumerate_from}
use Rattle.std.proofs.lemmas.Bool.{and_parts, and_from, eqb-true, ltb-false, not_from_false}
use Rattle.std.proofs.lemmas.List.{map-append, map-id}
use Rattle.std.proofs.lemmas.List.Folds.{list_all-append}
use Rattle.std.proofs.lemmas.List.FromFn.{length-range_with_len}
use Rattle.df_value.specs.declared.cell.Cell.{Cell}
use Rattle.df_value.specs.declared.cell.CellType.{CellType}
use Rattle.df_value.specs.Chunks.{ChunkParts}
use Rattle.df_value.specs.Limits as limits
use Rattle.df_value.specs.Rows.{rows_fit, row_fits}
use Rattle.df_frame.specs.declared.state.FrameState.{FrameState}
use Rattle.df_frame.specs.Numbers.{are_below, has_number, is_rising, put_from}
use Rattle.df_frame.specs.Frames.{numbers_of, chunk_numbers, replaced_row, row_of_number, with_chunk, with_replaced_rows, without_rows, IsNumbered, IsFrame, empty_frame}
use Rattle.df_frame.specs.FrameParts.{deleted_numbers, frame_state}
use Rattle.df_frame.specs.Refusals.{first_taken, would_be_full}
use Rattle.df_frame.proofs.Members.{has-filter, filter-same, filter-all, filter-none, filter-filter, find-none}
use Rattle.df_frame.proofs.Rising.{block-below, rising-filter, rising-put, filter-put, put-nothing, map-put, map-filter, length-put}

abbrev Columns : Type 0
Columns = List (List ℕ × CellType)

-- the numbers of rows that are numbered in turn, and the rows
pub enumerated-numbers : {T : Type 0} (a : ℕ) (xs : List T) → map (λ r. r.0) (enumerate_from a xs) ≡ range_with_len a (length xs)
enumerated-numbers a [] = refl
enumerated-numbers a (x ∷ xs) = ap (λ ns. a ∷ ns) (enumerated-numbers (a + 1) xs)

pub enumerated-items : {T : Type 0} (a : ℕ) (xs : List T) → map (λ r. r.1) (enumerate_from a xs) ≡ xs
enumerated-items a [] = refl
enumerated-items a (x ∷ xs) = ap (λ ys. x ∷ ys) (enumerated-items (a + 1) xs)

-- numbered in turn, two lists behind one another are the one and then the other
pub enumerated-both : {T : Type 0} (a : ℕ) (xs ys : List T) → enumerate_from a (xs ++ ys) ≡ enumerate_from a xs ++ enumerate_from (a + length xs) ys
enumerated-both a [] ys = let e : a + 0 ≡ a = omega arith in rw e refl
enumerated-both a (x ∷ xs) ys =
    let e : a + suc (length xs) ≡ (a + 1) + length xs = omega arith in
    rw e (ap (λ rs. (a, x) ∷ rs) (enumerated-both (a + 1) xs ys))

all-map-cond :
    {S T : Type 0} (q : T → Bool) (g : S → T) (b : Bool) (x : S) (xs : List S) →
    q (g x) ≡ true → list_all q (map g xs) ≡ true → list_all q (map g (cond b (x ∷ xs) xs)) ≡ true
all-map-cond q g true x xs e r = and_from (q (g x)) (list_all q (map g xs)) e r
all-map-cond q g false x xs e r = r

pub all-map-filter :
    {S T : Type 0} (q : T → Bool) (g : S → T) (p : S → Bool) (xs : List S) →
    list_all q (map g xs) ≡ true → list_all q (map g (filter p xs)) ≡ true
all-map-filter q g p [] h = refl
all-map-filter q g p (x ∷ xs) h =
    let parts = and_parts (q (g x)) (list_all q (map g xs)) h in
    all-map-cond q g (p x) x (filter p xs) parts.0 (all-map-filter q g p xs parts.1)

all-map-append :
    {S T : Type 0} (q : T → Bool) (g : S → T) (xs ys : List S) →
    list_all q (map g xs) ≡ true → list_all q (map g ys) ≡ true → list_all q (map g (xs ++ ys)) ≡ true
all-map-append q g xs ys h k =
    ap (list_all q) (map-append g xs ys) ∙ (list_all-append q (map g xs) (map g ys) ∙ and_from (list_all q (map g xs)) (list_all q (map g ys)) h k)

-- what each of a block and each of the items passes, the items with the block pass
pub all-put :
    {S T : Type 0} (q : T → Bool) (g : S → T) (number : S → ℕ) (first : ℕ) (block xs : List S) →
    list_all q (map g block) ≡ true → list_all q (map g xs) ≡ true → list_all q (map g (put_from number first block xs)) ≡ true
all-put q g number first block xs h k =
    let lower = filter (λ x. nat_lt (number x) first) xs in
    let upper = filter (λ x. not (nat_lt (number x) first)) xs in
    all-map-append q g lower (block ++ upper) (all-map-filter q g (λ x. nat_lt (number x) first) xs k)
    (all-map-append q g block upper h (all-map-filter q g (λ x. not (nat_lt (number x) first)) xs k))

and-no : (a b : Bool) → b ≡ false → (a && b) ≡ false
and-no true b e = e
and-no false b e = refl

and-yes : (a b : Bool) → b ≡ true → (a && b) ≡ a
and-yes true b e = e
and-yes false b e = refl

-- what was not accepted was not deleted
pub not-deleted : (f : FrameState) → IsNumbered f → (m : ℕ) → has_number f.accepted m ≡ false → has_number f.deleted m ≡ false
not-deleted f h m out =
    ap (λ ds. has_number ds m) (sym h.deleted)
    ∙ (has-filter (λ n. has_number f.deleted n) f.accepted m ∙ and-no (has_number f.deleted m) (has_number f.accepted m) out)

deleted-rise : (f : FrameState) → IsNumbered f → is_rising f.deleted ≡ true
deleted-rise f h = ap is_rising (sym h.deleted) ∙ rising-filter (λ n. has_number f.deleted n) f.accepted h.rising

-- a chunk's numbers are not accepted yet
pub chunk-free : (c : ChunkParts) (f : FrameState) → first_taken f c ≡ None → (m : ℕ) → has_number (chunk_numbers c) m ≡ true → has_number f.accepted m ≡ false
chunk-free c f free m h = find-none (λ n. has_number f.accepted n) (chunk_numbers c) free m h

-- numbers below another, with a block put in that is below it
below-put : (first n k : ℕ) (ns : List ℕ) → first + n ≤ k → are_below k ns ≡ true → are_below k (put_from (λ n. n) first (range_with_len first n) ns) ≡ true
below-put first n k ns h b =
    let q : ℕ → Bool = λ m. nat_lt m k in
    let put : List ℕ = put_from (λ n. n) first (range_with_len first n) ns in
    ap (list_all q) (sym (map-id put))
    ∙ all-put q (λ n. n) (λ n. n) first (range_with_len first n) ns
    (ap (list_all q) (map-id (range_with_len first n)) ∙ block-below first n k h) (ap (list_all q) (map-id ns) ∙ b)

pub numbered-with_chunk :
    (c : ChunkParts) (f : FrameState) → IsNumbered f → c.first + length c.rows ≤ limits.row_numbers → first_taken f c ≡ None → would_be_full f c ≡ false →
    IsNumbered (with_chunk c f)
numbered-with_chunk c f h numbers free room =
    let block = chunk_numbers c in
    let was : ℕ → Bool = λ n. has_number f.deleted n in
    let stays : ℕ → Bool = λ n. not (has_number f.deleted n) in
    let fresh : (m : ℕ) → has_number block m ≡ true → has_number f.deleted m ≡ false =
    λ m k. not-deleted f h m (chunk-free c f free m k) in
    let long = length-put (λ n. n) c.first block f.accepted in
    let wide = length-range_with_len c.first (length c.rows) in
    let fits = ltb-false 1048576 (length f.accepted + length c.rows) room in record {
      rising = rising-put c.first (length c.rows) f.accepted h.rising (chunk-free c f free);
      below = below-put c.first (length c.rows) limits.row_numbers f.accepted numbers h.below;
      few = omega (arith, long, wide, fits);
      deleted =
          filter-put was c.first block f.accepted
          ∙ (ap (λ b. put_from (λ n. n) c.first b (filter was f.accepted)) (filter-none was block fresh)
          ∙ (ap (put_from (λ n. n) c.first []) h.deleted
          ∙ put-nothing c.first f.deleted (deleted-rise f h)));
      left =
          map-put (λ r. r.0) c.first (enumerate_from c.first c.rows) f.rows
          ∙ (ap (λ b. put_from (λ n. n) c.first b (numbers_of f)) (enumerated-numbers c.first c.rows)
          ∙ (ap (put_from (λ n. n) c.first block) h.left
          ∙ (ap (λ b. put_from (λ n. n) c.first b (filter stays f.accepted)) (sym (filter-all stays block (λ m k. not_from_false (has_number f.deleted m) (fresh m k))))
          ∙ sym (filter-put stays c.first block f.accepted))));
    }

pub frame-with_chunk :
    (schema : Columns) (c : ChunkParts) (f : FrameState) → IsTrue (rows_fit schema c.rows) → c.first + length c.rows ≤ limits.row_numbers →
    IsFrame schema f → first_taken f c ≡ None → would_be_full f c ≡ false → IsFrame schema (with_chunk c f)
frame-with_chunk schema c f fit numbers h free room = record {
  numbered = numbered-with_chunk c f h.numbered numbers free room;
  fitting =
      all-put (row_fits schema) (λ r. r.1) (λ r. r.0) c.first (enumerate_from c.first c.rows) f.rows
      (ap (list_all (row_fits schema)) (enumerated-items c.first c.rows) ∙ fit) h.fitting;
}

neither : (d n : Bool) → (not n && not d) ≡ not (d || n)
neither true true = refl
neither true false = refl
neither false true = refl
neither false false = refl

has-deleted :
    (ns : List ℕ) (f : FrameState) (n : ℕ) → has_number f.accepted n ≡ true →
    has_number (filter (λ n. has_number f.deleted n || has_number ns n) f.accepted) n ≡ (has_number f.deleted n || has_number ns n)
has-deleted ns f n m =
    has-filter (λ n. has_number f.deleted n || has_number ns n) f.accepted n
    ∙ and-yes (has_number f.deleted n || has_number ns n) (has_number f.accepted n) m

pub numbered-without_rows : (ns : List ℕ) (f : FrameState) → IsNumbered f → IsNumbered (without_rows ns f)
numbered-without_rows ns f h =
    let now : List ℕ = filter (λ n. has_number f.deleted n || has_number ns n) f.accepted in record {
      rising = h.rising;
      below = h.below;
      few = h.few;
      deleted = filter-same (λ n. has_number now n) (λ n. has_number f.deleted n || has_number ns n) f.accepted (λ n m. has-deleted ns f n m);
      left =
          map-filter (λ r. r.0) (λ n. not (has_number ns n)) f.rows
          ∙ (ap (filter (λ n. not (has_number ns n))) h.left
          ∙ (filter-filter (λ n. not (has_number ns n)) (λ n. not (has_number f.deleted n)) f.accepted
          ∙ filter-same (λ n. not (has_number ns n) && not (has_number f.deleted n)) (λ n. not (has_number now n)) f.accepted
          (λ n m. neither (has_number f.deleted n) (has_number ns n) ∙ ap not (sym (has-deleted ns f n m)))));
    }

pub frame-without_rows : (schema : Columns) (ns : List ℕ) (f : FrameState) → IsFrame schema f → IsFrame schema (without_rows ns f)
frame-without_rows schema ns f h = record {
  numbered = numbered-without_rows ns f h.numbered;
  fitting = all-map-filter (row_fits schema) (λ r. r.1) (λ r. not (has_number ns r.0)) f.rows h.fitting;
}

number-at :
    (b : Bool) (r row : ℕ × List Cell) (later : Option (ℕ × List Cell)) → (r.0 == row.0) ≡ b → (unwrap_or later row).0 ≡ row.0 →
    (unwrap_or (cond b (Some r) later) row).0 ≡ row.0
number-at true r row later e h = eqb-true r.0 row.0 e
number-at false r row later e h = h

-- the row that stands in the place of another has its number
pub replaced_row-number : (new_rows : List (ℕ × List Cell)) (row : ℕ × List Cell) → (replaced_row new_rows row).0 ≡ row.0
replaced_row-number [] row = refl
replaced_row-number (r ∷ rs) row = number-at (r.0 == row.0) r row (row_of_number rs row.0) refl (replaced_row-number rs row)

replaced-numbers : (new_rows rows : List (ℕ × List Cell)) → map (λ r. r.0) (map (replaced_row new_rows) rows) ≡ map (λ r. r.0) rows
replaced-numbers new_rows [] = refl
replaced-numbers new_rows (r ∷ rs) =
    ap (λ n. n ∷ map (λ r. r.0) (map (replaced_row new_rows) rs)) (replaced_row-number new_rows r)
    ∙ ap (λ ns. r.0 ∷ ns) (replaced-numbers new_rows rs)

fitting-at :
    (q : List Cell → Bool) (b : Bool) (r row : ℕ × List Cell) (later : Option (ℕ × List Cell)) → q r.1 ≡ true → q (unwrap_or later row).1 ≡ true →
    q (unwrap_or (cond b (Some r) later) row).1 ≡ true
fitting-at q true r row later e h = e
fitting-at q false r row later e h = h

-- it passes what the new rows and the row pass
replaced_row-passes :
    (q : List Cell → Bool) (new_rows : List (ℕ × List Cell)) (row : ℕ × List Cell) → list_all q (map (λ r. r.1) new_rows) ≡ true → q row.1 ≡ true →
    q (replaced_row new_rows row).1 ≡ true
replaced_row-passes q [] row h k = k
replaced_row-passes q (r ∷ rs) row h k =
    let parts = and_parts (q r.1) (list_all q (map (λ r. r.1) rs)) h in
    fitting-at q (r.0 == row.0) r row (row_of_number rs row.0) parts.0 (replaced_row-passes q rs row parts.1 k)

replaced-pass :
    (q : List Cell → Bool) (new_rows rows : List (ℕ × List Cell)) → list_all q (map (λ r. r.1) new_rows) ≡ true → list_all q (map (λ r. r.1) rows) ≡ true →
    list_all q (map (λ r. r.1) (map (replaced_row new_rows) rows)) ≡ true
replaced-pass q new_rows [] h k = refl
replaced-pass q new_rows (r ∷ rs) h k =
    let parts = and_parts (q r.1) (list_all q (map (λ r. r.1) rs)) k in
    and_from (q (replaced_row new_rows r).1) (list_all q (map (λ r. r.1) (map (replaced_row new_rows) rs)))
    (replaced_row-passes q new_rows r h parts.0) (replaced-pass q new_rows rs h parts.1)

pub numbered-with_replaced_rows : (new_rows : List (ℕ × List Cell)) (f : FrameState) → IsNumbered f → IsNumbered (with_replaced_rows new_rows f)
numbered-with_replaced_rows new_rows f h = record {
  rising = h.rising;
  below = h.below;
  few = h.few;
  deleted = h.deleted;
  left = replaced-numbers new_rows f.rows ∙ h.left;
}

pub frame-with_replaced_rows :
    (schema : Columns) (new_rows : List (ℕ × List Cell)) (f : FrameState) → IsTrue (rows_fit schema (map (λ r. r.1) new_rows)) → IsFrame schema f →
    IsFrame schema (with_replaced_rows new_rows f)
frame-with_replaced_rows schema new_rows f fit h = record {
  numbered = numbered-with_replaced_rows new_rows f h.numbered;
  fitting = replaced-pass (row_fits schema) new_rows f.rows fit h.fitting;
}

not-not : (b : Bool) → not (not b) ≡ b
not-not true = refl
not-not false = refl

-- the deleted numbers of a sound frame are the accepted ones of which there is no row
pub deleted-deleted_numbers : (f : FrameState) → IsNumbered f → deleted_numbers f.accepted f.rows ≡ f.deleted
deleted-deleted_numbers f h =
    let stays : ℕ → Bool = λ n. not (has_number f.deleted n) in
    filter-same (λ n. not (has_number (numbers_of f) n)) (λ n. has_number f.deleted n) f.accepted
    (λ n m. ap (λ ns. not (has_number ns n)) h.left
    ∙ (ap not (has-filter stays f.accepted n ∙ and-yes (stays n) (has_number f.accepted n) m) ∙ not-not (has_number f.deleted n)))
    ∙ h.deleted

-- so a sound frame is made of its accepted numbers and its rows
pub frame-parts : (f : FrameState) → IsNumbered f → frame_state f.accepted f.rows ≡ f
frame-parts f h = ap (λ d. record { accepted = f.accepted; deleted = d; rows = f.rows }) (deleted-deleted_numbers f h)

-- a frame whose parts are those of a sound frame is that frame
pub frame-made :
    (f : FrameState) → IsNumbered f → (accepted : List ℕ) (rows : List (ℕ × List Cell)) → accepted ≡ f.accepted → rows ≡ f.rows → frame_state accepted rows ≡ f
frame-made f h accepted rows a r = ap (λ ns. frame_state ns rows) a ∙ (ap (frame_state f.accepted) r ∙ frame-parts f h)

-- how many numbers a frame with a chunk has accepted
pub accepted-more : (c : ChunkParts) (f : FrameState) → length (with_chunk c f).accepted ≡ length f.accepted + length c.rows
accepted-more c f =
    length-put (λ n. n) c.first (chunk_numbers c) f.accepted ∙ ap (λ k. length f.accepted + k) (length-range_with_len c.first (length c.rows))

-- an empty frame is sound
pub empty-sound : (schema : Columns) → IsFrame schema empty_frame
empty-sound schema = record {
  numbered = record { rising = refl; below = refl; few = omega arith; deleted = refl; left = refl };
  fitting = refl;
}
