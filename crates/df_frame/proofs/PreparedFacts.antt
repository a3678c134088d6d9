-- The rows of a chunk, or of a run, by themselves.
use Rattle.std.proofs.Common.{◌≡◌, ◌+◌, ◌<◌, ◌≤◌, ◌++◌, ◌∙◌, ℕ, suc, true, false, List, [], ◌∷◌, None, drop, get_or, length, length-append, map, take, ap, sym, subst, refl, arith}
use Rattle.std.specs.Prelude.{IsTrue, T, find, nat_lt, ◌&&◌}
use Rattle.std.specs.List.{enumerate_from, list_all}
use Rattle.std.proofs.lemmas.Bool.{and_from, and_parts, le-ltb}
use Rattle.std.proofs.lemmas.List.{append-nil, map-append, get_or-drop, get_or-map, get_or-take, length-drop, length-map, length-take-le, take-append-drop}
use Rattle.std.proofs.lemmas.List.Folds.{list_all-append}
use Rattle.std.proofs.lemmas.List.FromFn.{get_or-enumerate_from, length-enumerate_from}
use Rattle.std.specs.FinMap as finite
use Rattle.df_value.specs.Chunks.{ChunkParts, IsChunk}
use Rattle.df_frame.specs.Runs.{GoesOn, IsRun, run_of_both}
use Rattle.df_value.specs.Limits as limits
use Rattle.df_value.specs.Rows.{row_fits, rows_fit}
use Rattle.df_value.specs.declared.cell.Cell.{Cell}
use Rattle.df_value.specs.declared.cell.CellType.{CellType}
use Rattle.df_column.specs.Changes.{Change, applied, applied_list, set_at}
use Rattle.df_column.specs.RowRuns.{StandFrom}
use Rattle.df_column.specs.Tables.{TableParts, TaggedRows, entry_change}
use Rattle.df_column.specs.Tags.{tag_cmp}
use Rattle.df_column.specs.declared.entry.Entry.{Entry}
use Rattle.df_column.specs.declared.tag.Tag.{Tag}
use Rattle.df_delta.specs.Deltas.{Changes, RowsFit}
use Rattle.df_delta.specs.Differences.{IsDiff}
use Rattle.df_frame.specs.FrameChanges.{TakesChunk}
use Rattle.df_frame.specs.FrameTables.{at_tag, coming_row, row_tag, tagged_rows_of}
use Rattle.df_frame.specs.Frames.{IsFrame, IsNumbered, chunk_numbers, with_chunk, empty_frame}
use Rattle.df_frame.specs.Numbers.{has_number, is_rising}
use Rattle.df_frame.specs.Prepared.{IsPrepared, delta_of_chunk, run_in}
use Rattle.df_frame.specs.Stored.{IsStored, rows_from}
use Rattle.df_frame.specs.declared.state.FrameState.{FrameState}
use Rattle.df_frame.proofs.DeltaFacts.{coming-rise}
use Rattle.df_frame.proofs.FrameFacts.{empty-sound, enumerated-both, enumerated-numbers, frame-with_chunk, numbered-with_chunk}
use Rattle.df_frame.proofs.FrameTableFacts.{appended-diff, empty-table, table-entries, table-fits}
use Rattle.df_frame.proofs.Rising.{rising-block}

-- the rows of a chunk are a run
pub run-of-chunk : (c : ChunkParts) → IsChunk c.schema c.first c.rows → IsRun c.schema c.first c.rows
run-of-chunk c sound = record { few = omega (arith, sound.short); numbered = sound.numbered; fitting = sound.fitting }

-- a frame that has accepted nothing refuses no number, and has room for a run
nothing-taken : (ns : List ℕ) → find (λ n. has_number [] n) ns ≡ None
nothing-taken [] = refl
nothing-taken (n ∷ ns) = nothing-taken ns

has-room : (n : ℕ) → n ≤ limits.most_rows_of_frame → nat_lt limits.most_rows_of_frame (0 + n) ≡ false
has-room n few = le-ltb limits.most_rows_of_frame (0 + n) (omega (arith, few))

-- the frame that takes a chunk alone is sound
alone-sound : (c : ChunkParts) → IsRun c.schema c.first c.rows → IsFrame c.schema (with_chunk c empty_frame)
alone-sound c sound =
    frame-with_chunk c.schema c empty_frame sound.fitting sound.numbered (empty-sound c.schema) (nothing-taken (chunk_numbers c)) (has-room (length c.rows) sound.few)

-- and its table is what the chunk's delta makes of a table without rows
alone-table : (c : ChunkParts) → IsRun c.schema c.first c.rows → applied finite.empty (delta_of_chunk c) ≡ tagged_rows_of (with_chunk c empty_frame)
alone-table c sound =
    ap (λ t. applied t (delta_of_chunk c)) empty-table
    ∙ (appended-diff c empty_frame (empty-sound c.schema).numbered (alone-sound c sound).numbered (nothing-taken (chunk_numbers c))).gives

-- a chunk's rows fit its schema also where they stand alone
pub chunk-fits : (c : ChunkParts) → IsRun c.schema c.first c.rows → RowsFit c.schema (applied finite.empty (delta_of_chunk c))
chunk-fits c sound =
    let after = alone-sound c sound in
    subst (RowsFit c.schema) (sym (alone-table c sound)) (table-fits c.schema (with_chunk c empty_frame) after.numbered after.fitting)

-- there each stands at the tag of its number
pub chunk-entries : (c : ChunkParts) → IsRun c.schema c.first c.rows → finite.entries (applied finite.empty (delta_of_chunk c)) ≡ map at_tag (enumerate_from c.first c.rows)
chunk-entries c sound =
    ap finite.entries (alone-table c sound)
    ∙ (table-entries (with_chunk c empty_frame) (alone-sound c sound).numbered
    ∙ ap (map at_tag) (append-nil (enumerate_from c.first c.rows)))

tagged-cells : (n : ℕ) (rows : List (List Cell)) → map (λ (e : Tag × List Cell). e.1) (map at_tag (enumerate_from n rows)) ≡ rows
tagged-cells n [] = refl
tagged-cells n (row ∷ rows) = ap (λ later. row ∷ later) (tagged-cells (n + 1) rows)

-- a row numbered in turn
tagged-at : (n : ℕ) (rows : List (List Cell)) (i : ℕ) (d : Tag × List Cell) → i < length rows → get_or (map at_tag (enumerate_from n rows)) i d ≡ at_tag (n + i, get_or rows i d.1)
tagged-at n rows i d lt =
    get_or-map at_tag (enumerate_from n rows) i (0, d.1) d (omega (arith, lt, length-enumerate_from n rows))
    ∙ ap at_tag (get_or-enumerate_from n rows i (0, d.1) lt)

-- rows numbered in turn stand from each index on under the number there
tagged-stand :
    (n : ℕ) (rows : List (List Cell)) (low first len : ℕ) → low + len ≤ length rows → first ≡ n + low →
    StandFrom (map at_tag (enumerate_from n rows)) low (first + 1) (take len (drop low rows))
tagged-stand n rows low first len within number =
    let numbered = enumerate_from n rows in
    let many : length (take len (drop low rows)) ≡ len = length-take-le len (drop low rows) (omega (arith, within, length-drop low rows)) in
    let there : (k : ℕ) → k < length (take len (drop low rows)) → low + k < length rows = λ k lt. omega (arith, lt, many, within) in
    let entry : (k : ℕ) (d : Tag × List Cell) → k < length (take len (drop low rows)) → get_or (map at_tag numbered) (low + k) d ≡ at_tag (n + (low + k), get_or rows (low + k) d.1) =
    λ k d lt. tagged-at n rows (low + k) d (there k lt) in
    record {
      numbers = λ k d lt. ap (λ (e : Tag × List Cell). e.0.first) (entry k d lt) ∙ omega (arith, number);
      rows_are = λ k d lt.
          ap (λ (e : Tag × List Cell). e.1) (entry k d lt)
          ∙ sym (get_or-take len (drop low rows) k d.1 (omega (arith, lt, many)) ∙ get_or-drop low rows k d.1);
    }

-- such a table is that of its run
pub run-is :
    (c : ChunkParts) → IsRun c.schema c.first c.rows → (t : TableParts) → t.schema ≡ c.schema → t.rows ≡ applied finite.empty (delta_of_chunk c) → run_in t c.first ≡ c
run-is c sound t schema is =
    let rows : finite.values t.rows ≡ c.rows = ap finite.values is ∙ (ap (map (λ e. e.1)) (chunk-entries c sound) ∙ tagged-cells c.first c.rows) in
    λ i. record { schema = schema i; first = c.first; rows = rows i }

pub run-made :
    (c : ChunkParts) → IsRun c.schema c.first c.rows → (t : TableParts) (d : Changes) → t.schema ≡ c.schema → d ≡ delta_of_chunk c → t.rows ≡ applied finite.empty d →
    IsPrepared (run_in t c.first) d t × (run_in t c.first ≡ c)
run-made c sound t d schema delta rows =
    let is = run-is c sound t schema (rows ∙ ap (applied finite.empty) delta) in (
      record {
        sound = subst (λ (x : ChunkParts). IsRun x.schema x.first x.rows) (sym is) sound;
        delta_is = delta ∙ ap delta_of_chunk (sym is);
        rows_are = rows;
      },
      is,
    )

-- what its delta makes of a table without rows
pub run-table :
    (c : ChunkParts) → IsRun c.schema c.first c.rows → (none t : TableParts) (d : Changes) → none.schema ≡ c.schema → none.rows ≡ finite.empty → d ≡ delta_of_chunk c →
    (RowsFit none.schema (applied none.rows d) → t.rows ≡ applied none.rows d) → t.rows ≡ applied finite.empty d
run-table c sound none t d schema without delta made =
    let rows : applied none.rows d ≡ applied finite.empty d = ap (λ u. applied u d) without in
    made (subst (λ s. RowsFit s (applied none.rows d)) (sym schema) (subst (RowsFit c.schema) (sym (rows ∙ ap (applied finite.empty) delta)) (chunk-fits c sound))) ∙ rows

-- what stands in the table of a chunk from an index on are rows of the chunk
pub part-rows :
    (c : ChunkParts) → IsRun c.schema c.first c.rows → (t : TableParts) → t.rows ≡ applied finite.empty (delta_of_chunk c) → (low len : ℕ) →
    rows_from t low len ≡ take len (drop low c.rows)
part-rows c sound t is low len =
    ap (λ rows. take len (drop low rows)) (ap finite.values is ∙ (ap (map (λ e. e.1)) (chunk-entries c sound) ∙ tagged-cells c.first c.rows))

-- rows of which some are taken fit as all do
part-fits : (schema : List (List ℕ × CellType)) (rows : List (List Cell)) (low len : ℕ) → IsTrue (rows_fit schema rows) → IsTrue (rows_fit schema (take len (drop low rows)))
part-fits schema rows low len fits =
    let p = row_fits schema in
    let parted : list_all p (take low rows ++ drop low rows) ≡ true = ap (list_all p) (take-append-drop low rows) ∙ fits in
    let behind = (and_parts (list_all p (take low rows)) (list_all p (drop low rows)) (sym (list_all-append p (take low rows) (drop low rows)) ∙ parted)).1 in
    let again : list_all p (take len (drop low rows) ++ drop len (drop low rows)) ≡ true = ap (list_all p) (take-append-drop len (drop low rows)) ∙ behind in
    (and_parts (list_all p (take len (drop low rows))) (list_all p (drop len (drop low rows))) (sym (list_all-append p (take len (drop low rows)) (drop len (drop low rows))) ∙ again)).0

-- few enough rows of a run are a chunk
part-chunk :
    (c : ChunkParts) → IsRun c.schema c.first c.rows → (low first len : ℕ) → low + len ≤ length c.rows → len ≤ limits.most_rows_of_chunk → first ≡ c.first + low →
    IsChunk c.schema first (take len (drop low c.rows))
part-chunk c sound low first len within few number =
    let many : length (take len (drop low c.rows)) ≡ len = length-take-le len (drop low c.rows) (omega (arith, within, length-drop low c.rows)) in
    let all = sound.numbered in record {
      short = omega (arith, many, few);
      numbered = omega (arith, many, all, within, number);
      fitting = part-fits c.schema c.rows low len sound.fitting;
    }

-- and are there under their numbers
pub part-stored :
    (c : ChunkParts) → IsRun c.schema c.first c.rows → (t : TableParts) → t.schema ≡ c.schema → t.rows ≡ applied finite.empty (delta_of_chunk c) → (low first len : ℕ) →
    low + len ≤ length c.rows → len ≤ limits.most_rows_of_chunk → first ≡ c.first + low → IsStored t first low len
part-stored c sound t schema is low first len within few number =
    let entries : finite.entries t.rows ≡ map at_tag (enumerate_from c.first c.rows) = ap finite.entries is ∙ chunk-entries c sound in
    let many = length-map (enumerate_from c.first c.rows) at_tag in
    let long = length-enumerate_from c.first c.rows in
    let all = finite.len-entries t.rows in
    let as_many = ap length entries in
    let bound = sound.few in
    record {
      few = omega (arith, bound, all, as_many, many, long);
      within = omega (arith, within, all, as_many, many, long);
      sound =
          subst (λ s. IsChunk s first (rows_from t low len)) (sym schema)
          (subst (IsChunk c.schema first) (sym (part-rows c sound t is low len)) (part-chunk c sound low first len within few number));
      stand =
          subst (λ es. StandFrom es low (first + 1) (rows_from t low len)) (sym entries)
          (subst (StandFrom (map at_tag (enumerate_from c.first c.rows)) low (first + 1)) (sym (part-rows c sound t is low len)) (tagged-stand c.first c.rows low first len within number));
      tags = λ k d lt.
          let same : c.first + (low + k) ≡ first + k = omega (arith, number) in
          ap (λ (es : List (Tag × List Cell)). (get_or es (low + k) d).0) entries
          ∙ (ap (λ (e : Tag × List Cell). e.0) (tagged-at c.first c.rows (low + k) d (omega (arith, lt, within))) ∙ ap row_tag same);
    }

-- the delta of a chunk leads a frame that takes it to the frame with it
pub prepared-diff :
    (c : ChunkParts) (f : FrameState) → IsRun c.schema c.first c.rows → IsNumbered f → TakesChunk f c →
    IsDiff (tagged_rows_of f) (tagged_rows_of (with_chunk c f)) (delta_of_chunk c)
prepared-diff c f sound numbered takes = appended-diff c f numbered (numbered-with_chunk c f numbered sound.numbered takes.0 takes.1) takes.0

-- ---- a run and one that goes on behind it

-- the changes by which the rows of a run come, in order
coming-entries : (c : ChunkParts) → finite.entries (delta_of_chunk c) ≡ map coming_row (enumerate_from c.first c.rows)
coming-entries c =
    finite.entries-from_sorted tag_cmp (map coming_row (enumerate_from c.first c.rows))
    (coming-rise (enumerate_from c.first c.rows) (ap is_rising (enumerated-numbers c.first c.rows) ∙ rising-block c.first (length c.rows)))

applied-both :
    (t : TaggedRows) (es fs : List (Tag × Change (List Cell))) → applied_list t (es ++ fs) ≡ applied_list (applied_list t es) fs
applied-both t [] fs = refl
applied-both t (e ∷ es) fs = applied-both (set_at t e.0 e.1.new) es fs

-- the changes of both are those of the one, and then those of the other
both-entries :
    (run next : ChunkParts) → GoesOn run next →
    finite.entries (delta_of_chunk (run_of_both run next)) ≡ finite.entries (delta_of_chunk run) ++ finite.entries (delta_of_chunk next)
both-entries run next h =
    coming-entries (run_of_both run next)
    ∙ (ap (map coming_row) (enumerated-both run.first run.rows next.rows)
    ∙ (map-append coming_row (enumerate_from run.first run.rows) (enumerate_from (run.first + length run.rows) next.rows)
    ∙ (ap (λ n. map coming_row (enumerate_from run.first run.rows) ++ map coming_row (enumerate_from n next.rows)) (sym h.of_first)
    ∙ (ap (λ es. es ++ map coming_row (enumerate_from next.first next.rows)) (sym (coming-entries run))
    ∙ ap (λ fs. finite.entries (delta_of_chunk run) ++ fs) (sym (coming-entries next))))))

-- a run and one that goes on behind it are a run
pub both-sound : (run next : ChunkParts) → IsRun run.schema run.first run.rows → IsRun next.schema next.first next.rows → GoesOn run next → IsRun run.schema run.first (run.rows ++ next.rows)
both-sound run next one other goes =
    let many = length-append run.rows next.rows in
    let few = goes.few in
    let behind = goes.of_first in
    let all = other.numbered in record {
      few = omega (arith, many, few);
      numbered = omega (arith, many, behind, all);
      fitting =
          list_all-append (row_fits run.schema) run.rows next.rows
          ∙ and_from (rows_fit run.schema run.rows) (rows_fit run.schema next.rows) one.fitting (subst (λ s. IsTrue (rows_fit s next.rows)) goes.of_schema other.fitting);
    }

-- changes that are those of the one and then those of the other are the delta of both
pub both-delta :
    (run next : ChunkParts) → GoesOn run next → (es : List (Tag × Change (List Cell))) → es ≡ finite.entries (delta_of_chunk run) ++ finite.entries (delta_of_chunk next) →
    T (finite.is_sorted tag_cmp es) × (finite.from_sorted es ≡ delta_of_chunk (run_of_both run next))
both-delta run next goes es are =
    let both = run_of_both run next in
    let is : es ≡ map coming_row (enumerate_from both.first both.rows) = are ∙ (sym (both-entries run next goes) ∙ coming-entries both) in (
      subst (λ fs. T (finite.is_sorted tag_cmp fs)) (sym is)
          (coming-rise (enumerate_from both.first both.rows) (ap is_rising (enumerated-numbers both.first both.rows) ∙ rising-block both.first (length both.rows))),
      ap finite.from_sorted is,
    )

-- so are entries of the one behind which stand those of the other
pub both-entries-delta :
    (run next : ChunkParts) → GoesOn run next → (own more all : List Entry) →
    map entry_change own ≡ finite.entries (delta_of_chunk run) → map entry_change more ≡ finite.entries (delta_of_chunk next) → all ≡ own ++ more →
    T (finite.is_sorted tag_cmp (map entry_change all)) × (finite.from_sorted (map entry_change all) ≡ delta_of_chunk (run_of_both run next))
both-entries-delta run next goes own more all one other is =
    both-delta run next goes (map entry_change all)
    (ap (map entry_change) is ∙ (map-append entry_change own more
    ∙ (ap (λ es. es ++ map entry_change more) one ∙ ap (λ es. finite.entries (delta_of_chunk run) ++ es) other)))

-- the rows of both stand where those of the one do and then those of the other come
pub both-rows :
    (run next : ChunkParts) → GoesOn run next → (t : TaggedRows) (d : Changes) → t ≡ applied finite.empty (delta_of_chunk run) → d ≡ delta_of_chunk next →
    applied t d ≡ applied finite.empty (delta_of_chunk (run_of_both run next))
both-rows run next h t d there is =
    ap (λ e. applied t e) is
    ∙ (ap (λ u. applied u (delta_of_chunk next)) there
    ∙ (sym (applied-both finite.empty (finite.entries (delta_of_chunk run)) (finite.entries (delta_of_chunk next)))
    ∙ ap (applied_list finite.empty) (sym (both-entries run next h))))

-- the delta and the table of a run and of one that goes on behind it
pub run-joined :
    (run next : ChunkParts) → IsRun run.schema run.first run.rows → IsRun next.schema next.first next.rows → GoesOn run next → (t u : TableParts) (d e : Changes) →
    t.schema ≡ run.schema → t.rows ≡ applied finite.empty (delta_of_chunk run) → d ≡ delta_of_chunk next → e ≡ delta_of_chunk (run_of_both run next) →
    u.schema ≡ t.schema → (RowsFit t.schema (applied t.rows d) → u.rows ≡ applied t.rows d) →
    IsPrepared (run_in u run.first) e u × (run_in u run.first ≡ run_of_both run next)
run-joined run next one other goes t u d e schema there coming whole kept made =
    let both = run_of_both run next in
    let sound = both-sound run next one other goes in
    let rows : applied t.rows d ≡ applied finite.empty (delta_of_chunk both) = both-rows run next goes t.rows d there coming in
    let fits = subst (λ s. RowsFit s (applied t.rows d)) (sym schema) (subst (RowsFit both.schema) (sym rows) (chunk-fits both sound)) in
    run-made both sound u e (kept ∙ schema) whole (made fits ∙ (rows ∙ ap (applied finite.empty) (sym whole)))
