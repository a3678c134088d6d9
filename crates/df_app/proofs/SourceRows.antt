-- The rows that the jobs of sources give to a frame: those of its source's good pieces, in their order.
use Rattle.std.proofs.Common.{◌≡◌, ℕ, zero, suc, ◌+◌, ◌*◌, ◌<◌, ◌≤◌, Bool, true, false, cond, ◌∙◌, List, [], ◌∷◌, ◌++◌, length, map, take, drop, refl, ap, sym, subst, arith}
use Rattle.std.specs.Prelude.{◌==◌, Some, option_map, slice_get, flat_map}
use Rattle.std.specs.List.{enumerate_from, range_with_len}
use Rattle.std.proofs.Math.Nat.{suc-mul}
use Rattle.std.proofs.lemmas.Bool.{eq-eqb, eqb-true, ne_eqb}
use Rattle.std.proofs.lemmas.Grind.{flat_map-append}
use Rattle.std.proofs.lemmas.List.{length-take, map-append}
use Rattle.std.proofs.lemmas.List.Folds.{flat_map-map}
use Rattle.std.proofs.lemmas.Option.{slice_get-map}
use Rattle.df_value.specs.declared.cell.Cell.{Cell}
use Rattle.df_value.specs.declared.chunk.Piece.{Piece}
use Rattle.df_value.specs.declared.chunk.Piece.TheVariants as made
use Rattle.df_value.specs.Pieces.{rows_of_pieces}
use Rattle.df_value.specs.Schemas.{Columns}
use Rattle.df_csv.specs.declared.typed.TypedRows.{TypedRows}
use Rattle.df_csv.specs.declared.typed.TypedRows.TheVariants as all
use Rattle.df_csv.specs.GoodPieces.{good_length}
use Rattle.df_csv.specs.Records.{FieldRows}
use Rattle.df_csv.specs.Sources as csv_sources
use Rattle.df_csv.specs.Sources.{CsvParts}
use Rattle.df_csv.specs.Typed.{piece_from, piece_count, piece_of, rows_typed}
use Rattle.df_jobs.specs.Jobs.{jobs_from, numbered}
use Rattle.df_jobs.specs.Loaded.{job_rows, made_rows}
use Rattle.df_app.specs.Loading.{jobs_of_sources}
use Rattle.df_app.proofs.RisingRows.{Rows, Rise, From, Below, rise-append, from-append, from-less, enumerated-rise, enumerated-from, enumerated-below}

-- the rows of one frame's jobs
abbrev pub rows_given : List (ℕ × Piece) → Rows
rows_given c = flat_map (λ x. made_rows x.1) c

if-rows : (b : Bool) (c : List (ℕ × Piece)) → flat_map (λ x. cond b (made_rows x.1) []) c ≡ cond b (rows_given c) []
if-rows true c = refl
if-rows false [] = refl
if-rows false (x ∷ xs) = if-rows false xs

one-frame : (i f : ℕ) (c : List (ℕ × Piece)) → flat_map (job_rows i) (map (λ x. (f, x)) c) ≡ cond (f == i) (rows_given c) []
one-frame i f c = flat_map-map (job_rows i) (λ x. (f, x)) c ∙ if-rows (f == i) c

none-here : (b : Bool) (f i : ℕ) (rows : Rows) → (f == i) ≡ b → i < f → cond b rows [] ≡ []
none-here true f i rows e lt = let same = eqb-true f i e in absurd (omega (arith, lt, same))
none-here false f i rows e lt = refl

-- frames behind give nothing
behind : (i f : ℕ) (cs : List (List (ℕ × Piece))) → i < f → flat_map (job_rows i) (jobs_from f cs) ≡ []
behind i f [] lt = refl
behind i f (c ∷ cs) lt =
    flat_map-append (job_rows i) (map (λ x. (f, x)) c) (jobs_from (f + 1) cs)
    ∙ (ap (λ xs. xs ++ flat_map (job_rows i) (jobs_from (f + 1) cs)) (one-frame i f c ∙ none-here (f == i) f i (rows_given c) refl lt)
    ∙ behind i (f + 1) cs (omega (arith, lt)))

eqb-same : (n : ℕ) → (n == n) ≡ true
eqb-same n = eq-eqb n n refl

eqb-more : (f k : ℕ) → (f == f + suc k) ≡ false
eqb-more f k = ne_eqb f (f + suc k) (λ e. omega (arith, e))

nothing-behind : {X : Type 0} (xs : List X) → xs ++ [] ≡ xs
nothing-behind [] = refl
nothing-behind (x ∷ xs) = ap (λ ys. x ∷ ys) (nothing-behind xs)

frame-rows : (k f : ℕ) (cs : List (List (ℕ × Piece))) (c : List (ℕ × Piece)) → slice_get cs k ≡ Some c →
    flat_map (job_rows (f + k)) (jobs_from f cs) ≡ rows_given c
frame-rows k f [] c h = absurd (cc)
frame-rows zero f (d ∷ cs) c h =
    let same : d ≡ c = cc in
    let at : f + zero ≡ f = omega arith in
    subst (λ (i : ℕ). flat_map (job_rows i) (jobs_from f (d ∷ cs)) ≡ rows_given c) (sym at)
    (flat_map-append (job_rows f) (map (λ x. (f, x)) d) (jobs_from (f + 1) cs)
    ∙ (ap (λ xs. xs ++ flat_map (job_rows f) (jobs_from (f + 1) cs)) (one-frame f f d ∙ ap (λ (b : Bool). cond b (rows_given d) []) (eqb-same f))
    ∙ (ap (λ xs. rows_given d ++ xs) (behind f (f + 1) cs (omega arith)) ∙ (nothing-behind (rows_given d) ∙ ap rows_given same))))
frame-rows (suc k) f (d ∷ cs) c h =
    let next : (f + 1) + k ≡ f + suc k = omega arith in
    flat_map-append (job_rows (f + suc k)) (map (λ x. (f, x)) d) (jobs_from (f + 1) cs)
    ∙ (ap (λ xs. xs ++ flat_map (job_rows (f + suc k)) (jobs_from (f + 1) cs))
    (one-frame (f + suc k) f d ∙ ap (λ (b : Bool). cond b (rows_given d) []) (eqb-more f k))
    ∙ subst (λ (i : ℕ). flat_map (job_rows i) (jobs_from (f + 1) cs) ≡ rows_given c) next (frame-rows k (f + 1) cs c h))

-- the rows of the pieces of a source
numbered-rows : (start : ℕ → ℕ) (n : ℕ) (ps : List Piece) → rows_given (numbered start n ps) ≡ flat_map made_rows ps
numbered-rows start n [] = refl
numbered-rows start n (p ∷ ps) = ap (λ xs. made_rows p ++ xs) (numbered-rows start (n + 1) ps)

cells-enumerated : (a : ℕ) (xs : List (List Cell)) → map (λ r. r.1) (enumerate_from a xs) ≡ xs
cells-enumerated a [] = refl
cells-enumerated a (x ∷ xs) = ap (λ ys. x ∷ ys) (cells-enumerated (a + 1) xs)

pub cells-of-pieces : (ps : List Piece) → map (λ r. r.1) (flat_map made_rows ps) ≡ rows_of_pieces ps
cells-of-pieces [] = refl
cells-of-pieces (made.Good c ∷ ps) =
    map-append (λ (r : ℕ × List Cell). r.1) (enumerate_from c.first c.rows) (flat_map made_rows ps)
    ∙ (ap (λ xs. xs ++ map (λ r. r.1) (flat_map made_rows ps)) (cells-enumerated c.first c.rows) ∙ ap (λ xs. c.rows ++ xs) (cells-of-pieces ps))
cells-of-pieces (made.Bad b ∷ ps) = cells-of-pieces ps

-- the jobs of sources give to the frame of a source the rows of its pieces
pub source-rows : (sources : List CsvParts) (i : ℕ) (s : CsvParts) → slice_get sources i ≡ Some s →
    flat_map (job_rows i) (jobs_of_sources sources) ≡ flat_map made_rows (csv_sources.chunks_of s)
source-rows sources i s h =
    let of : CsvParts → List (ℕ × Piece) = λ x. numbered (csv_sources.start_of x) 0 (csv_sources.chunks_of x) in
    let at : 0 + i ≡ i = omega arith in
    subst (λ (j : ℕ). flat_map (job_rows j) (jobs_of_sources sources) ≡ rows_given (of s)) at
    (frame-rows i 0 (map of sources) (of s) (slice_get-map of sources i ∙ ap (option_map of) h))
    ∙ numbered-rows (csv_sources.start_of s) 0 (csv_sources.chunks_of s)

-- the rows of a piece that begins there and has at most so many records
pub record Fits (first k : ℕ) (rows : Rows) : Type 0 where
  pub rise : Rise rows
  pub from : From first rows
  pub below : Below (first + k) rows

typed-fits : (columns : Columns) (first k : ℕ) (records : FieldRows) (t : TypedRows) → rows_typed columns (first + 1) records ≡ t → length records ≤ k →
    Fits first k (made_rows (piece_from columns first t))
typed-fits columns first k records (all.Good rows) e few =
    let long = good_length columns (first + 1) records rows e in
    record {
      rise = enumerated-rise first rows;
      from = enumerated-from first first rows (omega arith);
      below = enumerated-below (first + k) first rows (omega (arith, few, long));
    }
typed-fits columns first k records (all.Bad cell) e few = record { rise = tt; from = tt; below = tt }

piece-fits : (columns : Columns) (k : ℕ) (records : FieldRows) (n : ℕ) → Fits (n * k) k (made_rows (piece_of columns (n * k) (take k (drop (n * k) records))))
piece-fits columns k records n =
    let long = length-take k (drop (n * k) records) in
    typed-fits columns (n * k) k (take k (drop (n * k) records)) _ refl (grind (arith, long))

pieces-rise : (g : ℕ → Rows) (k : ℕ) (all : (n : ℕ) → Fits (n * k) k (g n)) (a m : ℕ) → Rise (flat_map g (range_with_len a m)) × From (a * k) (flat_map g (range_with_len a m))
pieces-rise g k all a zero = (tt, tt)
pieces-rise g k all a (suc m) =
    let later = pieces-rise g k all (a + 1) m in
    let next : (a + 1) * k ≡ a * k + k = ap (λ n. n * k) (omega arith) ∙ suc-mul a k in
    let rest = flat_map g (range_with_len (a + 1) m) in
    let from : From (a * k + k) rest = subst (λ (n : ℕ). From n rest) next later.1 in (
      rise-append (a * k + k) (g a) rest (all a).rise (all a).below later.0 from,
      from-append (a * k) (g a) rest (all a).from (from-less (a * k) (a * k + k) rest (omega arith) from),
    )

-- they rise
pub source-rises : (s : CsvParts) → Rise (flat_map made_rows (csv_sources.chunks_of s))
source-rises s =
    let piece : ℕ → Piece = λ n. piece_of s.schema (n * s.size) (take s.size (drop (n * s.size) s.records)) in
    let count = piece_count s.size (length s.records) in
    subst Rise (sym (flat_map-map made_rows piece (range_with_len 0 count)))
    (pieces-rise (λ n. made_rows (piece n)) s.size (piece-fits s.schema s.size s.records) 0 count).0
