-- A frame of which not all rows are found has other rows than the jobs give to it, in whatever order of the jobs.
use Rattle.std.proofs.Common.{◌≡◌, ◌≢◌, ◌∙◌, ℕ, zero, suc, ◌+◌, ◌-◌, ◌<◌, ◌≤◌, Bool, true, false, List, [], ◌∷◌, ◌++◌, ap, arith, drop, get_or, length, length-append, map, refl, subst, sym, take}
use Rattle.std.specs.Prelude.{IfSome, IsSomeAnd, None, Option, Some, if◌then◌else◌, nat_lt, not, option_and_then, option_map, slice_get, unwrap_or, ◌==◌}
use Rattle.std.specs.List.{AllZip, enumerate_from, list_all}
use Rattle.std.specs.List.Sorted.{IsNonDecreasingBy, IsPermutation}
use Rattle.std.proofs.lemmas.Bool.{and_parts, ltb-true}
use Rattle.std.proofs.lemmas.List.Sorted.{All-permutation, IsPermutation-map, IsPermutation-sym, IsPermutation-trans}
use Rattle.std.proofs.lemmas.Option.{slice_get-get_or}
use Rattle.df_value.specs.declared.cell.Cell.{Cell}
use Rattle.df_value.specs.declared.chunk.Piece.{Piece}
use Rattle.df_value.specs.declared.chunk.Piece.TheVariants.{Bad, Good}
use Rattle.df_frame.specs.Frames.{IsFrame, IsNumbered}
use Rattle.df_frame.specs.Numbers.{has_number, is_rising}
use Rattle.df_state.specs.Pictures.{IsPictureOfLegal, PictureParts, picture_of}
use Rattle.df_frame.specs.declared.state.FrameState.{FrameState}
use Rattle.df_state.specs.declared.state.State.{State}
use Rattle.df_frame.proofs.Rising.{rising-filter}
use Rattle.std.proofs.lemmas.List.Filters.{length-filter_both}
use Rattle.df_state.proofs.ListFacts.{found}
use Rattle.df_jobs.specs.declared.expected.Expected.{Expected}
use Rattle.df_jobs.specs.declared.jobs.Outcome.{Outcome}
use Rattle.df_jobs.specs.Expected.{AreExpected, HasAll, IsFound, StandsAt, most_of_usize, rows_at}
use Rattle.df_jobs.specs.Jobs.{AreBegun, BeginsAt, job_of}
use Rattle.df_jobs.specs.Loaded.{IsLoaded, IsUnlike, IsUnlikeIn, job_rows, made_rows}
use Rattle.df_jobs.proofs.JobFacts.{append-above, append-below}
use Rattle.df_state.proofs.ListFacts.{length-mapped, map-at}
use Rattle.df_jobs.proofs.RowFacts.{behind, flat-mapped, map-some}
use Rattle.df_jobs.proofs.SortedOrders.{AreInOrder, Follow, Rises, in-order}

-- ---- the rows of a legal picture

zip-at : {A B : Type 0} (R : A → B → Type 0) (xs : List A) (ys : List B) (k : ℕ) (y : B) → AllZip R xs ys → slice_get ys k ≡ Some y → (x : A) × R x y
zip-at R [] [] k y all h = absurd (cc)
zip-at R [] (z ∷ ys) k y all h = absurd all
zip-at R (x ∷ xs) [] k y all h = absurd all
zip-at R (x ∷ xs) (z ∷ ys) zero y all h = (x, subst (R x) (ap (λ o. unwrap_or o z) h) all.0)
zip-at R (x ∷ xs) (z ∷ ys) (suc k) y all h = zip-at R xs ys k y all.1 h

rises-above : (n : ℕ) (rows : List (ℕ × List Cell)) → list_all (λ m. nat_lt n m) (map (λ r. r.0) rows) ≡ true → is_rising (map (λ r. r.0) rows) ≡ true → Rises (n + 1) rows
rises-above n [] h g = tt
rises-above n (r ∷ rows) h g =
    let a = and_parts (nat_lt n r.0) (list_all (λ m. nat_lt n m) (map (λ (q : ℕ × List Cell). q.0) rows)) h in
    let b = and_parts (list_all (λ m. nat_lt r.0 m) (map (λ (q : ℕ × List Cell). q.0) rows)) (is_rising (map (λ (q : ℕ × List Cell). q.0) rows)) g in
    let lt = ltb-true n r.0 a.0 in
    (omega (arith, lt), rises-above r.0 rows b.0 b.1)

rises : (rows : List (ℕ × List Cell)) → is_rising (map (λ r. r.0) rows) ≡ true → Rises 0 rows
rises [] g = tt
rises (r ∷ rows) g =
    let b = and_parts (list_all (λ m. nat_lt r.0 m) (map (λ (q : ℕ × List Cell). q.0) rows)) (is_rising (map (λ (q : ℕ × List Cell). q.0) rows)) g in
    (omega arith, rises-above r.0 rows b.0 b.1)

numbered-rows : (f : FrameState) → IsNumbered f → Rises 0 f.rows × (length f.rows < most_of_usize)
numbered-rows f numbered =
    let left = numbered.left in
    let many = length-mapped (λ (r : ℕ × List Cell). r.0) f.rows in
    let same = ap length left in
    let short = length-filter_both (λ n. not (has_number f.deleted n)) (λ n. not (not (has_number f.deleted n))) (λ n. refl) f.accepted in
    let few = numbered.few in
    (rises f.rows (ap is_rising left ∙ rising-filter (λ n. not (has_number f.deleted n)) f.accepted numbered.rising), omega (arith, many, same, short, few))

picture-rows : (p : PictureParts) → IsPictureOfLegal p → (frame : ℕ) (rows : List (ℕ × List Cell)) → slice_get p.frames frame ≡ Some rows → Rises 0 rows × (length rows < most_of_usize)
picture-rows p legal frame rows is =
    let s = legal.0 in
    let at : slice_get (map (λ (f : FrameState). f.rows) s.frames) frame ≡ Some rows = sym (ap (λ (q : PictureParts). slice_get q.frames frame) legal.2) ∙ is in
    let there = map-some (λ (f : FrameState). f.rows) (slice_get s.frames frame) rows (sym (map-at (λ (f : FrameState). f.rows) s.frames frame) ∙ at) in
    let sound = zip-at IsFrame s.schemas s.frames frame there.0 legal.1.frames there.1 in
    subst (λ rs. Rises 0 rs × (length rs < most_of_usize)) there.2 (numbered-rows there.0 sound.1.numbered)

-- ---- the outcomes in order

rows-follow : (n : ℕ) (rows : List (List Cell)) → Follow n (enumerate_from n rows)
rows-follow n [] = tt
rows-follow n (row ∷ rows) = (refl, rows-follow (n + 1) rows)

made-follow : (n : ℕ) (piece : Piece) → BeginsAt n piece → Follow n (made_rows piece)
made-follow n (Good c) h = subst (λ m. Follow m (enumerate_from c.first c.rows)) h (rows-follow c.first c.rows)
made-follow n (Bad b) h = tt

job-follows : (n : ℕ) (piece : Piece) (b : Bool) → BeginsAt n piece → Follow n (if b then made_rows piece else [])
job-follows n piece true h = made-follow n piece h
job-follows n piece false h = tt

ordered : (frame n : ℕ) (os : List Outcome) → IsNonDecreasingBy (λ o. o.first) os → AreBegun os → ((d : Outcome) → 0 < length os → n ≤ (get_or os 0 d).first) → AreInOrder (job_rows frame) (λ j. j.1.0) n (map job_of os)
ordered frame n [] up begun low = tt
ordered frame n (o ∷ os) up begun low = (
  low o (omega arith),
  job-follows o.first o.made (o.frame == frame) (begun 0 o (omega arith)),
  ordered frame o.first os
      (λ i j d le lt. up (suc i) (suc j) d (omega (arith, le)) (omega (arith, lt)))
      (λ k d lt. begun (suc k) d (omega (arith, lt)))
      (λ d some. up 0 1 d (omega arith) (omega (arith, some))),
)

-- ---- rows that stand among those of a frame

stands-between :
    (p : PictureParts) (frame : ℕ) (rows xs ys zs : List (ℕ × List Cell)) → slice_get p.frames frame ≡ Some rows → rows ≡ xs ++ (ys ++ zs) →
    StandsAt p frame (length xs) ys
stands-between p frame rows xs ys zs is split = record {
  reach =
      let a = ap length split in
      let b = length-append xs (ys ++ zs) in
      let c = length-append ys zs in
      subst (λ o. IsSomeAnd (option_map length o) (λ n. length xs + length ys ≤ n)) (sym is) (omega (arith, a, b, c));
  has = record {
    at = λ j r h.
        let low = (found ys j r h).0 in
        let at : (length xs + j) - length xs ≡ j = omega arith in
        ap (option_and_then (λ rs. slice_get rs (length xs + j))) is
        ∙ (ap (λ rs. slice_get rs (length xs + j)) split
        ∙ (append-above xs (ys ++ zs) (length xs + j) (omega arith)
        ∙ (ap (slice_get (ys ++ zs)) at
        ∙ (append-below ys zs j low ∙ h))));
  };
}

rows-split :
    (frame : ℕ) (os : List Outcome) (i : ℕ) (o : Outcome) → slice_get os i ≡ Some o →
    rows_at frame os ≡ rows_at frame (take i os) ++ (job_rows frame (job_of o) ++ rows_at frame (drop (i + 1) os))
rows-split frame [] i o h = absurd (cc)
rows-split frame (x ∷ os) zero o h = ap (λ (y : Outcome). job_rows frame (job_of y) ++ rows_at frame os) (ap (λ q. unwrap_or q x) h)
rows-split frame (x ∷ os) (suc i) o h =
    let e : suc (i + 1) ≡ suc i + 1 = omega arith in
    let rest = job_rows frame (job_of o) ++ rows_at frame (drop (i + 1) os) in
    ap (λ rows. job_rows frame (job_of x) ++ rows) (rows-split frame os i o h)
    ∙ (behind (job_rows frame (job_of x)) (rows_at frame (take i os)) rest
    ∙ ap (λ k. (job_rows frame (job_of x) ++ rows_at frame (take i os)) ++ (job_rows frame (job_of o) ++ rows_at frame (drop k (x ∷ os)))) e)

outcome-there : (os : List Outcome) (es : List Expected) (k : ℕ) (d : Expected) (o : Outcome) → map (λ e. e.outcome) es ≡ map (λ o. Some o) os → k < length es → (get_or es k d).outcome ≡ Some o → slice_get os k ≡ Some o
outcome-there os es k d o same lt is =
    let here : option_map (λ (x : Outcome). Some x) (slice_get os k) ≡ Some (Some o) =
    sym (map-at (λ (x : Outcome). Some x) os k)
    ∙ (ap (λ xs. slice_get xs k) (sym same)
    ∙ (map-at (λ (e : Expected). e.outcome) es k
    ∙ (ap (option_map (λ (e : Expected). e.outcome)) (slice_get-get_or es k d lt) ∙ ap Some is))) in
    let x = map-some (λ (x : Outcome). Some x) (slice_get os k) (Some o) here in
    x.1 ∙ x.2

module _ (p : PictureParts) (frames : ℕ) (before os : List Outcome) (was now : List Expected) (counts : List ℕ) (expected : AreExpected frames os was counts) (len : length now ≡ length was)
    (each : (at : ℕ) (d : Expected) → at < length was → IsFound p (get_or was at d) (get_or now at d)) (many : frames ≡ length p.frames) (same : IsPermutation before os) where
  -- no outcome is left of a frame that has the rows of all in their order
  none-left :
      (frame : ℕ) (rows : List (ℕ × List Cell)) → slice_get p.frames frame ≡ Some rows → rows ≡ rows_at frame os → frame < frames → get_or counts frame 0 < most_of_usize →
      (k : ℕ) (d : Expected) → k < length now → (x : Option Outcome) → (get_or now k d).outcome ≡ x → IfSome x (λ o. o.frame ≢ frame)
  none-left frame rows is whole inside less k d low None left = tt
  none-left frame rows is whole inside less k d low (Some o) left = λ of_frame.
      let low_was : k < length was = omega (arith, low, len) in
      let out = expected.len in
      let finding =
      subst (λ x. IfSome x (λ y. ((get_or was k d).outcome ≡ Some y) × (StandsAt p y.frame (get_or was k d).place (job_rows y.frame (job_of y)) → ⊥))) left (each k d low_was).left in
      let there = outcome-there os was k d o expected.outcomes low_was finding.0 in
      let mine : get_or os k o ≡ o = (found os k o there).1 in
      let placed = (expected.counted frame inside).each less k o d (omega (arith, low_was, out)) (ap (λ (z : Outcome). z.frame) mine ∙ of_frame) in
      let place : (get_or was k d).place ≡ length (rows_at frame (take k os)) =
      placed.place ∙ ap (λ n. length (rows_at n (take k os))) (ap (λ (z : Outcome). z.frame) mine ∙ of_frame) in
      let stand =
      stands-between p frame rows (rows_at frame (take k os)) (job_rows frame (job_of o)) (rows_at frame (drop (k + 1) os)) is (whole ∙ rows-split frame os k o there) in
      finding.1
      (subst (λ n. StandsAt p n (get_or was k d).place (job_rows n (job_of o))) (sym of_frame)
      (subst (λ n. StandsAt p frame n (job_rows frame (job_of o))) (sym place) stand))

  all-there :
      (frame : ℕ) (rows : List (ℕ × List Cell)) → slice_get p.frames frame ≡ Some rows → length rows < most_of_usize → rows ≡ rows_at frame os →
      HasAll p frame now (get_or counts frame 0)
  all-there frame rows is few whole =
      let low = (found p.frames frame rows is).0 in
      let inside : frame < frames = omega (arith, low, many) in
      let sum = (expected.counted frame inside).rows in
      let long = ap length whole in
      let count : length rows ≡ get_or counts frame 0 = omega (arith, sum, long, few) in
      let less : get_or counts frame 0 < most_of_usize = omega (arith, count, few) in
      record {
        less = less;
        rows = ap (option_map length) is ∙ ap Some count;
        none = λ k d at. none-left frame rows is whole inside less k d at (get_or now k d).outcome refl;
      }

  -- a frame of which not all rows are found is not loaded
  pub frame-unlike :
      IsPictureOfLegal p → AreBegun before → IsNonDecreasingBy (λ o. o.first) os → (frame : ℕ) → (HasAll p frame now (get_or counts frame 0) → ⊥) → (rows : List (ℕ × List Cell)) →
      slice_get p.frames frame ≡ Some rows → IsLoaded frame (map job_of before) rows → ⊥
  frame-unlike legal begun order frame missing rows is l =
      let sound = picture-rows p legal frame rows is in
      let jobs = map job_of before in
      let sorted = map job_of os in
      let moved =
      IsPermutation-trans l.order jobs sorted (IsPermutation-sym jobs l.order l.same) (IsPermutation-map job_of before os same) in
      let in_order = ordered frame 0 os order (All-permutation (λ (o : Outcome). BeginsAt o.first o.made) before os same begun) (λ d some. omega arith) in
      missing (all-there frame rows is sound.1 (in-order (job_rows frame) (λ j. j.1.0) 0 rows l.order sorted sound.0 l.is moved in_order ∙ sym (flat-mapped (job_rows frame) job_of os)))

-- a frame that is unlike in the picture of a state is unlike in the state
pub unlike-of-picture : (jobs : List (ℕ × (ℕ × Piece))) (p : PictureParts) (s : State) (frame : ℕ) → p ≡ picture_of s → IsUnlikeIn jobs p frame → IsUnlike jobs s frame
unlike-of-picture jobs p s frame e u = record {
  within = let low = u.within in let many = ap (λ (q : PictureParts). length q.frames) e in let same = length-mapped (λ (f : FrameState). f.rows) s.frames in omega (arith, low, many, same);
  unlike = λ f h. u.unlike f.rows (there frame f h);
  before = λ k f lt h. u.before k f.rows lt (there k f h);
} where
  there : (k : ℕ) (f : FrameState) → slice_get s.frames k ≡ Some f → slice_get p.frames k ≡ Some f.rows
  there k f h = ap (λ (q : PictureParts). slice_get q.frames k) e ∙ (map-at (λ (g : FrameState). g.rows) s.frames k ∙ ap (option_map (λ (g : FrameState). g.rows)) h)
