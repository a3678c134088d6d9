-- What is expected of frames, and what was found.
use Rattle.std.proofs.Common.{◌≡◌, ◌≢◌, ℕ, zero, suc, ◌+◌, ◌<◌, ◌≤◌, ◌∙◌, List, [], ◌∷◌, ◌++◌, map, length, take, get_or, refl, ap, sym, subst, arith, length-append}
use Rattle.std.specs.Prelude.{Some, IfSome, min, option_map, slice_get, unwrap_or, ◌⊎◌}
use Rattle.std.specs.List.Sorted.{IsPermutation}
use mathlib.Core.Logic.{inl, inr}
use Rattle.std.proofs.Math.ListN.{get_or-append}
use Rattle.std.proofs.Math.Seq.{get_or-append_seam, take-append_seam}
use Rattle.std.proofs.lemmas.List.{take-append-le}
use Rattle.df_value.specs.declared.cell.Cell.{Cell}
use Rattle.df_state.specs.Pictures.{PictureParts}
use Rattle.df_state.proofs.ListFacts.{found, item-at, map-more}
use Rattle.df_jobs.specs.declared.expected.Expected.{Expected}
use Rattle.df_jobs.specs.declared.jobs.Outcome.{Outcome}
use Rattle.df_jobs.specs.Expected.{AreExpected, HasAll, IsCounted, IsExpected, IsFound, most_of_usize, rows_at}
use Rattle.df_jobs.specs.Jobs.{job_of}
use Rattle.df_jobs.specs.Loaded.{AreLoadedIn, HasRows, IsLoaded, job_rows}
use Rattle.df_jobs.proofs.RowFacts.{all-rows, flat-more, loaded}

nothing : 0 ≡ min 0 most_of_usize
nothing = omega arith

-- a sum that stays below a number has parts that do
below : (a n most c : ℕ) → c ≡ min (a + n) most → c < most → (a < most) × (c ≡ a + n)
below a n most c is less = omega (arith, is, less)

pub place-cases : (at n : ℕ) → at ≤ n → (at < n) ⊎ (at ≡ n)
place-cases zero zero h = inr refl
place-cases zero (suc n) h = inl (omega arith)
place-cases (suc at) zero h = absurd (omega (arith, h))
place-cases (suc at) (suc n) h =
    elim (place-cases at n (omega (arith, h))) [
      | inl low ↦ inl (omega (arith, low))
      | inr e ↦ inr (ap suc e)
    ]

-- one more outcome of a frame or of another
counted-more :
    (frame : ℕ) (os : List Outcome) (es : List Expected) (count next place : ℕ) (o : Outcome) → length es ≡ length os → IsCounted frame os es count →
    (o.frame ≡ frame → place ≡ count) → next ≡ min (count + length (job_rows frame (job_of o))) most_of_usize →
    IsCounted frame (os ++ o ∷ []) (es ++ record { outcome = Some o; place = place } ∷ []) next
counted-more frame os es count next place o len was placed sum = record {
  rows =
      let c = was.rows in
      let m = ap length (flat-more (λ x. job_rows frame (job_of x)) os o) in
      let l = length-append (rows_at frame os) (job_rows frame (job_of o)) in
      omega (arith, sum, c, m, l);
  each = λ less at d e h of_frame.
      let b = below count (length (job_rows frame (job_of o))) most_of_usize next sum less in
      let l = length-append os (o ∷ []) in
      elim (place-cases at (length os) (omega (arith, h, l))) [
        | inl low ↦ (
            let x = get_or-append os (o ∷ []) d at low in
            let y = get_or-append es (record { outcome = Some o; place = place } ∷ []) e at (omega (arith, low, len)) in
            let t = take-append-le at os (o ∷ []) (omega (arith, low)) in
            let one = was.each b.0 at d e low (ap (λ (z : Outcome). z.frame) (sym x) ∙ of_frame) in
            record {
              outcome = ap (λ (z : Expected). z.outcome) y ∙ (one.outcome ∙ ap Some (sym x));
              place = ap (λ (z : Expected). z.place) y ∙ (one.place ∙ (ap (λ (z : Outcome). length (rows_at z.frame (take at os))) (sym x) ∙ ap (λ zs. length (rows_at (get_or (os ++ o ∷ []) at d).frame zs)) (sym t)));
            })
        | inr e2 ↦ (
            let x : get_or (os ++ o ∷ []) at d ≡ o = ap (λ n. get_or (os ++ o ∷ []) n d) e2 ∙ get_or-append_seam os o [] d in
            let y : get_or (es ++ record { outcome = Some o; place = place } ∷ []) at e ≡ record { outcome = Some o; place = place } =
            ap (λ n. get_or (es ++ record { outcome = Some o; place = place } ∷ []) n e) (e2 ∙ sym len) ∙ get_or-append_seam es (record { outcome = Some o; place = place }) [] e in
            let t : take at (os ++ o ∷ []) ≡ os = ap (λ n. take n (os ++ o ∷ [])) e2 ∙ take-append_seam os (o ∷ []) in
            let whole : count ≡ length (rows_at frame os) = let c = was.rows in let less = b.0 in omega (arith, c, less) in
            let f : o.frame ≡ frame = ap (λ (z : Outcome). z.frame) (sym x) ∙ of_frame in
            record {
              outcome = ap (λ (z : Expected). z.outcome) y ∙ ap Some (sym x);
              place = ap (λ (z : Expected). z.place) y ∙ (placed f ∙ (whole ∙ (ap (λ n. length (rows_at n os)) (sym of_frame) ∙ ap (λ zs. length (rows_at (get_or (os ++ o ∷ []) at d).frame zs)) (sym t))));
            })
      ];
}

-- one more outcome
pub expected-more :
    (frames : ℕ) (os : List Outcome) (es : List Expected) (counts now : List ℕ) (place : ℕ) (o : Outcome) → AreExpected frames os es counts →
    length now ≡ length counts → (o.frame < length counts → place ≡ get_or counts o.frame 0) →
    ((frame : ℕ) → frame < length counts → get_or now frame 0 ≡ min (get_or counts frame 0 + length (job_rows frame (job_of o))) most_of_usize) →
    AreExpected frames (os ++ o ∷ []) (es ++ record { outcome = Some o; place = place } ∷ []) now
expected-more frames os es counts now place o was many placed added = record {
  len =
      let a = length-append es (record { outcome = Some o; place = place } ∷ []) in
      let b = length-append os (o ∷ []) in
      let c = was.len in
      omega (arith, a, b, c);
  outcomes =
      map-more (λ (e : Expected). e.outcome) es (record { outcome = Some o; place = place })
      ∙ (ap (λ xs. xs ++ Some o ∷ []) was.outcomes
      ∙ sym (map-more (λ (x : Outcome). Some x) os o));
  many = many ∙ was.many;
  counted = λ frame low.
      let inside : frame < length counts = subst (λ n. frame < n) (sym was.many) low in
      counted-more frame os es (get_or counts frame 0) (get_or now frame 0) place o was.len (was.counted frame low)
      (λ is. placed (subst (λ n. n < length counts) (sym is) inside) ∙ ap (λ n. get_or counts n 0) is) (added frame inside);
}

-- an outcome that was expected, and is left no more, stands
stands :
    (p : PictureParts) (frame : ℕ) (before : List Outcome) (o : Outcome) (was now : Expected) → o.frame ≡ frame → IsExpected before o was → IsFound p was now →
    IfSome now.outcome (λ x. x.frame ≢ frame) → HasRows p frame (length (rows_at frame before)) (job_rows frame (job_of o))
stands p frame before o was now of_frame is finding left =
    elim (subst (λ x. IfSome x (λ y. (now.outcome ≡ Some y) ⊎ HasRows p y.frame was.place (job_rows y.frame (job_of y)))) is.outcome finding.found) [
      | inl there ↦ absurd (subst (λ x. IfSome x (λ y. y.frame ≢ frame)) there left of_frame)
      | inr has ↦ subst (λ n. HasRows p n (length (rows_at n before)) (job_rows n (job_of o))) of_frame (subst (λ n. HasRows p o.frame n (job_rows o.frame (job_of o))) is.place has)
    ]

module _ (p : PictureParts) (frames : ℕ) (before os : List Outcome) (was now : List Expected) (counts : List ℕ) (expected : AreExpected frames os was counts) (len : length now ≡ length was)
    (each : (at : ℕ) (d : Expected) → at < length was → IsFound p (get_or was at d) (get_or now at d)) (many : frames ≡ length p.frames) (same : IsPermutation before os) where
  -- a frame of which all were found is loaded
  pub frame-found : (frame : ℕ) (rows : List (ℕ × List Cell)) → slice_get p.frames frame ≡ Some rows → HasAll p frame now (get_or counts frame 0) → IsLoaded frame (map job_of before) rows
  frame-found frame rows is has =
      let low = (found p.frames frame rows is).0 in
      let inside : frame < frames = omega (arith, low, many) in
      let counted = expected.counted frame inside in
      let sum = counted.rows in
      let less = has.less in
      let whole : get_or counts frame 0 ≡ length (rows_at frame os) = omega (arith, sum, less) in
      loaded frame before os rows same (all-rows p frame rows os is (ap (λ o. unwrap_or o 0) (sym (ap (option_map length) is) ∙ has.rows) ∙ whole) (λ at d h of_frame.
      let l = expected.len in
      let low2 : at < length was = omega (arith, h, l) in
      let x = (item-at was at low2).0 in
      stands p frame (take at os) (get_or os at d) (get_or was at x) (get_or now at x) of_frame (counted.each has.less at d x h of_frame)
      (each at x low2) (has.none at x (omega (arith, low2, len)))))

  -- where all of all frames were, each frame is
  pub all-found : ((frame : ℕ) → frame < length counts → HasAll p frame now (get_or counts frame 0)) → AreLoadedIn (map job_of before) p
  all-found all = λ frame rows is.
      let low = (found p.frames frame rows is).0 in
      frame-found frame rows is (all frame (omega (arith, low, many, expected.many)))
