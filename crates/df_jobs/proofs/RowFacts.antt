-- The rows of chunks that stand in a frame, one chunk after another.
use Rattle.std.proofs.Common.{◌≡◌, true, false, Bool, ℕ, zero, suc, ◌+◌, ◌<◌, ◌≤◌, ◌∙◌, List, [], ◌∷◌, ◌++◌, map, length, take, get_or, refl, ap, sym, subst, arith}
use Rattle.std.specs.Prelude.{Option, Some, None, option_map, option_and_then, slice_get, unwrap_or, flat_map, if◌then◌else◌, ◌⊎◌, ◌==◌}
use Rattle.std.specs.List.{enumerate_from}
use Rattle.std.specs.List.Sorted.{IsPermutation}
use mathlib.Core.Logic.{inl, inr}
use Rattle.std.proofs.lemmas.Bool.{eqb-true}
use Rattle.std.proofs.lemmas.List.Sorted.{IsPermutation-map}
use Rattle.df_value.specs.declared.cell.Cell.{Cell}
use Rattle.df_value.specs.Chunks.{ChunkParts}
use Rattle.df_state.specs.Pictures.{AreRowsIn, PictureParts, row_in}
use Rattle.df_state.proofs.ListFacts.{found, item-at, take-more}
use Rattle.df_jobs.specs.declared.jobs.Outcome.{Outcome}
use Rattle.df_jobs.specs.Expected.{rows_at}
use Rattle.df_jobs.specs.Jobs.{job_of}
use Rattle.df_jobs.specs.Loaded.{HasRows, IsLoaded, chunk_rows, job_rows, made_rows}
use Rattle.df_state.proofs.ListFacts.{none-past, past, same-items, take-all}

nothing-behind : {X : Type 0} (xs : List X) → xs ++ [] ≡ xs
nothing-behind [] = refl
nothing-behind (x ∷ xs) = ap (λ ys. x ∷ ys) (nothing-behind xs)

pub behind : {X : Type 0} (xs ys zs : List X) → xs ++ (ys ++ zs) ≡ (xs ++ ys) ++ zs
behind [] ys zs = refl
behind (x ∷ xs) ys zs = ap (λ ws. x ∷ ws) (behind xs ys zs)

pub flat-more : {X Y : Type 0} (f : X → List Y) (xs : List X) (x : X) → flat_map f (xs ++ x ∷ []) ≡ flat_map f xs ++ f x
flat-more f [] x = nothing-behind (f x)
flat-more f (y ∷ ys) x = ap (λ zs. f y ++ zs) (flat-more f ys x) ∙ behind (f y) (flat_map f ys) (f x)

pub length-enumerate : {X : Type 0} (a : ℕ) (xs : List X) → length (enumerate_from a xs) ≡ length xs
length-enumerate a [] = refl
length-enumerate a (x ∷ xs) = let h = length-enumerate (a + 1) xs in omega (arith, h)

pub enumerate-at : {X : Type 0} (a : ℕ) (xs : List X) (k : ℕ) → slice_get (enumerate_from a xs) k ≡ option_map (λ x. (a + k, x)) (slice_get xs k)
enumerate-at a [] k = refl
enumerate-at a (x ∷ xs) zero = let e : a ≡ a + zero = omega arith in ap (λ n. Some (n, x)) e
enumerate-at a (x ∷ xs) (suc k) =
    let e : (a + 1) + k ≡ a + suc k = omega arith in
    enumerate-at (a + 1) xs k ∙ ap (λ n. option_map (λ x. (n, x)) (slice_get xs k)) e

pub append-cases : {X : Type 0} (xs ys : List X) (k : ℕ) (r : X) → slice_get (xs ++ ys) k ≡ Some r → (slice_get xs k ≡ Some r) ⊎ ((j : ℕ) × (k ≡ length xs + j) × (slice_get ys j ≡ Some r))
append-cases [] ys k r h = inr (k, omega arith, h)
append-cases (x ∷ xs) ys zero r h = inl h
append-cases (x ∷ xs) ys (suc k) r h =
    elim (append-cases xs ys k r h) [
      | inl e ↦ inl e
      | inr e ↦ (let same = e.1 in inr (e.0, omega (arith, same), e.2))
    ]

pub map-some : {X Y : Type 0} (f : X → Y) (o : Option X) (y : Y) → option_map f o ≡ Some y → (x : X) × (o ≡ Some x) × (f x ≡ y)
map-some f None y h = absurd (cc)
map-some f (Some x) y h = (x, refl, ap (λ o. unwrap_or o y) h)

-- the rows of a chunk that stand under numbers which rise from its first one are the chunk's behind their numbers
pub chunk-stands : (p : PictureParts) (frame place : ℕ) (c : ChunkParts) → AreRowsIn p frame place c.first c.rows → HasRows p frame place (chunk_rows c)
chunk-stands p frame place c are = record {
  at = λ k r h.
      let there = map-some (λ x. (c.first + k, x)) (slice_get c.rows k) r (sym (enumerate-at c.first c.rows k) ∙ h) in
      are.at k there.0 there.1 ∙ ap Some there.2;
}

-- and rows of the chunk that stand behind their numbers do so under numbers which rise
pub chunk-found : (p : PictureParts) (frame place : ℕ) (c : ChunkParts) → HasRows p frame place (chunk_rows c) → AreRowsIn p frame place c.first c.rows
chunk-found p frame place c has = record {
  at = λ k row h. has.at k (c.first + k, row) (enumerate-at c.first c.rows k ∙ ap (option_map (λ x. (c.first + k, x))) h);
}

-- no rows stand anywhere
pub none-stand : (p : PictureParts) (frame place : ℕ) (rows : List (ℕ × List Cell)) → rows ≡ [] → HasRows p frame place rows
none-stand p frame place rows none = record { at = λ k r h. absurd (let e = ap (λ xs. slice_get xs k) (sym none) ∙ h in cc) }

-- these rows are the first ones of a frame
abbrev pub Stand : PictureParts → ℕ → List (ℕ × List Cell) → Type 0
Stand p frame rows = (k : ℕ) (r : ℕ × List Cell) → slice_get rows k ≡ Some r → row_in p frame k ≡ Some r

stand-behind :
    (p : PictureParts) (frame place : ℕ) (rows more : List (ℕ × List Cell)) → place ≡ length rows → HasRows p frame place more → Stand p frame rows →
    Stand p frame (rows ++ more)
stand-behind p frame place rows more many has was k r h =
    elim (append-cases rows more k r h) [
      | inl e ↦ was k r e
      | inr e ↦ (
          let shift = e.1 in
          let at : place + e.0 ≡ k = omega (arith, shift, many) in
          ap (row_in p frame) (sym at) ∙ has.at e.0 r e.2)
    ]

pub rows-more :
    (frame : ℕ) (os : List Outcome) (i : ℕ) (o : Outcome) → i < length os → o ≡ get_or os i o →
    rows_at frame (take (i + 1) os) ≡ rows_at frame (take i os) ++ job_rows frame (job_of o)
rows-more frame os i o h is =
    ap (rows_at frame) (take-more os i o h)
    ∙ (flat-more (λ o. job_rows frame (job_of o)) (take i os) (get_or os i o)
    ∙ ap (λ d. rows_at frame (take i os) ++ job_rows frame (job_of d)) (sym is))

-- the rows of an outcome stand behind those before it, if it is of the frame
abbrev pub StandsBehind : PictureParts → ℕ → List Outcome → ℕ → Outcome → Type 0
StandsBehind p frame os at o = o.frame ≡ frame → HasRows p frame (length (rows_at frame (take at os))) (job_rows frame (job_of o))

stands-there :
    (p : PictureParts) (frame place : ℕ) (o : Outcome) (b : Bool) → (o.frame == frame) ≡ b →
    (o.frame ≡ frame → HasRows p frame place (job_rows frame (job_of o))) → HasRows p frame place (job_rows frame (job_of o))
stands-there p frame place o true e has = has (eqb-true o.frame frame e)
stands-there p frame place o false e has = none-stand p frame place (job_rows frame (job_of o)) (ap (λ b. if b then made_rows o.made else []) e)

-- if they do so of each outcome, the rows of all are the first ones of the frame
all-stand :
    (p : PictureParts) (frame : ℕ) (os : List Outcome) → ((at : ℕ) (d : Outcome) → at < length os → StandsBehind p frame os at (get_or os at d)) →
    (i : ℕ) → i ≤ length os → Stand p frame (rows_at frame (take i os))
all-stand p frame os each zero h = λ k r e. absurd (cc)
all-stand p frame os each (suc i) h =
    let low : i < length os = omega (arith, h) in
    let there = item-at os i low in
    let o = there.0 in
    let is : get_or os i o ≡ o = (found os i o there.1).1 in
    let n : i + 1 ≡ suc i = omega arith in
    let has = subst (StandsBehind p frame os i) is (each i o low) in
    let place = length (rows_at frame (take i os)) in
    subst (λ m. Stand p frame (rows_at frame (take m os))) n
    (subst (Stand p frame) (sym (rows-more frame os i o low (sym is)))
    (stand-behind p frame place (rows_at frame (take i os)) (job_rows frame (job_of o)) refl (stands-there p frame place o (o.frame == frame) refl has)
    (all-stand p frame os each i (omega (arith, h)))))

at-each :
    (p : PictureParts) (frame : ℕ) (rows first : List (ℕ × List Cell)) (k : ℕ) (o : Option (ℕ × List Cell)) → slice_get p.frames frame ≡ Some rows → length rows ≡ length first →
    Stand p frame first → slice_get first k ≡ o → slice_get rows k ≡ slice_get first k
at-each p frame rows first k None e many stand is =
    let far = past first k is in
    none-past rows k (omega (arith, far, many)) ∙ sym is
at-each p frame rows first k (Some r) e many stand is =
    ap (λ o. option_and_then (λ x. slice_get x k) o) (sym e) ∙ (stand k r is ∙ sym is)

-- as many rows, each of which stands in the frame, are the frame's
pub all-rows :
    (p : PictureParts) (frame : ℕ) (rows : List (ℕ × List Cell)) (os : List Outcome) → slice_get p.frames frame ≡ Some rows → length rows ≡ length (rows_at frame os) →
    ((at : ℕ) (d : Outcome) → at < length os → StandsBehind p frame os at (get_or os at d)) → rows ≡ rows_at frame os
all-rows p frame rows os e many each =
    let whole = take-all os (length os) (omega arith) in
    let stand = subst (λ xs. Stand p frame (rows_at frame xs)) whole (all-stand p frame os each (length os) (omega arith)) in
    same-items rows (rows_at frame os) (λ k. at-each p frame rows (rows_at frame os) k (slice_get (rows_at frame os) k) e many stand refl)

pub flat-mapped : {X Y Z : Type 0} (f : Y → List Z) (h : X → Y) (xs : List X) → flat_map (λ x. f (h x)) xs ≡ flat_map f (map h xs)
flat-mapped f h [] = refl
flat-mapped f h (x ∷ xs) = ap (λ zs. f (h x) ++ zs) (flat-mapped f h xs)

-- rows that stand by the outcomes in another order are loaded
pub loaded :
    (frame : ℕ) (before after : List Outcome) (rows : List (ℕ × List Cell)) → IsPermutation before after → rows ≡ rows_at frame after →
    IsLoaded frame (map job_of before) rows
loaded frame before after rows same is = record {
  order = map job_of after;
  same = IsPermutation-map job_of before after same;
  is = is ∙ flat-mapped (job_rows frame) job_of after;
}
