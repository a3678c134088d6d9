-- A draw keeps the rule.
use Rattle.std.proofs.Common.{◌≡◌, ◌≢◌, ℕ, ◌+◌, ◌%◌, ◌^◌, ◌<◌, ◌≤◌, List, [], ◌∷◌, set, refl, sym, ap, ◌∙◌, subst, ⊎_elim, arith}
use Rattle.std.specs.Prelude.{slice_index, slice_set}
use Rattle.std.specs.List.{sum_by}
use mathlib.Core.Option.{Option, some, none}
use lib.ListN.{get_elem?}
use Rattle.atomic_table.specs.Table.{State, Allows, keeps, step}
use Rattle.df_claims.specs.declared.rule.Draws.{Draws}
use Rattle.df_claims.specs.Lawful.{Drew, Lawful, having_drawn, having_missed, times, times_in}
use Rattle.df_claims.proofs.Sums.{below_or, same_or, sum_by-le, sum_by-set, times-push, times-push_other}
use Rattle.df_claims.proofs.Keeping.{fits-set}

abbrev holding : ℕ → List (Option (Unit {0})) → List Draws → State (Unit {0}) Draws
holding word homes views = record { words = word ∷ []; homes = homes; views = views }

-- a number below the total
takes : (total word : ℕ) (views : List Draws) (homes : List (Option (Unit {0}))) (seat : ℕ) (v : Draws) → word < total → 0 < v.parts → Lawful total (holding word homes views) → get_elem? views seat ≡ some v
    → Lawful total (holding (word + 1) homes (set views seat (having_drawn word v)))
takes total word views homes seat v low part h at =
    let w : Draws = having_drawn word v in
    let is : h.word ≡ word = cc (h.words) in
    let others : (n : ℕ) → word ≢ n → times_in n (set views seat w) ≡ times_in n views = λ n apart. omega (arith, sum_by-set (λ u. times n u.numbers) views seat v w at, times-push_other word n v.numbers apart) in
    let mine : times_in word (set views seat w) ≡ times_in word views + 1 = omega (arith, sum_by-set (λ u. times word u.numbers) views seat v w at, times-push word v.numbers) in
    let misses : sum_by (λ u. u.misses) (set views seat w) ≡ sum_by (λ u. u.misses) views = omega (arith, sum_by-set (λ u. u.misses) views seat v w at) in
    let parts : sum_by (λ u. u.parts) (set views seat w) ≡ sum_by (λ u. u.parts) views = omega (arith, sum_by-set (λ u. u.parts) views seat v w at) in
    let fits = h.each seat v at in
    record {
      word = word + 1;
      words = refl;
      small = h.small;
      once = λ n less. ⊎_elim (λ (e : word ≡ n). subst (λ (m : ℕ). times_in m (set views seat w) ≡ 1) e (omega (arith, mine, h.no_other word (omega (arith, is, low)))))
          (λ (apart : word ≢ n). others n apart ∙ h.once n (omega (arith, is, low, less, apart))) (same_or word n);
      no_other = λ n more. let apart : word ≢ n = λ e. absurd (omega (arith, e, more, low)) in others n apart ∙ h.no_other n (omega (arith, is, low, more));
      counted = omega (arith, misses, h.counted, is, low);
      parts = parts ∙ h.parts;
      each = fits-set total views seat w h.each (record { missed_once = fits.missed_once; bounded = fits.bounded; knows = fits.knows });
    }

-- none is left
misses : (total word : ℕ) (views : List Draws) (homes : List (Option (Unit {0}))) (seat : ℕ) (v : Draws) → total ≤ word → v.misses ≡ 0 → 0 < v.parts → Lawful total (holding word homes views) → get_elem? views seat ≡ some v
    → Lawful total (holding (word + 1) homes (set views seat (having_missed v)))
misses total word views homes seat v high fresh part h at =
    let w : Draws = having_missed v in
    let is : h.word ≡ word = cc (h.words) in
    let others : (n : ℕ) → times_in n (set views seat w) ≡ times_in n views = λ n. omega (arith, sum_by-set (λ u. times n u.numbers) views seat v w at) in
    let more : sum_by (λ u. u.misses) (set views seat w) ≡ sum_by (λ u. u.misses) views + 1 = omega (arith, sum_by-set (λ u. u.misses) views seat v w at, fresh) in
    let parts : sum_by (λ u. u.parts) (set views seat w) ≡ sum_by (λ u. u.parts) views = omega (arith, sum_by-set (λ u. u.parts) views seat v w at) in
    let fits = h.each seat v at in
    record {
      word = word + 1;
      words = refl;
      small = h.small;
      once = λ n less. others n ∙ h.once n (omega (arith, is, high, less));
      no_other = λ n up. others n ∙ h.no_other n (omega (arith, is, high, up));
      counted = omega (arith, more, h.counted, is, high);
      parts = parts ∙ h.parts;
      each = fits-set total views seat w h.each (record { missed_once = omega arith; bounded = omega (arith, part); knows = fits.knows });
    }

wrapped : (n : ℕ) → n + 1 < 2 ^ 64 → (n + 1) % 2 ^ 64 ≡ n + 1
wrapped n h = omega (arith, h)

pub draws : (total slots id : ℕ) (me : Draws × List (ℕ × Unit {0})) → me.0.misses ≡ 0 → 0 < me.0.parts → me.0.total ≡ total
    → Allows (Lawful total) slots id me 0 (λ n. (n + 1) % 2 ^ 64) (Drew (step slots 0 1 0 none) me)
draws total slots id me fresh part knows s h len at fits =
    let word = h.word in
    let found : slice_index s.words 0 ≡ word = ap (λ l. slice_index l 0) h.words in
    let few : sum_by (λ u. u.misses) s.views ≤ 16 = omega (arith, sum_by-le (λ u. u.misses) (λ u. u.parts) s.views (λ i v e. (h.each i v e).bounded), h.parts) in
    let room : word + 1 < 2 ^ 64 = omega (arith, h.counted, few, h.small) in
    let next : (slice_index s.words 0 + 1) % 2 ^ 64 ≡ word + 1 = ap (λ n. (n + 1) % 2 ^ 64) found ∙ wrapped word room in
    let words : slice_set s.words 0 ((slice_index s.words 0 + 1) % 2 ^ 64) ≡ (word + 1) ∷ [] = ap (λ l. slice_set l 0 ((slice_index s.words 0 + 1) % 2 ^ 64)) h.words ∙ ap (λ n. n ∷ []) next in
    let now : Lawful total (holding word s.homes s.views) = subst (λ (l : List ℕ). Lawful total (record { words = l; homes = s.homes; views = s.views })) h.words h in
    ⊎_elim
    (λ (low : word < total).
    let w : Draws = having_drawn word me.0 in (
      w,
      keeps,
      tt,
      subst (λ (l : List ℕ). Lawful total (record { words = l; homes = s.homes; views = set s.views id w })) (sym words) (takes total word s.views s.homes id me.0 low part now at),
      record { below = λ less. ap (λ n. having_drawn n me.0) (sym found); above = λ more. absurd (omega (arith, found, more, low, knows)); slots = refl },
    ))
    (λ (high : total ≤ word).
    let w : Draws = having_missed me.0 in (
      w,
      keeps,
      tt,
      subst (λ (l : List ℕ). Lawful total (record { words = l; homes = s.homes; views = set s.views id w })) (sym words) (misses total word s.views s.homes id me.0 high fresh part now at),
      record { below = λ less. absurd (omega (arith, found, less, high, knows)); above = λ more. refl; slots = refl },
    ))
    (below_or word total)
