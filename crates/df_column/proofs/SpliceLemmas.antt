-- Lists with other items in place of those from one index up to another.
use Rattle.std.proofs.Common.{◌≡◌, ℕ, zero, suc, ◌+◌, ◌-◌, ◌<◌, ◌≤◌, List, [], ◌∷◌, ◌++◌, length, map, take, drop, get_or, refl, sym, ap, ◌∙◌, arith, append_assoc, append-nil, length-append, length-take, length-drop}
use Rattle.std.proofs.lemmas.List.{drop-map, map-append, take-map, take_all}
use Rattle.df_column.specs.Picks.{spliced}
use Rattle.df_column.proofs.KnownLemmas.{take_next}
use Rattle.df_column.proofs.ListParts.{all_taken}
use Rattle.df_column.proofs.MergeLemmas.{drop_past}
use Rattle.df_column.proofs.Places.{mapped_length}

pub spliced_length : {X : Type 0} (low high : ℕ) (more xs : List X) → low ≤ high → high ≤ length xs → length (spliced low high more xs) ≡ low + length more + (length xs - high)
spliced_length low high more xs p q =
    let a = length-append (take low xs) (more ++ drop high xs) in
    let b = length-append more (drop high xs) in
    let t = length-take low xs in
    let d = length-drop high xs in
    omega (arith, a, b, t, d, p, q)

-- in place of all items, and behind all of them
pub spliced_whole : {X : Type 0} (high : ℕ) (more xs : List X) → length xs ≤ high → spliced 0 high more xs ≡ more
spliced_whole high more xs h = ap (λ r. more ++ r) (drop_past xs high h) ∙ append-nil more

pub spliced_behind : {X : Type 0} (n : ℕ) (more xs : List X) → length xs ≤ n → spliced n n more xs ≡ xs ++ more
spliced_behind n more xs h =
    ap (λ r. r ++ (more ++ drop n xs)) (all_taken xs n h)
    ∙ ap (λ r. xs ++ r) (ap (λ r. more ++ r) (drop_past xs n h) ∙ append-nil more)

-- all items from an index on
pub all_behind : {X : Type 0} (high n : ℕ) (xs : List X) → length xs - high ≤ n → take n (drop high xs) ≡ drop high xs
all_behind high n xs h = let l = length-drop high xs in take_all n (drop high xs) (omega (arith, l, h))

drop_front : {X : Type 0} (n : ℕ) (xs ys : List X) → n ≤ length xs → drop n (xs ++ ys) ≡ drop n xs ++ ys
drop_front zero xs ys h = refl
drop_front (suc n) [] ys h = absurd (omega arith)
drop_front (suc n) (x ∷ xs) ys h = drop_front n xs ys (omega arith)

-- one item more of a range
pub range_next : {X : Type 0} (xs : List X) (low at : ℕ) (d : X) → low ≤ at → at < length xs → drop low (take (at + 1) xs) ≡ drop low (take at xs) ++ get_or xs at d ∷ []
range_next xs low at d le lt =
    let l = length-take at xs in
    ap (drop low) (take_next xs at d lt) ∙ drop_front low (take at xs) (get_or xs at d ∷ []) (omega (arith, l, le, lt))

-- the items up to an index, others, and the items from another index on, as they are joined
pub joined_made : {X : Type 0} (low high m n : ℕ) (xs ys none one two three : List X) → none ≡ [] → one ≡ none ++ drop 0 (take low xs) → two ≡ one ++ drop 0 (take m ys) → m ≡ length ys → three ≡ two ++ drop high (take n xs) → n ≡ length xs
    → three ≡ spliced low high ys xs
joined_made low high m n xs ys none one two three start first second many third all =
    third
    ∙ ap (λ r. two ++ r) (ap (drop high) (take_all n xs (omega (arith, all))))
    ∙ ap (λ r. r ++ drop high xs) (second ∙ ap (λ r. one ++ r) (take_all m ys (omega (arith, many))) ∙ ap (λ r. r ++ ys) (first ∙ ap (λ r. r ++ take low xs) start))
    ∙ append_assoc (take low xs) ys (drop high xs)

-- how many items there are after those up to an index, and after more of them
pub front_count : {X Y : Type 0} (f g : X → Y) (none one : List X) (low : ℕ) (ys : List Y) → none ≡ [] → map g one ≡ map f none ++ drop 0 (take low ys) → low ≤ length ys → length one ≡ low
front_count f g none one low ys start first le =
    let a = mapped_length g one in
    let b = ap length first in
    let d = length-append (map f none) (take low ys) in
    let e = mapped_length f none in
    let k = ap length start in
    let t = length-take low ys in
    omega (arith, a, b, d, e, k, t, le)

pub both_count : {X Y Z : Type 0} (g h : X → Y) (cell : Y → Z) (one two : List X) (more : List Z) → map cell (map h two) ≡ map cell (map g one) ++ more → length two ≡ length one + length more
both_count g h cell one two more second =
    let a = mapped_length cell (map h two) in
    let b = mapped_length h two in
    let d = ap length second in
    let e = length-append (map cell (map g one)) more in
    let k = mapped_length cell (map g one) in
    let m = mapped_length g one in
    omega (arith, a, b, d, e, k, m)

module _ {X Y : Type 0} (f : X → Y) where
  part_before : (low : ℕ) (none one xs : List X) → none ≡ [] → one ≡ none ++ take low xs → map f one ≡ take low (map f xs)
  part_before low none one xs e h = ap (map f) (h ∙ ap (λ ys. ys ++ take low xs) e) ∙ sym (take-map f low xs)

  part_behind : (high n : ℕ) (xs : List X) → length xs - high ≤ n → map f (take n (drop high xs)) ≡ drop high (map f xs)
  part_behind high n xs e = ap (map f) (all_behind high n xs e) ∙ sym (drop-map f high xs)

  -- the items up to an index, others, and the items from another index on
  pub spliced_made : (low high n : ℕ) (xs none one two three : List X) (more : List Y) → none ≡ [] → one ≡ none ++ take low xs → map f two ≡ map f one ++ more → length xs - high ≤ n → three ≡ two ++ take n (drop high xs)
      → map f three ≡ spliced low high more (map f xs)
  spliced_made low high n xs none one two three more start first second e third =
      ap (map f) third
      ∙ map-append f two (take n (drop high xs))
      ∙ ap (λ r. r ++ map f (take n (drop high xs))) (second ∙ ap (λ r. r ++ more) (part_before low none one xs start first))
      ∙ ap (λ r. (take low (map f xs) ++ more) ++ r) (part_behind high n xs e)
      ∙ append_assoc (take low (map f xs)) more (drop high (map f xs))

  -- the same of ranges, as they are pushed
  pub ranges_made : (low high n : ℕ) (xs none one two three : List X) (more : List Y) → none ≡ [] → one ≡ none ++ drop 0 (take low xs) → map f two ≡ map f one ++ more → n ≡ length xs → three ≡ two ++ drop high (take n xs)
      → map f three ≡ spliced low high more (map f xs)
  ranges_made low high n xs none one two three more start first second e third =
      spliced_made low high (length xs) xs none one two three more start first second (omega arith)
      (third ∙ ap (λ r. two ++ r) (ap (drop high) (take_all n xs (omega (arith, e))) ∙ sym (all_behind high (length xs) xs (omega arith))))
