-- The tags of the rows of a block, and the numbers that are kept of them.
use Rattle.std.proofs.Common.{◌≡◌, ℕ, ◌+◌, ◌-◌, ◌<◌, ◌≤◌, Bool, true, false, cond, List, [], ◌∷◌, ◌++◌, map, length, take, drop, get_or, refl, sym, ap, ◌∙◌, append_assoc, arith}
use Rattle.std.specs.Prelude.{◌==◌, ◌&&◌}
use Rattle.std.specs.List.{list_all, prefix_len}
use Rattle.std.specs.List.Sorted.{IsPartitionPoint, IsPartitionedBy}
use Rattle.std.specs.Ordering.{is_lt}
use Rattle.std.proofs.lemmas.Bool.{eqb-true}
use Rattle.std.proofs.lemmas.List.{drop-map, get_or-drop, get_or_default, length-drop, map-append, take-map}
use Rattle.df_value.specs.declared.cell.Cell.{Cell}
use Rattle.df_column.specs.Changes.{IsHead}
use Rattle.df_column.specs.Picks.{spliced}
use Rattle.df_column.specs.RowTags.{is_number, number_tag}
use Rattle.df_column.specs.Rows.{AreRisingTags, tagged_rows}
use Rattle.df_column.specs.Tags.{tag_cmp}
use Rattle.df_column.specs.declared.picks.Pick.{Pick}
use Rattle.df_column.specs.declared.tag.Tag.{Tag}
use Rattle.df_column.proofs.MergeLemmas.{rest_of}
use Rattle.df_column.proofs.Places.{mapped_at, mapped_length}
use Rattle.df_column.proofs.TagPlaces.{point_is_prefix, tags_parted}

-- how many come first in a list that is made of another
prefix_map : {X Y : Type 0} (p : Y → Bool) (f : X → Y) (xs : List X) → prefix_len p (map f xs) ≡ prefix_len (λ x. p (f x)) xs
prefix_map p f [] = refl
prefix_map p f (x ∷ xs) = ap (λ n. cond (p (f x)) (1 + n) 0) (prefix_map p f xs)

-- the numbers of the tags below a tag come first
pub numbers_parted : (ns : List ℕ) (tag : Tag) → AreRisingTags (map number_tag ns) → IsPartitionedBy (λ n. is_lt (tag_cmp (number_tag n) tag)) ns
numbers_parted ns tag rising i j d le lt h =
    let l = mapped_length number_tag ns in
    let at_i = mapped_at number_tag ns i tag d (omega (arith, le, lt)) in
    let at_j = mapped_at number_tag ns j tag d lt in
    ap (λ t. is_lt (tag_cmp t tag)) (sym at_i)
    ∙ tags_parted (map number_tag ns) tag rising i j tag le (omega (arith, l, lt)) (ap (λ t. is_lt (tag_cmp t tag)) at_j ∙ h)

pub numbers_point : (ns : List ℕ) (tag : Tag) (n : ℕ) → n ≤ length ns
    → IsPartitionPoint (λ m. is_lt (tag_cmp (number_tag m) tag) ≡ true) (λ m. is_lt (tag_cmp (number_tag m) tag) ≡ false) ns n
    → n ≡ prefix_len (λ t. is_lt (tag_cmp t tag)) (map number_tag ns)
numbers_point ns tag n le point =
    point_is_prefix (λ m. is_lt (tag_cmp (number_tag m) tag)) ns n le point
    ∙ sym (prefix_map (λ t. is_lt (tag_cmp t tag)) number_tag ns)

-- where the last tag stands before a tag, all do
pub all_before : (ts : List Tag) (from : ℕ) (tag : Tag) (last : ℕ) (t : Tag) → AreRisingTags ts → last + 1 ≡ length ts → from ≤ last → is_lt (tag_cmp (get_or ts last t) tag) ≡ true
    → length ts - from ≡ prefix_len (λ t. is_lt (tag_cmp t tag)) (drop from ts)
all_before ts from tag last t rising is le below =
    let l = length-drop from ts in
    point_is_prefix (λ t. is_lt (tag_cmp t tag)) (drop from ts) (length ts - from) (omega (arith, l)) (
      (λ j d low high.
          ap (λ u. is_lt (tag_cmp u tag)) (get_or-drop from ts j d)
          ∙ tags_parted ts tag rising (from + j) last d (omega (arith, is, le, low)) (omega (arith, is))
          (ap (λ u. is_lt (tag_cmp u tag)) (get_or_default ts last d t (omega (arith, is))) ∙ below)),
      λ j d low high. absurd (omega (arith, l, low, high)),
    )

-- tags of which the first number says all
number_of : (t : Tag) → is_number t ≡ true → number_tag t.first ≡ t
number_of t h = elim (t.second == 0) as (λ b. (t.second == 0) ≡ b → (b && (t.third == 0)) ≡ true → number_tag t.first ≡ t) [
  | true ↦ λ e f. λ i. record { first = t.first; second = sym (eqb-true t.second 0 e) i; third = sym (eqb-true t.third 0 f) i }
  | false ↦ λ e f. cc f
] refl h

number_and : (b c : Bool) → (b && c) ≡ true → (b ≡ true) × (c ≡ true)
number_and true c h = (refl, h)
number_and false c h = cc h

pub number_picks : (picks : List Pick) → list_all (λ p. is_number p.tag) picks ≡ true → map number_tag (map (λ p. p.tag.first) picks) ≡ map (λ p. p.tag) picks
number_picks [] h = refl
number_picks (p ∷ picks) h =
    let both = number_and (is_number p.tag) (list_all (λ p. is_number p.tag) picks) h in
    λ i. number_of p.tag both.0 i ∷ number_picks picks both.1 i

-- a splice of a list that is made of another
pub map_spliced : {X Y : Type 0} (f : X → Y) (low high : ℕ) (more xs : List X) → map f (spliced low high more xs) ≡ spliced low high (map f more) (map f xs)
map_spliced f low high more xs =
    map-append f (take low xs) (more ++ drop high xs)
    ∙ ap (λ ys. map f (take low xs) ++ ys) (map-append f more (drop high xs))
    ∙ ap (λ ys. ys ++ (map f more ++ map f (drop high xs))) (sym (take-map f low xs))
    ∙ ap (λ ys. take low (map f xs) ++ (map f more ++ ys)) (sym (drop-map f high xs))

-- what is kept of the tags from an index on
pub kept_rest : {X : Type 0} (f : X → Tag) (ts : List Tag) (xs : List X) (from : ℕ) → ts ≡ map f xs → drop from ts ≡ map f (take (length xs - from) (drop from xs))
kept_rest f ts xs from is = ap (drop from) is ∙ drop-map f from xs ∙ ap (map f) (sym (rest_of xs from))

-- the first tag is that of the first row
pub head_of : (ts : List Tag) (columns : List (List Cell)) (t : Tag) → 0 < length ts → t ≡ get_or ts 0 t → IsHead (tagged_rows ts columns) t
head_of [] columns t lt is = absurd (omega arith)
head_of (u ∷ ts) columns t lt is = sym is

-- a splice of a list that is made of another, part by part
pub whole_made : {X Y : Type 0} (f : X → Y) (low high : ℕ) (xs : List X) (more none one two three : List Y) → none ≡ [] → one ≡ none ++ map f (take low xs) → two ≡ one ++ more
    → three ≡ two ++ map f (take (length xs - high) (drop high xs)) → three ≡ spliced low high more (map f xs)
whole_made f low high xs more none one two three start first second third =
    third
    ∙ ap (λ ys. two ++ map f ys) (rest_of xs high)
    ∙ ap (λ ys. ys ++ map f (drop high xs)) (second ∙ ap (λ ys. ys ++ more) (first ∙ ap (λ ys. ys ++ map f (take low xs)) start))
    ∙ append_assoc (map f (take low xs)) more (map f (drop high xs))
    ∙ ap (λ ys. ys ++ (more ++ map f (drop high xs))) (sym (take-map f low xs))
    ∙ ap (λ ys. take low (map f xs) ++ (more ++ ys)) (sym (drop-map f high xs))
