-- How many rising tags stand before a tag, and its place among the rows of a block.
use Rattle.std.proofs.Common.{◌≡◌, ℕ, zero, suc, ◌+◌, ◌<◌, ◌≤◌, Bool, true, false, cond, List, [], ◌∷◌, length, drop, get_or, refl, sym, ap, subst, ◌∙◌, arith}
use Rattle.std.specs.Prelude.{T}
use Rattle.std.specs.List.{prefix_len}
use Rattle.std.specs.List.Sorted.{IsPartitionPoint, IsPartitionedBy}
use Rattle.std.proofs.lemmas.Cmp.{tied_itself}
use Rattle.std.proofs.lemmas.List.Sums.{prefix_len-le-length, prefix_len_passes, prefix_len_stops}
use Rattle.std.specs.FinMap.{is_sorted}
use Rattle.std.specs.Ordering.{is_lt, ordering_index}
use Rattle.std.specs.declared.cmp.Ordering.{Ordering}
use Rattle.std.specs.declared.cmp.Ordering.TheVariants.{Less, Equal, Greater}
use Rattle.df_value.specs.declared.cell.Cell.{Cell}
use Rattle.df_column.specs.Places.{IsGap, IsPlace}
use Rattle.df_column.specs.Rows.{AreRisingTags, tagged_rows}
use Rattle.df_column.specs.TagOrder.{tag_same, tag_total}
use Rattle.df_column.specs.Tags.{tag_cmp}
use Rattle.df_column.specs.declared.tag.Tag.{Tag}
use Rattle.df_column.proofs.MergeLemmas.{drop_keys, sorted_drop, sorted_keys}
use Rattle.df_column.proofs.Places.{rises_along}
use Rattle.df_column.proofs.RowLemmas.{length_rows, row_in_rows, tags_of_rows}

-- comparisons by their index
low_if_less : (r : Ordering) → is_lt r ≡ true → ordering_index r ≡ 0
low_if_less Less h = refl
low_if_less Equal h = cc h
low_if_less Greater h = cc h

less_if_low : (r : Ordering) → ordering_index r ≤ 0 → is_lt r ≡ true
less_if_low Less h = refl
less_if_low Equal h = absurd (omega arith)
less_if_low Greater h = absurd (omega arith)

less_if_lt : (r : Ordering) → is_lt r ≡ true → r ≡ Less
less_if_lt Less h = refl
less_if_lt Equal h = cc h
less_if_lt Greater h = cc h

greater_if_high : (r : Ordering) → 2 ≤ ordering_index r → r ≡ Greater
greater_if_high Less h = absurd (omega arith)
greater_if_high Equal h = absurd (omega arith)
greater_if_high Greater h = refl

high_if_neither : (r : Ordering) → is_lt r ≡ false → (r ≡ Equal → ⊥) → 2 ≤ ordering_index r
high_if_neither Less h f = cc h
high_if_neither Equal h f = absurd (f refl)
high_if_neither Greater h f = omega arith

-- the tags below a tag come first
row_cmp : (ts : List Tag) (columns : List (List Cell)) (tag t : Tag) (i : ℕ) (d : Tag × List Cell) → i < length ts → tag_cmp (get_or (tagged_rows ts columns) i d).0 tag ≡ tag_cmp (get_or ts i t) tag
row_cmp ts columns tag t i d lt = ap (λ r. tag_cmp r.0 tag) (row_in_rows ts columns i d t lt)

pub tags_parted : (ts : List Tag) (tag : Tag) → AreRisingTags ts → IsPartitionedBy (λ t. is_lt (tag_cmp t tag)) ts
tags_parted ts tag rising i j d le lt h =
    let l = length_rows ts [] in
    let at_i = ap ordering_index (row_cmp ts [] tag d i (d, []) (omega (arith, le, lt))) in
    let at_j = ap ordering_index (row_cmp ts [] tag d j (d, []) lt) in
    let risen = rises_along tag_total tag_same (tagged_rows ts []) tag rising i j (d, []) le (omega (arith, l, lt)) in
    let low = low_if_less _ h in
    less_if_low _ (omega (arith, at_i, at_j, risen, low))

pub rising_tags : (ts : List Tag) (columns : List (List Cell)) → T (is_sorted tag_cmp (tagged_rows ts columns)) → AreRisingTags ts
rising_tags ts columns h = subst T (sorted_keys (tagged_rows ts columns) (tagged_rows ts []) (tags_of_rows ts columns ∙ sym (tags_of_rows ts []))) h

pub rising_rest : (ts : List Tag) (n : ℕ) → AreRisingTags ts → AreRisingTags (drop n ts)
rising_rest ts n h =
    let rows = tagged_rows ts [] in
    let keys = drop_keys n rows ∙ ap (drop n) (tags_of_rows ts []) ∙ sym (tags_of_rows (drop n ts) []) in
    subst T (sorted_keys (drop n rows) (tagged_rows (drop n ts) []) keys) (sorted_drop n rows h)

-- a partition tells how many come first
pub point_is_prefix : {X : Type 0} (p : X → Bool) (xs : List X) (n : ℕ) → n ≤ length xs → IsPartitionPoint (λ x. p x ≡ true) (λ x. p x ≡ false) xs n → n ≡ prefix_len p xs
point_is_prefix p [] zero le parts = refl
point_is_prefix p [] (suc n) le parts = absurd (omega arith)
point_is_prefix p (x ∷ xs) zero le parts = ap (λ b. cond b (1 + prefix_len p xs) 0) (sym (parts.1 0 x (omega arith) (omega arith)))
point_is_prefix p (x ∷ xs) (suc n) le parts =
    let rest = point_is_prefix p xs n (omega arith) (λ j d low high. parts.0 (suc j) d (omega arith) (omega arith), λ j d low high. parts.1 (suc j) d (omega arith) (omega arith)) in
    let more : suc n ≡ 1 + prefix_len p xs = omega (arith, rest) in
    more ∙ ap (λ b. cond b (1 + prefix_len p xs) 0) (sym (parts.0 0 x (omega arith) (omega arith)))

-- the tag stands behind them, or nowhere
module _ (ts : List Tag) (columns : List (List Cell)) (tag : Tag) (n : ℕ) (count : n ≡ prefix_len (λ t. is_lt (tag_cmp t tag)) ts) where
  pub place_behind : (t : Tag) → n < length ts → get_or ts n t ≡ tag → IsPlace tag_cmp (tagged_rows ts columns) tag n
  place_behind t lt e =
      let l = length_rows ts columns in
      record {
        in_range = omega (arith, l, lt);
        here = λ d. row_cmp ts columns tag t n d lt ∙ ap (λ u. tag_cmp u tag) e ∙ tied_itself tag_total tag;
      }

  pub gap_behind : T (is_sorted tag_cmp (tagged_rows ts columns)) → ((t : Tag) → n < length ts → get_or ts n t ≡ tag → ⊥) → IsGap tag_cmp (tagged_rows ts columns) tag n
  gap_behind sorted other =
      let l = length_rows ts columns in
      let within = prefix_len-le-length (λ t. is_lt (tag_cmp t tag)) ts in
      record {
        in_range = omega (arith, l, within, count);
        before = λ j d lt. row_cmp ts columns tag tag j d (omega (arith, lt, within, count)) ∙ less_if_lt _ (prefix_len_passes (λ t. is_lt (tag_cmp t tag)) ts j tag (omega (arith, lt, count)));
        after = λ j d le lt.
            let inside : n < length ts = omega (arith, l, le, lt) in
            let stops : is_lt (tag_cmp (get_or ts n tag) tag) ≡ false = subst (λ k. is_lt (tag_cmp (get_or ts k tag) tag) ≡ false) (sym count) (prefix_len_stops (λ t. is_lt (tag_cmp t tag)) ts tag (omega (arith, inside, count))) in
            let high = high_if_neither _ stops (λ tie. other tag inside (tag_same (get_or ts n tag) tag tie)) in
            let here = ap ordering_index (row_cmp ts columns tag tag n d inside) in
            let risen = rises_along tag_total tag_same (tagged_rows ts columns) tag sorted n j d le lt in
            greater_if_high _ (omega (arith, high, here, risen));
      }
