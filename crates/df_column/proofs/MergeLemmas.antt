-- Old rows along picks, and the merge of changes into them.
use Rattle.std.proofs.Common.{◌≡◌, ℕ, zero, suc, ◌+◌, ◌-◌, ◌<◌, ◌≤◌, Bool, true, false, cond, List, [], ◌∷◌, ◌++◌, length, map, take, drop, get_or, Some, refl, sym, ap, subst, ◌∙◌, arith, append_assoc}
use Rattle.std.specs.Prelude.{T, ◌&&◌}
use Rattle.std.specs.List.{list_all, prefix_len, slice_get}
use Rattle.std.proofs.lemmas.List.{take-append-drop}
use Rattle.std.specs.Ordering.{eq_by_cmp, is_eq, is_lt}
use Rattle.std.specs.Cmp.{tied_itself}
use Rattle.std.specs.FinMap.{is_sorted}
use Rattle.std.specs.FinMap.Entries.{below_all}
use Rattle.df_value.specs.declared.cell.Cell.{Cell}
use Rattle.df_value.specs.declared.cell.CellType.{CellType}
use Rattle.df_column.specs.Tags.{tag_cmp}
use Rattle.df_column.specs.Changes.{Change, after_changes, rest_after, one_at, all_under, all_from}
use Rattle.df_column.specs.Picks.{AreWithin, is_within, spliced}
use Rattle.df_column.specs.Rows.{tagged_rows, row_at, origin_row, picked_rows, AreRows, is_new_row, AreRisingTags}
use Rattle.df_column.specs.declared.picks.Origin.TheVariants.{Old}
use Rattle.df_column.specs.declared.picks.Pick.{Pick}
use Rattle.df_column.specs.Tables.{AreRising, entry_change}
use Rattle.df_column.specs.declared.entry.Entry.{Entry}
use Rattle.df_column.specs.declared.tag.Tag.{Tag}
use Rattle.df_column.proofs.Bools.{T-both, T-first, T-second, true_from_T, equal_from_is_eq}
use Rattle.df_column.proofs.Pools.{lt_to}
use Rattle.df_column.specs.TagOrder.{tag_total, tag_same}
use Rattle.df_column.proofs.ChangeRuns.{after_changes-right, apart_at, merged_one, under_prefix, from_rest, sorted_from, sorted_second}
use Rattle.df_column.proofs.RowLemmas.{tags_of_rows, row_in_rows, length_rows}

-- what holds of rows by their tags alone

module _ {X Y : Type 0} where
  below_keys : (k : Tag) (xs : List (Tag × X)) (ys : List (Tag × Y)) → map (λ e. e.0) xs ≡ map (λ e. e.0) ys → below_all tag_cmp k xs ≡ below_all tag_cmp k ys
  below_keys k [] [] e = refl
  below_keys k [] (y ∷ ys) e = absurd (cc e)
  below_keys k (x ∷ xs) [] e = absurd (cc e)
  below_keys k (x ∷ xs) (y ∷ ys) e =
      let first : x.0 ≡ y.0 = cc e in
      let rest = below_keys k xs ys (cc e) in
      λ i. is_lt (tag_cmp k (first i)) && rest i

  pub sorted_keys : (xs : List (Tag × X)) (ys : List (Tag × Y)) → map (λ e. e.0) xs ≡ map (λ e. e.0) ys → is_sorted tag_cmp xs ≡ is_sorted tag_cmp ys
  sorted_keys [] [] e = refl
  sorted_keys [] (y ∷ ys) e = absurd (cc e)
  sorted_keys (x ∷ xs) [] e = absurd (cc e)
  sorted_keys (x ∷ xs) (y ∷ ys) e =
      let first : x.0 ≡ y.0 = cc e in
      let tails : map (λ e. e.0) xs ≡ map (λ e. e.0) ys = cc e in
      let rest = sorted_keys xs ys tails in
      let below = below_keys x.0 xs ys tails ∙ ap (λ k. below_all tag_cmp k ys) first in
      λ i. below i && rest i

pub rising_rows : (ts : List Tag) (columns : List (List Cell)) → AreRisingTags ts → T (is_sorted tag_cmp (tagged_rows ts columns))
rising_rows ts columns h = subst T (sorted_keys (tagged_rows ts []) (tagged_rows ts columns) (tags_of_rows ts [] ∙ sym (tags_of_rows ts columns))) h

pub drop_keys : {X : Type 0} (n : ℕ) (xs : List (Tag × X)) → map (λ e. e.0) (drop n xs) ≡ drop n (map (λ e. e.0) xs)
drop_keys zero xs = refl
drop_keys (suc n) [] = refl
drop_keys (suc n) (x ∷ xs) = drop_keys n xs

prefix_keys : {X : Type 0} (k : Tag) (xs : List (Tag × X)) → prefix_len (λ x. is_lt (tag_cmp x.0 k)) xs ≡ prefix_len (λ t. is_lt (tag_cmp t k)) (map (λ e. e.0) xs)
prefix_keys k [] = refl
prefix_keys k (x ∷ xs) = ap (λ n. cond (is_lt (tag_cmp x.0 k)) (1 + n) 0) (prefix_keys k xs)

pub rows_before : (ts : List Tag) (columns : List (List Cell)) (k : Tag) (at : ℕ) → prefix_len (λ x. is_lt (tag_cmp x.0 k)) (drop at (tagged_rows ts columns)) ≡ prefix_len (λ t. is_lt (tag_cmp t k)) (drop at ts)
rows_before ts columns k at = prefix_keys k (drop at (tagged_rows ts columns)) ∙ ap (prefix_len (λ t. is_lt (tag_cmp t k))) (drop_keys at (tagged_rows ts columns) ∙ ap (drop at) (tags_of_rows ts columns))

-- the entry at an index, if its tag is this one, or no entry
drop_none : {X : Type 0} (n : ℕ) → drop {A = X} n [] ≡ []
drop_none zero = refl
drop_none (suc n) = refl

pub drop_past : {X : Type 0} (xs : List X) (n : ℕ) → length xs ≤ n → drop n xs ≡ []
drop_past [] zero h = refl
drop_past [] (suc n) h = refl
drop_past (x ∷ xs) zero h = absurd (omega arith)
drop_past (x ∷ xs) (suc n) h = drop_past xs n (omega arith)

pub drop_at : {X : Type 0} (xs : List X) (n : ℕ) (d : X) → n < length xs → drop n xs ≡ get_or xs n d ∷ drop (n + 1) xs
drop_at [] n d h = absurd (omega arith)
drop_at (x ∷ xs) zero d h = refl
drop_at (x ∷ xs) (suc n) d h =
    let e : suc (n + 1) ≡ suc n + 1 = omega arith in
    drop_at xs n d (omega arith) ∙ ap (λ m. get_or xs n d ∷ drop m (x ∷ xs)) e

pub no_rest : (ts : List Tag) (columns : List (List Cell)) (k : Tag) (at : ℕ) → at ≡ length ts → rest_after tag_cmp k (drop at (tagged_rows ts columns)) ≡ drop at (tagged_rows ts columns)
no_rest ts columns k at e =
    let l = length_rows ts columns in
    let none = drop_past (tagged_rows ts columns) at (omega (arith, l, e)) in
    ap (rest_after tag_cmp k) none ∙ sym none

pub rest_at : (ts : List Tag) (columns : List (List Cell)) (k : Tag) (at : ℕ) (b : Bool) (t : Tag) → at < length ts → eq_by_cmp tag_cmp k (get_or ts at t) ≡ b → rest_after tag_cmp k (drop at (tagged_rows ts columns)) ≡ drop (cond b (at + 1) at) (tagged_rows ts columns)
rest_at ts columns k at b t lt e =
    let rows = tagged_rows ts columns in
    let l = length_rows ts columns in
    let d : Tag × List Cell = (t, []) in
    let cut = drop_at rows at d (omega (arith, l, lt)) in
    let key : (get_or rows at d).0 ≡ get_or ts at t = ap (λ r. r.0) (row_in_rows ts columns at d t lt) in
    ap (rest_after tag_cmp k) cut
    ∙ ap (λ c. cond c (drop (at + 1) rows) (get_or rows at d ∷ drop (at + 1) rows)) (ap (eq_by_cmp tag_cmp k) key ∙ e)
    ∙ last b (sym cut)
  where
    last : (b : Bool) → get_or (tagged_rows ts columns) at (t, []) ∷ drop (at + 1) (tagged_rows ts columns) ≡ drop at (tagged_rows ts columns) → cond b (drop (at + 1) (tagged_rows ts columns)) (get_or (tagged_rows ts columns) at (t, []) ∷ drop (at + 1) (tagged_rows ts columns)) ≡ drop (cond b (at + 1) at) (tagged_rows ts columns)
    last true f = refl
    last false f = f

-- equal tags tie, and others do not
pub tie_same : (a b : Tag) → a ≡ b → eq_by_cmp tag_cmp b a ≡ true
tie_same a b e = ap (λ t. eq_by_cmp tag_cmp b t) e ∙ true_from_T _ (subst (λ r. T (is_eq r)) (sym (tied_itself tag_total b)) tt)

pub tie_other : (a b : Tag) → (a ≡ b → ⊥) → eq_by_cmp tag_cmp b a ≡ false
tie_other a b f = by_case (eq_by_cmp tag_cmp b a) refl where
  by_case : (r : Bool) → eq_by_cmp tag_cmp b a ≡ r → eq_by_cmp tag_cmp b a ≡ false
  by_case false e = e
  by_case true e = absurd (f (sym (tag_same b a (equal_from_is_eq _ (subst T (sym e) tt)))))

-- one old row more
take_next : {X : Type 0} (n : ℕ) (xs : List X) (d : X) → n < length xs → take (suc n) xs ≡ take n xs ++ get_or xs n d ∷ []
take_next zero [] d h = absurd (omega arith)
take_next zero (x ∷ xs) d h = refl
take_next (suc n) [] d h = absurd (omega arith)
take_next (suc n) (x ∷ xs) d h = ap (λ r. x ∷ r) (take_next n xs d (omega arith))

get_drop : {X : Type 0} (m : ℕ) (xs : List X) (n : ℕ) (d : X) → get_or (drop m xs) n d ≡ get_or xs (m + n) d
get_drop zero xs n d = let e : n ≡ 0 + n = omega arith in ap (λ k. get_or xs k d) e
get_drop (suc m) [] n d = refl
get_drop (suc m) (x ∷ xs) n d = let e : suc m + n ≡ suc (m + n) = omega arith in get_drop m xs n d ∙ ap (λ k. get_or (x ∷ xs) k d) (sym e)

length_drop : {X : Type 0} (m : ℕ) (xs : List X) → length (drop m xs) ≡ length xs - m
length_drop zero xs = let e : length xs ≡ length xs - 0 = omega arith in e
length_drop (suc m) [] = let e : 0 ≡ 0 - suc m = omega arith in e
length_drop (suc m) (x ∷ xs) = let e : length xs - m ≡ suc (length xs) - suc m = omega arith in length_drop m xs ∙ e

map_last : {X Y : Type 0} (f : X → Y) (xs : List X) (x : X) → map f (xs ++ x ∷ []) ≡ map f xs ++ f x ∷ []
map_last f [] x = refl
map_last f (y ∷ xs) x = ap (λ r. f y ∷ r) (map_last f xs x)

pub all_last : {X : Type 0} (p : X → Bool) (xs : List X) (x : X) → T (list_all p xs) → T (p x) → T (list_all p (xs ++ x ∷ []))
all_last p [] x all h = T-both _ _ h tt
all_last p (y ∷ xs) x all h = T-both _ _ (T-first (p y) _ all) (all_last p xs x (T-second (p y) _ all) h)

old_row : (ts : List Tag) (columns : List (List Cell)) (i : ℕ) (t d : Tag) → i < length ts → t ≡ get_or ts i d → get_or (tagged_rows ts columns) i (d, []) ≡ (t, row_at columns i)
old_row ts columns i t d h e = row_in_rows ts columns i (d, []) d h ∙ ap (λ t. (t, row_at columns i)) (sym e)

pub old_rows_more : (ts : List Tag) (columns : List (List Cell)) (before out : List Pick) (from at : ℕ) (p : Pick) (none : Tag) → from ≤ at → at < length ts → p.tag ≡ get_or ts at none → p.origin ≡ Old at
    → picked_rows columns out ≡ picked_rows columns before ++ take (at - from) (drop from (tagged_rows ts columns))
    → picked_rows columns (out ++ p ∷ []) ≡ picked_rows columns before ++ take (at + 1 - from) (drop from (tagged_rows ts columns))
old_rows_more ts columns before out from at p none le lt tag is h =
    let rows = tagged_rows ts columns in
    let d : Tag × List Cell = (none, []) in
    let n : at + 1 - from ≡ suc (at - from) = omega arith in
    let sum : from + (at - from) ≡ at = omega arith in
    let l = length_drop from rows in
    let k = length_rows ts columns in
    let here : get_or (drop from rows) (at - from) d ≡ (p.tag, row_at columns at) = get_drop from rows (at - from) d ∙ ap (λ i. get_or rows i d) sum ∙ old_row ts columns at p.tag none lt tag in
    map_last (λ p. (p.tag, origin_row columns p.origin)) out p
    ∙ ap (λ o. picked_rows columns out ++ (p.tag, origin_row columns o) ∷ []) is
    ∙ ap (λ r. r ++ (p.tag, row_at columns at) ∷ []) h
    ∙ append_assoc (picked_rows columns before) (take (at - from) (drop from rows)) ((p.tag, row_at columns at) ∷ [])
    ∙ ap (λ e. picked_rows columns before ++ (take (at - from) (drop from rows) ++ e ∷ [])) (sym here)
    ∙ ap (λ r. picked_rows columns before ++ r) (sym (take_next (at - from) (drop from rows) d (omega (arith, l, k))))
    ∙ ap (λ m. picked_rows columns before ++ take m (drop from rows)) (sym n)

pub within_more : (n : ℕ) (out : List Pick) (at : ℕ) (p : Pick) → p.origin ≡ Old at → at < n → AreWithin n out → AreWithin n (out ++ p ∷ [])
within_more n out at p is lt h = all_last (λ p. is_within n p.origin) out p h (subst (λ o. T (is_within n o)) (sym is) (lt_to at n lt))

pub fits_more : (dtypes : List CellType) (out : List Pick) (at : ℕ) (p : Pick) → p.origin ≡ Old at → AreRows dtypes out → AreRows dtypes (out ++ p ∷ [])
fits_more dtypes out at p is h = all_last (λ p. is_new_row dtypes p.origin) out p h (subst (λ o. T (is_new_row dtypes o)) (sym is) tt)

-- entries in order, cut at a key
pub sorted_drop : {X : Type 0} (n : ℕ) (es : List (Tag × X)) → T (is_sorted tag_cmp es) → T (is_sorted tag_cmp (drop n es))
sorted_drop n es h = sorted_second tag_total (take n es) (drop n es) (subst (λ es. T (is_sorted tag_cmp es)) (sym (take-append-drop n es)) h)

drop_drop : {X : Type 0} (m n : ℕ) (xs : List X) → drop n (drop m xs) ≡ drop (m + n) xs
drop_drop zero n xs = let e : n ≡ 0 + n = omega arith in ap (λ k. drop k xs) e
drop_drop (suc m) n [] = let e : suc m + n ≡ suc (m + n) = omega arith in drop_none n ∙ ap (λ k. drop k []) (sym e)
drop_drop (suc m) n (x ∷ xs) = let e : suc m + n ≡ suc (m + n) = omega arith in drop_drop m n xs ∙ ap (λ k. drop k (x ∷ xs)) (sym e)

merged_cut : (out cells : List (Tag × List Cell)) (c : Tag × Change (List Cell)) (ds : List (Tag × Change (List Cell))) (n : ℕ) → n ≡ prefix_len (λ x. is_lt (tag_cmp x.0 c.0)) cells → T (is_sorted tag_cmp cells) → T (below_all tag_cmp c.0 ds)
    → ((out ++ take n cells) ++ one_at c.0 c.1.new) ++ after_changes tag_cmp (rest_after tag_cmp c.0 (drop n cells)) ds ≡ out ++ after_changes tag_cmp cells (c ∷ ds)
merged_cut out cells c ds n e sorted below =
    merged_one tag_total tag_same out (take n cells) (drop n cells) c ds
    (subst (λ n. T (all_under tag_cmp c.0 (take n cells))) (sym e) (under_prefix tag_total c.0 cells))
    (subst (λ n. T (all_from tag_cmp c.0 (drop n cells))) (sym e) (from_rest tag_total c.0 cells sorted))
    (sorted_drop n cells sorted) below
    ∙ ap (λ es. out ++ after_changes tag_cmp es (c ∷ ds)) (take-append-drop n cells)

-- the merge of one change, from an index on
pub merge_step : (columns : List (List Cell)) (ts : List Tag) (before after : List Pick) (at next rest : ℕ) (c : Tag × Change (List Cell)) (ds : List (Tag × Change (List Cell)))
    → AreRisingTags ts → next ≡ at + prefix_len (λ t. is_lt (tag_cmp t c.0)) (drop at ts)
    → rest_after tag_cmp c.0 (drop next (tagged_rows ts columns)) ≡ drop rest (tagged_rows ts columns)
    → T (below_all tag_cmp c.0 ds)
    → picked_rows columns after ≡ (picked_rows columns before ++ take (next - at) (drop at (tagged_rows ts columns))) ++ one_at c.0 c.1.new
    → picked_rows columns after ++ after_changes tag_cmp (drop rest (tagged_rows ts columns)) ds ≡ picked_rows columns before ++ after_changes tag_cmp (drop at (tagged_rows ts columns)) (c ∷ ds)
merge_step columns ts before after at next rest c ds rising e skip below h =
    let rows = tagged_rows ts columns in
    let cells = drop at rows in
    let n : next - at ≡ prefix_len (λ t. is_lt (tag_cmp t c.0)) (drop at ts) = omega arith in
    let count : next - at ≡ prefix_len (λ x. is_lt (tag_cmp x.0 c.0)) cells = n ∙ sym (rows_before ts columns c.0 at) in
    let sum : at + (next - at) ≡ next = omega arith in
    let sorted : T (is_sorted tag_cmp cells) = sorted_drop at rows (rising_rows ts columns rising) in
    let twice : drop (next - at) cells ≡ drop next rows = drop_drop at (next - at) rows ∙ ap (λ k. drop k rows) sum in
    ap (λ r. r ++ after_changes tag_cmp (drop rest rows) ds) h
    ∙ ap (λ r. ((picked_rows columns before ++ take (next - at) cells) ++ one_at c.0 c.1.new) ++ after_changes tag_cmp r ds) (sym skip ∙ ap (rest_after tag_cmp c.0) (sym twice))
    ∙ merged_cut (picked_rows columns before) cells c ds (next - at) count sorted below

-- all rows from an index on
take_all : {X : Type 0} (n : ℕ) (xs : List X) → length xs ≤ n → take n xs ≡ xs
take_all zero [] h = refl
take_all zero (x ∷ xs) h = absurd (omega arith)
take_all (suc n) [] h = refl
take_all (suc n) (x ∷ xs) h = ap (λ r. x ∷ r) (take_all n xs (omega arith))

pub rest_rows : (ts : List Tag) (columns : List (List Cell)) (at : ℕ) → at ≤ length ts → take (length ts - at) (drop at (tagged_rows ts columns)) ≡ drop at (tagged_rows ts columns)
rest_rows ts columns at h =
    let k = length_rows ts columns in
    let l = length_drop at (tagged_rows ts columns) in
    take_all (length ts - at) (drop at (tagged_rows ts columns)) (omega (arith, k, l))

-- after the last change
pub merge_end : (columns : List (List Cell)) (ts : List Tag) (picks after : List Pick) (at n : ℕ) (entries : List Entry) → at ≤ length ts → length entries ≤ n
    → picked_rows columns picks ++ after_changes tag_cmp (drop at (tagged_rows ts columns)) (map entry_change (drop n entries)) ≡ after_changes tag_cmp (tagged_rows ts columns) (map entry_change entries)
    → picked_rows columns after ≡ picked_rows columns picks ++ take (length ts - at) (drop at (tagged_rows ts columns))
    → picked_rows columns after ≡ after_changes tag_cmp (tagged_rows ts columns) (map entry_change entries)
merge_end columns ts picks after at n entries le h e f =
    f ∙ ap (λ r. picked_rows columns picks ++ r) (rest_rows ts columns at le)
    ∙ ap (λ es. picked_rows columns picks ++ after_changes tag_cmp (drop at (tagged_rows ts columns)) (map entry_change es)) (sym (drop_past entries n h)) ∙ e

-- a slice from an index on
pub rest_of : {X : Type 0} (xs : List X) (at : ℕ) → take (length xs - at) (drop at xs) ≡ drop at xs
rest_of xs at = let l = length_drop at xs in take_all (length xs - at) (drop at xs) (omega (arith, l))

-- the rows before the first change stay
pub before_first : (ts : List Tag) (columns : List (List Cell)) (entries : List Entry) (e : Entry) (n : ℕ) → AreRisingTags ts → AreRising entries → Some e ≡ slice_get entries 0 → n ≡ prefix_len (λ t. is_lt (tag_cmp t e.tag)) ts
    → take n (tagged_rows ts columns) ++ after_changes tag_cmp (drop n (tagged_rows ts columns)) (map entry_change entries) ≡ after_changes tag_cmp (tagged_rows ts columns) (map entry_change entries)
before_first ts columns [] e n rising order is count = absurd (cc is)
before_first ts columns (f ∷ es) e n rising order is count =
    let rows = tagged_rows ts columns in
    let same : e ≡ f = cc is in
    let long : n ≡ prefix_len (λ x. is_lt (tag_cmp x.0 f.tag)) rows = count ∙ ap (λ g. prefix_len (λ t. is_lt (tag_cmp t g.tag)) ts) same ∙ sym (rows_before ts columns f.tag 0) in
    let under : T (all_under tag_cmp f.tag (take n rows)) = subst (λ n. T (all_under tag_cmp f.tag (take n rows))) (sym long) (under_prefix tag_total f.tag rows) in
    let from : T (all_from tag_cmp f.tag (map entry_change (f ∷ es))) = sorted_from tag_total f.tag (entry_change f) (map entry_change es) refl order in
    sym (after_changes-right tag_total (take n rows) (drop n rows) (map entry_change (f ∷ es)) (apart_at tag_total f.tag (take n rows) (map entry_change (f ∷ es)) under from))
    ∙ ap (λ r. after_changes tag_cmp r (map entry_change (f ∷ es))) (take-append-drop n rows)

-- after the last one the rows behind it stay
pub change_end : (columns : List (List Cell)) (ts : List Tag) (picks : List Pick) (low high n : ℕ) (entries : List Entry) → length entries ≤ n
    → take low (tagged_rows ts columns) ++ (picked_rows columns picks ++ after_changes tag_cmp (drop high (tagged_rows ts columns)) (map entry_change (drop n entries))) ≡ after_changes tag_cmp (tagged_rows ts columns) (map entry_change entries)
    → spliced low high (picked_rows columns picks) (tagged_rows ts columns) ≡ after_changes tag_cmp (tagged_rows ts columns) (map entry_change entries)
change_end columns ts picks low high n entries h e =
    ap (λ es. take low (tagged_rows ts columns) ++ (picked_rows columns picks ++ after_changes tag_cmp (drop high (tagged_rows ts columns)) (map entry_change es))) (sym (drop_past entries n h)) ∙ e
