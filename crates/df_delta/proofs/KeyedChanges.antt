-- Changes split by a key.
use Rattle.std.proofs.Common.{◌≡◌, ◌+◌, ◌≤◌, ◌<◌, ℕ, Bool, true, false, cond, List, [], ◌∷◌, ◌++◌, map, length, drop, get_or, Option, Some, None, Result, Ok, Err, OnOk, refl, sym, ap, subst, ◌∙◌, append-nil, append_assoc}
use Rattle.std.specs.List.{cons_option}
use Rattle.std.specs.Option.{option_map}
use Rattle.std.proofs.lemmas.List.{drop_more}
use Rattle.std.proofs.Math.ListN.{drop_of_length-le}
use Rattle.std.specs.FinMap as finite
use Rattle.df_value.specs.declared.cell.Cell.{Cell}
use Rattle.df_value.specs.Rows.{row_eq}
use Rattle.df_value.specs.RowEq.{row_eq-Decides}
use Rattle.df_column.specs.Changes.{Change, applied}
use Rattle.df_column.specs.Tables.{TaggedRows, entry_change}
use Rattle.df_column.specs.TagOrder.{tag_total, tag_same}
use Rattle.df_column.specs.Tags.{tag_cmp}
use Rattle.df_column.specs.declared.entry.Entry.{Entry}
use Rattle.df_column.specs.declared.tag.Tag.{Tag}
use Rattle.df_delta.specs.Collected.{collected_list}
use Rattle.df_delta.specs.Deltas.{Changes}
use Rattle.df_delta.specs.Differences.{Fits, IsDiff}
use Rattle.df_delta.specs.Keyed.{kept_changes, keyed_change, keyed_changes, members, of_key, row_of_key}
use Rattle.df_delta.specs.SameRows.{same_row, with_change}
use Rattle.df_delta.specs.declared.keyed.KeyChanges.{KeyChanges}
use Rattle.df_delta.proofs.ChangeOf.{row_wise_diff}
use Rattle.df_delta.proofs.Collected.{entries-collected}
use Rattle.df_delta.proofs.SameRows.{same_row_yes, same_row_no}

pub on_ok_then : {A E P Q : Type 0} (r : Result A E) → OnOk r P → (P → Q) → OnOk r Q
on_ok_then (Ok a) p f = f p
on_ok_then (Err e) p f = tt

-- one change was added to those of a key
pub change_added : (key k : List Cell) (before after at_key : Option KeyChanges) (made : KeyChanges) (tag : Tag) (o n : Option (List Cell))
    → after ≡ cond (row_eq key k) (Some made) before
    → map entry_change made.entries.items ≡ with_change (kept_changes at_key) tag o n → (key ≡ k → at_key ≡ before)
    → kept_changes after ≡ cond (row_eq key k) (with_change (kept_changes before) tag o n) (kept_changes before)
change_added key k before after at_key made tag o n put more is =
    ap kept_changes put
    ∙ elim (row_eq key k) as (λ b. row_eq key k ≡ b → kept_changes (cond b (Some made) before) ≡ cond b (with_change (kept_changes before) tag o n) (kept_changes before)) [
      | true ↦ λ e. more ∙ ap (λ c. with_change (kept_changes c) tag o n) (is ((row_eq-Decides key k).0 e))
      | false ↦ λ e. refl
    ] refl

abbrev Listed : Type 0
Listed = List (Tag × Change (List Cell))

one_key : (es : Listed) (tag : Tag) (o n : List Cell) (b : Bool)
    → cond b (with_change es tag (Some o) (Some n)) es ≡ with_change es tag (cond b (Some o) None) (cond b (Some n) None)
one_key es tag o n true = refl
one_key es tag o n false = sym (append-nil es)

-- a row in the place of another of the same key
pub both_of_one_key : (es : Listed) (tag : Tag) (o n : List Cell) (b c : Bool) → b ≡ c
    → cond b (with_change es tag (Some o) (Some n)) es ≡ with_change es tag (cond b (Some o) None) (cond c (Some n) None)
both_of_one_key es tag o n b c e = one_key es tag o n b ∙ ap (λ d. with_change es tag (cond b (Some o) None) (cond d (Some n) None)) e

-- a row that goes from one key, and one that comes to another
pub both_of_two_keys : (es : Listed) (tag : Tag) (o n : List Cell) (b c : Bool) → (b ≡ true → c ≡ false)
    → with_change (with_change es tag (cond b (Some o) None) None) tag None (cond c (Some n) None) ≡ with_change es tag (cond b (Some o) None) (cond c (Some n) None)
both_of_two_keys es tag o n true c h =
    ap (λ d. with_change (with_change es tag (Some o) None) tag None (cond d (Some n) None)) (h refl)
    ∙ append-nil (with_change es tag (Some o) None)
    ∙ ap (λ d. with_change es tag (Some o) (cond d (Some n) None)) (sym (h refl))
both_of_two_keys es tag o n false c h = ap (λ fs. with_change fs tag None (cond c (Some n) None)) (append-nil es)

-- two keys that differ are not both this one
pub not_both : (a b k : List Cell) → row_eq a b ≡ false → row_eq a k ≡ true → row_eq b k ≡ false
not_both a b k differ is = elim (row_eq b k) as (λ t. row_eq b k ≡ t → t ≡ false) [
  | true ↦ λ e.
      let same : a ≡ b = (row_eq-Decides a k).0 is ∙ sym ((row_eq-Decides b k).0 e) in
      let itself : row_eq a b ≡ true = subst (λ x. row_eq a x ≡ true) same ((row_eq-Decides a a).1 refl) in
      cc (itself, differ)
  | false ↦ λ e. refl
] refl

-- what these changes are to the rows of the key
abbrev pub made : (List Cell → List Cell) → List Cell → Listed → Listed
made key k es = collected_list (λ _. keyed_change key k) es

pub made_more : (key : List Cell → List Cell) (k : List Cell) (xs ys rest : Listed) (c : Tag × Change (List Cell))
    → ys ≡ with_change xs c.0 (row_of_key key k c.1.old) (row_of_key key k c.1.new) → ys ++ made key k rest ≡ xs ++ made key k (c ∷ rest)
made_more key k xs ys rest c e = ap (λ l. l ++ made key k rest) e ∙ front xs (option_map (λ x. (c.0, x)) (keyed_change key k c.1)) (made key k rest)
  where
    front : (xs : Listed) (x : Option (Tag × Change (List Cell))) (rest : Listed) → (xs ++ cons_option x []) ++ rest ≡ xs ++ cons_option x rest
    front xs None rest = append_assoc xs [] rest
    front xs (Some x) rest = append_assoc xs (x ∷ []) rest

-- one entry further
pub made_step : (key : List Cell → List Cell) (k : List Cell) (xs ys whole : Listed) (items : List Entry) (i : ℕ) (x : Entry) → i < length items → x ≡ get_or items i x
    → ys ≡ with_change xs x.tag (row_of_key key k x.old) (row_of_key key k x.new)
    → xs ++ made key k (map entry_change (drop i items)) ≡ whole → ys ++ made key k (map entry_change (drop (i + 1) items)) ≡ whole
made_step key k xs ys whole items i x lt is e done =
    made_more key k xs ys (map entry_change (drop (i + 1) items)) (entry_change x) e
    ∙ ap (λ y. xs ++ made key k (entry_change y ∷ map entry_change (drop (i + 1) items))) is
    ∙ ap (λ es. xs ++ made key k (map entry_change es)) (sym (drop_more items i x lt))
    ∙ done

pub made_whole : (key : List Cell → List Cell) (k : List Cell) (d : Changes) (xs : Listed) (items : List Entry) (i : ℕ) → length items ≤ i → map entry_change items ≡ finite.entries d
    → xs ++ made key k (map entry_change (drop i items)) ≡ made key k (map entry_change items) → xs ≡ finite.entries (keyed_changes key k d)
made_whole key k d xs items i past whole done =
    sym (append-nil xs)
    ∙ ap (λ es. xs ++ made key k (map entry_change es)) (sym (drop_of_length-le items past))
    ∙ done
    ∙ ap (made key k) whole
    ∙ sym (entries-collected tag_cmp (λ _. keyed_change key k) d)

-- the changes of the key lead from its rows to its rows
pub keyed_diff : (key : List Cell → List Cell) (k : List Cell) (t : TaggedRows) (d : Changes) → Fits t d
    → IsDiff (members key row_eq k t) (members key row_eq k (applied t d)) (keyed_changes key k d)
keyed_diff key k t d fits = row_wise_diff same_row same_row_yes same_row_no (of_key key row_eq k) tag_total tag_same t d fits
