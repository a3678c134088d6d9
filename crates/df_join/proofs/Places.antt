-- Rows by rising tags, where one of them is put or taken away.
use Rattle.std.proofs.Common.{◌≡◌, ◌≤◌, ◌<◌, ◌+◌, ℕ, zero, suc, Bool, true, false, not, cond, List, [], ◌∷◌, ◌++◌, length, Option, Some, None, refl, sym, ap, subst, ◌∙◌, arith}
use Rattle.std.specs.Prelude.{T, ◌||◌, slice_get, slice_set, take}
use Rattle.std.specs.List.{insert, remove}
use Rattle.std.specs.Ordering.{eq_by_cmp, is_eq, is_lt, ordering_reverse}
use Rattle.std.specs.declared.cmp.Ordering.{Ordering}
use Rattle.std.specs.declared.cmp.Ordering.TheVariants.{Less, Equal, Greater}
use Rattle.std.specs.FinMap as finite
use Rattle.std.specs.FinMap.{is_sorted, put}
use Rattle.std.specs.FinMap.Entries.{below_all, by_order, is_sorted-put, is_sorted-where_key}
use Rattle.df_value.specs.declared.cell.Cell.{Cell}
use Rattle.df_column.specs.Changes.{edit, set_at}
use Rattle.df_column.specs.Tables.{TaggedRows}
use Rattle.df_column.specs.TagOrder.{tag_total, tag_same}
use Rattle.df_column.specs.Tags.{tag_cmp}
use Rattle.df_column.specs.declared.tag.Tag.{Tag}
use Rattle.df_column.proofs.Bools.{T-first, T-second, T-both, equal_from_is_eq, less_from_is_lt}
use Rattle.df_column.proofs.ChangeRuns.{after_changes-left, below_trans}
use Rattle.df_column.proofs.Removal.{remove_is}
use Rattle.df_tree.specs.Finds.{IsFirst}
use Rattle.df_tree.specs.Laws.{total}
use Rattle.df_join.specs.GreatestTags.{greatest, is_from, is_from-greatest, no_tag, or_false, tag_of}
use Rattle.df_join.specs.Places.{IsPlace, stands_at}
use Rattle.df_join.specs.declared.tree_table.tagged_row.GreatestTag.{GreatestTag}

T-true : (b : Bool) → b ≡ true → T b
T-true b e = subst T (sym e) tt

T-not_false : (b : Bool) → not b ≡ false → T b
T-not_false true e = tt
T-not_false false e = cc e

first_false : (a b : Bool) → (a || b) ≡ false → a ≡ false
first_false true b e = cc e
first_false false b e = refl

second_false : (a b : Bool) → (a || b) ≡ false → b ≡ false
second_false true b e = cc e
second_false false b e = e

second_true : (a b : Bool) → a ≡ false → (a || b) ≡ true → b ≡ true
second_true true b f e = cc f
second_true false b f e = e

-- the index that is found by the greatest tags is the tag's place
module _ (tag : Tag) where
  abbrev greatest_of : List (Tag × List Cell) → GreatestTag
  greatest_of rows = total no_tag greatest tag_of rows

  one : (r : Tag × List Cell) → is_from tag (greatest (tag_of r) no_tag) ≡ not (is_lt (tag_cmp r.0 tag))
  one r = is_from-greatest tag (tag_of r) no_tag ∙ sym (or_false (not (is_lt (tag_cmp r.0 tag))))

  pub place_found : (rows : List (Tag × List Cell)) (index : ℕ) → IsFirst no_tag greatest tag_of (is_from tag) rows index → IsPlace tag rows index
  place_found [] index f = absurd (omega (arith, f.within))
  place_found (r ∷ rs) zero f =
      let e : zero + 1 ≡ suc zero = omega arith in
      T-true _ (sym (one r) ∙ ap (λ n. is_from tag (greatest_of (take n (r ∷ rs)))) (sym e) ∙ f.now)
  place_found (r ∷ rs) (suc index) f =
      let lower : not (is_lt (tag_cmp r.0 tag)) ≡ false = sym (one r) ∙ f.before (suc zero) (omega arith) in
      let e : suc index + 1 ≡ suc (index + 1) = omega arith in (
        T-not_false _ lower,
        place_found rs index (record {
          within = omega (arith, f.within);
          before = λ k h. second_false _ _ (sym (is_from-greatest tag (tag_of r) (greatest_of (take k rs))) ∙ f.before (suc k) (omega (arith, h)));
          now = second_true _ _ lower (sym (is_from-greatest tag (tag_of r) (greatest_of (take (index + 1) rs))) ∙ ap (λ n. is_from tag (greatest_of (take n (r ∷ rs)))) (sym e) ∙ f.now);
        }),
      )

  pub place_behind : (rows : List (Tag × List Cell)) → is_from tag (greatest_of rows) ≡ false → IsPlace tag rows (length rows)
  place_behind [] h = tt
  place_behind (r ∷ rs) h =
      let both : (not (is_lt (tag_cmp r.0 tag)) || is_from tag (greatest_of rs)) ≡ false = sym (is_from-greatest tag (tag_of r) (greatest_of rs)) ∙ h in
      (T-not_false _ (first_false _ _ both), place_behind rs (second_false _ _ both))

  pub place_within : (rows : List (Tag × List Cell)) (index : ℕ) → IsPlace tag rows index → index ≤ length rows
  place_within [] zero p = omega arith
  place_within [] (suc index) p = absurd p
  place_within (r ∷ rs) zero p = omega arith
  place_within (r ∷ rs) (suc index) p = let n = place_within rs index p.1 in omega (arith, n)

  pub stands_past : (rows : List (Tag × List Cell)) (index : ℕ) → length rows ≤ index → stands_at tag rows index ≡ false
  stands_past [] index h = refl
  stands_past (r ∷ rs) zero h = absurd (omega (arith, h))
  stands_past (r ∷ rs) (suc index) h = stands_past rs index (omega (arith, h))

  pub stands_within : (rows : List (Tag × List Cell)) (index : ℕ) → stands_at tag rows index ≡ true → index < length rows
  stands_within [] index e = cc e
  stands_within (r ∷ rs) zero e = omega arith
  stands_within (r ∷ rs) (suc index) e = let n = stands_within rs index e in omega (arith, n)

  pub stands_there : (rows : List (Tag × List Cell)) (index : ℕ) (r : Tag × List Cell) → slice_get rows index ≡ Some r → stands_at tag rows index ≡ eq_by_cmp tag_cmp tag r.0
  stands_there [] index r e = cc e
  stands_there (s ∷ rs) zero r e = let same : s ≡ r = cc e in ap (λ r. eq_by_cmp tag_cmp tag r.0) same
  stands_there (s ∷ rs) (suc index) r e = stands_there rs index r e

  -- how the tag compares with one that is not below it, and with one that is
  above : (a : Tag) → T (is_lt (tag_cmp a tag)) → tag_cmp tag a ≡ Greater
  above a h = tag_total.antisymm tag a ∙ ap ordering_reverse (less_from_is_lt _ h)

  below : (a : Tag) → T (not (is_lt (tag_cmp a tag))) → eq_by_cmp tag_cmp tag a ≡ false → tag_cmp tag a ≡ Less
  below a h e = turned (tag_cmp tag a) (subst (λ r. T (not (is_lt r))) (tag_total.antisymm a tag) h) e
    where
      turned : (r : Ordering) → T (not (is_lt (ordering_reverse r))) → is_eq r ≡ false → r ≡ Less
      turned Less h e = refl
      turned Equal h e = cc e
      turned Greater h e = absurd h

  none_above : (es : List (Tag × List Cell)) → T (below_all tag_cmp tag es) → edit tag_cmp es tag None ≡ es
  none_above es h = after_changes-left tag_total [] es ((tag, record { old = None; new = None }) ∷ []) (T-both _ _ h tt)

  passed : (r : Tag × List Cell) (rs : List (Tag × List Cell)) → tag_cmp tag r.0 ≡ Greater → edit tag_cmp (r ∷ rs) tag None ≡ r ∷ edit tag_cmp rs tag None
  passed r rs e = ap (λ o. cond (not (is_eq o)) (r ∷ edit tag_cmp rs tag None) (edit tag_cmp rs tag None)) e

  passed_put : (r : Tag × List Cell) (rs : List (Tag × List Cell)) (x : List Cell) → tag_cmp tag r.0 ≡ Greater → put tag_cmp tag x (r ∷ rs) ≡ r ∷ put tag_cmp tag x rs
  passed_put r rs x e = ap (λ o. by_order o ((tag, x) ∷ r ∷ rs) ((r.0, x) ∷ rs) (r ∷ put tag_cmp tag x rs)) e

  -- a row of the tag is replaced
  pub put_over : (rows : List (Tag × List Cell)) (index : ℕ) (x : List Cell) → IsPlace tag rows index → stands_at tag rows index ≡ true → slice_set rows index (tag, x) ≡ edit tag_cmp rows tag (Some x)
  put_over [] index x p e = cc e
  put_over (r ∷ rs) zero x p e =
      let tie : tag_cmp tag r.0 ≡ Equal = equal_from_is_eq _ (T-true _ e) in
      ap (λ t. (t, x) ∷ rs) (tag_same tag r.0 tie) ∙ sym (ap (λ o. by_order o ((tag, x) ∷ r ∷ rs) ((r.0, x) ∷ rs) (r ∷ put tag_cmp tag x rs)) tie)
  put_over (r ∷ rs) (suc index) x p e = ap (λ es. r ∷ es) (put_over rs index x p.1 e) ∙ sym (passed_put r rs x (above r.0 p.0))

  -- a row is put in where none has the tag
  pub put_between : (rows : List (Tag × List Cell)) (index : ℕ) (x : List Cell) → IsPlace tag rows index → stands_at tag rows index ≡ false → insert rows index (tag, x) ≡ edit tag_cmp rows tag (Some x)
  put_between [] zero x p e = refl
  put_between [] (suc index) x p e = absurd p
  put_between (r ∷ rs) zero x p e = sym (ap (λ o. by_order o ((tag, x) ∷ r ∷ rs) ((r.0, x) ∷ rs) (r ∷ put tag_cmp tag x rs)) (below r.0 p e))
  put_between (r ∷ rs) (suc index) x p e = ap (λ es. r ∷ es) (put_between rs index x p.1 e) ∙ sym (passed_put r rs x (above r.0 p.0))

  -- the row of the tag is taken out
  pub taken_out : (rows : List (Tag × List Cell)) (index : ℕ) → T (is_sorted tag_cmp rows) → IsPlace tag rows index → stands_at tag rows index ≡ true → remove rows index ≡ edit tag_cmp rows tag None
  taken_out [] index h p e = cc e
  taken_out (r ∷ rs) zero h p e =
      let tie : tag_cmp tag r.0 ≡ Equal = equal_from_is_eq _ (T-true _ e) in
      sym (none_above rs (subst (λ t. T (below_all tag_cmp t rs)) (sym (tag_same tag r.0 tie)) (T-first _ _ h)))
      ∙ sym (ap (λ o. cond (not (is_eq o)) (r ∷ edit tag_cmp rs tag None) (edit tag_cmp rs tag None)) tie)
  taken_out (r ∷ rs) (suc index) h p e = ap (λ es. r ∷ es) (taken_out rs index (T-second _ _ h) p.1 e) ∙ sym (passed r rs (above r.0 p.0))

  -- there is none to take out
  pub none_to_take : (rows : List (Tag × List Cell)) (index : ℕ) → T (is_sorted tag_cmp rows) → IsPlace tag rows index → stands_at tag rows index ≡ false → rows ≡ edit tag_cmp rows tag None
  none_to_take [] index h p e = refl
  none_to_take (r ∷ rs) zero h p e =
      let less = below r.0 p e in
      ap (λ es. r ∷ es) (sym (none_above rs (below_trans tag_total tag r.0 rs less (T-first _ _ h))))
      ∙ sym (ap (λ o. cond (not (is_eq o)) (r ∷ edit tag_cmp rs tag None) (edit tag_cmp rs tag None)) less)
  none_to_take (r ∷ rs) (suc index) h p e = ap (λ es. r ∷ es) (none_to_take rs index (T-second _ _ h) p.1 e) ∙ sym (passed r rs (above r.0 p.0))

-- one row more
pub one_more_taken : (rows : List (Tag × List Cell)) (index : ℕ) (r : Tag × List Cell) → slice_get rows index ≡ Some r → take index rows ++ r ∷ [] ≡ take (index + 1) rows
one_more_taken [] index r e = cc e
one_more_taken (s ∷ rs) zero r e = let same : s ≡ r = cc e in let n : suc zero ≡ zero + 1 = omega arith in ap (λ r. r ∷ []) (sym same) ∙ ap (λ n. take n (s ∷ rs)) n
one_more_taken (s ∷ rs) (suc index) r e = let n : suc (index + 1) ≡ suc index + 1 = omega arith in ap (λ es. s ∷ es) (one_more_taken rs index r e) ∙ ap (λ n. take n (s ∷ rs)) n

-- the same of rows as a map
nothing : TaggedRows
nothing = finite.from_sorted []

pub no_rows : finite.from_sorted {X = List Cell} {R = tag_cmp} [] ≡ finite.empty
unfolding nothing
no_rows = finite.empty_of_len nothing (finite.len-entries nothing ∙ ap length (finite.entries-from_sorted {X = List Cell} tag_cmp [] tt))

pub length_is : (rows : List (Tag × List Cell)) (m : TaggedRows) → T (is_sorted tag_cmp rows) → finite.from_sorted rows ≡ m → length rows ≡ finite.len m
length_is rows m h is = ap length (sym (finite.entries-from_sorted tag_cmp rows h)) ∙ sym (finite.len-entries (finite.from_sorted {R = tag_cmp} rows)) ∙ ap finite.len is

pub edit_sorted : (rows out : List (Tag × List Cell)) (tag : Tag) (v : Option (List Cell)) → T (is_sorted tag_cmp rows) → out ≡ edit tag_cmp rows tag v → T (is_sorted tag_cmp out)
edit_sorted rows out tag None h is = subst (λ es. T (is_sorted tag_cmp es)) (sym is) (is_sorted-where_key tag_cmp (λ x. not (eq_by_cmp tag_cmp tag x)) rows h)
edit_sorted rows out tag (Some x) h is = subst (λ es. T (is_sorted tag_cmp es)) (sym is) (is_sorted-put tag_cmp tag_total tag x rows h)

pub edit_is : (rows out : List (Tag × List Cell)) (m : TaggedRows) (tag : Tag) (v : Option (List Cell)) → T (is_sorted tag_cmp rows) → finite.from_sorted rows ≡ m → out ≡ edit tag_cmp rows tag v → finite.from_sorted out ≡ set_at m tag v
edit_is rows out m tag None h is made =
    sym (remove_is tag_total tag_same rows out tag h (edit_sorted rows out tag None h made) (sym made)) ∙ ap (λ (m : TaggedRows). set_at m tag None) is
edit_is rows out m tag (Some x) h is made =
    finite.same_entries_map _ _ (finite.entries-from_sorted tag_cmp out (edit_sorted rows out tag (Some x) h made) ∙ made
    ∙ ap (put tag_cmp tag x) (sym (finite.entries-from_sorted tag_cmp rows h)) ∙ sym (finite.entries-insert tag_total (finite.from_sorted rows) tag x))
    ∙ ap (λ (m : TaggedRows). set_at m tag (Some x)) is
