-- The deltas that changes make of a frame's table: the one of rows that come, and the one of rows that come to stand at
-- numbers.
use Rattle.std.proofs.Common.{◌≡◌, ℕ, ◌+◌, ◌<◌, Bool, true, false, suc, cond, List, [], ◌∷◌, ◌++◌, map, length, drop, get_or, refl, sym, ap, subst, ◌∙◌, add-one, drop-cons}
use Rattle.std.specs.Prelude.{T, Option, None, Some, option_map, unwrap_or}
use Rattle.std.specs.BTreeMap.{BTreeMap, IsOrdered, Updates, is_at}
use Rattle.std.specs.Cmp.{eq_by_cmp_equiv}
use Rattle.std.specs.FinMap as finite
use Rattle.std.specs.FinMap.Entries.{below_all}
use Rattle.std.specs.List.{AllByRecursion, cons_option}
use Rattle.std.specs.List.Sorted.{IsStrictlySortedBy}
use Rattle.std.specs.Map.{lookup}
use Rattle.std.specs.Option.{option_and_then}
use Rattle.std.specs.Ordering.{eq_by_cmp, is_lt}
use Rattle.std.specs.declared.cmp.Ordering.TheVariants.{Less}
use Rattle.df_value.specs.declared.cell.Cell.{Cell}
use Rattle.df_column.specs.Changes.{Change}
use Rattle.df_column.specs.TagOrder.{tag_same, tag_total}
use Rattle.df_column.specs.Tables.{TaggedRows}
use Rattle.df_column.specs.Tags.{tag_cmp}
use Rattle.df_column.specs.declared.tag.Tag.{Tag}
use Rattle.df_delta.specs.ChangeOf.{change_of}
use Rattle.df_delta.specs.Collected.{collected_list}
use Rattle.df_delta.specs.Differences.{IsDiff}
use Rattle.df_delta.specs.SameRows.{same_row, with_change}
use Rattle.df_delta.proofs.ChangeOf.{change_of_leads}
use Rattle.df_delta.proofs.Changes.{IsChange, diff_from_changes, get-set_at}
use Rattle.df_delta.proofs.Collected.{T-both, find-collected, is_sorted-collected}
use Rattle.df_delta.proofs.SameRows.{same_row_no, same_row_yes}
use Rattle.df_frame.specs.FrameTables.{HasNewRows, at_tag, coming_row, row_tag, set_rows}
use Rattle.df_frame.specs.Numbers.{is_rising}
use Rattle.df_frame.proofs.RowLookups.{first_of, found, found-map}
use Rattle.df_frame.proofs.TagFacts.{is_tag, tags-rise}

abbrev Rows : Type 0
Rows = List (ℕ × List Cell)

-- ---- rows that come

abbrev comes : List Cell → Change (List Cell)
comes x = record { old = None; new = Some x }

coming-at : (rows : Rows) → map coming_row rows ≡ map at_tag (map (λ r. (r.0, comes r.1)) rows)
coming-at [] = refl
coming-at (r ∷ rs) = ap (λ later. coming_row r ∷ later) (coming-at rs)

same-numbers : (rows : Rows) → map (λ (r : ℕ × Change (List Cell)). r.0) (map (λ r. (r.0, comes r.1)) rows) ≡ map (λ r. r.0) rows
same-numbers [] = refl
same-numbers (r ∷ rs) = ap (λ ns. r.0 ∷ ns) (same-numbers rs)

pub coming-rise : (rows : Rows) → is_rising (map (λ r. r.0) rows) ≡ true → T (finite.is_sorted tag_cmp (map coming_row rows))
coming-rise rows h =
    subst (λ es. T (finite.is_sorted tag_cmp es)) (sym (coming-at rows))
    (tags-rise (map (λ r. (r.0, comes r.1)) rows) (ap is_rising (same-numbers rows) ∙ h))

found-coming : (rows : Rows) → is_rising (map (λ r. r.0) rows) ≡ true → (q : Tag) → finite.get (finite.from_sorted {R = tag_cmp} (map coming_row rows)) q ≡ option_map comes (found q rows)
found-coming rows h q =
    finite.get-from_sorted tag_cmp (map coming_row rows) q (coming-rise rows h)
    ∙ (ap (finite.find tag_cmp q) (coming-at rows) ∙ found-map comes q rows)

comes-at : (o a : Option (List Cell)) → ((y : List Cell) → o ≡ Some y → a ≡ None) → IsChange (option_map comes o) a (first_of o a)
comes-at None a free = refl
comes-at (Some y) a free = (sym (free y refl), refl, λ e. let no : None ≡ Some y = sym (free y refl) ∙ e in cc no)

-- the delta of rows that come where none stands
pub coming-diff :
    (rows : Rows) (t u : TaggedRows) → is_rising (map (λ r. r.0) rows) ≡ true → ((q : Tag) → finite.get u q ≡ first_of (found q rows) (finite.get t q)) →
    ((q : Tag) (y : List Cell) → found q rows ≡ Some y → finite.get t q ≡ None) → IsDiff t u (finite.from_sorted (map coming_row rows))
coming-diff rows t u h gives free = diff_from_changes tag_total tag_same t u _ (λ q.
    subst (λ c. IsChange c (finite.get t q) (finite.get u q)) (sym (found-coming rows h q))
    (subst (IsChange (option_map comes (found q rows)) (finite.get t q)) (sym (gives q)) (comes-at (found q rows) (finite.get t q) (free q))))

-- ---- rows that come to stand at numbers

unwrapped-cond : (b : Bool) (v a : Option (List Cell)) (o : Option (Option (List Cell))) → cond b v (unwrap_or o a) ≡ unwrap_or (cond b (Some v) o) a
unwrapped-cond true v a o = refl
unwrapped-cond false v a o = refl

-- what stands at a tag then
pub get-set_rows : (t : TaggedRows) (rs : List (ℕ × Option (List Cell))) (q : Tag) → finite.get (set_rows t rs) q ≡ unwrap_or (found q rs) (finite.get t q)
get-set_rows t [] q = refl
get-set_rows t (r ∷ rs) q =
    get-set_at tag_total (set_rows t rs) (row_tag r.0) r.1 q
    ∙ (ap (cond (is_tag q r.0) r.1) (get-set_rows t rs q) ∙ unwrapped-cond (is_tag q r.0) r.1 (finite.get t q) (found q rs))

-- the map of what comes to stand, with one row more before the others
pub new-row-more :
    (old new : BTreeMap Tag (Option (List Cell))) (key : Tag) (r : ℕ × Option (List Cell)) (rs : List (ℕ × Option (List Cell))) → key ≡ row_tag r.0 →
    Updates tag_cmp old new key (Some r.1) → IsOrdered tag_cmp new → HasNewRows old rs → HasNewRows new (r ∷ rs)
new-row-more old new key r rs is updated rising h = record {
  rising = rising;
  at = λ q.
      updated.0 q
      ∙ (ap (λ b. cond b (Some r.1) (lookup (is_at (tag_cmp q)) old.entries)) ((eq_by_cmp_equiv tag_total).symm key q ∙ ap (eq_by_cmp tag_cmp q) is)
      ∙ ap (cond (is_tag q r.0) (Some r.1)) (h.at q));
}

-- the same at a step of a loop over the items from the last on
pub new-row-step :
    {N : Type 0} (pair : N → ℕ × Option (List Cell)) (items : List N) (i : ℕ) (item : N) (old new : BTreeMap Tag (Option (List Cell))) (key : Tag) (v : Option (List Cell)) →
    i < length items → item ≡ get_or items i item → key ≡ row_tag (pair item).0 → v ≡ (pair item).1 → Updates tag_cmp old new key (Some v) → IsOrdered tag_cmp new →
    HasNewRows old (map pair (drop (i + 1) items)) → HasNewRows new (map pair (drop i items))
new-row-step pair items i item old new key v within at is row updated rising h =
    let first : drop i items ≡ item ∷ drop (i + 1) items =
    drop-cons items i item within ∙ (ap (λ r. r ∷ drop (suc i) items) (sym at) ∙ ap (λ k. item ∷ drop k items) (sym (add-one i))) in
    subst (λ rest. HasNewRows new (map pair rest)) (sym first)
    (new-row-more old new key (pair item) (map pair (drop (i + 1) items)) is (subst (λ w. Updates tag_cmp old new key (Some w)) row updated) rising h)

below-from : {X : Type 0} (q : Tag) (es : List (Tag × X)) → AllByRecursion (λ k. tag_cmp q k ≡ Less) (map (λ e. e.0) es) → T (below_all tag_cmp q es)
below-from q [] h = tt
below-from q (e ∷ es) h = T-both _ _ (subst (λ r. T (is_lt r)) (sym h.0) tt) (below-from q es h.1)

sorted-from : {X : Type 0} (es : List (Tag × X)) → IsStrictlySortedBy tag_cmp (map (λ e. e.0) es) → T (finite.is_sorted tag_cmp es)
unfolding IsStrictlySortedBy
sorted-from [] h = tt
sorted-from (e ∷ es) h = T-both _ _ (below-from e.0 es h.0) (sorted-from es h.1)

looked-up : {X : Type 0} (q : Tag) (es : List (Tag × X)) → finite.find tag_cmp q es ≡ lookup (is_at (tag_cmp q)) es
looked-up q [] = refl
looked-up q (e ∷ es) = ap (cond (eq_by_cmp tag_cmp q e.0) (Some e.1)) (looked-up q es)

-- the changes of these rows
abbrev pub changes_to : TaggedRows → List (Tag × Option (List Cell)) → List (Tag × Change (List Cell))
changes_to t es = collected_list (λ tag new. change_of same_row (finite.get t tag) new) es

pub changes-rise : (t : TaggedRows) (new_rows : BTreeMap Tag (Option (List Cell))) → IsOrdered tag_cmp new_rows → T (finite.is_sorted tag_cmp (changes_to t new_rows.entries))
changes-rise t new_rows rising = is_sorted-collected tag_cmp (λ tag new. change_of same_row (finite.get t tag) new) new_rows.entries (sorted-from new_rows.entries rising)

change-there : (o : Option (Option (List Cell))) (a : Option (List Cell)) → IsChange (option_and_then (change_of same_row a) o) a (unwrap_or o a)
change-there None a = refl
change-there (Some new) a = change_of_leads same_row same_row_yes same_row_no a new

cons-append : {X : Type 0} (o : Option X) (xs ys : List X) → cons_option o (xs ++ ys) ≡ cons_option o xs ++ ys
cons-append None xs ys = refl
cons-append (Some x) xs ys = refl

-- with one row more they have the change at its tag, where there is one
pub changes-more :
    (t : TaggedRows) (es : List (Tag × Option (List Cell))) (tag : Tag) (old new : Option (List Cell)) → old ≡ finite.get t tag →
    changes_to t (es ++ (tag, new) ∷ []) ≡ with_change (changes_to t es) tag old new
changes-more t [] tag old new e = ap (λ o. cons_option (option_map (λ c. (tag, c)) (change_of same_row o new)) []) (sym e)
changes-more t (x ∷ es) tag old new e =
    let first = option_map (λ c. (x.0, c)) (change_of same_row (finite.get t x.0) x.1) in
    ap (cons_option first) (changes-more t es tag old new e) ∙ cons-append first (changes_to t es) _

-- they are the delta
pub set-diff :
    (t : TaggedRows) (rs : List (ℕ × Option (List Cell))) (new_rows : BTreeMap Tag (Option (List Cell))) → HasNewRows new_rows rs →
    IsDiff t (set_rows t rs) (finite.from_sorted (changes_to t new_rows.entries))
set-diff t rs new_rows h = diff_from_changes tag_total tag_same t (set_rows t rs) _ (λ q.
    let change : Tag → Option (List Cell) → Option (Change (List Cell)) = λ tag new. change_of same_row (finite.get t tag) new in
    subst (λ c. IsChange c (finite.get t q) (finite.get (set_rows t rs) q))
    (sym (finite.get-from_sorted tag_cmp (changes_to t new_rows.entries) q (changes-rise t new_rows h.rising)
    ∙ (find-collected tag_cmp change tag_same q new_rows.entries (sorted-from new_rows.entries h.rising)
    ∙ ap (option_and_then (change q)) (looked-up q new_rows.entries ∙ h.at q))))
    (subst (IsChange (option_and_then (change q) (found q rs)) (finite.get t q)) (sym (get-set_rows t rs q)) (change-there (found q rs) (finite.get t q))))
