-- Notes in the order of their tags, applied one after another.
use Rattle.std.proofs.Common.{◌≡◌, true, false, cond, List, [], ◌∷◌, ◌++◌, Option, Some, None, refl, sym, subst, ◌∙◌}
use Rattle.std.specs.Prelude.{T}
use Rattle.std.specs.Option.{IfSome}
use Rattle.std.specs.Ordering.{eq_by_cmp, is_eq}
use Rattle.std.specs.Cmp.{tied_itself}
use Rattle.std.specs.FinMap.Entries.{below_all}
use Rattle.std.specs.FinMap.{get, find, is_sorted, same_map}
use Rattle.df_column.specs.declared.tag.Tag.{Tag}
use Rattle.df_join.specs.Rules.{Cells}
use Rattle.df_column.specs.Changes.{Change}
use Rattle.df_column.specs.Tables.{TaggedRows}
use Rattle.df_column.specs.Tags.{tag_cmp}
use Rattle.df_column.specs.Changes.{set_at, applied_list}
use Rattle.df_join.specs.RowNotes.{FitsList}
use Rattle.df_delta.specs.Notes.{IsNote}
use Rattle.df_column.specs.TagOrder.{tag_total, tag_same}
use Rattle.df_delta.proofs.Changes.{after_change, get-applied_list, get-set_at}
use Rattle.df_delta.proofs.Collected.{T-first, T-second, find_below_all}
use Rattle.df_join.proofs.Spread.{tied}

fits_tail : (v : TaggedRows) (e : Tag × Change Cells) (es : List (Tag × Change Cells)) (q : Tag) → T (below_all tag_cmp e.0 es) → IfSome (find tag_cmp q (e ∷ es)) (λ c. c.old ≡ get v q) → IfSome (find tag_cmp q es) (λ c. c.old ≡ get (set_at v e.0 e.1.new) q)
fits_tail v e es q below h = subst (λ x. IfSome (find tag_cmp q es) (λ c. c.old ≡ x)) (sym (get-set_at tag_total v e.0 e.1.new q))
    (elim (eq_by_cmp tag_cmp q e.0) as (λ b. eq_by_cmp tag_cmp q e.0 ≡ b → IfSome (cond b (Some e.1) (find tag_cmp q es)) (λ c. c.old ≡ get v q) → IfSome (find tag_cmp q es) (λ c. c.old ≡ cond b e.1.new (get v q))) [
      | true ↦ λ b h. subst (λ f. IfSome f (λ c. c.old ≡ e.1.new)) (sym (find_below_all tag_cmp q es (subst (λ k. T (below_all tag_cmp k es)) (sym (tied q e.0 b)) below))) tt
      | false ↦ λ b h. h
    ] refl h)

-- sorted changes that fit at each tag fit one after another
pub fits_list : (es : List (Tag × Change Cells)) (v : TaggedRows) → T (is_sorted tag_cmp es) → ((q : Tag) → IfSome (find tag_cmp q es) (λ c. c.old ≡ get v q)) → FitsList v es
fits_list [] v h fits = tt
fits_list (e ∷ es) v h fits = (
  sym (subst (λ r. IfSome (cond (is_eq r) (Some e.1) (find tag_cmp e.0 es)) (λ c. c.old ≡ get v e.0)) (tied_itself tag_total e.0) (fits e.0)),
  fits_list es (set_at v e.0 e.1.new) (T-second _ _ h) (λ q. fits_tail v e es q (T-first _ _ h) (fits q)),
)

led_fits : {Z : Type 0} (c : Option (Change Z)) (x y : Option Z) → IsNote c x y → IfSome c (λ c. c.old ≡ x)
led_fits None x y h = tt
led_fits (Some c) x y h = h.0

led_gives : {Z : Type 0} (c : Option (Change Z)) (x y : Option Z) → IsNote c x y → after_change c x ≡ y
led_gives None x y h = h
led_gives (Some c) x y h = h.1

-- sorted notes that lead from t to u fit t and give u
pub notes_fit : (t u : TaggedRows) (ns : List (Tag × Change Cells)) → T (is_sorted tag_cmp ns) → ((q : Tag) → IsNote (find tag_cmp q ns) (get t q) (get u q)) → FitsList t ns
notes_fit t u ns h led = fits_list ns t h (λ q. led_fits (find tag_cmp q ns) (get t q) (get u q) (led q))

pub notes_give : (t u : TaggedRows) (ns : List (Tag × Change Cells)) → T (is_sorted tag_cmp ns) → ((q : Tag) → IsNote (find tag_cmp q ns) (get t q) (get u q)) → applied_list t ns ≡ u
notes_give t u ns h led = same_map tag_total tag_same _ _ (λ q. get-applied_list tag_total tag_same t ns q h ∙ led_gives (find tag_cmp q ns) (get t q) (get u q) (led q))

-- one list after another
pub fits_append : (t : TaggedRows) (ns ms : List (Tag × Change Cells)) → FitsList t (ns ++ ms) → FitsList t ns × FitsList (applied_list t ns) ms
fits_append t [] ms h = (tt, h)
fits_append t (e ∷ ns) ms h = let rest = fits_append (set_at t e.0 e.1.new) ns ms h.1 in ((h.0, rest.0), rest.1)

pub applied_append : (t : TaggedRows) (ns ms : List (Tag × Change Cells)) → applied_list t (ns ++ ms) ≡ applied_list (applied_list t ns) ms
applied_append t [] ms = refl
applied_append t (e ∷ ns) ms = applied_append (set_at t e.0 e.1.new) ns ms
