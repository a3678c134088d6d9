-- Notes as a map from tags to changes.
use Rattle.std.proofs.Common.{◌≡◌, Bool, true, false, cond, T, List, [], ◌∷◌, ◌++◌, map, Option, Some, None, refl, sym, ap, subst, ◌∙◌}
use Rattle.std.specs.Option.{option_map}
use Rattle.std.specs.Ordering.{eq_by_cmp, is_lt}
use Rattle.std.specs.declared.cmp.Ordering.TheVariants.{Less}
use Rattle.std.specs.Cmp.{eq_by_cmp_equiv}
use Rattle.std.specs.List.{AllByRecursion, cons_option}
use Rattle.std.specs.List.Sorted.{IsStrictlySortedBy}
use Rattle.std.specs.Map.{keys_of, lookup}
use Rattle.std.specs.BTreeMap.{is_at}
use Rattle.std.specs.FinMap as finite
use Rattle.std.specs.FinMap.Entries.{below_all}
use Rattle.df_value.specs.declared.cell.Cell.{Cell}
use Rattle.df_column.specs.Changes.{Change}
use Rattle.df_column.specs.Tags.{tag_cmp}
use Rattle.df_column.specs.TagOrder.{tag_total, tag_same}
use Rattle.df_column.specs.declared.tag.Tag.{Tag}
use Rattle.df_delta.specs.ChangeOf.{change_of}
use Rattle.df_delta.specs.Collected.{collected_list}
use Rattle.df_delta.specs.Deltas.{Changes}
use Rattle.df_delta.specs.Notes.{leaned}
use Rattle.df_delta.specs.NotedRows.{note_change, noted_change}
use Rattle.df_delta.specs.SameRows.{same_row, with_change}
use Rattle.df_delta.specs.declared.notes.Note.{Note}
use Rattle.df_delta.proofs.Collected.{T-both, is_sorted-collected}

abbrev NoteList : Type 0
NoteList = List (Tag × Note)

abbrev AreSorted : NoteList → Type 0
AreSorted es = T (finite.is_sorted tag_cmp (map noted_change es))

abbrev changes_of : NoteList → Changes
changes_of es = finite.from_sorted (map noted_change es)

-- the changes among these notes
abbrev pub lean_list : NoteList → List (Tag × Change (List Cell))
lean_list es = collected_list (λ _ c. change_of same_row c.old c.new) (map noted_change es)

pub lean_push : (es : NoteList) (e : Tag × Note) → lean_list (es ++ e ∷ []) ≡ with_change (lean_list es) e.0 e.1.old e.1.new
lean_push [] e = refl
lean_push (f ∷ es) e =
    elim (change_of same_row f.1.old f.1.new) as (λ c. cons_option (option_map (λ y. (f.0, y)) c) (lean_list (es ++ e ∷ [])) ≡ with_change (cons_option (option_map (λ y. (f.0, y)) c) (lean_list es)) e.0 e.1.old e.1.new) [ Some y ↦ ap (λ l. (f.0, y) ∷ l) (lean_push es e) | None ↦ lean_push es e ]

pub lean_all : (es : NoteList) → AreSorted es → finite.from_sorted (lean_list es) ≡ leaned same_row (changes_of es)
lean_all es h = ap (λ l. finite.from_sorted (collected_list (λ _ c. change_of same_row c.old c.new) l)) (sym (finite.entries-from_sorted tag_cmp (map noted_change es) h))

pub lean_sorted : (es : NoteList) → AreSorted es → T (finite.is_sorted tag_cmp (lean_list es))
lean_sorted es h = is_sorted-collected tag_cmp (λ _ c. change_of same_row c.old c.new) (map noted_change es) h

below_notes : (k : Tag) (es : NoteList) → AllByRecursion (λ y. tag_cmp k y ≡ Less) (keys_of es) → T (below_all tag_cmp k (map noted_change es))
below_notes k [] h = tt
below_notes k (e ∷ es) h = T-both _ _ (subst (λ r. T (is_lt r)) (sym h.0) tt) (below_notes k es h.1)

pub sorted_notes : (es : NoteList) → IsStrictlySortedBy tag_cmp (keys_of es) → AreSorted es
unfolding IsStrictlySortedBy
sorted_notes [] h = tt
sorted_notes (e ∷ es) h = T-both _ _ (below_notes e.0 es h.0) (sorted_notes es h.1)

find_note : (q : Tag) (es : NoteList) → finite.find tag_cmp q (map noted_change es) ≡ option_map note_change (lookup (is_at (tag_cmp q)) es)
find_note q [] = refl
find_note q (e ∷ es) = elim (eq_by_cmp tag_cmp q e.0) as (λ b. cond b (Some (note_change e.1)) (finite.find tag_cmp q (map noted_change es)) ≡ option_map note_change (cond b (Some e.1) (lookup (is_at (tag_cmp q)) es))) [ true ↦ refl | false ↦ find_note q es ]

pub get_note : (es : NoteList) (q : Tag) → AreSorted es → finite.get (changes_of es) q ≡ option_map note_change (lookup (is_at (tag_cmp q)) es)
get_note es q h = finite.get-from_sorted tag_cmp _ q h ∙ find_note q es

-- what the look-up gives after a note was put at a tag, or taken out
abbrev IsAfter : NoteList → NoteList → Tag → Option Note → Type 0
IsAfter old new k w = (q : Tag) → lookup (is_at (tag_cmp q)) new ≡ cond (is_at (tag_cmp k) q) w (lookup (is_at (tag_cmp q)) old)

mapped : (b : Bool) (w x : Option Note) → option_map note_change (cond b w x) ≡ cond b (option_map note_change w) (option_map note_change x)
mapped true w x = refl
mapped false w x = refl

note_after : (old new : NoteList) (k : Tag) (w : Option Note) → AreSorted old → AreSorted new → IsAfter old new k w → (q : Tag) → finite.get (changes_of new) q ≡ cond (eq_by_cmp tag_cmp q k) (option_map note_change w) (finite.get (changes_of old) q)
note_after old new k w s t is q =
    get_note new q t
    ∙ ap (option_map note_change) (is q)
    ∙ mapped (eq_by_cmp tag_cmp k q) w (lookup (is_at (tag_cmp q)) old)
    ∙ ap (λ x. cond (eq_by_cmp tag_cmp k q) (option_map note_change w) x) (sym (get_note old q s))
    ∙ ap (λ b. cond b (option_map note_change w) (finite.get (changes_of old) q)) ((eq_by_cmp_equiv tag_total).symm k q)

pub notes_without : (old new : NoteList) (k : Tag) → AreSorted old → AreSorted new → IsAfter old new k None → changes_of new ≡ finite.remove (changes_of old) k
notes_without old new k s t is = finite.same_map tag_total tag_same _ _ (λ q. note_after old new k None s t is q ∙ sym (finite.get-remove tag_total (changes_of old) k q))

hidden : {X : Type 0} (b : Bool) (v w x : X) → cond b v (cond b w x) ≡ cond b v x
hidden true v w x = refl
hidden false v w x = refl

pub notes_with : (old new : NoteList) (m : Changes) (k : Tag) (note : Note) → AreSorted old → AreSorted new → IsAfter old new k (Some note) → changes_of old ≡ finite.remove m k → changes_of new ≡ finite.insert m k (note_change note)
notes_with old new m k note s t is taken = finite.same_map tag_total tag_same _ _ (λ q.
    note_after old new k (Some note) s t is q
    ∙ ap (λ n. cond (eq_by_cmp tag_cmp q k) (Some (note_change note)) (finite.get n q)) taken
    ∙ ap (cond (eq_by_cmp tag_cmp q k) (Some (note_change note))) (finite.get-remove tag_total m k q)
    ∙ hidden (eq_by_cmp tag_cmp q k) _ _ _
    ∙ sym (finite.get-insert tag_total m k (note_change note) q))
