-- The rows of a table after changes, block by block, and as a map.
use Rattle.std.proofs.Common.{◌≡◌, ℕ, List, [], ◌∷◌, ◌++◌, Option, Some, None, length, map, take, drop, refl, sym, ap, subst, ◌∙◌, append-nil, ◌+◌, cond, not}
use Rattle.std.specs.Prelude.{T}
use Rattle.std.proofs.lemmas.List.{take-append-drop, map-append, take-map, drop-map}
use Rattle.std.proofs.Math.Seq.{take-length, drop-length}
use Rattle.std.specs.List.{prefix_len}
use Rattle.std.specs.Ordering.{eq_by_cmp, is_lt}
use Rattle.std.specs.FinMap.{FinMap, is_sorted, from_sorted, entries, entries_sorted, entries-from_sorted, entries-insert, same_entries_map, put}
use Rattle.std.specs.FinMap.Entries.{is_sorted-put, is_sorted-where_key}
use Rattle.df_value.specs.declared.cell.Cell.{Cell}
use Rattle.df_column.specs.Changes.{Change, set_at, applied_list, applied, edit, after_changes, all_under, all_from, IsNext}
use Rattle.df_column.specs.Tables.{entry_change, count_before}
use Rattle.df_column.specs.Tags.{tag_cmp}
use Rattle.df_column.specs.declared.entry.Entry.{Entry}
use Rattle.df_column.specs.declared.tag.Tag.{Tag}
use Rattle.df_column.proofs.ChangeRuns.{under_prefix, from_rest, sorted_second, sorted_first, sorted_apart, changes_runs, apart_at, apart_heads, sorted_from}
use Rattle.df_column.proofs.Removal.{remove_is}
use Rattle.df_column.specs.TagOrder.{tag_total, tag_same}

-- changes in order, cut at a tag
pub halves : (n : ℕ) (es : List Entry) → map entry_change (take n es) ++ map entry_change (drop n es) ≡ map entry_change es
halves n es = sym (map-append entry_change (take n es) (drop n es)) ∙ ap (map entry_change) (take-append-drop n es)

halves_sorted : (n : ℕ) (es : List Entry) → T (is_sorted tag_cmp (map entry_change es)) → T (is_sorted tag_cmp (map entry_change (take n es) ++ map entry_change (drop n es)))
halves_sorted n es h = subst (λ es. T (is_sorted tag_cmp es)) (sym (halves n es)) h

pub sorted_taken : (n : ℕ) (es : List Entry) → T (is_sorted tag_cmp (map entry_change es)) → T (is_sorted tag_cmp (map entry_change (take n es)))
sorted_taken n es h = sorted_first tag_total (map entry_change (take n es)) (map entry_change (drop n es)) (halves_sorted n es h)

pub sorted_dropped : (n : ℕ) (es : List Entry) → T (is_sorted tag_cmp (map entry_change es)) → T (is_sorted tag_cmp (map entry_change (drop n es)))
sorted_dropped n es h = sorted_second tag_total (map entry_change (take n es)) (map entry_change (drop n es)) (halves_sorted n es h)

prefix_pairs : (k : Tag) (es : List Entry) → prefix_len (λ x. is_lt (tag_cmp x.0 k)) (map entry_change es) ≡ prefix_len (λ e. is_lt (tag_cmp e.tag k)) es
prefix_pairs k [] = refl
prefix_pairs k (e ∷ es) = ap (λ n. cond (is_lt (tag_cmp e.tag k)) (1 + n) 0) (prefix_pairs k es)

pub under_taken : (k : Tag) (es : List Entry) → T (all_under tag_cmp k (map entry_change (take (count_before (Some k) es) es)))
under_taken k es =
    subst (λ cs. T (all_under tag_cmp k cs)) (ap (λ n. take n (map entry_change es)) (prefix_pairs k es) ∙ take-map entry_change (count_before (Some k) es) es) (under_prefix tag_total k (map entry_change es))

pub from_dropped : (k : Tag) (es : List Entry) → T (is_sorted tag_cmp (map entry_change es)) → T (all_from tag_cmp k (map entry_change (drop (count_before (Some k) es) es)))
from_dropped k es h =
    subst (λ cs. T (all_from tag_cmp k cs)) (ap (λ n. drop n (map entry_change es)) (prefix_pairs k es) ∙ drop-map entry_change (count_before (Some k) es) es) (from_rest tag_total k (map entry_change es) h)

-- the first run of cells takes the changes before the next tag
pub first_run : (xs ys : List (Tag × List Cell)) (next : Option Tag) (es : List Entry) → IsNext ys next → T (is_sorted tag_cmp (xs ++ ys)) → T (is_sorted tag_cmp (map entry_change es))
    → after_changes tag_cmp (xs ++ ys) (map entry_change es) ≡ after_changes tag_cmp xs (map entry_change (take (count_before next es) es)) ++ after_changes tag_cmp ys (map entry_change (drop (count_before next es) es))
first_run xs ys None es none cells changes =
    ap (λ ys. after_changes tag_cmp (xs ++ ys) (map entry_change es)) none
    ∙ ap (λ xs. after_changes tag_cmp xs (map entry_change es)) (append-nil xs)
    ∙ ap (λ es. after_changes tag_cmp xs (map entry_change es)) (sym (take-length es))
    ∙ sym (append-nil _)
    ∙ ap (λ zs. after_changes tag_cmp xs (map entry_change (take (length es) es)) ++ zs) (ap (λ es. after_changes tag_cmp [] (map entry_change es)) (sym (drop-length es)) ∙ ap (λ ys. after_changes tag_cmp ys (map entry_change (drop (length es) es))) (sym none))
first_run xs [] (Some k) es none cells changes = absurd none
first_run xs (y ∷ ys) (Some k) es head cells changes =
    let mine = map entry_change (take (count_before (Some k) es) es) in
    let others = map entry_change (drop (count_before (Some k) es) es) in
    let from : T (all_from tag_cmp k (y ∷ ys)) = sorted_from tag_total k y ys head (sorted_second tag_total xs (y ∷ ys) cells) in
    let under : T (all_under tag_cmp k xs) = subst (λ k. T (all_under tag_cmp k xs)) head (apart_heads tag_total xs y ys (sorted_apart tag_total xs (y ∷ ys) cells)) in
    ap (after_changes tag_cmp (xs ++ y ∷ ys)) (sym (halves (count_before (Some k) es) es))
    ∙ changes_runs tag_total xs (y ∷ ys) mine others
    (apart_at tag_total k mine (y ∷ ys) (under_taken k es) from)
    (apart_at tag_total k xs others under (from_dropped k es changes))
    (sorted_apart tag_total mine others (halves_sorted (count_before (Some k) es) es changes))

-- the changes, as values
set_at_edit : (cells : List (Tag × List Cell)) (k : Tag) (v : Option (List Cell)) → T (is_sorted tag_cmp cells) → record { sorted : T (is_sorted tag_cmp (edit tag_cmp cells k v)); is : set_at (from_sorted {R = tag_cmp} cells) k v ≡ from_sorted (edit tag_cmp cells k v) }
set_at_edit cells k None h =
    let sorted = is_sorted-where_key tag_cmp (λ x. not (eq_by_cmp tag_cmp k x)) cells h in
    record { sorted = sorted; is = remove_is tag_total tag_same cells _ k h sorted refl }
set_at_edit cells k (Some v) h =
    let sorted = is_sorted-put tag_cmp tag_total k v cells h in
    record {
      sorted = sorted;
      is = same_entries_map _ _ (entries-insert tag_total (from_sorted cells) k v ∙ ap (put tag_cmp k v) (entries-from_sorted tag_cmp cells h) ∙ sym (entries-from_sorted tag_cmp _ sorted));
    }

applied_changes : (cells : List (Tag × List Cell)) (cs : List (Tag × Change (List Cell))) → T (is_sorted tag_cmp cells) → record { sorted : T (is_sorted tag_cmp (after_changes tag_cmp cells cs)); is : applied_list (from_sorted {R = tag_cmp} cells) cs ≡ from_sorted (after_changes tag_cmp cells cs) }
applied_changes cells [] h = record { sorted = h; is = refl }
applied_changes cells (c ∷ cs) h =
    let one = set_at_edit cells c.0 c.1.new h in
    let rest = applied_changes (edit tag_cmp cells c.0 c.1.new) cs one.sorted in
    record { sorted = rest.sorted; is = ap (λ t. applied_list t cs) one.is ∙ rest.is }

pub applied_cells : (cells out : List (Tag × List Cell)) (es : List Entry) (d : FinMap tag_cmp (Change (List Cell))) → T (is_sorted tag_cmp cells) → map entry_change es ≡ entries d → out ≡ after_changes tag_cmp cells (map entry_change es) → from_sorted out ≡ applied (from_sorted {R = tag_cmp} cells) d
applied_cells cells out es d h all e =
    ap from_sorted e ∙ sym (applied_changes cells (map entry_change es) h).is ∙ ap (applied_list (from_sorted {R = tag_cmp} cells)) all

pub applied_sorted : (cells out : List (Tag × List Cell)) (es : List Entry) → T (is_sorted tag_cmp cells) → out ≡ after_changes tag_cmp cells (map entry_change es) → T (is_sorted tag_cmp out)
applied_sorted cells out es h e = subst (λ es. T (is_sorted tag_cmp es)) (sym e) (applied_changes cells (map entry_change es) h).sorted

pub sorted_changes : (es : List Entry) (d : FinMap tag_cmp (Change (List Cell))) → map entry_change es ≡ entries d → T (is_sorted tag_cmp (map entry_change es))
sorted_changes es d e = subst (λ es. T (is_sorted tag_cmp es)) (sym e) (entries_sorted d)
