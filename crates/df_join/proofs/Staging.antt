-- How what is staged follows the changes of its side.
use Rattle.std.proofs.Common.{◌≡◌, ◌≤◌, ◌<◌, ◌+◌, ℕ, Bool, true, false, cond, List, [], ◌∷◌, map, length, drop, get_or, Option, Some, None, Result, Ok, Err, MatchResult, OnOk, IfOk, refl, sym, ap, subst, ◌∙◌, drop-cons, add-one}
use Rattle.std.specs.Prelude.{T, ◌==◌}
use Rattle.std.specs.Option.{IfSome}
use Rattle.std.proofs.Math.ListN.{drop_of_length-le}
use Rattle.std.specs.FinMap as finite
use Rattle.indexmap.specs.IndexMap.{IndexMap, get}
use Rattle.df_value.specs.Rows.{row_eq}
use Rattle.df_column.specs.Changes.{set_at, applied_list, applied}
use Rattle.df_column.specs.TagOrder.{tag_total, tag_same}
use Rattle.df_value.specs.declared.cell.CellType.{CellType}
use Rattle.df_column.specs.Tables.{TableParts, TaggedRows, entry_change, new_row_fits}
use Rattle.df_column.specs.Tags.{tag_cmp}
use Rattle.df_column.specs.declared.entry.Entry.{Entry}
use Rattle.df_column.specs.declared.tag.Tag.{Tag}
use Rattle.std.specs.Ordering.{eq_by_cmp}
use Rattle.df_delta.specs.Deltas.{Changes}
use Rattle.df_delta.specs.Differences.{Fits}
use Rattle.df_delta.proofs.Changes.{get-set_at}
use Rattle.df_delta.proofs.Collected.{T-first, T-second}
use Rattle.df_join.specs.Keyed.{IsGroup, IsIndexOf, LeadsTo, group_of, staged_or, state_of, table_or, table_or_none, unless_empty}
use Rattle.df_join.specs.RowNotes.{CanMove, FitsList, NewFit, Note, row_after, without}
use Rattle.df_join.specs.Rules.{Cells}
use Rattle.df_join.specs.declared.keyed.KeyedTables.{KeyedTables}
use Rattle.df_join.specs.declared.members.Members.{Members}
use Rattle.df_join.proofs.Fits.{fits_list}
use Rattle.df_join.proofs.Groups.{group_moved, group_without, group-empty, table_or-rows}
use Rattle.df_join.proofs.Spread.{tied}

-- nothing is taken where nothing stands
pub set_at-absent : (m : TaggedRows) (q : Tag) → finite.get m q ≡ None → set_at m q None ≡ m
set_at-absent m q e = finite.same_map tag_total tag_same _ _ (λ p. get-set_at tag_total m q None p
    ∙ elim (eq_by_cmp tag_cmp p q) as (λ b. eq_by_cmp tag_cmp p q ≡ b → cond b None (finite.get m p) ≡ finite.get m p) [
      | true ↦ λ t. sym (ap (finite.get m) (tied p q t) ∙ e)
      | false ↦ λ t. refl
    ] refl)

pub set_none : (goes : Bool) (m : TaggedRows) (q : Tag) → finite.get m q ≡ cond goes None None → m ≡ set_at m q (cond goes None None)
set_none true m q e = sym (set_at-absent m q e)
set_none false m q e = sym (set_at-absent m q e)

pub set_twice : (t : TaggedRows) (k : Tag) (v w : Option Cells) → set_at (set_at t k v) k w ≡ set_at t k w
set_twice t k v w = finite.same_map tag_total tag_same _ _ (λ q.
    get-set_at tag_total (set_at t k v) k w q
    ∙ ap (cond (eq_by_cmp tag_cmp q k) w) (get-set_at tag_total t k v q)
    ∙ again (eq_by_cmp tag_cmp q k) (finite.get t q)
    ∙ sym (get-set_at tag_total t k w q))
  where
    again : (b : Bool) (x : Option Cells) → cond b w (cond b v x) ≡ cond b w x
    again true x = refl
    again false x = refl

pub on_ok_then : {A E P Q : Type 0} (r : Result A E) → OnOk r P → (P → Q) → OnOk r Q
on_ok_then (Ok a) p f = f p
on_ok_then (Err e) p f = tt

pub on_match : {A E P R : Type 0} (Q : Type 0) (r : Result A E) → MatchResult r (λ _. P) (λ _. Q) → (P → R) → OnOk r R
on_match Q (Ok a) p f = f p
on_match Q (Err e) p f = tt

pub if_ok_then : {A E : Type 0} {P Q : A → Type 0} (r : Result A E) → IfOk r P → ((a : A) → P a → Q a) → IfOk r Q
if_ok_then (Ok a) p f = f a p
if_ok_then (Err e) p f = tt

pub none_indexed : (indices : List (Option ℕ)) (members : Members) → members.empty.rows ≡ finite.empty → ((k : Cells) → get row_eq members.keyed.tables k ≡ None) → IsIndexOf indices members finite.empty
none_indexed indices members empty none = record { empty = empty; at = λ k. none k ∙ group-empty indices members.empty.schema k }

pub leads_at_first : (indices : List (Option ℕ)) (members : Members) (staged : KeyedTables) (t : TaggedRows) → ((k : Cells) → get row_eq staged.tables k ≡ None) → IsIndexOf indices members t → LeadsTo indices members staged t
leads_at_first indices members staged t none over = record { empty = over.empty; at = λ k. ap (λ s. staged_or s (get row_eq members.keyed.tables k)) (none k) ∙ over.at k }

module _ (members : Members) (staged next : KeyedTables) (tag : Tag) (row key : Cells) (indices : List (Option ℕ)) (goes : Bool) where
  -- the rows of the row's key
  pub group_here : (t : TaggedRows) → LeadsTo indices members staged t → IsGroup members staged key (group_of indices key t)
  group_here t over = record { at = ap (table_or members.empty) (over.at key) ∙ table_or-rows members.empty (group_of indices key t) over.empty }

  pub leads_moved : ((g : TaggedRows) → IsGroup members staged key g → T (new_row_fits members.empty.schema (row_after goes row)) → (k : Cells)
      → state_of members.keyed.tables next.tables k ≡ cond (row_eq key k) (table_or_none members.empty.schema (set_at g tag (row_after goes row))) (state_of members.keyed.tables staged.tables k))
      → (t : TaggedRows) → CanMove members.empty.schema indices goes tag row key t → LeadsTo indices members staged t → LeadsTo indices members next (set_at t tag (row_after goes row))
  leads_moved step t can over =
      record {
        empty = over.empty;
        at = λ k.
            step (group_of indices key t) (group_here t over) can.fits k
            ∙ ap (cond (row_eq key k) (table_or_none members.empty.schema (set_at (group_of indices key t) tag (row_after goes row)))) (over.at k)
            ∙ ap (λ h. cond (row_eq h k) (table_or_none members.empty.schema (set_at (group_of indices h t) tag (row_after goes row))) (table_or_none members.empty.schema (group_of indices k t))) can.key_is
            ∙ group_moved indices t tag goes row can.stood members.empty.schema k;
      }

  pub alone_moved : (alone : Bool) → ((g : TaggedRows) → IsGroup members staged key g → T (new_row_fits members.empty.schema (row_after goes row)) → alone ≡ (finite.len (without goes g tag) == 0))
      → (t : TaggedRows) → CanMove members.empty.schema indices goes tag row key t → LeadsTo indices members staged t → alone ≡ (finite.len (group_of indices key (without goes t tag)) == 0)
  alone_moved alone is t can over = is (group_of indices key t) (group_here t over) can.fits ∙ ap (λ g. finite.len g == 0) (group_without indices t tag goes key)

-- what is staged leads to a table from which the rest leads to u
pub record Follows (indices : List (Option ℕ)) (members : Members) (staged : KeyedTables) (rest : List Note) (u : TaggedRows) : Type 0 where
  pub now : TaggedRows
  pub leads : LeadsTo indices members staged now
  pub fits : FitsList now rest
  pub new_fit : NewFit members.empty.schema rest
  pub gives : applied_list now rest ≡ u

module _ (indices : List (Option ℕ)) (members : Members) where
  pub follows_first : (staged : KeyedTables) (d : Changes) (t : TaggedRows) → LeadsTo indices members staged t → Fits t d → NewFit members.empty.schema (finite.entries d) → Follows indices members staged (finite.entries d) (applied t d)
  follows_first staged d t leads fits new_fit = record {
    now = t;
    leads = leads;
    fits = fits_list (finite.entries d) t (finite.entries_sorted d) (λ q. subst (λ f. IfSome f (λ c. c.old ≡ finite.get t q)) (finite.get-entries d q) (fits.at q));
    new_fit = new_fit;
    gives = refl;
  }

  pub follows_more : (staged next : KeyedTables) (items : List Entry) (i : ℕ) (e : Entry) (u : TaggedRows) → i < length items → e ≡ get_or items i e
      → ((t : TaggedRows) → finite.get t e.tag ≡ e.old → T (new_row_fits members.empty.schema e.new) → LeadsTo indices members staged t → LeadsTo indices members next (set_at t e.tag e.new))
      → Follows indices members staged (map entry_change (drop i items)) u → Follows indices members next (map entry_change (drop (i + 1) items)) u
  follows_more staged next items i e u lt is step f =
      let here : drop i items ≡ get_or items i e ∷ drop (i + 1) items = rw add-one (drop-cons items i e lt) in
      let begins : drop i items ≡ e ∷ drop (i + 1) items = here ∙ ap (λ x. x ∷ drop (i + 1) items) (sym is) in
      let f' : Follows indices members staged (entry_change e ∷ map entry_change (drop (i + 1) items)) u = subst (λ es. Follows indices members staged (map entry_change es) u) begins f in
      record {
        now = set_at f'.now e.tag e.new;
        leads = step f'.now f'.fits.0 (T-first (new_row_fits members.empty.schema e.new) _ f'.new_fit) f'.leads;
        fits = f'.fits.1;
        new_fit = T-second (new_row_fits members.empty.schema e.new) _ f'.new_fit;
        gives = f'.gives;
      }

  pub follows_all : (staged : KeyedTables) (items : List Entry) (i : ℕ) (u : TaggedRows) → length items ≤ i → Follows indices members staged (map entry_change (drop i items)) u → LeadsTo indices members staged u
  follows_all staged items i u le f =
      let f' : Follows indices members staged [] u = subst (λ es. Follows indices members staged (map entry_change es) u) (drop_of_length-le items le) f in
      subst (LeadsTo indices members staged) f'.gives f'.leads

pub both_ways : {A E P Q R : Type 0} (r : Result A E) → MatchResult r (λ _. P) (λ _. Q) → (P → R) → (Q → R) → R
both_ways (Ok a) p f g = f p
both_ways (Err e) q f g = g q

pub match_map : {A E P R : Type 0} (Q : Type 0) (r : Result A E) → MatchResult r (λ _. P) (λ _. Q) → (P → R) → MatchResult r (λ _. R) (λ _. Q)
match_map Q (Ok a) p f = f p
match_map Q (Err e) q f = q

-- the table of a key takes the place of the one that is staged, or is staged first
module _ {S : Type 0} (tables staged next : IndexMap Cells TableParts S) (key : Cells) (made : TableParts) (rows : TaggedRows) (schema : List (List ℕ × CellType)) where
  pub state_moved : ((k : Cells) → get row_eq next k ≡ cond (row_eq key k) (Some made) (get row_eq staged k)) → made ≡ record { schema = schema; rows = rows }
      → (k : Cells) → state_of tables next k ≡ cond (row_eq key k) (table_or_none schema rows) (state_of tables staged k)
  state_moved put is k = ap (λ s. staged_or s (get row_eq tables k)) (put k) ∙ either (row_eq key k)
    where
      either : (b : Bool) → staged_or (cond b (Some made) (get row_eq staged k)) (get row_eq tables k) ≡ cond b (table_or_none schema rows) (state_of tables staged k)
      either true = ap unless_empty is
      either false = refl
