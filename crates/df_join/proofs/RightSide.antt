-- Notes that follow the right side, one change after another, over the left side as it is.
use Rattle.std.proofs.Common.{◌≡◌, ◌≤◌, ◌<◌, ◌+◌, ℕ, Bool, true, false, cond, List, [], ◌∷◌, map, length, drop, get_or, Option, Some, None, refl, sym, ap, subst, ◌∙◌, drop-cons, add-one, arith}
use Rattle.std.specs.Prelude.{◌==◌, ◌&&◌, T}
use Rattle.std.specs.Option.{IfSome}
use Rattle.std.specs.Ordering.{ordering_then, nat_cmp}
use Rattle.std.specs.Cmp.{nat_cmp_is}
use Rattle.std.specs.declared.cmp.Ordering.TheVariants.{Less}
use Rattle.std.proofs.Math.ListN.{drop_of_length-le}
use Rattle.std.specs.FinMap as finite
use Rattle.df_value.specs.Rows.{row_eq}
use Rattle.df_column.specs.Changes.{set_at, applied_list, applied}
use Rattle.df_column.specs.Tables.{TaggedRows, entry_change, new_row_fits}
use Rattle.df_column.specs.Tags.{tag_cmp}
use Rattle.df_column.specs.declared.entry.Entry.{Entry}
use Rattle.df_column.specs.declared.tag.Tag.{Tag}
use Rattle.df_delta.specs.Collected.{kept}
use Rattle.df_delta.specs.Deltas.{Changes}
use Rattle.df_delta.specs.Differences.{Fits}
use Rattle.df_delta.proofs.Collected.{T-first, T-second}
use Rattle.df_ops.specs.Groups.{key_of}
use Rattle.df_join.specs.Joined.{matches, left_rows}
use Rattle.df_join.specs.Keyed.{IsIndexOf, LeadsTo, group_of}
use Rattle.df_join.specs.RowNotes.{CanMove, FitsList, Leads, NewFit, Note, Noted, joined_by_key, keyed_rows, right_list, row_after, row_before, without}
use Rattle.df_join.specs.Rules.{Cells, by_key, is_null_key, keeps_left, key_or_null}
use Rattle.df_join.specs.Sides.{IsRowTag, LeadsOver, is_one}
use Rattle.df_join.specs.Spread.{AllKeys, HasKeys, IsLeftTag, IsRightTag, no_tag}
use Rattle.df_join.specs.declared.join.LiveJoin.{LiveJoin}
use Rattle.df_join.specs.declared.keyed.KeyedTables.{KeyedTables}
use Rattle.df_join.specs.declared.rule.JoinRule.{JoinRule}
use Rattle.df_join.proofs.Fits.{fits_list}
use Rattle.df_join.proofs.Groups.{swap}
use Rattle.df_join.proofs.Index.{group_is, null_rows}
use Rattle.df_join.proofs.Joined.{entries-empty}
use Rattle.df_join.proofs.Moves.{keys_set_at, right_moves, right_null}
use Rattle.df_join.proofs.Shape.{keys_from}
use Rattle.df_join.proofs.Spread.{all_keys}
use Rattle.df_join.proofs.Staging.{set_none}

swapped_keys : (a b : Option Cells) → matches row_eq a b ≡ matches row_eq b a
swapped_keys None None = refl
swapped_keys None (Some b) = refl
swapped_keys (Some a) None = refl
swapped_keys (Some a) (Some b) = swap a b

pub left_is : (rule : JoinRule) (k : Cells) (l : TaggedRows) → left_rows (by_key rule) (key_or_null rule k) l ≡ keyed_rows rule rule.indices.left k l
left_is rule k l = λ i. kept (λ (x : Cells). swapped_keys (key_or_null rule (key_of rule.indices.left x)) (key_or_null rule k) i) l

module _ (one : Bool) (rule : JoinRule) (a b : Changes) (from l r : TaggedRows) (left : HasKeys (IsLeftTag one) l) (right : HasKeys (IsRightTag one) r) (s : Tag) (y : Cells) (after : tag_cmp no_tag s ≡ Less) (is : IsRightTag one s) (none : finite.get r no_tag ≡ None) where
  abbrev next : Bool → TaggedRows
  next goes = set_at r s (row_after goes y)

  abbrev pub key : Cells
  key = key_of rule.indices.right y

  -- whether the left rows of the key stand alone without the right row
  abbrev pub are_alone : Bool → Bool
  are_alone goes = keeps_left rule.how && (finite.len (cond goes (keyed_rows rule rule.indices.right key (next goes)) (keyed_rows rule rule.indices.right key r)) == 0)

  -- a right row goes or comes: of a null key, whatever is said of being alone
  pub noted_right : (goes lone : Bool) → finite.get r s ≡ row_before goes y → (is_null_key rule key ≡ false → lone ≡ are_alone goes)
      → Noted a b (right_list rule one lone goes s y (finite.entries (keyed_rows rule rule.indices.left key l)))
      → Leads a from (joined_by_key one rule l r) → Leads b from (joined_by_key one rule l (next goes))
  noted_right goes lone stood lone_is noted leads =
      elim (is_null_key rule key) as (λ b'. is_null_key rule key ≡ b' → Leads b from (joined_by_key one rule l (next goes))) [
        | true ↦ λ null.
            let nothing : right_list rule one lone goes s y (finite.entries (keyed_rows rule rule.indices.left key l)) ≡ [] = ap (λ t. right_list rule one lone goes s y (finite.entries t)) (sym (null_rows rule rule.indices.left l key null)) ∙ ap (right_list rule one lone goes s y) entries-empty in
            let noted' : Noted a b [] = subst (Noted a b) nothing noted in
            subst (Leads b from) (right_null one rule s y after l r left right is none goes null stood) (noted'.after from (joined_by_key one rule l r) leads tt)
        | false ↦ λ known.
            let moves = right_moves one rule s y after l r left right is none goes known stood in
            let ns = right_list rule one (are_alone goes) goes s y (finite.entries (left_rows (by_key rule) (key_or_null rule key) l)) in
            let rows = sym (left_is rule key l) in
            let noted' : Noted a b ns = subst (Noted a b) (λ i. right_list rule one (lone_is known i) goes s y (finite.entries (rows i))) noted in
            subst (Leads b from) moves.1 (noted'.after from (joined_by_key one rule l r) leads moves.0)
      ] refl

pub after_none : (s : Tag) → 1 ≤ s.first → tag_cmp no_tag s ≡ Less
after_none s le = ap (λ o. ordering_then o (ordering_then (nat_cmp 0 s.second) (nat_cmp 0 s.third))) (sym (nat_cmp_is 0 s.first Less (omega arith)))

pub no_row : (one : Bool) (r : TaggedRows) → HasKeys (IsRowTag one) r → finite.get r no_tag ≡ None
no_row one r h = nothing (finite.get r no_tag) (h.at no_tag)
  where
    nothing : (f : Option Cells) → IfSome f (λ _. IsRowTag one no_tag) → f ≡ None
    nothing None k = refl
    nothing (Some y) k = absurd (omega (arith, k.begins))

module _ (j : LiveJoin) where
  abbrev one : Bool
  one = is_one j.left_scans

  module _ (a b : Changes) (goes alone : Bool) (tag : Tag) (y key : Cells) (key_is : key ≡ key_of j.rule.indices.right y) (from l r : TaggedRows) where
    abbrev own_key : Cells
    own_key = key_of j.rule.indices.right y

    lone_is : alone ≡ (finite.len (group_of j.rule.indices.right key (without goes r tag)) == 0) → is_null_key j.rule own_key ≡ false
        → (keeps_left j.rule.how && alone) ≡ (keeps_left j.rule.how && (finite.len (cond goes (keyed_rows j.rule j.rule.indices.right own_key (set_at r tag (row_after goes y))) (keyed_rows j.rule j.rule.indices.right own_key r)) == 0))
    lone_is f known =
        ap (λ b. keeps_left j.rule.how && b) (f
        ∙ ap (λ k. finite.len (group_of j.rule.indices.right k (without goes r tag)) == 0) key_is
        ∙ ap (λ t. finite.len t == 0) (group_is j.rule j.rule.indices.right own_key (without goes r tag) known ∙ elim goes as (λ b. keyed_rows j.rule j.rule.indices.right own_key (without b r tag) ≡ cond b (keyed_rows j.rule j.rule.indices.right own_key (set_at r tag (row_after b y))) (keyed_rows j.rule j.rule.indices.right own_key r)) [
          | true ↦ refl
          | false ↦ refl
        ]))

    -- a right row goes or comes
    pub right_moved : (s t : KeyedTables)
        → (CanMove j.right.empty.schema j.rule.indices.right goes tag y key r → LeadsTo j.rule.indices.right j.right s r → LeadsTo j.rule.indices.right j.right t (set_at r tag (row_after goes y)))
        → (CanMove j.right.empty.schema j.rule.indices.right goes tag y key r → LeadsTo j.rule.indices.right j.right s r → alone ≡ (finite.len (group_of j.rule.indices.right key (without goes r tag)) == 0))
        → (IsIndexOf j.rule.indices.left j.left l → Noted a b (right_list j.rule one (keeps_left j.rule.how && alone) goes tag y (finite.entries (keyed_rows j.rule j.rule.indices.left key l))))
        → IsRowTag one tag → finite.get r tag ≡ row_before goes y → T (new_row_fits j.right.empty.schema (row_after goes y)) → LeadsOver j s a from l r → LeadsOver j t b from l (set_at r tag (row_after goes y))
    right_moved s t stages is_alone noted is stood fits h =
        let can : CanMove j.right.empty.schema j.rule.indices.right goes tag y key r = record { key_is = key_is; stood = stood; fits = fits } in
        let right : HasKeys (IsRightTag one) r = keys_from (IsRowTag one) (IsRightTag one) r (λ q k. k.part) h.right_keys in
        record {
          left_keys = h.left_keys;
          right_keys = keys_set_at (IsRowTag one) r tag (row_after goes y) h.right_keys is;
          left = h.left;
          right = stages can h.right;
          leads = noted_right one j.rule a b from l r h.left_keys right tag y (after_none tag is.begins) is.part (no_row one r h.right_keys) goes (keeps_left j.rule.how && alone) stood (lone_is (is_alone can h.right))
              (subst (λ k. Noted a b (right_list j.rule one (keeps_left j.rule.how && alone) goes tag y (finite.entries (keyed_rows j.rule j.rule.indices.left k l)))) key_is (noted h.left)) h.leads;
        }

  pub right_absent : (goes : Bool) (s : KeyedTables) (a : Changes) (from l r : TaggedRows) (tag : Tag) → finite.get r tag ≡ cond goes None None → LeadsOver j s a from l r → LeadsOver j s a from l (set_at r tag (cond goes None None))
  right_absent goes s a from l r tag stood h = subst (LeadsOver j s a from l) (set_none goes r tag stood) h

  -- what is staged and noted leads to a right side from which the rest leads to u
  pub record Follows (s : KeyedTables) (notes : Changes) (from l : TaggedRows) (rest : List Note) (u : TaggedRows) : Type 0 where
    pub now : TaggedRows
    pub over : LeadsOver j s notes from l now
    pub tags : AllKeys (IsRowTag one) rest
    pub fits : FitsList now rest
    pub new_fit : NewFit j.right.empty.schema rest
    pub gives : applied_list now rest ≡ u

  pub follows_first : (s : KeyedTables) (notes : Changes) (from l r : TaggedRows) (d : Changes) → LeadsOver j s notes from l r → HasKeys (IsRowTag one) d → Fits r d → NewFit j.right.empty.schema (finite.entries d) → Follows s notes from l (finite.entries d) (applied r d)
  follows_first s notes from l r d over tags fits new_fit = record {
    now = r;
    over = over;
    tags = all_keys (IsRowTag one) d tags;
    fits = fits_list (finite.entries d) r (finite.entries_sorted d) (λ q. subst (λ f. IfSome f (λ c. c.old ≡ finite.get r q)) (finite.get-entries d q) (fits.at q));
    new_fit = new_fit;
    gives = refl;
  }

  pub follows_more : (s t : KeyedTables) (notes next : Changes) (from l : TaggedRows) (items : List Entry) (i : ℕ) (e : Entry) (u : TaggedRows) → i < length items → e ≡ get_or items i e
      → ((r : TaggedRows) → IsRowTag one e.tag → finite.get r e.tag ≡ e.old → T (new_row_fits j.right.empty.schema e.new) → LeadsOver j s notes from l r → LeadsOver j t next from l (set_at r e.tag e.new))
      → Follows s notes from l (map entry_change (drop i items)) u → Follows t next from l (map entry_change (drop (i + 1) items)) u
  follows_more s t notes next from l items i e u lt is step f =
      let here : drop i items ≡ get_or items i e ∷ drop (i + 1) items = rw add-one (drop-cons items i e lt) in
      let begins : drop i items ≡ e ∷ drop (i + 1) items = here ∙ ap (λ x. x ∷ drop (i + 1) items) (sym is) in
      let f' : Follows s notes from l (entry_change e ∷ map entry_change (drop (i + 1) items)) u = subst (λ es. Follows s notes from l (map entry_change es) u) begins f in
      record {
        now = set_at f'.now e.tag e.new;
        over = step f'.now f'.tags.0 f'.fits.0 (T-first (new_row_fits j.right.empty.schema e.new) _ f'.new_fit) f'.over;
        tags = f'.tags.1;
        fits = f'.fits.1;
        new_fit = T-second (new_row_fits j.right.empty.schema e.new) _ f'.new_fit;
        gives = f'.gives;
      }

  pub follows_all : (s : KeyedTables) (notes : Changes) (from l : TaggedRows) (items : List Entry) (i : ℕ) (u : TaggedRows) → length items ≤ i → Follows s notes from l (map entry_change (drop i items)) u → LeadsOver j s notes from l u
  follows_all s notes from l items i u le f =
      let f' : Follows s notes from l [] u = subst (λ es. Follows s notes from l (map entry_change es) u) (drop_of_length-le items le) f in
      subst (LeadsOver j s notes from l) f'.gives f'.over

-- the same pairs, of the same left rows
pub same_pairs : (a b : Changes) (rule : JoinRule) (one goes : Bool) (tag : Tag) (y : Cells) (o p : Bool) (m n : List (Tag × Cells)) → o ≡ p → m ≡ n → Noted a b (right_list rule one o goes tag y m) → Noted a b (right_list rule one p goes tag y n)
same_pairs a b rule one goes tag y o p m n e f noted = subst (Noted a b) (λ i. right_list rule one (e i) goes tag y (f i)) noted
