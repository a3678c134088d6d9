-- Notes that follow the left side, one change after another.
use Rattle.std.proofs.Common.{◌≡◌, ◌≤◌, ◌<◌, ◌+◌, ℕ, Bool, cond, List, [], ◌∷◌, map, length, drop, get_or, Option, None, refl, sym, ap, subst, ◌∙◌, drop-cons, add-one}
use Rattle.std.specs.Option.{IfSome}
use Rattle.std.proofs.Math.ListN.{drop_of_length-le}
use Rattle.std.specs.FinMap as finite
use Rattle.df_column.specs.Changes.{set_at, applied_list, applied}
use Rattle.df_column.specs.Tables.{TaggedRows, entry_change}
use Rattle.df_column.specs.Tags.{tag_cmp}
use Rattle.df_column.specs.declared.entry.Entry.{Entry}
use Rattle.df_column.specs.declared.tag.Tag.{Tag}
use Rattle.df_delta.specs.Deltas.{Changes}
use Rattle.df_delta.specs.Differences.{Fits}
use Rattle.df_delta.specs.Notes.{IsNote}
use Rattle.df_ops.specs.Groups.{key_of}
use Rattle.df_join.specs.RowNotes.{AreSides, FitsList, Leads, Note, Noted, joined_by_key, keyed_rows, left_list, row_after, row_before}
use Rattle.df_join.specs.Rules.{Cells, keeps_left}
use Rattle.df_join.specs.Spread.{AllKeys, HasKeys, IsLeftTag}
use Rattle.df_join.specs.declared.keyed.KeyedTables.{KeyedTables}
use Rattle.df_join.specs.declared.members.Members.{Members}
use Rattle.df_join.specs.declared.rule.JoinRule.{JoinRule}
use Rattle.df_join.proofs.Fits.{fits_list}
use Rattle.df_join.proofs.Moves.{keys_set_at, left_moves}
use Rattle.df_join.proofs.Spread.{all_keys}
use Rattle.df_join.proofs.Staging.{set_none}

pub leads_nothing : (t : TaggedRows) (notes : Changes) → notes ≡ finite.empty → Leads notes t t
leads_nothing t notes e = subst (λ ns. Leads ns t t) (sym e) (record { at = λ q. subst (λ n. IsNote n (finite.get t q) (finite.get t q)) (sym (finite.get-empty tag_cmp q)) refl })

module _ (one : Bool) (rule : JoinRule) (right : Members) (staged : KeyedTables) where
  pub sides_after : (l r : TaggedRows) (p : Tag) (v : Option Cells) → AreSides one rule right staged l r → IsLeftTag one p → AreSides one rule right staged (set_at l p v) r
  sides_after l r p v h is = record { left_keys = keys_set_at (IsLeftTag one) l p v h.left_keys is; right_keys = h.right_keys; over = h.over }

  pub noted_left : (a b : Changes) (goes : Bool) (from l r : TaggedRows) (p : Tag) (x : Cells) → Noted a b (left_list rule one (keeps_left rule.how) goes p x (finite.entries (keyed_rows rule rule.indices.right (key_of rule.indices.left x) r))) → AreSides one rule right staged l r → IsLeftTag one p → finite.get l p ≡ row_before goes x
      → Leads a from (joined_by_key one rule l r) → Leads b from (joined_by_key one rule (set_at l p (row_after goes x)) r)
  noted_left a b goes from l r p x noted h is stood leads =
      let moves = left_moves one rule l r h.left_keys h.right_keys goes p x is stood in
      subst (Leads b from) moves.1 (noted.after from (joined_by_key one rule l r) leads moves.0)

  pub noted_absent : (a : Changes) (goes : Bool) (from l r : TaggedRows) (p : Tag) → finite.get l p ≡ cond goes None None → Leads a from (joined_by_key one rule l r) → Leads a from (joined_by_key one rule (set_at l p (cond goes None None)) r)
  noted_absent a goes from l r p stood leads = subst (λ l. Leads a from (joined_by_key one rule l r)) (set_none goes l p stood) leads

  -- the notes lead to a left table from which the rest leads to u
  pub record Follows (notes : Changes) (from r : TaggedRows) (rest : List Note) (u : TaggedRows) : Type 0 where
    pub now : TaggedRows
    pub sides : AreSides one rule right staged now r
    pub tags : AllKeys (IsLeftTag one) rest
    pub fits : FitsList now rest
    pub gives : applied_list now rest ≡ u
    pub leads : Leads notes from (joined_by_key one rule now r)

  pub follows_first : (notes : Changes) (from l r : TaggedRows) (d : Changes) → AreSides one rule right staged l r → HasKeys (IsLeftTag one) d → Fits l d → Leads notes from (joined_by_key one rule l r) → Follows notes from r (finite.entries d) (applied l d)
  follows_first notes from l r d h tags fits leads = record {
    now = l;
    sides = h;
    tags = all_keys (IsLeftTag one) d tags;
    fits = fits_list (finite.entries d) l (finite.entries_sorted d) (λ q. subst (λ f. IfSome f (λ c. c.old ≡ finite.get l q)) (finite.get-entries d q) (fits.at q));
    gives = refl;
    leads = leads;
  }

  pub follows_more : (notes next : Changes) (from r : TaggedRows) (items : List Entry) (i : ℕ) (e : Entry) (u : TaggedRows) → i < length items → e ≡ get_or items i e
      → ((l : TaggedRows) → AreSides one rule right staged l r → IsLeftTag one e.tag → finite.get l e.tag ≡ e.old → Leads notes from (joined_by_key one rule l r) → Leads next from (joined_by_key one rule (set_at l e.tag e.new) r))
      → Follows notes from r (map entry_change (drop i items)) u → Follows next from r (map entry_change (drop (i + 1) items)) u
  follows_more notes next from r items i e u lt is step f =
      let here : drop i items ≡ get_or items i e ∷ drop (i + 1) items = rw add-one (drop-cons items i e lt) in
      let begins : drop i items ≡ e ∷ drop (i + 1) items = here ∙ ap (λ x. x ∷ drop (i + 1) items) (sym is) in
      let f' : Follows notes from r (entry_change e ∷ map entry_change (drop (i + 1) items)) u = subst (λ es. Follows notes from r (map entry_change es) u) begins f in
      record {
        now = set_at f'.now e.tag e.new;
        sides = sides_after f'.now r e.tag e.new f'.sides f'.tags.0;
        tags = f'.tags.1;
        fits = f'.fits.1;
        gives = f'.gives;
        leads = step f'.now f'.sides f'.tags.0 f'.fits.0 f'.leads;
      }

  pub follows_all : (notes : Changes) (from r : TaggedRows) (items : List Entry) (i : ℕ) (u : TaggedRows) → length items ≤ i → Follows notes from r (map entry_change (drop i items)) u → Leads notes from (joined_by_key one rule u r)
  follows_all notes from r items i u le f =
      let f' : Follows notes from r [] u = subst (λ es. Follows notes from r (map entry_change es) u) (drop_of_length-le items le) f in
      subst (λ l. Leads notes from (joined_by_key one rule l r)) f'.gives f'.leads
