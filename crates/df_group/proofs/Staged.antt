-- What is staged follows a change of the input.
use Rattle.std.proofs.Common.{◌≡◌, Bool, true, false, cond, List, [], ◌∷◌, ◌++◌, length, map, Option, Some, None, refl, sym, ap, subst, ◌∙◌}
use Rattle.std.specs.Prelude.{◌==◌, T}
use Rattle.std.proofs.lemmas.List.{nil_from_length}
use Rattle.std.specs.Option.{IfSome}
use Rattle.std.specs.Map.{lookup}
use Rattle.std.specs.FinMap as finite
use Rattle.df_column.specs.Tags.{tag_cmp}
use Rattle.indexmap.specs.IndexMap.{IndexMap, get}
use Rattle.df_value.specs.declared.cell.Cell.{Cell}
use Rattle.df_value.specs.Rows.{row_eq}
use Rattle.df_value.specs.RowEq.{row_eq-Decides}
use Rattle.df_column.specs.Changes.{applied, applied_list}
use Rattle.df_column.specs.Tables.{AreRising, TableParts, TaggedRows, entry_change}
use Rattle.df_column.specs.declared.entry.Entry.{Entry}
use Rattle.df_delta.specs.Deltas.{Changes, RowsFit}
use Rattle.df_delta.specs.Differences.{Fits}
use Rattle.df_delta.specs.Keyed.{kept_changes, keyed_changes}
use Rattle.df_delta.specs.declared.keyed.KeyChanges.{KeyChanges}
use Rattle.df_delta.proofs.KeyedChanges.{keyed_diff}
use Rattle.df_ops.specs.Groups.{key_of}
use Rattle.df_group.specs.GroupIndex.{Follows, IsIndexOf, LeadsTo, changed_group, edited_table, group_in, group_with, member_entries, members_in, members_now, non_empty, row_of_group, staged_after, staged_or, staged_with, state_of, totals_now, totals_of}
use Rattle.df_group.specs.GroupRows.{members_of}
use Rattle.df_group.specs.Projections.{projected_delta, projected_entries, projected_rows}
use Rattle.df_group.specs.Totals.{Lead}
use Rattle.df_group.specs.declared.group.Group.{Group}
use Rattle.df_group.specs.declared.grouping.Grouping.{Grouping}
use Rattle.df_group.proofs.IndexMaps.{popped}
use Rattle.df_group.proofs.Members.{edited_members, members_now_is, totals_now_are}
use Rattle.df_group.proofs.ProjectedDeltas.{members_fit, no_projected_entries, projected_entries_are, projected_fits, projected_gives}
use Rattle.df_group.proofs.Totals.{lead_applied}

abbrev members_table : Grouping → TaggedRows → TableParts
members_table g rows = record { schema = g.members.schema; rows = rows }

-- what is staged where members change, and where they do not
pub staged_some : (g : Grouping) (k : List Cell) (now staged : Option Group) (entries : List Entry) → (length entries ≡ 0 → ⊥) → staged_after g k now entries staged ≡ Some (changed_group g k now entries)
staged_some g k now staged [] some = absurd (some refl)
staged_some g k now staged (entry ∷ entries) some = refl

pub staged_none : (g : Grouping) (k : List Cell) (now staged : Option Group) (entries : List Entry) → length entries ≡ 0 → staged_after g k now entries staged ≡ staged
staged_none g k now staged entries none = ap (λ es. staged_after g k now es staged) (nil_from_length entries none)

-- the changes of one more key are staged
pub stage_more : (g : Grouping) (key k : List Cell) (now : List Cell → Option Group) (x : KeyChanges) (old rest : Option KeyChanges) (staged next : Option Group)
    → old ≡ cond (row_eq key k) (Some x) rest → rest ≡ cond (row_eq key k) None old → next ≡ cond (row_eq key k) (staged_after g key (now key) (member_entries g x) staged) staged
    → staged_with g k (now k) rest next ≡ staged_with g k (now k) old staged
stage_more g key k now x old rest staged next is taken put =
    elim (row_eq key k) as (λ b. row_eq key k ≡ b → old ≡ cond b (Some x) rest → rest ≡ cond b None old → next ≡ cond b (staged_after g key (now key) (member_entries g x) staged) staged → staged_with g k (now k) rest next ≡ staged_with g k (now k) old staged) [
      | true ↦ λ e is taken put.
          ap (λ c. staged_with g k (now k) c next) taken
          ∙ put
          ∙ ap (λ j. staged_after g j (now j) (member_entries g x) staged) ((row_eq-Decides key k).0 e)
          ∙ ap (λ c. staged_with g k (now k) c staged) (sym is)
      | false ↦ λ e is taken put.
          ap (staged_with g k (now k) rest) put
          ∙ ap (λ c. staged_with g k (now k) c staged) taken
    ] refl is taken put

module _ {S : Type 0} where
  -- a staged group goes into the index
  pub put_more : (index next staged rest : IndexMap (List Cell) Group S) (key : List Cell) (group : Group) → staged.entries ≡ rest.entries ++ (key, group) ∷ []
      → ((k : List Cell) → get row_eq rest k ≡ cond (row_eq key k) None (get row_eq staged k))
      → ((k : List Cell) → get row_eq next k ≡ cond (row_eq key k) (non_empty group) (get row_eq index k))
      → (k : List Cell) → state_of next rest k ≡ state_of index staged k
  put_more index next staged rest key group e taken put k =
      ap (λ s. staged_or s (get row_eq next k)) (taken k)
      ∙ ap (staged_or (cond (row_eq key k) None (get row_eq staged k))) (put k)
      ∙ elim (row_eq key k) as (λ b. get row_eq staged k ≡ cond b (Some group) (get row_eq rest k) → staged_or (cond b None (get row_eq staged k)) (cond b (non_empty group) (get row_eq index k)) ≡ state_of index staged k) [
        | true ↦ λ is. sym (ap (λ s. staged_or s (get row_eq index k)) is)
        | false ↦ λ is. refl
      ] (popped staged rest key group e taken k)

module _ (g : Grouping) (t : TaggedRows) (d : Changes) (fits : Fits t d) (fit : RowsFit g.members.schema (projected_rows g.members.indices (applied t d))) where
  abbrev of : List Cell → Changes
  of k = keyed_changes (key_of g.key_indices) k d

  abbrev of_members : List Cell → Changes
  of_members k = projected_delta g.members.indices (of k)

  gives : (k : List Cell) → applied (members_in g k t) (of_members k) ≡ members_in g k (applied t d)
  gives k =
      let diff = keyed_diff (key_of g.key_indices) k t d fits in
      projected_gives g.members.indices (members_of g.key_indices k t) (of k) diff.fits ∙ ap (projected_rows g.members.indices) diff.gives

  -- the table of the members after their changes
  edited : (k : List Cell) (entries : List Entry) → map entry_change entries ≡ finite.entries (of_members k) → edited_table (members_table g (members_in g k t)) entries ≡ members_table g (applied (members_in g k t) (of_members k))
  edited k entries e = edited_members g k (members_in g k t) (of_members k) entries e (subst (RowsFit g.members.schema) (sym (gives k)) (members_fit g.members.schema g.key_indices k g.members.indices (applied t d) fit))

  state_after : (k : List Cell) (now : Option Group) (entries : List Entry) → now ≡ non_empty (group_in g k t) → map entry_change entries ≡ finite.entries (of_members k)
      → staged_or (staged_after g k now entries None) now ≡ non_empty (group_in g k (applied t d))
  state_after k now [] is e =
      is
      ∙ ap (λ m. non_empty (group_with g k (members_table g m))) (ap (applied_list (members_in g k t)) e ∙ gives k)
  state_after k now (entry ∷ entries) is e =
      ap (λ p. non_empty (group_with g k p)) (
      ap (λ p. edited_table p (entry ∷ entries)) (ap (members_now g) is ∙ members_now_is g k (members_in g k t))
      ∙ edited k (entry ∷ entries) e
      ∙ ap (members_table g) (gives k))

  of_entries : (k : List Cell) (entries : List Entry) → map entry_change entries ≡ finite.entries (of k) → map entry_change (projected_entries g.members.indices entries) ≡ finite.entries (of_members k)
  of_entries k entries e = projected_entries_are g.members.indices (of k) entries e

  state_at : (k : List Cell) (now : Option Group) (c : Option KeyChanges) → now ≡ non_empty (group_in g k t) → kept_changes c ≡ finite.entries (of k)
      → staged_or (staged_with g k now c None) now ≡ non_empty (group_in g k (applied t d))
  state_at k now None is e = state_after k now [] is (ap (map entry_change) (sym (no_projected_entries g.members.indices)) ∙ of_entries k [] e)
  state_at k now (Some c) is e = state_after k now (member_entries g c) is (of_entries k c.entries.items e)

  -- the totals of a key's group follow the changes of its members
  follows_at : (k : List Cell) (now : Option Group) (entries : List Entry) → now ≡ non_empty (group_in g k t) → map entry_change entries ≡ finite.entries (of_members k) → Follows g k now entries
  follows_at k now entries is e =
      let m = members_in g k t in
      let members : members_now g now ≡ members_table g m = ap (members_now g) is ∙ members_now_is g k m in
      record {
        row = rows_own now is;
        own = ap (totals_now g) is ∙ totals_now_are g k m ∙ sym (ap (λ p. totals_of g (finite.values p.rows)) members);
        lead = subst (λ p. Lead (finite.values p.rows) entries (finite.values (edited_table p entries).rows)) (sym members)
            (subst (λ p. Lead (finite.values m) entries (finite.values p.rows)) (sym (edited k entries e))
            (lead_applied m (of_members k) entries e (projected_fits g.members.indices (members_of g.key_indices k t) (of k) (keyed_diff (key_of g.key_indices) k t d fits).fits)));
      }
    where
      rows_own : (now : Option Group) → now ≡ non_empty (group_in g k t) → IfSome now (λ group. group.row ≡ row_of_group g k (finite.values group.members.rows))
      rows_own None e = tt
      rows_own (Some group) e = own_row (finite.len (group_in g k t).members.rows == 0) e where
        own_row : (b : Bool) → Some group ≡ cond b None (Some (group_in g k t)) → group.row ≡ row_of_group g k (finite.values group.members.rows)
        own_row true e = absurd (cc e)
        own_row false e = let same : group ≡ group_in g k t = cc e in ap (λ (x : Group). x.row) same ∙ ap (λ (x : Group). row_of_group g k (finite.values x.members.rows)) (sym same)

  follows_if : (k : List Cell) (now : Option Group) (c : Option KeyChanges) → now ≡ non_empty (group_in g k t) → kept_changes c ≡ finite.entries (of k) → IfSome c (λ c. Follows g k now (member_entries g c))
  follows_if k now None is e = tt
  follows_if k now (Some c) is e = follows_at k now (member_entries g c) is (of_entries k c.entries.items e)

  pub follow : {S Z : Type 0} (index : IndexMap (List Cell) Group S) (changes : IndexMap (List Cell) KeyChanges Z) → IsIndexOf g index t
      → ((k : List Cell) → kept_changes (get row_eq changes k) ≡ finite.entries (of k))
      → (k : List Cell) → IfSome (get row_eq changes k) (λ c. Follows g k (get row_eq index k) (member_entries g c))
  follow index changes over kept k = follows_if k (get row_eq index k) (get row_eq changes k) (over.at k) (kept k)

  pub leads : {S Z : Type 0} (index staged : IndexMap (List Cell) Group S) (changes : IndexMap (List Cell) KeyChanges Z) → IsIndexOf g index t
      → ((k : List Cell) → kept_changes (get row_eq changes k) ≡ finite.entries (of k))
      → ((k : List Cell) → get row_eq staged k ≡ staged_with g k (get row_eq index k) (get row_eq changes k) None)
      → LeadsTo g index staged (applied t d)
  leads index staged changes over kept staged_is = record {
    at = λ k. ap (λ s. staged_or s (get row_eq index k)) (staged_is k) ∙ state_at k (get row_eq index k) (get row_eq changes k) (over.at k) (kept k);
  }

-- the entries that are kept for a key rise
pub rising_of : (changes : Option KeyChanges) (d : Changes) → kept_changes changes ≡ finite.entries d → IfSome changes (λ c. AreRising c.entries.items)
rising_of None d e = tt
rising_of (Some c) d e = subst (λ es. T (finite.is_sorted tag_cmp es)) (sym e) (finite.entries_sorted d)

-- an index of the same entries holds the same
pub leads_still : {S : Type 0} (g : Grouping) (index next staged : IndexMap (List Cell) Group S) (t : TaggedRows) → next.entries ≡ index.entries → LeadsTo g index staged t → LeadsTo g next staged t
leads_still g index next staged t e leads = record {
  at = λ k. ap (λ (es : List (List Cell × Group)). staged_or (get row_eq staged k) (lookup (row_eq k) es)) e ∙ leads.at k;
}
