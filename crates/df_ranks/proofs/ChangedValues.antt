-- The least value that changes: each that does is among the rises.
use Rattle.std.proofs.Common.{◌≡◌, ℕ, Bool, true, false, not, List, [], ◌∷◌, Option, Some, None, map, refl, sym, ap, subst, ◌∙◌}
use Rattle.std.specs.Prelude.{T, ◌&&◌, ◌||◌, is_some}
use Rattle.std.specs.List.{list_any}
use Rattle.std.specs.Map.{keys_of}
use Rattle.std.specs.Option.{option_map}
use Rattle.std.specs.Ordering.{eq_by_cmp, is_lt}
use Rattle.std.specs.FinMap.{is_sorted, find}
use Rattle.std.specs.FinMap.Entries.{below_all, is_some-find}
use Rattle.std.proofs.lemmas.Bool.{eq-eqb}
use Rattle.df_value.specs.CellOrder.{cell_cmp, cell_cmp_total}
use Rattle.df_value.specs.declared.cell.Cell.{Cell}
use Rattle.df_ops.specs.declared.ranks.RankKind.{RankKind}
use Rattle.df_column.specs.Changes.{after_changes}
use Rattle.df_column.proofs.Bools.{T-both, T-first, T-second, less_from_is_lt}
use Rattle.df_counts.specs.Counts.{count_change}
use Rattle.df_counts.proofs.Orders.{cell_same}
use Rattle.df_counts.proofs.Lookups.{below_more}
use Rattle.df_delta.proofs.Changes.{after_change}
use Rattle.df_delta.proofs.Collected.{find_below_all}
use Rattle.df_ranks.specs.Counts.{SameBelow, changes_weight, weight}
use Rattle.df_ranks.proofs.CountChanges.{find_raised}
use Rattle.df_ranks.proofs.Entries.{tied}

-- keys by themselves, as entries
abbrev pub marked : List Cell → List (Cell × Bool)
marked ks = map (λ k. (k, true)) ks

pub marked_keys : (ks : List Cell) → map (λ e. e.0) (marked ks) ≡ ks
marked_keys [] = refl
marked_keys (k ∷ ks) = ap (λ r. k ∷ r) (marked_keys ks)

same_weight : (kind : RankKind) (a : Option ℕ) → changes_weight kind a a ≡ false
same_weight kind None = refl
same_weight kind (Some n) = ap not (eq-eqb (weight kind n) (weight kind n) refl)

-- whether a value changes what it adds
abbrev pub is_changed : RankKind → List (Cell × ℕ) → List (Cell × ℕ) → Cell → Bool
is_changed kind old new v = changes_weight kind (find cell_cmp v old) (find cell_cmp v new)

pub changed_rises : (kind : RankKind) (old new rs : List (Cell × ℕ)) → T (is_sorted cell_cmp rs) → new ≡ after_changes cell_cmp old (map (count_change old) rs)
    → (v : Cell) → is_changed kind old new v ≡ true → list_any (eq_by_cmp cell_cmp v) (keys_of rs) ≡ true
changed_rises kind old new rs h made v changed = by_found (find cell_cmp v rs) refl where
  after : (o : Option ℕ) → find cell_cmp v rs ≡ o → find cell_cmp v new ≡ after_change (option_map (λ r. (count_change old (v, r)).1) o) (find cell_cmp v old)
  after o e = ap (find cell_cmp v) made ∙ find_raised old v rs h ∙ ap (λ o. after_change (option_map (λ r. (count_change old (v, r)).1) o) (find cell_cmp v old)) e

  by_found : (o : Option ℕ) → find cell_cmp v rs ≡ o → list_any (eq_by_cmp cell_cmp v) (keys_of rs) ≡ true
  by_found None e =
      let t : true ≡ false = sym changed ∙ ap (changes_weight kind (find cell_cmp v old)) (after None e) ∙ same_weight kind (find cell_cmp v old) in
      cc t
  by_found (Some r) e = sym (is_some-find cell_cmp v rs) ∙ ap is_some e

-- each value that changes is among these
pub record AreAmong (kind : RankKind) (old new : List (Cell × ℕ)) (ks : List Cell) : Type 0 where
  pub rising : T (is_sorted cell_cmp (marked ks))
  pub at : (v : Cell) → is_changed kind old new v ≡ true → list_any (eq_by_cmp cell_cmp v) ks ≡ true

below_marked : (k : Cell) (es : List (Cell × ℕ)) → below_all cell_cmp k (marked (keys_of es)) ≡ below_all cell_cmp k es
below_marked k [] = refl
below_marked k (e ∷ es) = ap (λ b. is_lt (cell_cmp k e.0) && b) (below_marked k es)

sorted_marked : (es : List (Cell × ℕ)) → is_sorted cell_cmp (marked (keys_of es)) ≡ is_sorted cell_cmp es
sorted_marked [] = refl
sorted_marked (e ∷ es) = λ i. below_marked e.0 es i && sorted_marked es i

pub among_all : (kind : RankKind) (old new rs : List (Cell × ℕ)) → T (is_sorted cell_cmp rs) → new ≡ after_changes cell_cmp old (map (count_change old) rs) → AreAmong kind old new (keys_of rs)
among_all kind old new rs h made = record { rising = subst T (sym (sorted_marked rs)) h; at = changed_rises kind old new rs h made }

module _ (kind : RankKind) (old new : List (Cell × ℕ)) (x : Cell) (xs : List Cell) (among : AreAmong kind old new (x ∷ xs)) where
  pub among_rest : is_changed kind old new x ≡ false → AreAmong kind old new xs
  among_rest same = record { rising = T-second _ _ among.rising; at = λ v changed. by_tie v (eq_by_cmp cell_cmp v x) refl changed (among.at v changed) } where
    by_tie : (v : Cell) (b : Bool) → eq_by_cmp cell_cmp v x ≡ b → is_changed kind old new v ≡ true → (b || list_any (eq_by_cmp cell_cmp v) xs) ≡ true → list_any (eq_by_cmp cell_cmp v) xs ≡ true
    by_tie v true t changed any =
        let f : true ≡ false = sym changed ∙ ap (is_changed kind old new) (tied cell_cmp_total cell_same v x t) ∙ same in
        cc f
    by_tie v false t changed any = any

  -- none below the first changes
  pub same_under : SameBelow kind old new (Some x)
  same_under = record { at = λ v below. by_change v below (is_changed kind old new v) refl } where
    none : (v : Cell) → is_lt (cell_cmp v x) ≡ true → list_any (eq_by_cmp cell_cmp v) (x ∷ xs) ≡ false
    none v below =
        let less = less_from_is_lt (cell_cmp v x) (subst T (sym below) tt) in
        let missing : find cell_cmp v (marked (x ∷ xs)) ≡ None = find_below_all cell_cmp v (marked (x ∷ xs)) (T-both _ _ (subst T (sym below) tt) (below_more cell_cmp_total v x (marked xs) less (T-first _ _ among.rising))) in
        ap (list_any (eq_by_cmp cell_cmp v)) (sym (marked_keys (x ∷ xs))) ∙ sym (is_some-find cell_cmp v (marked (x ∷ xs))) ∙ ap is_some missing

    by_change : (v : Cell) → is_lt (cell_cmp v x) ≡ true → (b : Bool) → is_changed kind old new v ≡ b → b ≡ false
    by_change v below true e = sym (among.at v e) ∙ none v below
    by_change v below false e = refl

pub same_everywhere : (kind : RankKind) (old new : List (Cell × ℕ)) → AreAmong kind old new [] → SameBelow kind old new None
same_everywhere kind old new among = record { at = λ v below. by_change v (is_changed kind old new v) refl } where
  by_change : (v : Cell) (b : Bool) → is_changed kind old new v ≡ b → b ≡ false
  by_change v true e = sym (among.at v e)
  by_change v false e = refl
