-- Counting look-ups over a loop.
use Rattle.std.proofs.Common.{◌≡◌, ◌<◌, ◌≤◌, ◌+◌, ℕ, Bool, List, ◌∷◌, map, length, drop, get_or, Option, Some, sym, ap, subst, ◌∙◌, drop-cons, add-one, arith}
use Rattle.std.specs.Prelude.{◌||◌}
use Rattle.std.proofs.Math.ListN.{drop_of_length-le}
use Rattle.std.specs.FinMap as finite
use Rattle.df_column.specs.Tables.{entry_change}
use Rattle.df_column.specs.declared.entry.Entry.{Entry}
use Rattle.df_delta.specs.Deltas.{Changes}
use Rattle.df_ops.specs.Groups.{key_of}
use Rattle.df_value.specs.Rows.{row_eq}
use Rattle.df_join.specs.Probes.{is_staged, nothing_staged, with_key, with_keys, note_probes, right_probes, change_probes, all_probes, probes_left, probes_noted, probes_over}
use Rattle.df_join.specs.Rules.{Cells}
use Rattle.df_join.specs.declared.keyed.KeyedTables.{KeyedTables}
use Rattle.df_join.specs.declared.rule.JoinRule.{JoinRule}

-- n probes were made of m, and what is left is the cost of the rest over the keys that are staged now
module _ (indices : List (Option ℕ)) (cost : (Cells → Bool) → Option Cells → ℕ) where
  pub probes_more : (s t : Cells → Bool) (items : List Entry) (i : ℕ) (d : Entry) (m n p : ℕ) → i < length items → d ≡ get_or items i d
      → n ≡ m + change_probes indices cost s d.old d.new
      → t ≡ with_key indices d.new (with_key indices d.old s)
      → m + all_probes indices cost s (map entry_change (drop i items)) ≡ p → n + all_probes indices cost t (map entry_change (drop (i + 1) items)) ≡ p
  probes_more s t items i d m n p lt is grown keys before =
      let e = d in
      let first : drop i items ≡ get_or items i d ∷ drop (i + 1) items = rw add-one (drop-cons items i d lt) in
      let here : drop i items ≡ e ∷ drop (i + 1) items = first ∙ ap (λ x. x ∷ drop (i + 1) items) (sym is) in
      let rest : ℕ = all_probes indices cost (with_key indices e.new (with_key indices e.old s)) (map entry_change (drop (i + 1) items)) in
      let now : all_probes indices cost t (map entry_change (drop (i + 1) items)) ≡ rest = ap (λ t. all_probes indices cost t (map entry_change (drop (i + 1) items))) keys in
      let whole : m + (change_probes indices cost s e.old e.new + rest) ≡ p = subst (λ es. m + all_probes indices cost s (map entry_change es) ≡ p) here before in
      ap (λ r. n + r) now ∙ sums n m (change_probes indices cost s e.old e.new) rest grown ∙ whole
    where
      sums : (n m a r : ℕ) → n ≡ m + a → n + r ≡ m + (a + r)
      sums n m a r e = omega (arith, e)

  pub probes_end : (s : Cells → Bool) (items : List Entry) (i m p : ℕ) → length items ≤ i → m + all_probes indices cost s (map entry_change (drop i items)) ≡ p → m ≡ p
  probes_end s items i m p le h =
      let none : m + 0 ≡ p = subst (λ es. m + all_probes indices cost s (map entry_change es) ≡ p) (drop_of_length-le items le) h in
      omega (arith, none)

-- the keys that are staged at the end
pub keys_more : (indices : List (Option ℕ)) (s t u : Cells → Bool) (items : List Entry) (i : ℕ) (d : Entry) → i < length items → d ≡ get_or items i d
    → t ≡ with_key indices d.new (with_key indices d.old s)
    → with_keys indices s (map entry_change (drop i items)) ≡ u → with_keys indices t (map entry_change (drop (i + 1) items)) ≡ u
keys_more indices s t u items i d lt is keys before =
    let e = d in
    let first : drop i items ≡ get_or items i d ∷ drop (i + 1) items = rw add-one (drop-cons items i d lt) in
    let here : drop i items ≡ e ∷ drop (i + 1) items = first ∙ ap (λ x. x ∷ drop (i + 1) items) (sym is) in
    ap (λ t. with_keys indices t (map entry_change (drop (i + 1) items))) keys ∙ subst (λ es. with_keys indices s (map entry_change es) ≡ u) here before

pub keys_end : (indices : List (Option ℕ)) (s u : Cells → Bool) (items : List Entry) (i : ℕ) → length items ≤ i → with_keys indices s (map entry_change (drop i items)) ≡ u → s ≡ u
keys_end indices s u items i le h = subst (λ es. with_keys indices s (map entry_change es) ≡ u) (drop_of_length-le items le) h

-- one count after another
pub counts_add : (m n p a b c : ℕ) → n ≡ m + a → p ≡ n + b → b ≡ c → p ≡ m + (a + c)
counts_add m n p a b c e f g = omega (arith, e, f, g)

-- the look-ups of a right row that takes the place of another of its key
pub replaced_probes : (rule : JoinRule) (s t : Cells → Bool) (key y z : Cells) (p a b c n : ℕ) → key ≡ key_of rule.indices.right y → key_of rule.indices.right y ≡ key_of rule.indices.right z
    → ((k : Cells) → t k ≡ (row_eq key k || s k))
    → a ≡ p + probes_over (s key) → b ≡ a + probes_left rule key → c ≡ b + probes_over (t key) → n ≡ c + probes_left rule key
    → n ≡ p + change_probes rule.indices.right (right_probes rule) s (Some y) (Some z)
replaced_probes rule s t key y z p a b c n is same touched first second third fourth =
    add p a b c n (probes_over (s key)) (probes_left rule key) (probes_over (t key)) (probes_left rule key)
    (probes_over (s old)) (probes_left rule old) (probes_over (row_eq old new || s new)) (probes_left rule new) first second third fourth
    (ap (λ k. probes_over (s k)) is) (ap (probes_left rule) is)
    (ap probes_over (touched key) ∙ (λ i. probes_over (row_eq (is i) ((is ∙ same) i) || s ((is ∙ same) i)))) (ap (probes_left rule) (is ∙ same))
  where
    old : Cells
    old = key_of rule.indices.right y

    new : Cells
    new = key_of rule.indices.right z

    add : (p a b c n w x y z e f g h : ℕ) → a ≡ p + w → b ≡ a + x → c ≡ b + y → n ≡ c + z → w ≡ e → x ≡ f → y ≡ g → z ≡ h → n ≡ p + ((e + f) + (g + h))
    add p a b c n w x y z e f g h k l m o q r s t = omega (arith, k, l, m, o, q, r, s, t)

-- the counts of both sides' notes, where nothing was staged at first
pub counts_noted : (rule : JoinRule) (first staged : KeyedTables) (d e : Changes) (m a n : ℕ) → is_staged first ≡ nothing_staged → is_staged staged ≡ with_keys rule.indices.right (is_staged first) (finite.entries e)
    → a ≡ m + all_probes rule.indices.right (right_probes rule) (is_staged first) (finite.entries e)
    → n ≡ a + all_probes rule.indices.left (λ _. note_probes rule (is_staged staged)) nothing_staged (finite.entries d)
    → n ≡ m + probes_noted rule d e
counts_noted rule first staged d e m a n none keys right left =
    let begins : a ≡ m + all_probes rule.indices.right (right_probes rule) nothing_staged (finite.entries e) = right ∙ ap (λ s. m + all_probes rule.indices.right (right_probes rule) s (finite.entries e)) none in
    let known : is_staged staged ≡ with_keys rule.indices.right nothing_staged (finite.entries e) = keys ∙ ap (λ s. with_keys rule.indices.right s (finite.entries e)) none in
    let ends : n ≡ a + all_probes rule.indices.left (λ _. note_probes rule (with_keys rule.indices.right nothing_staged (finite.entries e))) nothing_staged (finite.entries d) = left ∙ ap (λ s. a + all_probes rule.indices.left (λ _. note_probes rule s) nothing_staged (finite.entries d)) known in
    add m a n (all_probes rule.indices.right (right_probes rule) nothing_staged (finite.entries e)) (all_probes rule.indices.left (λ _. note_probes rule (with_keys rule.indices.right nothing_staged (finite.entries e))) nothing_staged (finite.entries d)) begins ends
  where
    add : (m a n x y : ℕ) → a ≡ m + x → n ≡ a + y → n ≡ m + (x + y)
    add m a n x y e f = omega (arith, e, f)
