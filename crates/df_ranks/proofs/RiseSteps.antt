-- One rise more.
use Rattle.std.proofs.Common.{◌≡◌, ℕ, ◌+◌, ◌%◌, ◌^◌, ◌<◌, Bool, true, false, cond, List, Option, Some, length, take, get_or, refl, sym, ap, ◌∙◌, arith, count_by}
use Rattle.std.specs.Prelude.{unwrap_or}
use Rattle.std.specs.BTreeMap.{BTreeMap, get, Updates}
use Rattle.std.proofs.lemmas.List.Sums.{count_by_more_yes, count_by_more_no}
use Rattle.df_value.specs.CellEq.{cell_eq, cell_eq-Decides}
use Rattle.df_value.specs.CellOrder.{cell_cmp}
use Rattle.df_value.specs.declared.cell.Cell.{Cell}
use Rattle.df_column.specs.declared.entry.Entry.{Entry}
use Rattle.df_counts.proofs.Orders.{ties_where_equal}
use Rattle.df_ranks.specs.Rises.{AreRises, come, gone, has_value, rise_of}
use Rattle.df_ranks.proofs.Raises.{one_come, one_gone}

-- a map in which one value has risen
pub raised_at : (m n : BTreeMap Cell ℕ) (k : Cell) (w by : ℕ) → Updates cell_cmp m n k (Some w) → w ≡ (rise_of m k + by) % 2 ^ 64
    → (v : Cell) → rise_of n v ≡ cond (cell_eq k v) ((rise_of m v + by) % 2 ^ 64) (rise_of m v)
raised_at m n k w by updates is v =
    ap (λ o. unwrap_or o 0) (updates.0 v)
    ∙ ap (λ b. unwrap_or (cond b (Some w) (get cell_cmp m v)) 0) (ties_where_equal k v)
    ∙ by_case (cell_eq k v) refl
  where
    by_case : (b : Bool) → cell_eq k v ≡ b → unwrap_or (cond b (Some w) (get cell_cmp m v)) 0 ≡ cond b ((rise_of m v + by) % 2 ^ 64) (rise_of m v)
    by_case true e = is ∙ ap (λ z. (rise_of m z + by) % 2 ^ 64) ((cell_eq-Decides k v).0 e)
    by_case false e = refl

-- one more entry that a test takes or leaves
more : (p : Entry → Bool) (es : List Entry) (i : ℕ) (d : Entry) (b : Bool) → i < length es → p (get_or es i d) ≡ b → count_by p (take (i + 1) es) ≡ count_by p (take i es) + cond b 1 0
more p es i d true h e = count_by_more_yes p es i d h e
more p es i d false h e = let same = count_by_more_no p es i d h e in omega (arith, same)

both_steps : (a b : Bool) (r0 r1 r2 g c g' c' : ℕ) → (r0 + g) % 2 ^ 64 ≡ c % 2 ^ 64 → r1 ≡ cond a ((r0 + 18446744073709551615) % 2 ^ 64) r0 → r2 ≡ cond b ((r1 + 1) % 2 ^ 64) r1
    → g' ≡ g + cond a 1 0 → c' ≡ c + cond b 1 0 → (r2 + g') % 2 ^ 64 ≡ c' % 2 ^ 64
both_steps true true r0 r1 r2 g c g' c' h p q s t =
    ap (λ n. (r2 + n) % 2 ^ 64) s ∙ ap (λ n. (n + (g + 1)) % 2 ^ 64) (q ∙ ap (λ n. (n + 1) % 2 ^ 64) p) ∙ one_come _ (g + 1) c (one_gone r0 g c h) ∙ ap (λ n. n % 2 ^ 64) (sym t)
both_steps true false r0 r1 r2 g c g' c' h p q s t =
    let same : c + 0 ≡ c = omega arith in
    ap (λ n. (r2 + n) % 2 ^ 64) s ∙ ap (λ n. (n + (g + 1)) % 2 ^ 64) (q ∙ p) ∙ one_gone r0 g c h ∙ ap (λ n. n % 2 ^ 64) (sym (t ∙ same))
both_steps false true r0 r1 r2 g c g' c' h p q s t =
    let same : g + 0 ≡ g = omega arith in
    ap (λ n. (r2 + n) % 2 ^ 64) (s ∙ same) ∙ ap (λ n. (n + g) % 2 ^ 64) (q ∙ ap (λ n. (n + 1) % 2 ^ 64) p) ∙ one_come r0 g c h ∙ ap (λ n. n % 2 ^ 64) (sym t)
both_steps false false r0 r1 r2 g c g' c' h p q s t =
    let same : g + 0 ≡ g = omega arith in
    let kept : c + 0 ≡ c = omega arith in
    ap (λ n. (r2 + n) % 2 ^ 64) (s ∙ same) ∙ ap (λ n. (n + g) % 2 ^ 64) (q ∙ p) ∙ h ∙ ap (λ n. n % 2 ^ 64) (sym (t ∙ kept))

-- the rises of one entry more
pub rises_more : (index : Option ℕ) (es : List Entry) (i : ℕ) (e : Entry) (m n o : BTreeMap Cell ℕ) → i < length es → e ≡ get_or es i e → AreRises m index (take i es)
    → ((v : Cell) → rise_of n v ≡ cond (has_value index v e.old) ((rise_of m v + 18446744073709551615) % 2 ^ 64) (rise_of m v))
    → ((v : Cell) → rise_of o v ≡ cond (has_value index v e.new) ((rise_of n v + 1) % 2 ^ 64) (rise_of n v))
    → AreRises o index (take (i + 1) es)
rises_more index es i e m n o h is are old new = record {
  at = λ v. both_steps (has_value index v e.old) (has_value index v e.new) (rise_of m v) (rise_of n v) (rise_of o v) (gone index v (take i es)) (come index v (take i es)) _ _ (are.at v) (old v) (new v)
      (more (λ e. has_value index v e.old) es i e _ h (ap (λ (z : Entry). has_value index v z.old) (sym is)))
      (more (λ e. has_value index v e.new) es i e _ h (ap (λ (z : Entry). has_value index v z.new) (sym is)));
}
