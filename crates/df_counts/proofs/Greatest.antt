-- The last value of counts in order is the greatest.
use Rattle.std.proofs.Common.{◌≡◌, ◌<◌, ◌-◌, ℕ, zero, suc, Bool, true, false, cond, List, [], ◌∷◌, Some, None, length, refl, sym, ap, subst, ◌∙◌, arith}
use Rattle.std.specs.Prelude.{T, is_some, slice_get}
use Rattle.std.specs.Ordering.{eq_by_cmp, is_lt}
use Rattle.std.specs.declared.cmp.Ordering.{Ordering}
use Rattle.std.specs.declared.cmp.Ordering.TheVariants.{Less, Equal, Greater}
use Rattle.std.specs.FinMap.{find, is_sorted}
use Rattle.std.specs.FinMap.Entries.{below_all}
use Rattle.df_value.specs.CellOrder.{cell_cmp, cell_cmp_total}
use Rattle.df_value.specs.declared.cell.Cell.{Cell}
use Rattle.df_column.proofs.Bools.{T-first, T-second, equal_from_is_eq, less_from_is_lt}
use Rattle.df_counts.proofs.Orders.{cell_same}

not_below : (k v g : Cell) → cell_cmp v g ≡ Less → is_lt (cell_cmp k g) ≡ false → is_lt (cell_cmp k v) ≡ false
not_below k v g p q = by_answer (cell_cmp k v) refl where
  by_answer : (r : Ordering) → cell_cmp k v ≡ r → is_lt (cell_cmp k v) ≡ false
  by_answer Less s = let t : true ≡ false = sym (ap is_lt (cell_cmp_total.trans k v g s p)) ∙ q in cc t
  by_answer Equal s = ap is_lt s
  by_answer Greater s = ap is_lt s

below_at : (x : Cell) (g : Cell × ℕ) (es : List (Cell × ℕ)) (i : ℕ) → T (below_all cell_cmp x es) → slice_get es i ≡ Some g → cell_cmp x g.0 ≡ Less
below_at x g [] i h at = cc at
below_at x g (e ∷ es) zero h at = let is : e ≡ g = cc at in ap (λ e. cell_cmp x e.0) (sym is) ∙ less_from_is_lt _ (T-first _ _ h)
below_at x g (e ∷ es) (suc i) h at = below_at x g es i (T-second _ _ h) at

tied : (a b : Cell) → eq_by_cmp cell_cmp a b ≡ true → a ≡ b
tied a b e = cell_same a b (equal_from_is_eq _ (subst T (sym e) tt))

-- so what is not below it is below none
none_above_at : (es : List (Cell × ℕ)) (i : ℕ) (k : Cell) (g : Cell × ℕ) (v : Cell) → length es ≡ suc i → T (is_sorted cell_cmp es) → slice_get es i ≡ Some g → is_lt (cell_cmp k g.0) ≡ false → is_some (find cell_cmp v es) ≡ true
    → is_lt (cell_cmp k v) ≡ false
none_above_at [] i k g v n h last from there = cc there
none_above_at (e ∷ []) zero k g v n h last from there = by_tie (eq_by_cmp cell_cmp v e.0) refl there where
  by_tie : (b : Bool) → eq_by_cmp cell_cmp v e.0 ≡ b → is_some (cond b (Some e.1) None) ≡ true → is_lt (cell_cmp k v) ≡ false
  by_tie true t there = let is : e ≡ g = cc last in ap (λ z. is_lt (cell_cmp k z)) (tied v e.0 t ∙ ap (λ e. e.0) is) ∙ from
  by_tie false t there = cc there
none_above_at (e ∷ f ∷ es) zero k g v n h last from there = absurd (omega (arith, n))
none_above_at (e ∷ es) (suc i) k g v n h last from there = by_tie (eq_by_cmp cell_cmp v e.0) refl there (none_above_at es i k g v (omega (arith, n)) (T-second _ _ h) last from) where
  by_tie : (b : Bool) → eq_by_cmp cell_cmp v e.0 ≡ b → is_some (cond b (Some e.1) (find cell_cmp v es)) ≡ true → (is_some (find cell_cmp v es) ≡ true → is_lt (cell_cmp k v) ≡ false) → is_lt (cell_cmp k v) ≡ false
  by_tie true t there more = not_below k v g.0 (ap (λ z. cell_cmp z g.0) (tied v e.0 t) ∙ below_at e.0 g es i (T-first _ _ h) last) from
  by_tie false t there more = more there

pub none_above : (es : List (Cell × ℕ)) (k : Cell) (g : Cell × ℕ) (v : Cell) → T (is_sorted cell_cmp es) → Some g ≡ slice_get es (length es - 1) → is_lt (cell_cmp k g.0) ≡ false → is_some (find cell_cmp v es) ≡ true → is_lt (cell_cmp k v) ≡ false
none_above [] k g v h last from there = cc there
none_above (e ∷ es) k g v h last from there =
    let n : length (e ∷ es) - 1 ≡ length es = omega arith in
    none_above_at (e ∷ es) (length es) k g v refl h (ap (slice_get (e ∷ es)) (sym n) ∙ sym last) from there

pub none_there : (es : List (Cell × ℕ)) (v : Cell) → None ≡ slice_get es (length es - 1) → is_some (find cell_cmp v es) ≡ true → ⊥
none_there [] v last there = cc there
none_there (e ∷ es) v last there = let n : length (e ∷ es) - 1 ≡ length es = omega arith in some_at (e ∷ es) (length es) (omega arith) (last ∙ ap (slice_get (e ∷ es)) n) where
  some_at : (es : List (Cell × ℕ)) (i : ℕ) → i < length es → None ≡ slice_get es i → ⊥
  some_at [] i h none = omega (arith, h)
  some_at (e ∷ es) zero h none = cc none
  some_at (e ∷ es) (suc i) h none = some_at es i (omega (arith, h)) none
