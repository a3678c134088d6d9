-- Old rows that follow one another: one row more, and their cells.
use Rattle.std.proofs.Common.{◌≡◌, ℕ, zero, suc, ◌+◌, ◌<◌, ◌≤◌, false, List, [], ◌∷◌, length, map, take, drop, get_or, refl, sym, ap, subst, ◌∙◌, arith, length-take}
use Rattle.std.specs.Prelude.{T}
use Rattle.std.proofs.lemmas.Bool.{eq-eqb, eqb-true, false≢true}
use Rattle.std.proofs.lemmas.List.{drop-map, take-map}
use Rattle.df_value.specs.declared.cell.Cell.{Cell}
use Rattle.df_value.specs.declared.cell.Cell.TheVariants as cell
use Rattle.df_column.specs.Picks.{AreOld, AreWithin, is_old, is_within, origin_cell, picked_cells}
use Rattle.df_column.specs.declared.picks.Origin.{Origin}
use Rattle.df_column.specs.declared.picks.Origin.TheVariants.{Old, New}
use Rattle.df_column.specs.declared.picks.Pick.{Pick}
use Rattle.df_column.proofs.Bools.{T-first, T-second, true_from_T}
use Rattle.df_column.proofs.MergeLemmas.{drop_at}
use Rattle.df_column.proofs.Places.{mapped_length}
use Rattle.df_column.proofs.Pools.{lt_from}

pub old_is : (n : ℕ) (p : Origin) → T (is_old n p) → p ≡ Old n
old_is n (Old i) h = ap Old (eqb-true i n (true_from_T _ h))
old_is n (New row) h = absurd h

pub old_more : (picks : List Pick) (first at : ℕ) (p : Pick) → at < length picks → AreOld first (take at picks) → T (is_old (first + at) (get_or picks at p).origin) → AreOld first (take (at + 1) picks)
old_more [] first at p lt h k = absurd (omega arith)
old_more (q ∷ picks) first zero p lt h k =
    let e : first + 0 ≡ first = omega arith in
    (subst (λ n. T (is_old n q.origin)) e k, tt)
old_more (q ∷ picks) first (suc at) p lt h k =
    let e : first + suc at ≡ (first + 1) + at = omega arith in
    let m : suc (at + 1) ≡ suc at + 1 = omega arith in
    subst (λ n. AreOld first (take n (q ∷ picks))) m
    (h.0, old_more picks (first + 1) at p (omega arith) h.1 (subst (λ n. T (is_old n (get_or picks at p).origin)) e k))

-- the last of them is among the first n
pub old_within : (n : ℕ) (picks : List Pick) (first count : ℕ) → count ≤ length picks → 0 < count → AreOld first (take count picks) → AreWithin n picks → first + count ≤ n
old_within n [] first count le lt h w = absurd (omega arith)
old_within n (p ∷ picks) first zero le lt h w = absurd (omega arith)
old_within n (p ∷ picks) first (suc zero) le lt h w =
    let here = lt_from first n (subst (λ o. T (is_within n o)) (old_is first p.origin h.0) (T-first _ _ w)) in
    omega (arith, here)
old_within n (p ∷ picks) first (suc (suc count)) le lt h w =
    let rest = old_within n picks (first + 1) (suc count) (omega arith) (omega arith) h.1 (T-second (is_within n p.origin) _ w) in
    omega (arith, rest)

-- their cells
pub old_cells : (cells : List Cell) (column : ℕ) (picks : List Pick) (first : ℕ) → AreOld first picks → first + length picks ≤ length cells → picked_cells cells column picks ≡ take (length picks) (drop first cells)
old_cells cells column [] first h le = refl
old_cells cells column (p ∷ picks) first h le =
    ap (λ o. origin_cell cells column o ∷ picked_cells cells column picks) (old_is first p.origin h.0)
    ∙ ap (λ r. get_or cells first cell.Null ∷ r) (old_cells cells column picks (first + 1) h.1 (omega arith))
    ∙ ap (take (suc (length picks))) (sym (drop_at cells first cell.Null (omega arith)))

pub old_part : {X : Type 0} (f : X → Cell) (values : List X) (column : ℕ) (picks : List Pick) (first count : ℕ) → AreOld first (take count picks) → count ≤ length picks → first + count ≤ length values
    → map f (take count (drop first values)) ≡ picked_cells (map f values) column (take count picks)
old_part f values column picks first count h le within =
    let l : length (take count picks) ≡ count = let m = length-take count picks in omega (arith, m) in
    let n = mapped_length f values in
    sym (take-map f count (drop first values)) ∙ ap (take count) (sym (drop-map f first values))
    ∙ sym (old_cells (map f values) column (take count picks) first h (omega (arith, l, n)) ∙ ap (λ k. take k (drop first (map f values))) l)

-- behind an old row there is one row at least
pub some_old : (picks : List Pick) (first n : ℕ) (p : Pick) → (get_or picks 0 p).origin ≡ Old first → 0 < length picks → (n < length picks → is_old (first + n) (get_or picks n p).origin ≡ false) → 0 < n
some_old picks first zero p is lt h =
    let e : first + 0 ≡ first = omega arith in
    absurd (false≢true (sym (h lt) ∙ ap (λ m. is_old m (get_or picks 0 p).origin) e ∙ ap (is_old first) is ∙ eq-eqb first first refl))
some_old picks first (suc n) p is lt h = omega arith
