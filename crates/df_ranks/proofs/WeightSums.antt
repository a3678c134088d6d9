-- What the values below a cell add to its rank.
use Rattle.std.proofs.Common.{◌≡◌, ℕ, suc, ◌+◌, ◌%◌, ◌^◌, ◌≤◌, Bool, true, false, cond, not, List, [], ◌∷◌, Option, Some, None, length, refl, sym, ap, subst, ◌∙◌, arith}
use Rattle.std.specs.Prelude.{T, ◌==◌, is_some}
use Rattle.std.specs.List.{cons_option}
use Rattle.std.specs.Option.{option_map, option_and_then}
use Rattle.std.specs.Ordering.{is_lt, ordering_reverse}
use Rattle.std.specs.declared.cmp.Ordering.{Ordering}
use Rattle.std.specs.declared.cmp.Ordering.TheVariants.{Less, Equal, Greater}
use Rattle.std.specs.FinMap.{is_sorted, find}
use Rattle.std.specs.FinMap.Entries.{same_entries}
use Rattle.std.proofs.lemmas.Bool.{eqb-true}
use Rattle.df_value.specs.CellOrder.{cell_cmp, cell_cmp_total}
use Rattle.df_value.specs.declared.cell.Cell.{Cell}
use Rattle.df_ops.specs.declared.ranks.RankKind.{RankKind}
use Rattle.df_ops.specs.declared.ranks.RankKind.TheVariants as rank
use Rattle.df_column.proofs.Bools.{less_from_is_lt}
use Rattle.df_counts.proofs.Orders.{cell_same}
use Rattle.df_delta.specs.Collected.{collected_list}
use Rattle.df_delta.proofs.Collected.{find-collected, is_sorted-collected}
use Rattle.df_ranks.specs.Counts.{changes_weight, is_above, weight, weight_below, RanksStay, SameBelow}
use Rattle.df_ranks.proofs.RowSums.{total, total-sum_by}

-- what one entry adds
abbrev pub weight_at : RankKind → Cell → Cell × ℕ → ℕ
weight_at kind c e = cond (is_lt (cell_cmp e.0 c)) (weight kind e.1) 0

-- what an entry adds, if it is below
abbrev part_below : RankKind → Cell → Cell → ℕ → Option ℕ
part_below kind c k n = cond (is_lt (cell_cmp k c)) (Some (weight kind n)) None

pub weights_total : (kind : RankKind) (counts : List (Cell × ℕ)) (c : Cell) → weight_below kind counts c ≡ total (weight_at kind c) counts
weights_total kind counts c = total-sum_by (weight_at kind c) counts

collected_total : (kind : RankKind) (c : Cell) (es : List (Cell × ℕ)) → total (weight_at kind c) es ≡ total (λ e. e.1) (collected_list (part_below kind c) es)
collected_total kind c [] = refl
collected_total kind c (e ∷ es) =
    elim (is_lt (cell_cmp e.0 c)) as (λ b. cond b (weight kind e.1) 0 + total (weight_at kind c) es ≡ total (λ e. e.1) (cons_option (option_map (λ y. (e.0, y)) (cond b (Some (weight kind e.1)) None)) (collected_list (part_below kind c) es))) [
      | true ↦ ap (λ n. weight kind e.1 + n) (collected_total kind c es)
      | false ↦ let none : 0 + total (weight_at kind c) es ≡ total (weight_at kind c) es = omega arith in none ∙ collected_total kind c es
    ]

not_changed : (kind : RankKind) (a b : Option ℕ) → changes_weight kind a b ≡ false → option_map (weight kind) a ≡ option_map (weight kind) b
not_changed kind None None e = refl
not_changed kind None (Some n) e = cc e
not_changed kind (Some m) None e = cc e
not_changed kind (Some m) (Some n) e = ap Some (eqb-true (weight kind m) (weight kind n) (by_case (weight kind m == weight kind n) e)) where
  by_case : (b : Bool) → not b ≡ false → b ≡ true
  by_case true e = refl
  by_case false e = cc e

-- where no value below c changes what it adds, c keeps its rank
pub weights_same : (kind : RankKind) (old new : List (Cell × ℕ)) (c : Cell) → T (is_sorted cell_cmp old) → T (is_sorted cell_cmp new)
    → ((u : Cell) → is_lt (cell_cmp u c) ≡ true → changes_weight kind (find cell_cmp u old) (find cell_cmp u new) ≡ false)
    → weight_below kind old c ≡ weight_below kind new c
weights_same kind old new c h g same =
    weights_total kind old c ∙ collected_total kind c old
    ∙ ap (total (λ e. e.1)) (same_entries cell_cmp cell_cmp_total cell_same _ _ (is_sorted-collected cell_cmp (part_below kind c) old h) (is_sorted-collected cell_cmp (part_below kind c) new g) (λ q.
    find-collected cell_cmp (part_below kind c) cell_same q old h
    ∙ by_order q (is_lt (cell_cmp q c)) refl
    ∙ sym (find-collected cell_cmp (part_below kind c) cell_same q new g)))
    ∙ sym (weights_total kind new c ∙ collected_total kind c new)
  where
    mapped : (a : Option ℕ) → option_and_then (λ n. Some (weight kind n)) a ≡ option_map (weight kind) a
    mapped None = refl
    mapped (Some n) = refl

    nothing : (a : Option ℕ) → ◌≡◌ {A = Option ℕ} (option_and_then (λ n. None) a) None
    nothing None = refl
    nothing (Some n) = refl

    by_order : (q : Cell) (b : Bool) → is_lt (cell_cmp q c) ≡ b
        → option_and_then (λ n. cond (is_lt (cell_cmp q c)) (Some (weight kind n)) None) (find cell_cmp q old) ≡ option_and_then (λ n. cond (is_lt (cell_cmp q c)) (Some (weight kind n)) None) (find cell_cmp q new)
    by_order q true e =
        ap (λ b. option_and_then (λ n. cond b (Some (weight kind n)) None) (find cell_cmp q old)) e
        ∙ mapped (find cell_cmp q old) ∙ not_changed kind _ _ (same q e) ∙ sym (mapped (find cell_cmp q new))
        ∙ ap (λ b. option_and_then (λ n. cond b (Some (weight kind n)) None) (find cell_cmp q new)) (sym e)
    by_order q false e =
        ap (λ b. option_and_then (λ n. cond b (Some (weight kind n)) None) (find cell_cmp q old)) e
        ∙ nothing (find cell_cmp q old) ∙ sym (nothing (find cell_cmp q new))
        ∙ ap (λ b. option_and_then (λ n. cond b (Some (weight kind n)) None) (find cell_cmp q new)) (sym e)

-- a value below one that is not above another is below the other
under : (l u c : Cell) → is_lt (cell_cmp l c) ≡ false → is_lt (cell_cmp u c) ≡ true → is_lt (cell_cmp u l) ≡ true
under l u c above below = by_answer (cell_cmp u l) refl where
  less : cell_cmp u c ≡ Less
  less = less_from_is_lt _ (subst T (sym below) tt)

  refuted : cell_cmp l c ≡ Less → is_lt (cell_cmp u l) ≡ true
  refuted e = let t : true ≡ false = sym (ap is_lt e) ∙ above in cc t

  by_answer : (r : Ordering) → cell_cmp u l ≡ r → is_lt (cell_cmp u l) ≡ true
  by_answer Less e = ap is_lt e
  by_answer Equal e = refuted (ap (λ z. cell_cmp z c) (sym (cell_same u l e)) ∙ less)
  by_answer Greater e = refuted (cell_cmp_total.trans l u c (cell_cmp_total.antisymm l u ∙ ap ordering_reverse e) less)

pub ranks_at : (kind : RankKind) (old new : List (Cell × ℕ)) (least : Option Cell) → T (is_sorted cell_cmp old) → T (is_sorted cell_cmp new) → SameBelow kind old new least
    → (c : Cell) → is_above least c ≡ false → weight_below kind old c ≡ weight_below kind new c
ranks_at kind old new None h g same c e = weights_same kind old new c h g (λ u below. same.at u refl)
ranks_at kind old new (Some l) h g same c e = weights_same kind old new c h g (λ u below. same.at u (under l u c e below))

pub ranks_stay : (kind : RankKind) (old new : List (Cell × ℕ)) (least : Option Cell) → T (is_sorted cell_cmp old) → T (is_sorted cell_cmp new) → SameBelow kind old new least → RanksStay kind old new least
ranks_stay kind old new least h g same = record { at = λ c there e. ranks_at kind old new least h g same c e }

-- the same where no value is above the least
pub ranks_stay_all : (kind : RankKind) (old new : List (Cell × ℕ)) (l : Cell) → T (is_sorted cell_cmp old) → T (is_sorted cell_cmp new) → SameBelow kind old new (Some l)
    → ((v : Cell) → is_some (find cell_cmp v new) ≡ true → is_lt (cell_cmp l v) ≡ false) → RanksStay kind old new None
ranks_stay_all kind old new l h g same none = record { at = λ c there e. ranks_at kind old new (Some l) h g same c (none c there) }

-- dense ranks add at most one for each value
pub dense_few : (c : Cell) (es : List (Cell × ℕ)) → total (weight_at rank.Dense c) es ≤ length es
dense_few c [] = omega arith
dense_few c (e ∷ es) =
    let rest = dense_few c es in
    elim (is_lt (cell_cmp e.0 c)) as (λ b. cond b 1 0 + total (weight_at rank.Dense c) es ≤ suc (length es)) [ true ↦ omega (arith, rest) | false ↦ omega (arith, rest) ]

-- a number that was counted modulo 2^64
twice : (n m : ℕ) → n ≡ m % 2 ^ 64 → n % 2 ^ 62 ≡ m % 2 ^ 62
twice n m e = omega (arith, e)
