-- The exchange that adds a state keeps the rule.
use Rattle.std.proofs.Common.{◌≡◌, ℕ, ◌+◌, ◌<◌, ◌==◌, Bool, true, false, List, [], ◌∷◌, ◌++◌, length, refl, ap, sym, subst, arith, inl, length-append, None}
use Rattle.std.proofs.lemmas.List.{append-nil}
use Rattle.std.proofs.lemmas.Bool.Decides.{nat_tests}
use mathlib.Core.List.{IsPrefix}
use prog.Atomic.{either}
use Rattle.logbook.specs.Pages.{Cell, cell, keeps, no_nib, step, Moves, Goes}
use Rattle.df_state.specs.declared.state.State.{State}
use Rattle.df_versions.specs.Histories.{IsHistory, MayFollow}
use Rattle.df_versions.proofs.Histories.{history-more}
use Rattle.df_versions.specs.HistoryRule.{IsKept, Adds}
use Rattle.df_versions.proofs.Prefixes.{prefix_whole}

abbrev pub shown : List State → List State
shown log = []

abbrev pub moved : List State → List State → ℕ → Type 0
moved xs ys n = Unit {0}

pub adds_goes : (log v : List State) (e : State) (old : ℕ) → length v ≡ old → MayFollow v e → IsHistory log → IsPrefix v log
    → (b : Bool) → (length log == old) ≡ b
    → Goes IsKept shown moved 0 (v, (no_nib, None)) (λ n. either (n == old) (old + 1) n) (Adds (step 0 old (old + 1) e) (v, (no_nib, None))) ((length log, true) ∷ (0, true) ∷ []) log
adds_goes log v e old len may lawful pre true is =
    let here : length log ≡ old = grind (arith, nat_tests) in
    let same : v ≡ log = prefix_whole v log pre (omega arith) in
    let lawful' : IsHistory (log ++ e ∷ []) = history-more log e lawful (subst (λ l. MayFollow l e) same may) in
    let n : either (length log == old) (old + 1) (length log) ≡ length (log ++ e ∷ []) = rw is (omega (arith, length-append log (e ∷ []))) in (
      keeps,
      e ∷ [],
      None,
      tt,
      record { words = ap (λ (k : ℕ). (k, true) ∷ (0, true) ∷ []) n; lawful = lawful' },
      inl (refl, refl),
      rw is (ap (λ w. w ++ e ∷ []) (sym same), lawful'),
    )
adds_goes log v e old len may lawful pre false is =
    let all : log ++ [] ≡ log = append-nil log in
    let lawful' : IsHistory (log ++ []) = subst IsHistory (sym all) lawful in
    let n : either (length log == old) (old + 1) (length log) ≡ length (log ++ []) = rw is (ap length (sym all)) in (
      keeps,
      [],
      None,
      tt,
      record { words = ap (λ (k : ℕ). (k, true) ∷ (0, true) ∷ []) n; lawful = lawful' },
      inl (refl, refl),
      rw is (ap length all, lawful'),
    )

pub adds_moves : (v : List State) (e : State) (old : ℕ) → length v ≡ old → MayFollow v e
    → Moves IsKept shown moved 0 (v, (no_nib, None)) (λ n. either (n == old) (old + 1) n) (Adds (step 0 old (old + 1) e) (v, (no_nib, None)))
adds_moves v e old len may cs log kept pre away =
    let P : List Cell → Type 0 = λ c. (0 < length c) × ((cell c 0).1 ≡ true) × Goes IsKept shown moved 0 (v, (no_nib, None)) (λ n. either (n == old) (old + 1) n) (Adds (step 0 old (old + 1) e) (v, (no_nib, None))) c log in
    subst P (sym kept.words) (omega arith, refl, adds_goes log v e old len may kept.lawful pre (length log == old) refl)
