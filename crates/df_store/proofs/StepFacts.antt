-- What a change that is not refused makes of the last state of a history.
use Rattle.std.proofs.Common.{◌≡◌, ℕ, ◌∙◌, List, [], ◌∷◌, ◌++◌, length, length-append, drop, get_or, refl, ap, sym, arith}
use Rattle.std.specs.Prelude.{Ok, Some}
use Rattle.std.proofs.lemmas.List.{append_assoc}
use Rattle.df_state.specs.declared.change.Change.{Change}
use Rattle.df_state.specs.declared.state.State.{State}
use Rattle.df_state.specs.Changes.{after}
use Rattle.df_versions.specs.Answered.{AnswersChange, ChangesHistory}
use Rattle.df_versions.specs.Histories.{last_state}
use Rattle.df_versions.proofs.Histories.{last_state-more}

snoc-front : {T : Type 0} (xs ys : List T) (x y : T) → xs ++ x ∷ [] ≡ ys ++ y ∷ [] → xs ≡ ys
snoc-front [] [] x y e = refl
snoc-front [] (z ∷ zs) x y e = let many = ap length e in let more = length-append zs (y ∷ []) in absurd (omega (arith, many, more))
snoc-front (z ∷ zs) [] x y e = let many = ap length e in let more = length-append zs (x ∷ []) in absurd (omega (arith, many, more))
snoc-front (z ∷ zs) (w ∷ ws) x y e =
    let head : z ≡ w = ap (λ l. get_or l 0 z) e in
    let rest : zs ++ x ∷ [] ≡ ws ++ y ∷ [] = ap (drop 1) e in
    ap (λ v. v ∷ zs) head ∙ ap (λ l. w ∷ l) (snoc-front zs ws x y rest)

-- two states behind others, one behind the other
two-more : (before : List State) (s t : State) → before ++ s ∷ t ∷ [] ≡ (before ++ s ∷ []) ++ t ∷ []
two-more before s t = sym (append_assoc before (s ∷ []) (t ∷ []))

-- histories that are the same but for their last state
front-of : (before : List State) (s t : State) (old : List State) (u : State) → before ++ s ∷ t ∷ [] ≡ old ++ u ∷ [] → before ++ s ∷ [] ≡ old
front-of before s t old u e = snoc-front (before ++ s ∷ []) old t u (sym (two-more before s t) ∙ e)

-- a change that is accepted makes one state more of the last one
pub stepped :
    {J : Type 0} (old new : List State) (floor : ℕ) (c : Change) (told : List State) → AnswersChange {J = J} old floor c (Ok told) →
    ChangesHistory {J = J} old (Ok told) new →
    (s : State) × (last_state old ≡ Some s) × (new ≡ old ++ after s c ∷ []) × (last_state new ≡ Some (after s c))
stepped old new floor c told answer changes =
    let at = answer.accepted.1 in
    let both : at.0 ++ at.1 ∷ after at.1 c ∷ [] ≡ old ++ changes.longer.0 ∷ [] = sym at.3 ∙ changes.longer.1 in
    let front : at.0 ++ at.1 ∷ [] ≡ old = front-of at.0 at.1 (after at.1 c) old changes.longer.0 both in
    let longer : new ≡ old ++ after at.1 c ∷ [] =
    changes.told ∙ (at.3 ∙ (two-more at.0 at.1 (after at.1 c) ∙ ap (λ (h : List State). h ++ after at.1 c ∷ []) front)) in (
      at.1,
      ap last_state (sym front) ∙ last_state-more at.0 at.1,
      longer,
      ap last_state longer ∙ last_state-more old (after at.1 c),
    )
