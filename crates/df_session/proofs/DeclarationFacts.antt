-- The words of frames that are declared.
use Rattle.std.proofs.Common.{◌≡◌, ◌∙◌, ◌≤◌, ◌-◌, ℕ, List, [], ◌∷◌, Bor, Result, Ok, Err, ap, codes, drop, inl, inr, length, map, slice_index_or, subst, sym, take}
use Rattle.std.specs.Prelude.{IfErr, OnOk}
use Rattle.std.proofs.lemmas.Result.{on_ok_weaker}
use Rattle.df_session.specs.Declarations.{IsDeclared, IsDeclaredBy, IsFrameOf, IsRefusalOfFrame, IsRefusalOfWords, words_of_columns}
use Rattle.df_session.specs.declared.refusal.Refusal.{Refusal}
use Rattle.df_session.proofs.CommandFacts.{first-word}

-- a name and the words of columns behind it
pub frame-words :
    (d : Bor (List ℕ)) (words : List (Bor (List ℕ))) (made shown : List (Bor (List ℕ) × Bor (List ℕ))) → 1 ≤ length words
    → map (λ w. w.now) (take (length words - 1) (drop 1 words)) ≡ words_of_columns (map (λ c. (c.0.now, c.1.now)) made) → shown ≡ made
    → IsFrameOf (codes "frame" ∷ map (λ w. w.now) words) (slice_index_or words 0 d).now (map (λ c. (c.0.now, c.1.now)) shown)
frame-words d words made shown some said same =
    ap (λ (ws : List (List ℕ)). codes "frame" ∷ ws)
    (sym (first-word d words some)
    ∙ ap (λ (ws : List (List ℕ)). (slice_index_or words 0 d).now ∷ ws)
    (said ∙ ap (λ (cs : List (Bor (List ℕ) × Bor (List ℕ))). words_of_columns (map (λ c. (c.0.now, c.1.now)) cs)) (sym same)))

pub declared-by :
    {T E : Type 0} (r : Result T E) (document after : List ℕ) (words : List (List ℕ)) (name : List ℕ) (columns : List (List ℕ × List ℕ))
    → IsFrameOf words name columns → OnOk r (IsDeclared document after name columns) → OnOk r (IsDeclaredBy document after words)
declared-by r document after words name columns are done = on_ok_weaker r (λ e. (name, columns, are, e)) done

pub refused-words :
    {T : Type 0} (r : Result T Refusal) (document : List ℕ) (words : List (List ℕ)) (name : List ℕ) (columns : List (List ℕ × List ℕ))
    → IsFrameOf words name columns → IfErr r (IsRefusalOfFrame document name columns) → IfErr r (IsRefusalOfWords document words)
refused-words (Ok t) document words name columns are refused = tt
refused-words (Err e) document words name columns are refused = inr (name, columns, are, refused)

-- the words of a line whose first is this one
pub words-behind :
    (d : Bor (List ℕ)) (words : List (Bor (List ℕ))) (first : List ℕ) → 1 ≤ length words → (slice_index_or words 0 d).now ≡ first
    → first ∷ map (λ w. w.now) (take (length words - 1) (drop 1 words)) ≡ map (λ w. w.now) words
words-behind d words first some is =
    ap (λ (w : List ℕ). w ∷ map (λ w. w.now) (take (length words - 1) (drop 1 words))) (sym is) ∙ first-word d words some
