use Rattle.std.proofs.Common.{◌≡◌, ◌∙◌, ◌++◌, ◌∷◌, [], ℕ, List, ap, refl, sym, append_assoc, append-nil, length, drop, get_or, ◌<◌, ◌≤◌, ◌+◌, ◌==◌, inl, inr}
use Rattle.std.proofs.lemmas.Bool.{cases_Bool}
use Rattle.std.proofs.lemmas.List.{drop_all, drop_more}
use Rattle.csv.specs.Writing.{default_writer, escaped, quoted}
use Rattle.df_export.proofs.fields.push_quoted.Goals as goal

escaped-cons : (b : ℕ) (rest : List ℕ) → escaped default_writer (b ∷ rest) ≡ escaped default_writer (b ∷ []) ++ escaped default_writer rest
unfolding escaped
escaped-cons b rest = elim (cases_Bool (b == 34)) [
  | inl quote ↦ rw quote refl
  | inr other ↦ rw other refl
]

turn :
    (bytes all out new : List ℕ) (i : ℕ) → i < length bytes → out ++ escaped default_writer (drop i bytes) ≡ all →
    new ≡ out ++ escaped default_writer (get_or bytes i 0 ∷ []) → new ++ escaped default_writer (drop (i + 1) bytes) ≡ all
turn bytes all out new i h inv n =
    let b = get_or bytes i 0 in
    let rest = drop (i + 1) bytes in
    ap (λ (l : List ℕ). l ++ escaped default_writer rest) n
    ∙ (append_assoc out (escaped default_writer (b ∷ [])) (escaped default_writer rest)
    ∙ (ap (λ (l : List ℕ). out ++ l) (sym (ap (escaped default_writer) (drop_more bytes i 0 h) ∙ escaped-cons b rest)) ∙ inv))

over : (bytes all out : List ℕ) (i : ℕ) → length bytes ≤ i → out ++ escaped default_writer (drop i bytes) ≡ all → out ≡ all
unfolding escaped
over bytes all out i h inv = sym (append-nil out) ∙ (ap (λ (l : List ℕ). out ++ escaped default_writer l) (sym (drop_all i bytes h)) ∙ inv)

pub loop-byte-preserved : goal.loop-byte-preserved
loop-byte-preserved c = turn c.args.text.now _ c.loop-byte.out.items _ c.loop-byte.byte-index c.loop-byte-test.true c.loop-byte.invariant c.in_ok-push_escaped.ensures

ended :
    (text before init out new : List ℕ) → init ≡ before ++ 34 ∷ [] → out ≡ init ++ escaped default_writer text → new ≡ out ++ 34 ∷ [] →
    new ≡ before ++ quoted default_writer text
ended text before init out new e f g = rw (g, f, e, append_assoc, append_assoc) refl

pub returns : goal.returns
returns c =
    ended c.args.text.now c.args.out.now.items _ c.loop-byte.out.items _ c.in_ok-push.ensures.items
    (over c.args.text.now _ c.loop-byte.out.items c.loop-byte.byte-index c.loop-byte-test.false c.loop-byte.invariant)
    c.in_ok-push-2.ensures.items
