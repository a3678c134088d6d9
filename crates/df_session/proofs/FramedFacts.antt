-- Answers in frames, and what a reader finds in them.
use Rattle.std.proofs.Common.{◌≡◌, ◌∙◌, ◌++◌, ◌+◌, ◌<◌, ◌==◌, ℕ, suc, zero, Bool, true, false, Bor, cond, List, [], ◌∷◌, Option, Some, ap, arith, flat_map, inl, inr, option_map, refl, sym}
use Rattle.std.proofs.KnownBytes.{Appends-trans}
use Rattle.std.proofs.lemmas.Bool.{cases_Bool}
use Rattle.std.proofs.lemmas.List.Sums.{sum_by-append, sum_by-cons}
use Rattle.std.specs.Io.KnownBytes.{Appends}
use Rattle.std.specs.List.{sum_by}
use Rattle.df_session.specs.Framed.{answer_written, ends_lines_behind, frame_head, line_ends, lines_and_rest, with_byte}

-- the lines of a text behind its first byte
ends-cons : (b : ℕ) (bs : List ℕ) → line_ends (b ∷ bs) ≡ cond (b == 10) 1 0 + line_ends bs
ends-cons b bs = sum_by-cons (λ (x : ℕ). cond (x == 10) 1 0) b bs

end_first : (b : ℕ) (bs : List ℕ) → (b == 10) ≡ true → line_ends (b ∷ bs) ≡ suc (line_ends bs)
end_first b bs is =
    let one : 1 + line_ends bs ≡ suc (line_ends bs) = omega arith in
    ends-cons b bs ∙ ap (λ (t : Bool). cond t 1 0 + line_ends bs) is ∙ one

other_first : (b : ℕ) (bs : List ℕ) → (b == 10) ≡ false → line_ends (b ∷ bs) ≡ line_ends bs
other_first b bs is =
    let none : 0 + line_ends bs ≡ line_ends bs = omega arith in
    ends-cons b bs ∙ ap (λ (t : Bool). cond t 1 0 + line_ends bs) is ∙ none

-- a text of lines with ends whose first byte is another has at least one
some_ends : (b : ℕ) (bs : List ℕ) → ends_lines_behind b bs ≡ true → (b == 10) ≡ false → (m : ℕ) × (line_ends bs ≡ suc m)
some_ends b [] whole other = absurd (cc)
some_ends b (c ∷ cs) whole other =
    elim (cases_Bool (c == 10)) [
      | inl is ↦ (line_ends cs, end_first c cs is)
      | inr is ↦ let (m, e) = some_ends c cs whole is in (m, other_first c cs is ∙ e)
    ]

-- the lines of a text are read, and what follows it is left
pub read_behind :
    (last : ℕ) (text rest : List ℕ) → ends_lines_behind last text ≡ true → lines_and_rest (line_ends text) (text ++ rest) ≡ Some (text, rest)
read_behind last [] rest whole = refl
read_behind last (b ∷ bs) rest whole =
    let next = read_behind b bs rest whole in
    elim (cases_Bool (b == 10)) [
      | inl is ↦ let n = end_first b bs is in rw (n, is, next) refl
      | inr is ↦
          let (m, e) = some_ends b bs whole is in
          let n = other_first b bs is ∙ e in
          let after : lines_and_rest (suc m) (bs ++ rest) ≡ Some (bs, rest) = rw (← e) next in
          rw (n, is, after) refl
    ]

pub ends-parts : (parts : List (Bor (List ℕ))) → line_ends (flat_map (λ p. p.now) parts) ≡ sum_by (λ p. line_ends p.now) parts
ends-parts [] = refl
ends-parts (p ∷ ps) =
    let first = sum_by-append (λ (x : ℕ). cond (x == 10) 1 0) p.now (flat_map (λ p. p.now) ps) in
    let more = ends-parts ps in
    let sum = sum_by-cons (λ (p : Bor (List ℕ)). line_ends p.now) p ps in
    omega (arith, first, more, sum)

-- an answer in a frame was written
pub frame-written :
    (a b c : Option (List ℕ)) (word tail : List ℕ) (n : ℕ) (parts : List (Bor (List ℕ))) → n ≡ sum_by (λ p. line_ends p.now) parts →
    Appends a b (frame_head word tail n) → Appends b c (flat_map (λ p. p.now) parts)
    → Appends a c (answer_written true word tail (flat_map (λ p. p.now) parts))
frame-written a b c word tail n parts is head text =
    let same : n ≡ line_ends (flat_map (λ p. p.now) parts) = is ∙ sym (ends-parts parts) in
    let headed = rw same at head in
    Appends-trans a b c _ _ headed text
