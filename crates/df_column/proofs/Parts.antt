-- The parts of a pool's bytes.
use Rattle.std.proofs.Common.{◌≡◌, ℕ, zero, suc, ◌-◌, ◌<◌, ◌≤◌, Bool, true, false, List, [], ◌∷◌, ◌++◌, length, take, drop, get_or, refl, sym, ap, subst, ◌∙◌, arith, length-append, slice_range, ◌&&◌}
use Rattle.std.specs.List.{list_all}
use Rattle.std.specs.Prelude.{T}
use Rattle.std.proofs.lemmas.List.{take-append-le}
use Rattle.std.proofs.Math.Seq.{drop-append_seam, take-length}
use Rattle.df_column.specs.Pools.{parts, IsRising, start_at}

pub length-parts : (s : ℕ) (bytes ends : List ℕ) → length (parts s bytes ends) ≡ length ends
length-parts s bytes [] = refl
length-parts s bytes (e ∷ ends) = ap suc (length-parts e bytes ends)

pub part_at : (s : ℕ) (bytes ends : List ℕ) (place : ℕ) (d : List ℕ) → place < length ends → get_or (parts s bytes ends) place d ≡ slice_range bytes (start_at s ends place) (get_or ends place 0)
part_at s bytes [] place d h = absurd (omega arith)
part_at s bytes (e ∷ ends) zero d h = refl
part_at s bytes (e ∷ ends) (suc place) d h = part_at e bytes ends place d (omega arith)

pub start_zero : (s : ℕ) (ends : List ℕ) (place : ℕ) → place ≡ 0 → s ≡ start_at s ends place
start_zero s ends place e = ap (start_at s ends) (sym e)

pub start_more : (s : ℕ) (ends : List ℕ) (place : ℕ) → ¬ (place ≡ 0) → get_or ends (place - 1) 0 ≡ start_at s ends place
start_more s ends zero h = absurd (h refl)
start_more s ends (suc place) h = let e : suc place - 1 ≡ place = omega arith in ap (λ n. get_or ends n 0) e

pub rising_le : (s len : ℕ) (ends : List ℕ) → IsRising s len ends → s ≤ len
rising_le s len [] h = omega arith
rising_le s len (e ∷ ends) h = let rest = rising_le e len ends h.1 in omega (arith, h.0)

pub in_bytes : (s len : ℕ) (ends : List ℕ) (place : ℕ) → IsRising s len ends → place < length ends → record { ordered : start_at s ends place ≤ get_or ends place 0; within : get_or ends place 0 ≤ len }
in_bytes s len [] place h lt = absurd (omega arith)
in_bytes s len (e ∷ ends) zero h lt = record { ordered = h.0; within = rising_le e len ends h.1 }
in_bytes s len (e ∷ ends) (suc place) h lt = in_bytes e len ends place h.1 (omega arith)

-- one more text
range_kept : (bytes t : List ℕ) (a b : ℕ) → a ≤ b → b ≤ length bytes → slice_range (bytes ++ t) a b ≡ slice_range bytes a b
range_kept [] t zero zero p q = refl
range_kept [] t zero (suc b) p q = absurd (omega arith)
range_kept [] t (suc a) b p q = absurd (omega arith)
range_kept (x ∷ bytes) t zero zero p q = refl
range_kept (x ∷ bytes) t zero (suc b) p q =
    let e : (n : ℕ) → n - 0 ≡ n = λ n. omega arith in
    let rest : take b (bytes ++ t) ≡ take b bytes = take-append-le b bytes t (omega arith) in
    ap (λ n. take n (x ∷ (bytes ++ t))) (e (suc b)) ∙ ap (λ r. x ∷ r) rest ∙ ap (λ n. take n (x ∷ bytes)) (sym (e (suc b)))
range_kept (x ∷ bytes) t (suc a) zero p q = absurd (omega arith)
range_kept (x ∷ bytes) t (suc a) (suc b) p q =
    let e : suc b - suc a ≡ b - a = omega arith in
    ap (λ n. take n (drop a (bytes ++ t))) e ∙ range_kept bytes t a b (omega arith) (omega arith) ∙ ap (λ n. take n (drop a bytes)) (sym e)

pub rising-push : (s : ℕ) (bytes t ends : List ℕ) → IsRising s (length bytes) ends → IsRising s (length (bytes ++ t)) (ends ++ length (bytes ++ t) ∷ [])
rising-push s bytes t [] h = (omega (arith, length-append bytes t), refl)
rising-push s bytes t (e ∷ ends) h = (h.0, rising-push e bytes t ends h.1)

range_last : (bytes t : List ℕ) → slice_range (bytes ++ t) (length bytes) (length (bytes ++ t)) ≡ t
range_last bytes t =
    let e : length (bytes ++ t) - length bytes ≡ length t = omega (arith, length-append bytes t) in
    ap (λ n. take n (drop (length bytes) (bytes ++ t))) e ∙ ap (take (length t)) (drop-append_seam bytes t) ∙ take-length t

pub parts-push : (s : ℕ) (bytes t ends : List ℕ) → IsRising s (length bytes) ends → parts s (bytes ++ t) (ends ++ length (bytes ++ t) ∷ []) ≡ parts s bytes ends ++ t ∷ []
parts-push s bytes t [] h = ap (λ s. slice_range (bytes ++ t) s (length (bytes ++ t)) ∷ []) h ∙ ap (λ r. r ∷ []) (range_last bytes t)
parts-push s bytes t (e ∷ ends) h =
    ap (λ r. r ∷ parts e (bytes ++ t) (ends ++ length (bytes ++ t) ∷ [])) (range_kept bytes t s e h.0 (rising_le e (length bytes) ends h.1))
    ∙ ap (λ r. slice_range bytes s e ∷ r) (parts-push e bytes t ends h.1)

pub all-push : (p : List ℕ → Bool) (texts : List (List ℕ)) (t : List ℕ) → T (list_all p texts) → p t ≡ true → T (list_all p (texts ++ t ∷ []))
all-push p [] t h e = subst T (ap (λ b. b && true) (sym e)) tt
all-push p (u ∷ texts) t h e = both (p u) (list_all p texts) (list_all p (texts ++ t ∷ [])) h (λ r. all-push p texts t r e) where
  both : (a b c : Bool) → T (a && b) → (T b → T c) → T (a && c)
  both true b c h f = f h
  both false b c h f = absurd h

pub all-at : (p : List ℕ → Bool) (texts : List (List ℕ)) (i : ℕ) (d : List ℕ) → T (list_all p texts) → i < length texts → p (get_or texts i d) ≡ true
all-at p [] i d h lt = absurd (omega arith)
all-at p (u ∷ texts) zero d h lt = head (p u) (list_all p texts) h where
  head : (a b : Bool) → T (a && b) → a ≡ true
  head true b h = refl
  head false b h = absurd h
all-at p (u ∷ texts) (suc i) d h lt = all-at p texts i d (rest (p u) (list_all p texts) h) (omega arith) where
  rest : (a b : Bool) → T (a && b) → T b
  rest true b h = h
  rest false b h = absurd h

-- past the last part
pub no_part : (s : ℕ) (bytes ends : List ℕ) (place : ℕ) (d : List ℕ) → length ends ≤ place → d ≡ get_or (parts s bytes ends) place d
no_part s bytes [] place d h = refl
no_part s bytes (e ∷ ends) zero d h = absurd (omega arith)
no_part s bytes (e ∷ ends) (suc place) d h = no_part e bytes ends place d (omega arith)
