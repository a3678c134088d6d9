-- A text that is cut at a place that may be one.
use Rattle.std.proofs.Common.{◌≡◌, ◌≢◌, ◌+◌, ◌-◌, ◌<◌, ℕ, zero, suc, Bool, true, false, List, [], ◌∷◌, ◌++◌, length, take, drop, Option, Some, None, refl, sym, ap, arith, inl, inr, eqb, ◌∙◌}
use Rattle.std.specs.Prelude.{◌||◌, slice_index}
use Rattle.std.specs.Option.{is_some}
use Rattle.std.proofs.lemmas.Bool.{cases_Bool, false≢true, ne_eqb, or_from}
use Rattle.std.proofs.lemmas.List.{drop_more, get_or-drop, take_more, take-append-drop}
use Rattle.csv.specs.Reading.{default_config, is_bom, records, strip_bom}
use Rattle.memchr.specs.Find.{IsFirstByte, is_byte}
use Rattle.df_csv.specs.Segments.{IsCut}
use Rattle.df_csv.proofs.OnePass.{quoted, records_cut}

neither : (a b : Bool) → (a || b) ≡ false → (a ≡ false) × (b ≡ false)
neither true b e = absurd (false≢true (sym e))
neither false b e = (refl, e)

pub quoted_take : (n : ℕ) (text : List ℕ) → quoted text ≡ false → quoted (take n text) ≡ false
quoted_take zero text q = refl
quoted_take (suc n) [] q = refl
quoted_take (suc n) (c ∷ text) q = let (here, later) = neither (eqb c 34) (quoted text) q in or_from _ _ here (quoted_take n text later)

pub quoted_drop : (n : ℕ) (text : List ℕ) → quoted text ≡ false → quoted (drop n text) ≡ false
quoted_drop zero text q = q
quoted_drop (suc n) [] q = refl
quoted_drop (suc n) (c ∷ text) q = quoted_drop n text (neither (eqb c 34) (quoted text) q).1

unquoted : (text : List ℕ) → ((k : ℕ) → k < length text → ¬ (eqb (slice_index text k) 34 ≡ true)) → quoted text ≡ false
unquoted [] h = refl
unquoted (c ∷ text) h = elim (cases_Bool (eqb c 34)) [
  | inl is ↦ absurd (h 0 (omega arith) is)
  | inr isnt ↦ or_from _ _ isnt (unquoted text (λ k lt. h (suc k) (omega (arith, lt))))
]

-- a search that finds no double quote
pub none_found : (text : List ℕ) (found : Option ℕ) → is_some found ≡ false → IsFirstByte (is_byte 34) text found → quoted text ≡ false
none_found text (Some at) e h = absurd (false≢true (sym e))
none_found text None e h = unquoted text (λ k lt. h k (omega arith) lt)

-- the bytes around the cut
parts_of_cut : (text : List ℕ) (k : ℕ) → k < length text → slice_index text k ≡ 10
    → (text ≡ take k text ++ 10 ∷ drop (k + 1) text) × (take (k + 1) text ≡ take k text ++ 10 ∷ [])
parts_of_cut text k h feed = (
  sym (take-append-drop k text) ∙ ap (λ (r : List ℕ). take k text ++ r) (drop_more text k 0 h ∙ ap (λ c. c ∷ drop (k + 1) text) feed),
  take_more text k 0 h ∙ ap (λ c. take k text ++ c ∷ []) feed,
)

cut_at : (text : List ℕ) (k : ℕ) → k < length text → slice_index text k ≡ 10 → quoted text ≡ false
    → records default_config text ≡ records default_config (take (k + 1) text) ++ records default_config (drop (k + 1) text)
cut_at text k h feed q =
    let (whole, front) = parts_of_cut text k h feed in
    ap (records default_config) whole
    ∙ records_cut (take k text) (drop (k + 1) text) (quoted_take k text q)
    ∙ ap (λ (r : List ℕ). records default_config r ++ records default_config (drop (k + 1) text)) (sym front)

-- a cut leaves the records as they are
pub cut_records : (text : List ℕ) (at : ℕ) → IsCut text at → quoted text ≡ false
    → records default_config text ≡ records default_config (take at text) ++ records default_config (drop at text)
cut_records text at cut q =
    let e : at - 1 + 1 ≡ at = omega (arith, cut.behind) in
    rw e at (cut_at text (at - 1) (omega (arith, cut.within, cut.behind)) cut.feed q)

short_strip : (a b c n : ℕ) (rest : List ℕ) → strip_bom (a ∷ b ∷ c ∷ rest) ≡ a ∷ b ∷ c ∷ rest → is_bom a b c ≡ false
unfolding strip_bom
short_strip a b c n rest e = elim (cases_Bool (is_bom a b c)) [
  | inr isnt ↦ isnt
  | inl is ↦ let long : length rest ≡ suc (suc (suc (length rest))) = ap length (rw is at e) in absurd (omega (arith, long))
]

-- a start of a text without a mark has none
pub strip_take : (n : ℕ) (text : List ℕ) → strip_bom text ≡ text → strip_bom (take n text) ≡ take n text
unfolding strip_bom
strip_take zero text e = refl
strip_take (suc n) [] e = refl
strip_take (suc zero) (a ∷ text) e = refl
strip_take (suc (suc n)) (a ∷ []) e = refl
strip_take (suc (suc zero)) (a ∷ b ∷ text) e = refl
strip_take (suc (suc (suc n))) (a ∷ b ∷ []) e = refl
strip_take (suc (suc (suc n))) (a ∷ b ∷ c ∷ rest) e = let none = short_strip a b c n rest e in rw none refl

unmarked : (text : List ℕ) → slice_index text 0 ≢ 239 → strip_bom text ≡ text
unfolding strip_bom
unmarked [] h = refl
unmarked (a ∷ []) h = refl
unmarked (a ∷ b ∷ []) h = refl
unmarked (a ∷ b ∷ c ∷ rest) h = let first : eqb a 239 ≡ false = ne_eqb a 239 h in rw first refl

-- nor has what begins at a cut
pub strip_drop : (text : List ℕ) (at : ℕ) → IsCut text at → strip_bom (drop at text) ≡ drop at text
strip_drop text at cut =
    let here : slice_index (drop at text) 0 ≡ slice_index text at = get_or-drop at text 0 0 ∙ ap (slice_index text) (zero_more at) in
    unmarked (drop at text) (λ e. cut.unmarked (sym here ∙ e))
  where
    zero_more : (n : ℕ) → n + 0 ≡ n
    zero_more n = omega arith
