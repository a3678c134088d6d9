-- The words of a line that has neither quotes nor line feeds: what stands between its blanks.
use Rattle.std.proofs.Common.{◌≡◌, ◌≢◌, ◌∙◌, ◌+◌, ◌-◌, ◌<◌, ◌≤◌, ◌++◌, ◌⊎◌, inl, inr, ℕ, Bool, true, false, not, List, [], ◌∷◌, ap, append_assoc, arith, drop, eqb, get_or, length, ne_eqb, refl, sym, take}
use Rattle.std.proofs.lemmas.List.{drop_all, drop_more, get_or-drop, length-drop, take_more}
use Rattle.std.specs.Prelude.{◌==◌, ◌&&◌, T, if◌then◌else◌, slice_index}
use Rattle.std.specs.List.{list_all}
use Rattle.std.proofs.lemmas.Bool.{cases_Bool}
use Rattle.csv.specs.Machine.{next_record, step}
use Rattle.csv.specs.Reading.{strip_bom}
use Rattle.csv.specs.declared.parser.State.{State}
use Rattle.csv.specs.declared.parser.State.TheVariants as st
use Rattle.df_session.specs.Words.{IsPlain, fields_read, is_plain_byte, word_config, words_of_record}

-- the words of plain bytes behind the bytes of one that has begun
unfoldable pub split_at_blanks : List ℕ → List ℕ → List (List ℕ)
split_at_blanks word [] = word ∷ []
split_at_blanks word (b ∷ bs) = if b == 32 then word ∷ split_at_blanks [] bs else split_at_blanks (word ++ b ∷ []) bs

no-quote : (quote line : Bool) → T (not quote && not line) → quote ≡ false
no-quote false line h = refl
no-quote true line h = absurd h

no-line : (quote line : Bool) → T (not quote && not line) → line ≡ false
no-line false false h = refl
no-line false true h = absurd h
no-line true line h = absurd h

both-first : (a b : Bool) → T (a && b) → T a
both-first true b h = tt
both-first false b h = absurd h

both-second : (a b : Bool) → T (a && b) → T b
both-second true b h = h
both-second false b h = absurd h

-- a text that does not begin as a byte order mark does
pub unmarked : (text : List ℕ) → slice_index text 0 ≢ 239 → strip_bom text ≡ text
unfolding strip_bom
unmarked [] h = refl
unmarked (a ∷ []) h = refl
unmarked (a ∷ b ∷ []) h = refl
unmarked (a ∷ b ∷ c ∷ rest) h = let first : eqb a 239 ≡ false = ne_eqb a 239 h in rw first refl

-- the state behind a field, or in one
state_in : Bool → State
state_in true = st.InField
state_in false = st.StartField

plain_fields : (inside : Bool) (fields : List (List ℕ)) (word bs : List ℕ) → T (list_all is_plain_byte bs) →
    fields_read (next_record word_config (state_in inside) fields word bs) ≡ fields ++ split_at_blanks word bs
unfolding next_record split_at_blanks state_in
plain_fields true fields word [] h = refl
plain_fields false fields word [] h = refl
plain_fields true fields word (b ∷ bs) h = elim (cases_Bool (b == 32)) [
  | inl blank ↦ rw blank (plain_fields false (fields ++ word ∷ []) [] bs (both-second (is_plain_byte b) (list_all is_plain_byte bs) h) ∙ append_assoc fields (word ∷ []) (split_at_blanks [] bs))
  | inr byte ↦ rw byte (rw (no-line (b == 34) (b == 10) (both-first (is_plain_byte b) (list_all is_plain_byte bs) h)) (plain_fields true fields (word ++ b ∷ []) bs (both-second (is_plain_byte b) (list_all is_plain_byte bs) h)))
]
plain_fields false fields word (b ∷ bs) h = elim (cases_Bool (b == 32)) [
  | inl blank ↦ rw (no-quote (b == 34) (b == 10) (both-first (is_plain_byte b) (list_all is_plain_byte bs) h)) (rw blank (plain_fields false (fields ++ word ∷ []) [] bs (both-second (is_plain_byte b) (list_all is_plain_byte bs) h) ∙ append_assoc fields (word ∷ []) (split_at_blanks [] bs)))
  | inr byte ↦ rw (no-quote (b == 34) (b == 10) (both-first (is_plain_byte b) (list_all is_plain_byte bs) h)) (rw byte (rw (no-line (b == 34) (b == 10) (both-first (is_plain_byte b) (list_all is_plain_byte bs) h)) (plain_fields true fields (word ++ b ∷ []) bs (both-second (is_plain_byte b) (list_all is_plain_byte bs) h))))
]

-- no plain byte ends a record that has not begun
begun_same : (b : ℕ) (bs : List ℕ) → (b == 10) ≡ false →
    next_record word_config st.StartRecord [] [] (b ∷ bs) ≡ next_record word_config st.StartField [] [] (b ∷ bs)
unfolding next_record
begun_same b bs h = rw h refl

-- the words of a plain line
pub plain_line : (line : List ℕ) → IsPlain line → words_of_record line ≡ split_at_blanks [] line
unfolding state_in
plain_line [] h = absurd (omega (arith, h.0))
plain_line (b ∷ bs) h =
    let line : (b == 10) ≡ false = no-line (b == 34) (b == 10) (both-first (is_plain_byte b) (list_all is_plain_byte bs) h.2) in
    rw h.1 (ap fields_read (begun_same b bs line) ∙ plain_fields false [] [] (b ∷ bs) h.2)

blank_ends : (word bs : List ℕ) (b : ℕ) → (b == 32) ≡ true → split_at_blanks word (b ∷ bs) ≡ word ∷ split_at_blanks [] bs
unfolding split_at_blanks
blank_ends word bs b h = rw h refl

byte_joins : (word bs : List ℕ) (b : ℕ) → (b == 32) ≡ false → split_at_blanks word (b ∷ bs) ≡ split_at_blanks (word ++ b ∷ []) bs
unfolding split_at_blanks
byte_joins word bs b h = rw h refl

module _ (line : List ℕ) (start at : ℕ) (begun : start ≤ at) (inside : at < length line) where
  -- the words that a blank leaves are those behind it, and the one that it ends
  pub blank_step : (fields fields2 whole : List (List ℕ)) (start2 : ℕ) → start2 ≡ at + 1 → (slice_index line at == 32) ≡ true →
      fields ++ split_at_blanks (take (at - start) (drop start line)) (drop at line) ≡ whole →
      fields2 ≡ fields ++ take (at - start) (drop start line) ∷ [] →
      fields2 ++ split_at_blanks (take ((at + 1) - start2) (drop start2 line)) (drop (at + 1) line) ≡ whole
  blank_step fields fields2 whole start2 behind blank inv pushed =
      let word = take (at - start) (drop start line) in
      let rest = drop (at + 1) line in
      let none : (at + 1) - start2 ≡ 0 = omega (arith, behind) in
      ap (λ n. fields2 ++ split_at_blanks (take n (drop start2 line)) rest) none
      ∙ (ap (λ f. f ++ split_at_blanks [] rest) pushed
      ∙ (append_assoc fields (word ∷ []) (split_at_blanks [] rest)
      ∙ (sym (ap (λ w. fields ++ w) (ap (split_at_blanks word) (drop_more line at 0 inside) ∙ blank_ends word rest (slice_index line at) blank)) ∙ inv)))

  -- any other byte joins the word at hand
  pub byte_step : (fields whole : List (List ℕ)) → (slice_index line at == 32) ≡ false →
      fields ++ split_at_blanks (take (at - start) (drop start line)) (drop at line) ≡ whole →
      fields ++ split_at_blanks (take ((at + 1) - start) (drop start line)) (drop (at + 1) line) ≡ whole
  byte_step fields whole byte inv =
      let word = take (at - start) (drop start line) in
      let rest = drop (at + 1) line in
      let more : (at + 1) - start ≡ (at - start) + 1 = omega (arith, begun) in
      let short : at - start < length (drop start line) = omega (arith, begun, inside, length-drop start line) in
      let there : start + (at - start) ≡ at = omega (arith, begun) in
      let longer : take ((at + 1) - start) (drop start line) ≡ word ++ slice_index line at ∷ [] =
      ap (λ n. take n (drop start line)) more
      ∙ (take_more (drop start line) (at - start) 0 short
      ∙ ap (λ b. word ++ b ∷ []) (get_or-drop start line (at - start) 0 ∙ ap (λ i. get_or line i 0) there)) in
      ap (λ w. fields ++ split_at_blanks w rest) longer
      ∙ (sym (ap (λ w. fields ++ w) (ap (split_at_blanks word) (drop_more line at 0 inside) ∙ byte_joins word rest (slice_index line at) byte)) ∙ inv)

-- the last word is what is left behind the last blank
pub last_step : (line : List ℕ) (start at : ℕ) (fields whole : List (List ℕ)) → length line ≡ at →
    fields ++ split_at_blanks (take (at - start) (drop start line)) (drop at line) ≡ whole →
    fields ++ take (length line - start) (drop start line) ∷ [] ≡ whole
unfolding split_at_blanks
last_step line start at fields whole end inv =
    rw end (sym (ap (λ r. fields ++ split_at_blanks (take (at - start) (drop start line)) r) (drop_all at line (omega (arith, end)))) ∙ inv)
