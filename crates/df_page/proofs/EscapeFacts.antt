-- An escaped text is read back, and has no byte that would begin or end a tag.
use Rattle.std.proofs.Common.{◌≡◌, ◌++◌, ◌∷◌, [], ◌∙◌, ℕ, Bool, true, false, List, None, inl, inr, refl, ap, sym, subst, append_assoc, append-nil, codes, flat_map}
use Rattle.std.specs.Prelude.{◌==◌, not}
use Rattle.std.specs.List.{list_all}
use Rattle.std.proofs.lemmas.Bool.{cases_Bool, eqb-true}
use Rattle.std.proofs.lemmas.List.Folds.{list_all-append}
use Rattle.df_page.specs.Markup.{escaped, escaped_byte}
use Rattle.df_page.specs.Reading.{is_text, is_text_from, text_from, text_read}

-- what holds of each entity and of every other byte
by_byte :
    (P : ℕ → List ℕ → Type 0) → P 38 (codes "&amp;") → P 60 (codes "&lt;") → P 62 (codes "&gt;") → P 34 (codes "&quot;") → P 13 (codes "&#13;") → P 0 (codes "&#0;") →
    ((b : ℕ) → (b == 38) ≡ false → (b == 60) ≡ false → (b == 62) ≡ false → (b == 34) ≡ false → P b (b ∷ [])) → (b : ℕ) → P b (escaped_byte b)
by_byte P amp lt gt quot return zero other b =
    let at = λ (n : ℕ) (e : (b == n) ≡ true) (p : P n (escaped_byte n)). subst (λ x. P x (escaped_byte x)) (sym (eqb-true b n e)) p in
    elim (cases_Bool (b == 38)) [
      | inl e ↦ at 38 e amp
      | inr f ↦ elim (cases_Bool (b == 60)) [
        | inl e ↦ at 60 e lt
        | inr g ↦ elim (cases_Bool (b == 62)) [
          | inl e ↦ at 62 e gt
          | inr h ↦ elim (cases_Bool (b == 34)) [
            | inl e ↦ at 34 e quot
            | inr i ↦ elim (cases_Bool (b == 13)) [
              | inl e ↦ at 13 e return
              | inr j ↦ elim (cases_Bool (b == 0)) [
                | inl e ↦ at 0 e zero
                | inr k ↦ rw (f, g, h, i, j, k) (other b f g h i)
              ]
            ]
          ]
        ]
      ]
    ]

byte_reads : (b : ℕ) (rest : List ℕ) → text_from None (escaped_byte b ++ rest) ≡ b ∷ text_from None rest
unfolding text_from
byte_reads b rest =
    by_byte (λ b bytes. text_from None (bytes ++ rest) ≡ b ∷ text_from None rest) refl refl refl refl refl refl (λ b f g h i. rw f refl) b

reads_before : (text rest : List ℕ) → text_from None (escaped text ++ rest) ≡ text ++ text_from None rest
unfolding escaped
reads_before [] rest = refl
reads_before (b ∷ text) rest =
    ap (text_from None) (append_assoc (escaped_byte b) (flat_map escaped_byte text) rest)
    ∙ (byte_reads b (flat_map escaped_byte text ++ rest) ∙ ap (λ l. b ∷ l) (reads_before text rest))

-- an escaped text is read back
pub escaped_reads : (text : List ℕ) → text_read (escaped text) ≡ text
unfolding text_from
escaped_reads text = ap (text_from None) (sym (append-nil (escaped text))) ∙ (reads_before text [] ∙ append-nil text)

byte_text : (b : ℕ) (rest : List ℕ) → is_text_from None (escaped_byte b ++ rest) ≡ is_text_from None rest
unfolding is_text_from
byte_text b rest =
    by_byte (λ b bytes. is_text_from None (bytes ++ rest) ≡ is_text_from None rest) refl refl refl refl refl refl (λ b f g h i. rw (f, g, h, i) refl) b

-- an escaped text has angle brackets, quotes and ampersands in entities alone
pub escaped_text : (text : List ℕ) → is_text (escaped text) ≡ true
unfolding escaped is_text_from
escaped_text [] = refl
escaped_text (b ∷ text) = byte_text b (flat_map escaped_byte text) ∙ escaped_text text

byte_opens_none : (b : ℕ) → list_all (λ x. not (x == 60)) (escaped_byte b) ≡ true
byte_opens_none b = by_byte (λ b bytes. list_all (λ x. not (x == 60)) bytes ≡ true) refl refl refl refl refl refl (λ b f g h i. rw g refl) b

byte_closes_none : (b : ℕ) → list_all (λ x. not (x == 62)) (escaped_byte b) ≡ true
byte_closes_none b = by_byte (λ b bytes. list_all (λ x. not (x == 62)) bytes ≡ true) refl refl refl refl refl refl (λ b f g h i. rw h refl) b

byte_quotes_none : (b : ℕ) → list_all (λ x. not (x == 34)) (escaped_byte b) ≡ true
byte_quotes_none b = by_byte (λ b bytes. list_all (λ x. not (x == 34)) bytes ≡ true) refl refl refl refl refl refl (λ b f g h i. rw i refl) b

each_byte : (p : ℕ → Bool) → ((b : ℕ) → list_all p (escaped_byte b) ≡ true) → (text : List ℕ) → list_all p (escaped text) ≡ true
unfolding escaped
each_byte p h [] = refl
each_byte p h (b ∷ text) = rw (list_all-append p (escaped_byte b) (flat_map escaped_byte text), h b) (each_byte p h text)

-- no tag begins in an escaped text, and none ends; no value of an attribute does
pub opens_none : (text : List ℕ) → list_all (λ x. not (x == 60)) (escaped text) ≡ true
opens_none text = each_byte (λ x. not (x == 60)) byte_opens_none text

pub ends_none : (text : List ℕ) → list_all (λ x. not (x == 62)) (escaped text) ≡ true
ends_none text = each_byte (λ x. not (x == 62)) byte_closes_none text

pub quotes_none : (text : List ℕ) → list_all (λ x. not (x == 34)) (escaped text) ≡ true
quotes_none text = each_byte (λ x. not (x == 34)) byte_quotes_none text
