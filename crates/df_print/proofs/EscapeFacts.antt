-- What a text is printed as has no control character, and no other text is printed so.
use Rattle.std.proofs.Common.{◌≡◌, ◌≢◌, ℕ, ◌+◌, ◌<◌, ◌≤◌, ◌/◌, ◌%◌, ◌∙◌, Bool, true, false, cond, List, [], ◌∷◌, ◌++◌, length, flat_map, nat_lt, refl, ap, sym, arith, codes, chars, IsUtf8}
use Rattle.std.specs.Prelude.{◌&&◌, ◌||◌, ◌==◌, encode_utf8}
use Rattle.std.proofs.lemmas.Bool.Decides.{nat_tests}
use Rattle.std.proofs.lemmas.List.{length-append}
use Rattle.std.proofs.lemmas.Str.{encode_ascii, encode_same, encodes-chars, length-encode, len_utf8_bounds}
use lib.Utf8.{encode, encodes, next}
use Rattle.df_value.specs.Choices.{by_test}
use Rattle.df_print.specs.Printed.{escaped_char, escaped_text, hex_digit, is_all_printable, is_printable, IsPrintedAlone}

pub printable : (b : ℕ) → 32 ≤ b → b ≢ 127 → is_printable b ≡ true
printable b h k = grind (arith, nat_tests)

pub also : (b : ℕ) (bs : List ℕ) → is_printable b ≡ true → is_all_printable bs ≡ true → is_all_printable (b ∷ bs) ≡ true
also b bs h k = ap (λ t. t && is_all_printable bs) h ∙ k

pub two_true : (a b : Bool) → (a && b) ≡ true → (a ≡ true) × (b ≡ true)
two_true true b h = (refl, h)
two_true false b h = cc

pub both_printable : (xs ys : List ℕ) → is_all_printable xs ≡ true → is_all_printable ys ≡ true → is_all_printable (xs ++ ys) ≡ true
both_printable [] ys h k = k
both_printable (x ∷ xs) ys h k =
    let parts = two_true (is_printable x) (is_all_printable xs) h in
    also x (xs ++ ys) parts.0 (both_printable xs ys parts.1 k)

hex_small : (d : ℕ) → d < 16 → (48 ≤ hex_digit d) × (hex_digit d < 103)
hex_small d h = grind (arith, nat_tests)

hex_same : (a b : ℕ) → a < 16 → b < 16 → hex_digit a ≡ hex_digit b → a ≡ b
hex_same a b h k e = grind (arith, nat_tests)

-- how a character is printed
data Shape (c : ℕ) : Type 0 where
  backslash : c ≡ 92 → escaped_char c ≡ 92 ∷ 92 ∷ [] → Shape c
  control : c < 128 → escaped_char c ≡ 92 ∷ 120 ∷ hex_digit (c / 16) ∷ hex_digit (c % 16) ∷ [] → Shape c
  plain : c ≢ 92 → 32 ≤ c → c ≢ 127 → escaped_char c ≡ encode_utf8 c → Shape c

control_is : (c : ℕ) → (nat_lt c 32 || (c == 127)) ≡ true → c < 128
control_is c h = grind (arith, nat_tests)

plain_is : (c : ℕ) → (nat_lt c 32 || (c == 127)) ≡ false → (32 ≤ c) × (c ≢ 127)
plain_is c h = (grind (arith, nat_tests), λ e. grind (arith, nat_tests))

shape_at : (c : ℕ) (b k : Bool) → (c == 92) ≡ b → (nat_lt c 32 || (c == 127)) ≡ k → Shape c
shape_at c true k e h =
    backslash (grind (arith, nat_tests)) (ap (λ t. cond t (codes "\\\\") (cond (nat_lt c 32 || (c == 127)) (92 ∷ 120 ∷ hex_digit (c / 16) ∷ hex_digit (c % 16) ∷ []) (encode_utf8 c))) e)
shape_at c false true e h =
    control (control_is c h)
    (ap (λ t. cond t (codes "\\\\") (cond (nat_lt c 32 || (c == 127)) (92 ∷ 120 ∷ hex_digit (c / 16) ∷ hex_digit (c % 16) ∷ []) (encode_utf8 c))) e
    ∙ ap (λ t. cond t (92 ∷ 120 ∷ hex_digit (c / 16) ∷ hex_digit (c % 16) ∷ []) (encode_utf8 c)) h)
shape_at c false false e h =
    plain (λ is. grind (arith, nat_tests)) (plain_is c h).0 (plain_is c h).1
    (ap (λ t. cond t (codes "\\\\") (cond (nat_lt c 32 || (c == 127)) (92 ∷ 120 ∷ hex_digit (c / 16) ∷ hex_digit (c % 16) ∷ []) (encode_utf8 c))) e
    ∙ ap (λ t. cond t (92 ∷ 120 ∷ hex_digit (c / 16) ∷ hex_digit (c % 16) ∷ []) (encode_utf8 c)) h)

shape : (c : ℕ) → Shape c
shape c = shape_at c (c == 92) (nat_lt c 32 || (c == 127)) refl refl

-- bytes of UTF-8 beyond ASCII are printable
high : (more b : ℕ) → is_printable ((128 + more) + b) ≡ true
high more b = printable ((128 + more) + b) (omega arith) (λ e. omega arith)

one_next : (a : ℕ) → is_all_printable (next a ∷ []) ≡ true
one_next a = also (next a) [] (high 0 (a % 64)) refl

two_next : (a b : ℕ) → is_all_printable (next a ∷ next b ∷ []) ≡ true
two_next a b = also (next a) (next b ∷ []) (high 0 (a % 64)) (one_next b)

encode_printable : (c : ℕ) → 32 ≤ c → c ≢ 127 → is_all_printable (encode_utf8 c) ≡ true
unfolding encode
encode_printable c h k =
    by_test (λ bs. is_all_printable bs ≡ true) (nat_lt c 128) _ _
    (λ e. also c [] (printable c h k) refl)
    (λ e. by_test (λ bs. is_all_printable bs ≡ true) (nat_lt c 2048) _ _
    (λ e. also (192 + c / 64) (next c ∷ []) (high 64 (c / 64)) (one_next c))
    (λ e. by_test (λ bs. is_all_printable bs ≡ true) (nat_lt c 65536) _ _
    (λ e. also (224 + c / 4096) (next (c / 64) ∷ next c ∷ []) (high 96 (c / 4096)) (two_next (c / 64) c))
    (λ e. also (240 + c / 262144) (next (c / 4096) ∷ next (c / 64) ∷ next c ∷ []) (high 112 (c / 262144))
    (also (next (c / 4096)) (next (c / 64) ∷ next c ∷ []) (high 0 (c / 4096 % 64)) (two_next (c / 64) c)))))

pub hex_printable : (d : ℕ) → d < 16 → is_printable (hex_digit d) ≡ true
hex_printable d h =
    let small = hex_small d h in
    printable (hex_digit d) (omega arith) (λ e. omega arith)

of_shape : (c : ℕ) → Shape c → is_all_printable (escaped_char c) ≡ true
of_shape c (backslash is e) = ap is_all_printable e
of_shape c (control h e) =
    ap is_all_printable e
    ∙ also (hex_digit (c / 16)) (hex_digit (c % 16) ∷ []) (hex_printable (c / 16) (omega arith)) (also (hex_digit (c % 16)) [] (hex_printable (c % 16) (omega arith)) refl)
of_shape c (plain ne h k e) = ap is_all_printable e ∙ encode_printable c h k

all_printable : (cs : List ℕ) → is_all_printable (flat_map escaped_char cs) ≡ true
all_printable [] = refl
all_printable (c ∷ cs) = both_printable (escaped_char c) (flat_map escaped_char cs) (of_shape c (shape c)) (all_printable cs)

pub escaped_printable : (text : List ℕ) → is_all_printable (escaped_text text) ≡ true
escaped_printable text = all_printable (chars text)

ascii_first : (c : ℕ) (xs : List ℕ) → c < 128 → encode_utf8 c ++ xs ≡ c ∷ xs
ascii_first c xs h = ap (λ bs. bs ++ xs) (encode_ascii c h)

not_backslash : (c : ℕ) (xs ys : List ℕ) → c ≢ 92 → encode_utf8 c ++ xs ≡ 92 ∷ ys → ⊥
not_backslash c xs ys ne h = ne (encode_same c 92 xs ys (h ∙ sym (ascii_first 92 ys (omega arith)))).0

from_to : (c d : ℕ) (xs ys : List ℕ) (v w : List ℕ) → escaped_char c ≡ v → escaped_char d ≡ w → escaped_char c ++ xs ≡ escaped_char d ++ ys → v ++ xs ≡ w ++ ys
from_to c d xs ys v w e f h = sym (ap (λ l. l ++ xs) e) ∙ (h ∙ ap (λ l. l ++ ys) f)

-- the first character and what follows are known from the bytes
first_same : (c d : ℕ) (xs ys : List ℕ) → Shape c → Shape d → escaped_char c ++ xs ≡ escaped_char d ++ ys → (c ≡ d) × (xs ≡ ys)
first_same c d xs ys (backslash p e) (backslash q f) h = let k = from_to c d xs ys _ _ e f h in (p ∙ sym q, cc)
first_same c d xs ys (backslash p e) (control q f) h =
    let k = from_to c d xs ys _ _ e f h in
    let other : ◌≡◌ {A = ℕ} 92 120 = cc in
    absurd (omega arith)
first_same c d xs ys (backslash p e) (plain ne q r f) h = absurd (not_backslash d ys _ ne (sym (from_to c d xs ys _ _ e f h)))
first_same c d xs ys (control p e) (backslash q f) h =
    let k = from_to c d xs ys _ _ e f h in
    let other : ◌≡◌ {A = ℕ} 120 92 = cc in
    absurd (omega arith)
first_same c d xs ys (control p e) (control q f) h =
    let k = from_to c d xs ys _ _ e f h in
    let high : c / 16 ≡ d / 16 = hex_same (c / 16) (d / 16) (omega arith) (omega arith) (cc) in
    let low : c % 16 ≡ d % 16 = hex_same (c % 16) (d % 16) (omega arith) (omega arith) (cc) in
    (omega arith, cc)
first_same c d xs ys (control p e) (plain ne q r f) h = absurd (not_backslash d ys _ ne (sym (from_to c d xs ys _ _ e f h)))
first_same c d xs ys (plain ne p r e) (backslash q f) h = absurd (not_backslash c xs _ ne (from_to c d xs ys _ _ e f h))
first_same c d xs ys (plain ne p r e) (control q f) h = absurd (not_backslash c xs _ ne (from_to c d xs ys _ _ e f h))
first_same c d xs ys (plain ne p r e) (plain nf q s f) h = encode_same c d xs ys (from_to c d xs ys _ _ e f h)

some_bytes : (c : ℕ) (xs : List ℕ) → Shape c → escaped_char c ++ xs ≡ [] → ⊥
some_bytes c xs (backslash p e) h = let k : 92 ∷ 92 ∷ xs ≡ [] = sym (ap (λ l. l ++ xs) e) ∙ h in cc
some_bytes c xs (control p e) h = let k : 92 ∷ 120 ∷ hex_digit (c / 16) ∷ hex_digit (c % 16) ∷ xs ≡ [] = sym (ap (λ l. l ++ xs) e) ∙ h in cc
some_bytes c xs (plain ne p r e) h =
    let k : encode_utf8 c ++ xs ≡ [] = sym (ap (λ l. l ++ xs) e) ∙ h in
    let long = ap length k in
    let parts = length-append (encode_utf8 c) xs in
    let own = length-encode c in
    let bounds = len_utf8_bounds c in
    omega arith

same_chars : (cs ds : List ℕ) → flat_map escaped_char cs ≡ flat_map escaped_char ds → cs ≡ ds
same_chars [] [] h = refl
same_chars [] (d ∷ ds) h = absurd (some_bytes d (flat_map escaped_char ds) (shape d) (sym h))
same_chars (c ∷ cs) [] h = absurd (some_bytes c (flat_map escaped_char cs) (shape c) h)
same_chars (c ∷ cs) (d ∷ ds) h =
    let parts = first_same c d (flat_map escaped_char cs) (flat_map escaped_char ds) (shape c) (shape d) h in
    ap (λ x. x ∷ cs) parts.0 ∙ ap (λ l. d ∷ l) (same_chars cs ds parts.1)

pub printed_alone : (text : List ℕ) → IsUtf8 text → IsPrintedAlone text
printed_alone text utf8 other also_utf8 h =
    sym (encodes-chars other also_utf8) ∙ (ap encodes (same_chars (chars other) (chars text) h) ∙ encodes-chars text utf8)
