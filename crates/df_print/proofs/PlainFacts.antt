-- Texts of printable ASCII: how wide they are, and which are printed as they stand.
use Rattle.std.proofs.Common.{◌≡◌, ◌∙◌, ℕ, zero, suc, true, false, nat_lt, List, [], ◌∷◌, ap, arith, flat_map, length, refl, sym}
use Rattle.std.specs.Prelude.{◌||◌, ◌==◌}
use Rattle.std.specs.Int.{is_in_range}
use Rattle.std.specs.List.{list_all}
use Rattle.std.specs.Str.{IsAscii}
use Rattle.std.proofs.lemmas.Bool.{and_parts}
use Rattle.std.proofs.lemmas.Bool.Decides.{nat_tests}
use Rattle.std.proofs.lemmas.Str.{chars-IsAscii, encode_ascii}
use Rattle.unicode_width.specs.Width.{str_width}
use Rattle.unicode_width.proofs.Rules.{str_width-printable}
use Rattle.df_print.specs.Printed.{escaped_char, escaped_text, is_plain, width_of}

printable-ascii : (bs : List ℕ) → list_all (is_in_range 0x20 0x7E) bs ≡ true → IsAscii bs
printable-ascii [] h i = omega arith
printable-ascii (b ∷ bs) h zero =
    let first : is_in_range 0x20 0x7E b ≡ true = (and_parts (is_in_range 0x20 0x7E b) (list_all (is_in_range 0x20 0x7E) bs) h).0 in
    grind (arith, nat_tests, first)
printable-ascii (b ∷ bs) h (suc i) = printable-ascii bs (and_parts (is_in_range 0x20 0x7E b) (list_all (is_in_range 0x20 0x7E) bs) h).1 i

-- each byte takes one column
pub width_printable : (bs : List ℕ) → list_all (is_in_range 0x20 0x7E) bs ≡ true → length bs ≡ width_of bs
width_printable bs h = sym (ap (str_width false) (chars-IsAscii bs (printable-ascii bs h)) ∙ str_width-printable false bs h)

plain_char : (b : ℕ) → is_plain b ≡ true → escaped_char b ≡ b ∷ []
plain_char b h =
    let backslash : (b == 92) ≡ false = grind (arith, nat_tests) in
    let control : (nat_lt b 32 || (b == 127)) ≡ false = grind (arith, nat_tests) in
    rw (backslash, control) (encode_ascii b (grind (arith, nat_tests)))

plain_chars : (bs : List ℕ) → list_all is_plain bs ≡ true → flat_map escaped_char bs ≡ bs
plain_chars [] h = refl
plain_chars (b ∷ bs) h =
    let parts = and_parts (is_plain b) (list_all is_plain bs) h in
    rw (plain_char b parts.0, plain_chars bs parts.1) refl

plain-ascii : (bs : List ℕ) → list_all is_plain bs ≡ true → IsAscii bs
plain-ascii [] h i = omega arith
plain-ascii (b ∷ bs) h zero =
    let first : is_plain b ≡ true = (and_parts (is_plain b) (list_all is_plain bs) h).0 in
    grind (arith, nat_tests, first)
plain-ascii (b ∷ bs) h (suc i) = plain-ascii bs (and_parts (is_plain b) (list_all is_plain bs) h).1 i

-- a text without what is escaped is printed as it stands
pub plain_text : (bs : List ℕ) → list_all is_plain bs ≡ true → escaped_text bs ≡ bs
plain_text bs h = ap (flat_map escaped_char) (chars-IsAscii bs (plain-ascii bs h)) ∙ plain_chars bs h
