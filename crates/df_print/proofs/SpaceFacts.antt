-- Spaces before and after a text add their number to its width.
use Rattle.std.proofs.Common.{◌≡◌, ◌+◌, ◌-◌, ◌≤◌, ℕ, zero, suc, Bool, true, false, cond, not, List, ◌++◌, replicate, refl, ◌∙◌, arith, IsUtf8, chars}
use Rattle.std.specs.List.{list_all}
use Rattle.std.specs.Str.{IsAscii}
use Rattle.std.specs.Int.{is_in_range}
use Rattle.std.proofs.lemmas.List.{length-replicate}
use Rattle.std.proofs.lemmas.Str.{chars-append, chars-IsAscii, IsUtf8-from_ascii}
use Rattle.unicode_width.specs.Width.{Reading, is_emoji_variation_base, plain, past_emoji, read_before, step, str_width}
use Rattle.unicode_width.proofs.Computing.{unicode_width}
use Rattle.unicode_width.proofs.Rules.{is_simple, str_width-append_simple, str_width-printable}
use Rattle.df_print.specs.Printed.{padded, width_of}

abbrev pub spaces : ℕ → List ℕ
spaces n = replicate n 32

pub spaces-IsAscii : (n : ℕ) → IsAscii (spaces n)
spaces-IsAscii zero i = omega arith
spaces-IsAscii (suc n) zero = omega arith
spaces-IsAscii (suc n) (suc i) = spaces-IsAscii n i

pub spaces-simple : (n : ℕ) → list_all is_simple (spaces n) ≡ true
spaces-simple zero = refl
spaces-simple (suc n) = spaces-simple n

pub spaces-printable : (n : ℕ) → list_all (is_in_range 0x20 0x7E) (spaces n) ≡ true
spaces-printable zero = refl
spaces-printable (suc n) = spaces-printable n

-- after a text
width-after : (t : List ℕ) (n : ℕ) → IsUtf8 t → width_of (t ++ spaces n) ≡ width_of t + n
width-after t n h =
    let b : chars (spaces n) ≡ spaces n = chars-IsAscii (spaces n) (spaces-IsAscii n) in
    let w : str_width false (spaces n) ≡ n = str_width-printable false (spaces n) (spaces-printable n) ∙ length-replicate n 32 in
    let e : str_width false (chars t ++ spaces n) ≡ str_width false (chars t) + str_width false (spaces n) = str_width-append_simple false (chars t) (spaces n) (spaces-simple n) in
    rw (chars-append t (spaces n) h, b, e, w) refl

pub space_joins_none : is_emoji_variation_base 32 ≡ false
unfolding unicode_width
space_joins_none = refl

either_way : (emoji joins : Bool) (x y z : Reading) (n : ℕ) → joins ≡ false → x.0 ≡ n → z.0 ≡ n → (cond (not emoji) x (cond joins y z)).0 ≡ n
either_way true true x y z n h p q = cc
either_way true false x y z n h p q = q
either_way false joins x y z n h p q = p

step-space : (r : Reading) → (step false 32 r).0 ≡ r.0 + 1
unfolding step past_emoji
step-space r = either_way r.1.emoji (is_emoji_variation_base 32) _ _ _ (r.0 + 1) space_joins_none refl refl

spaces-before : (n : ℕ) (cs : List ℕ) → str_width false (spaces n ++ cs) ≡ n + str_width false cs
unfolding str_width
spaces-before zero cs = omega arith
spaces-before (suc n) cs = step-space (read_before false (spaces n ++ cs) (0, plain)) ∙ (omega (arith, spaces-before n cs))

-- before a text
width-before : (t : List ℕ) (n : ℕ) → width_of (spaces n ++ t) ≡ n + width_of t
width-before t n =
    let b : chars (spaces n) ≡ spaces n = chars-IsAscii (spaces n) (spaces-IsAscii n) in
    rw (chars-append (spaces n) t (IsUtf8-from_ascii (spaces n) (spaces-IsAscii n)), b) (spaces-before n (chars t))

pub width-padded : (left : Bool) (w : ℕ) (t : List ℕ) → IsUtf8 t → width_of t ≤ w → width_of (padded left w t) ≡ w
width-padded true w t utf8 h = omega (arith, width-after t (w - width_of t) utf8)
width-padded false w t utf8 h = omega (arith, width-before t (w - width_of t))
