-- An array of values beside the form that its first item names.
use Rattle.std.proofs.Common.{◌≡◌, ◌≢◌, ℕ, List, [], ◌∷◌, map, length, get_or, Err, refl, sym, ap, arith}
use Rattle.toml.specs.View.{items_of, view}
use Rattle.toml.specs.declared.value.Value.{Value}
use Rattle.df_text.specs.declared.document.Location.{Location}
use Rattle.df_text.specs.declared.expressions.ExprWord.{ExprWord}
use Rattle.df_text.specs.declared.expressions.ExprWord.TheVariants as form
use Rattle.df_text.specs.declared.expressions.UnaryWord.{UnaryWord}
use Rattle.df_text.specs.declared.expressions.BinaryWord.{BinaryWord}
use Rattle.df_text.specs.declared.fault.ViewsFault.TheVariants as fault
use Rattle.df_text.specs.Expressions.{expr_of, form_of, with_operand, with_operands}

-- how many items an array has that begins with this word
abbrev pub count_of : ExprWord → ℕ
count_of form.Column = 2
count_of form.Null = 2
count_of (form.Unary op) = 2
count_of (form.Binary op) = 3

-- another number of items is another shape
pub other_count : (at : Location) (word : ExprWord) (vs : List Value) → length vs ≢ count_of word → form_of at word (items_of (map view vs)) ≡ Err (fault.Shape at)
other_count at form.Column [] h = refl
other_count at form.Column (v ∷ []) h = refl
other_count at form.Column (v ∷ w ∷ []) h = absurd (h refl)
other_count at form.Column (v ∷ w ∷ x ∷ vs) h = refl
other_count at form.Null [] h = refl
other_count at form.Null (v ∷ []) h = refl
other_count at form.Null (v ∷ w ∷ []) h = absurd (h refl)
other_count at form.Null (v ∷ w ∷ x ∷ vs) h = refl
other_count at (form.Unary op) [] h = refl
other_count at (form.Unary op) (v ∷ []) h = refl
other_count at (form.Unary op) (v ∷ w ∷ []) h = absurd (h refl)
other_count at (form.Unary op) (v ∷ w ∷ x ∷ vs) h = refl
other_count at (form.Binary op) [] h = refl
other_count at (form.Binary op) (v ∷ []) h = refl
other_count at (form.Binary op) (v ∷ w ∷ []) h = refl
other_count at (form.Binary op) (v ∷ w ∷ x ∷ []) h = absurd (h refl)
other_count at (form.Binary op) (v ∷ w ∷ x ∷ y ∷ vs) h = refl

-- a word with its one operand
pub one_operand : (at : Location) (op : UnaryWord) (vs : List Value) (a : Value) → length vs ≡ 2 → a ≡ get_or vs 1 a
    → form_of at (form.Unary op) (items_of (map view vs)) ≡ with_operand op (expr_of at (view a))
one_operand at op [] a n is = absurd (omega arith)
one_operand at op (v ∷ []) a n is = absurd (omega arith)
one_operand at op (v ∷ w ∷ []) a n is = ap (λ (x : Value). with_operand op (expr_of at (view x))) (sym is)
one_operand at op (v ∷ w ∷ x ∷ vs) a n is = absurd (omega arith)

-- a word with its two operands
pub two_operands : (at : Location) (op : BinaryWord) (vs : List Value) (a b : Value) → length vs ≡ 3 → a ≡ get_or vs 1 a → b ≡ get_or vs 2 b
    → form_of at (form.Binary op) (items_of (map view vs)) ≡ with_operands op (expr_of at (view a)) (expr_of at (view b))
two_operands at op [] a b n left right = absurd (omega arith)
two_operands at op (v ∷ []) a b n left right = absurd (omega arith)
two_operands at op (v ∷ w ∷ []) a b n left right = absurd (omega arith)
two_operands at op (v ∷ w ∷ x ∷ []) a b n left right = rw (left, right) refl
two_operands at op (v ∷ w ∷ x ∷ y ∷ vs) a b n left right = absurd (omega arith)
