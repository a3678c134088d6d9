-- The expressions of a view: a literal, or an array of a word and its operands. In an array the word comes first,
-- then the number of items, then the operands from left to right, each with its inside.
use Rattle.std.specs.Prelude.{ℕ, List, codes, Result, Ok, Err, if◌then◌else◌}
use Rattle.std.specs.Str.{bytes_eq}
use Rattle.toml.specs.Data.{Data, string, integer, boolean, array, Items, no_items, item}
use Rattle.df_value.specs.declared.cell.Cell.TheVariants as cell
use Rattle.df_value.specs.declared.cell.CellType.TheVariants as dtype
use Rattle.df_expr.specs.declared.expr.ArithOp.TheVariants as arith
use Rattle.df_expr.specs.declared.expr.CompareOp.TheVariants as compare
use Rattle.df_expr.specs.declared.expr.Expr.{Expr}
use Rattle.df_expr.specs.declared.expr.Expr.TheVariants as expr
use Rattle.df_text.specs.declared.expressions.ExprWord.{ExprWord}
use Rattle.df_text.specs.declared.expressions.ExprWord.TheVariants as form
use Rattle.df_text.specs.declared.expressions.UnaryWord.{UnaryWord}
use Rattle.df_text.specs.declared.expressions.UnaryWord.TheVariants as unary
use Rattle.df_text.specs.declared.expressions.BinaryWord.{BinaryWord}
use Rattle.df_text.specs.declared.expressions.BinaryWord.TheVariants as binary
use Rattle.df_text.specs.declared.document.Location.{Location}
use Rattle.df_text.specs.declared.fault.ViewsFault.{ViewsFault}
use Rattle.df_text.specs.declared.fault.ViewsFault.TheVariants as fault
use Rattle.df_value.specs.Outcomes.{then_next}
use Rattle.df_text.specs.Tree.{text_in}
use Rattle.df_text.specs.Frames.{dtype_of_word}

-- the form that a word names
abbrev pub form_of_word : Location → List ℕ → Result ExprWord ViewsFault
form_of_word at w =
    if bytes_eq w (codes "col") then Ok form.Column
    else if bytes_eq w (codes "null") then Ok form.Null
    else if bytes_eq w (codes "~") then Ok (form.Unary unary.Not)
    else if bytes_eq w (codes "is_null") then Ok (form.Unary unary.IsNull)
    else if bytes_eq w (codes "is_not_null") then Ok (form.Unary unary.IsNotNull)
    else if bytes_eq w (codes "+") then Ok (form.Binary (binary.Arith arith.Add))
    else if bytes_eq w (codes "-") then Ok (form.Binary (binary.Arith arith.Sub))
    else if bytes_eq w (codes "*") then Ok (form.Binary (binary.Arith arith.Mul))
    else if bytes_eq w (codes "==") then Ok (form.Binary (binary.Compare compare.Eq))
    else if bytes_eq w (codes "!=") then Ok (form.Binary (binary.Compare compare.Ne))
    else if bytes_eq w (codes "<") then Ok (form.Binary (binary.Compare compare.Lt))
    else if bytes_eq w (codes "<=") then Ok (form.Binary (binary.Compare compare.Le))
    else if bytes_eq w (codes ">") then Ok (form.Binary (binary.Compare compare.Gt))
    else if bytes_eq w (codes ">=") then Ok (form.Binary (binary.Compare compare.Ge))
    else if bytes_eq w (codes "eq_missing") then Ok (form.Binary binary.EqMissing)
    else if bytes_eq w (codes "&") then Ok (form.Binary binary.And)
    else if bytes_eq w (codes "|") then Ok (form.Binary binary.Or)
    else if bytes_eq w (codes "fill_null") then Ok (form.Binary binary.FillNull)
    else Err (fault.Word at)

-- the expression of a word before one operand
abbrev pub unary_expr_of : UnaryWord → Expr → Expr
unary_expr_of unary.Not a = expr.Not a
unary_expr_of unary.IsNull a = expr.IsNull a
unary_expr_of unary.IsNotNull a = expr.IsNotNull a

-- the expression of a word before two operands
abbrev pub binary_expr_of : BinaryWord → Expr → Expr → Expr
binary_expr_of (binary.Arith op) a b = expr.Arith op a b
binary_expr_of (binary.Compare op) a b = expr.Compare op a b
binary_expr_of binary.EqMissing a b = expr.EqMissing a b
binary_expr_of binary.And a b = expr.And a b
binary_expr_of binary.Or a b = expr.Or a b
binary_expr_of binary.FillNull a b = expr.FillNull a b

-- a word and what its operand says
abbrev pub with_operand : UnaryWord → Result Expr ViewsFault → Result Expr ViewsFault
with_operand op a = then_next a (λ x. Ok (unary_expr_of op x))

-- a word and what its operands say, the left one first
abbrev pub with_operands : BinaryWord → Result Expr ViewsFault → Result Expr ViewsFault → Result Expr ViewsFault
with_operands op a b = then_next a (λ x. then_next b (λ y. Ok (binary_expr_of op x y)))

-- the column of a name
abbrev pub column_expr_of : Location → Data → Result Expr ViewsFault
column_expr_of at name = then_next (text_in at name) (λ n. Ok (expr.Column n))

-- the null literal of the type that a word names
abbrev pub null_of : Location → Data → Result Expr ViewsFault
null_of at word = then_next (text_in at word) (λ w. then_next (dtype_of_word at w) (λ t. Ok (expr.Literal cell.Null t)))

-- what the first item of an array names
abbrev pub word_of : Location → Items → Result ExprWord ViewsFault
word_of at no_items = Err (fault.Shape at)
word_of at (item word ds) = then_next (text_in at word) (form_of_word at)

abbrev mutual
  -- what a value says as an expression
  pub expr_of : Location → Data → Result Expr ViewsFault
  expr_of at (integer n) = Ok (expr.Literal (cell.Int n) dtype.Int)
  expr_of at (boolean b) = Ok (expr.Literal (cell.Bool b) dtype.Bool)
  expr_of at (string s) = Ok (expr.Literal (cell.Text s) dtype.Text)
  expr_of at (array ds) = then_next (word_of at ds) (λ word. form_of at word ds)
  expr_of at _ = Err (fault.Shape at)

  -- what the items of an array say, the first of which names this form
  pub form_of : Location → ExprWord → Items → Result Expr ViewsFault
  form_of at form.Column (item word (item name no_items)) = column_expr_of at name
  form_of at form.Null (item word (item t no_items)) = null_of at t
  form_of at (form.Unary op) (item word (item a no_items)) = with_operand op (expr_of at a)
  form_of at (form.Binary op) (item word (item a (item b no_items))) = with_operands op (expr_of at a) (expr_of at b)
  form_of at _ _ = Err (fault.Shape at)
