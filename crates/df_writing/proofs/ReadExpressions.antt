-- Expressions and aggregates are read as they were before they were written.
use Rattle.std.proofs.Common.{◌≡◌, ◌∙◌, ℕ, Bool, true, List, [], ◌∷◌, ◌++◌, Ok, ap, codes, length, map, refl, subst, sym, ◌+◌}
use Rattle.std.specs.Prelude.{is_ok}
use Rattle.std.proofs.lemmas.Bool.{and_parts}
use Rattle.std.proofs.lemmas.List.{append-nil, append_assoc}
use Rattle.toml.specs.Data.{Data, string}
use Rattle.df_value.specs.declared.cell.Cell.{Cell}
use Rattle.df_value.specs.declared.cell.Cell.TheVariants as cell
use Rattle.df_value.specs.declared.cell.CellType.{CellType}
use Rattle.df_value.specs.declared.cell.CellType.TheVariants as dtype
use Rattle.df_expr.specs.Typing.{literal_dtype}
use Rattle.df_expr.specs.declared.expr.ArithOp.{ArithOp}
use Rattle.df_expr.specs.declared.expr.ArithOp.TheVariants as arith_op
use Rattle.df_expr.specs.declared.expr.CompareOp.{CompareOp}
use Rattle.df_expr.specs.declared.expr.CompareOp.TheVariants as compare_op
use Rattle.df_expr.specs.declared.expr.Expr.{Expr}
use Rattle.df_expr.specs.declared.expr.Expr.TheFolds.{fold-roll-Expr, ind-Expr, map-Expr}
use Rattle.df_expr.specs.declared.expr.Expr.TheOpen.{Expr-F}
use Rattle.df_expr.specs.declared.expr.Expr.TheVariants as expr
use Rattle.df_expr.specs.declared.expr.Expr.TheViews.{roll-Expr}
use Rattle.df_ops.specs.declared.agg.Agg.{Agg}
use Rattle.df_ops.specs.declared.agg.Agg.TheVariants as agg
use Rattle.df_text.specs.AggregateItems.{aggregate_item_of, next_aggregate_of}
use Rattle.df_text.specs.Expressions.{binary_expr_of, expr_of, form_of_word, unary_expr_of}
use Rattle.df_text.specs.Locations.{item_at}
use Rattle.df_text.specs.Reading.{read_after, read_each}
use Rattle.df_text.specs.RowWiseSteps.{item_of, next_item_of}
use Rattle.df_text.specs.Tree.{list_of, text_in}
use Rattle.df_text.specs.declared.document.Location.{Location}
use Rattle.df_text.specs.declared.expressions.BinaryWord.{BinaryWord}
use Rattle.df_text.specs.declared.expressions.BinaryWord.TheVariants as binary
use Rattle.df_text.specs.declared.expressions.ExprWord.TheVariants as form
use Rattle.df_text.specs.declared.expressions.UnaryWord.{UnaryWord}
use Rattle.df_text.specs.declared.expressions.UnaryWord.TheVariants as unary
use Rattle.df_writing.specs.ExpressionData.{aggregate_data, arith_word, compare_word, expr_data, expr_data_step, literal_data, operand_data, operands_data, output_data}
use Rattle.df_writing.specs.Sayable.{are_said, is_said, is_said_step}

operand : (at : Location) (w : List ℕ) (op : UnaryWord) (d : Data) (a : Expr) → form_of_word at w ≡ Ok (form.Unary op) → expr_of at d ≡ Ok a → expr_of at (operand_data w d) ≡ Ok (unary_expr_of op a)
operand at w op d a named is = rw (named, is) refl

operands :
    (at : Location) (w : List ℕ) (op : BinaryWord) (d e : Data) (a b : Expr) → form_of_word at w ≡ Ok (form.Binary op) → expr_of at d ≡ Ok a → expr_of at e ≡ Ok b
    → expr_of at (operands_data w d e) ≡ Ok (binary_expr_of op a b)
operands at w op d e a b named is also = rw (named, is, also) refl

arith_form : (at : Location) (op : ArithOp) → form_of_word at (arith_word op) ≡ Ok (form.Binary (binary.Arith op))
arith_form at arith_op.Add = refl
arith_form at arith_op.Sub = refl
arith_form at arith_op.Mul = refl

compare_form : (at : Location) (op : CompareOp) → form_of_word at (compare_word op) ≡ Ok (form.Binary (binary.Compare op))
compare_form at compare_op.Eq = refl
compare_form at compare_op.Ne = refl
compare_form at compare_op.Lt = refl
compare_form at compare_op.Le = refl
compare_form at compare_op.Gt = refl
compare_form at compare_op.Ge = refl

literal : (at : Location) (c : Cell) (t : CellType) → is_ok (literal_dtype c t) ≡ true → expr_of at (literal_data c t) ≡ Ok (expr.Literal c t)
literal at cell.Null dtype.Int h = refl
literal at cell.Null dtype.Wide h = absurd (cc)
literal at cell.Null dtype.Text h = refl
literal at cell.Null dtype.Bool h = refl
literal at cell.Null dtype.Frac h = absurd (cc)
literal at (cell.Int n) dtype.Int h = refl
literal at (cell.Int n) dtype.Wide h = absurd (cc)
literal at (cell.Int n) dtype.Text h = absurd (cc)
literal at (cell.Int n) dtype.Bool h = absurd (cc)
literal at (cell.Int n) dtype.Frac h = absurd (cc)
literal at (cell.Wide n) dtype.Int h = absurd (cc)
literal at (cell.Wide n) dtype.Wide h = absurd (cc)
literal at (cell.Wide n) dtype.Text h = absurd (cc)
literal at (cell.Wide n) dtype.Bool h = absurd (cc)
literal at (cell.Wide n) dtype.Frac h = absurd (cc)
literal at (cell.Text s) dtype.Int h = absurd (cc)
literal at (cell.Text s) dtype.Wide h = absurd (cc)
literal at (cell.Text s) dtype.Text h = refl
literal at (cell.Text s) dtype.Bool h = absurd (cc)
literal at (cell.Text s) dtype.Frac h = absurd (cc)
literal at (cell.Bool b) dtype.Int h = absurd (cc)
literal at (cell.Bool b) dtype.Wide h = absurd (cc)
literal at (cell.Bool b) dtype.Text h = absurd (cc)
literal at (cell.Bool b) dtype.Bool h = refl
literal at (cell.Bool b) dtype.Frac h = absurd (cc)
literal at (cell.Frac f) dtype.Int h = absurd (cc)
literal at (cell.Frac f) dtype.Wide h = absurd (cc)
literal at (cell.Frac f) dtype.Text h = absurd (cc)
literal at (cell.Frac f) dtype.Bool h = absurd (cc)
literal at (cell.Frac f) dtype.Frac h = absurd (cc)

abbrev pub ReadsBack : Expr → Type 0
ReadsBack e = is_said e ≡ true → (at : Location) → expr_of at (expr_data e) ≡ Ok e

abbrev Part : Type 0
Part = (e : Expr) × ReadsBack e

step : (y : Expr-F Part) → ReadsBack (roll-Expr (map-Expr Part Expr (λ e. e.0) y))
unfolding roll-Expr denote.Hole.Carrier.roll
step (Expr-F.Column name) h at = rw (fold-roll-Expr Data expr_data_step) refl
step (Expr-F.Literal c t) h at =
    let said = rw (fold-roll-Expr Bool is_said_step) at h in
    rw (fold-roll-Expr Data expr_data_step) (literal at c t said)
step (Expr-F.Arith op a b) h at =
    let said = rw (fold-roll-Expr Bool is_said_step) at h in
    let (x, y) = and_parts (is_said a.0) (is_said b.0) said in
    rw (fold-roll-Expr Data expr_data_step) (operands at (arith_word op) (binary.Arith op) (expr_data a.0) (expr_data b.0) a.0 b.0 (arith_form at op) (a.1 x at) (b.1 y at))
step (Expr-F.Compare op a b) h at =
    let said = rw (fold-roll-Expr Bool is_said_step) at h in
    let (x, y) = and_parts (is_said a.0) (is_said b.0) said in
    rw (fold-roll-Expr Data expr_data_step) (operands at (compare_word op) (binary.Compare op) (expr_data a.0) (expr_data b.0) a.0 b.0 (compare_form at op) (a.1 x at) (b.1 y at))
step (Expr-F.EqMissing a b) h at =
    let said = rw (fold-roll-Expr Bool is_said_step) at h in
    let (x, y) = and_parts (is_said a.0) (is_said b.0) said in
    rw (fold-roll-Expr Data expr_data_step) (operands at (codes "eq_missing") binary.EqMissing (expr_data a.0) (expr_data b.0) a.0 b.0 refl (a.1 x at) (b.1 y at))
step (Expr-F.And a b) h at =
    let said = rw (fold-roll-Expr Bool is_said_step) at h in
    let (x, y) = and_parts (is_said a.0) (is_said b.0) said in
    rw (fold-roll-Expr Data expr_data_step) (operands at (codes "&") binary.And (expr_data a.0) (expr_data b.0) a.0 b.0 refl (a.1 x at) (b.1 y at))
step (Expr-F.Or a b) h at =
    let said = rw (fold-roll-Expr Bool is_said_step) at h in
    let (x, y) = and_parts (is_said a.0) (is_said b.0) said in
    rw (fold-roll-Expr Data expr_data_step) (operands at (codes "|") binary.Or (expr_data a.0) (expr_data b.0) a.0 b.0 refl (a.1 x at) (b.1 y at))
step (Expr-F.FillNull a b) h at =
    let said = rw (fold-roll-Expr Bool is_said_step) at h in
    let (x, y) = and_parts (is_said a.0) (is_said b.0) said in
    rw (fold-roll-Expr Data expr_data_step) (operands at (codes "fill_null") binary.FillNull (expr_data a.0) (expr_data b.0) a.0 b.0 refl (a.1 x at) (b.1 y at))
step (Expr-F.Not a) h at =
    let said = rw (fold-roll-Expr Bool is_said_step) at h in
    rw (fold-roll-Expr Data expr_data_step) (operand at (codes "~") unary.Not (expr_data a.0) a.0 refl (a.1 said at))
step (Expr-F.IsNull a) h at =
    let said = rw (fold-roll-Expr Bool is_said_step) at h in
    rw (fold-roll-Expr Data expr_data_step) (operand at (codes "is_null") unary.IsNull (expr_data a.0) a.0 refl (a.1 said at))
step (Expr-F.IsNotNull a) h at =
    let said = rw (fold-roll-Expr Bool is_said_step) at h in
    rw (fold-roll-Expr Data expr_data_step) (operand at (codes "is_not_null") unary.IsNotNull (expr_data a.0) a.0 refl (a.1 said at))

-- an expression is read back
pub expr_back : (e : Expr) → ReadsBack e
expr_back = ind-Expr ReadsBack (λ x y is. subst (λ z. ReadsBack (roll-Expr z)) is (step y))

output_back : (at : Location) (o : List ℕ × Expr) → is_said o.1 ≡ true → item_of at (output_data o) ≡ Ok o
unfolding list_of
output_back at o said = let is = expr_back o.1 said at in rw is refl

-- outputs are read back, behind those before them
pub outputs_back : (at : Location) (done outputs : List (List ℕ × Expr)) → are_said outputs ≡ true → read_after (next_item_of at) done (map output_data outputs) ≡ Ok (done ++ outputs)
outputs_back at done [] said = ap Ok (sym (append-nil done))
outputs_back at done (o ∷ os) said =
    let (this, more) = and_parts (is_said o.1) (are_said os) said in
    let first = output_back (item_at at (length done + 1)) o this in
    rw first (outputs_back at (done ++ o ∷ []) os more ∙ ap Ok (append_assoc done (o ∷ []) os))

aggregate_back : (at : Location) (name : List ℕ) (a : Agg) → aggregate_item_of at (aggregate_data (name, a)) ≡ Ok (name, a)
unfolding list_of
aggregate_back at name agg.Len = refl
aggregate_back at name (agg.Count column) = refl
aggregate_back at name (agg.Sum column) = refl
aggregate_back at name (agg.Min column) = refl
aggregate_back at name (agg.Max column) = refl
aggregate_back at name (agg.First column) = refl
aggregate_back at name (agg.Last column) = refl
aggregate_back at name (agg.NUnique column) = refl
aggregate_back at name (agg.Mean column) = refl

-- aggregates are read back, behind those before them
pub aggregates_back : (at : Location) (done aggregates : List (List ℕ × Agg)) → read_after (next_aggregate_of at) done (map aggregate_data aggregates) ≡ Ok (done ++ aggregates)
aggregates_back at done [] = ap Ok (sym (append-nil done))
aggregates_back at done (a ∷ rest) =
    let first = aggregate_back (item_at at (length done + 2)) a.0 a.1 in
    rw first (aggregates_back at (done ++ a ∷ []) rest ∙ ap Ok (append_assoc done (a ∷ []) rest))

-- names are read back
pub names_back : (at : Location) (names : List (List ℕ)) → read_each (text_in at) (map string names) ≡ Ok names
names_back at [] = refl
names_back at (n ∷ ns) = let more = names_back at ns in rw more refl
