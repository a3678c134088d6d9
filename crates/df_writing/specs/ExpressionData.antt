-- Expressions and aggregates as data of a view document: what `expr_of` and `aggregate_item_of` of df_text read of it.
use Rattle.std.specs.Prelude.{ℕ, List, Option, Some, None, codes}
use Rattle.toml.specs.Data.{Data, string, integer, boolean, array, no_items, item}
use Rattle.df_value.specs.declared.cell.Cell.{Cell}
use Rattle.df_value.specs.declared.cell.Cell.TheVariants as cell
use Rattle.df_value.specs.declared.cell.CellType.{CellType}
use Rattle.df_expr.specs.declared.expr.ArithOp.{ArithOp}
use Rattle.df_expr.specs.declared.expr.ArithOp.TheVariants as arith
use Rattle.df_expr.specs.declared.expr.CompareOp.{CompareOp}
use Rattle.df_expr.specs.declared.expr.CompareOp.TheVariants as compare
use Rattle.df_expr.specs.declared.expr.Expr.{Expr, fold-Expr}
use Rattle.df_expr.specs.declared.expr.Expr.TheOpen.{Expr-F}
use Rattle.df_ops.specs.AggregateDtypes.{input_column}
use Rattle.df_ops.specs.declared.agg.Agg.{Agg}
use Rattle.df_ops.specs.declared.agg.Agg.TheVariants as agg
use Rattle.df_writing.specs.FrameTables.{dtype_word}

-- an array of two
abbrev pub pair_data : Data → Data → Data
pair_data a b = array (item a (item b no_items))

-- an array of three
abbrev pub triple_data : Data → Data → Data → Data
triple_data a b c = array (item a (item b (item c no_items)))

abbrev pub arith_word : ArithOp → List ℕ
arith_word arith.Add = codes "+"
arith_word arith.Sub = codes "-"
arith_word arith.Mul = codes "*"

abbrev pub compare_word : CompareOp → List ℕ
compare_word compare.Eq = codes "=="
compare_word compare.Ne = codes "!="
compare_word compare.Lt = codes "<"
compare_word compare.Le = codes "<="
compare_word compare.Gt = codes ">"
compare_word compare.Ge = codes ">="

-- the null of a type
abbrev pub null_data : CellType → Data
null_data t = pair_data (string (codes "null")) (string (dtype_word t))

-- a literal; no document says one of the types Wide and Frac
abbrev pub literal_data : Cell → CellType → Data
literal_data (cell.Int n) t = integer n
literal_data (cell.Bool b) t = boolean b
literal_data (cell.Text s) t = string s
literal_data c t = null_data t

-- a word and its operand
abbrev pub operand_data : List ℕ → Data → Data
operand_data word a = pair_data (string word) a

-- a word and its operands
abbrev pub operands_data : List ℕ → Data → Data → Data
operands_data word a b = triple_data (string word) a b

abbrev pub column_data : List ℕ → Data
column_data name = operand_data (codes "col") (string name)

abbrev pub expr_data_step : Expr-F Data → Data
expr_data_step (Expr-F.Column name) = column_data name
expr_data_step (Expr-F.Literal c t) = literal_data c t
expr_data_step (Expr-F.Arith op a b) = operands_data (arith_word op) a b
expr_data_step (Expr-F.Compare op a b) = operands_data (compare_word op) a b
expr_data_step (Expr-F.EqMissing a b) = operands_data (codes "eq_missing") a b
expr_data_step (Expr-F.And a b) = operands_data (codes "&") a b
expr_data_step (Expr-F.Or a b) = operands_data (codes "|") a b
expr_data_step (Expr-F.Not a) = operand_data (codes "~") a
expr_data_step (Expr-F.IsNull a) = operand_data (codes "is_null") a
expr_data_step (Expr-F.IsNotNull a) = operand_data (codes "is_not_null") a
expr_data_step (Expr-F.FillNull a b) = operands_data (codes "fill_null") a b

-- an expression
abbrev pub expr_data : Expr → Data
expr_data e = fold-Expr Data expr_data_step e

-- an output's name and its expression
abbrev pub output_data : List ℕ × Expr → Data
output_data o = pair_data (string o.0) (expr_data o.1)

abbrev pub aggregate_word : Agg → List ℕ
aggregate_word agg.Len = codes "len"
aggregate_word (agg.Count column) = codes "count"
aggregate_word (agg.Sum column) = codes "sum"
aggregate_word (agg.Min column) = codes "min"
aggregate_word (agg.Max column) = codes "max"
aggregate_word (agg.First column) = codes "first"
aggregate_word (agg.Last column) = codes "last"
aggregate_word (agg.NUnique column) = codes "n_unique"
aggregate_word (agg.Mean column) = codes "mean"

-- an output's name, the word of an aggregate, and its column if it takes one
abbrev pub named_aggregate : List ℕ → List ℕ → Option (List ℕ) → Data
named_aggregate output word None = pair_data (string output) (string word)
named_aggregate output word (Some column) = triple_data (string output) (string word) (string column)

-- an aggregate under its output's name
abbrev pub aggregate_data : List ℕ × Agg → Data
aggregate_data a = named_aggregate a.0 (aggregate_word a.1) (input_column a.1)
