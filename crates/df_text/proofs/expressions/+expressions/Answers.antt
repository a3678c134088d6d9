use Rattle.std.proofs.Common.{arith, refl}
use Rattle.df_text.proofs.FormFacts.{one_operand, two_operands, other_count}
use Rattle.df_text.proofs.expressions.+expressions.Goals as goal
use Rattle.df_text.proofs.expressions.+expressions.Goals.{read_form-in_default-via-in-Column+then-items-lt2, read_form-in_default-via-in-Column+else-items-lt2+else-this-lt3, read_form-in_default-via-in-Null+then-this-lt2, read_form-in_default-via-in-Null+else-this-lt2+else-this-lt3-2, read_form-in_default-via-in-Unary+then-this-lt2-2, read_form-in_default-via-in-Unary+else-this-lt2-2+else-this-lt3-3, read_form-in_default-via-in-Binary+then-this-lt3-4, read_form-in_default-via-in-Binary+else-this-lt3-4+else-this-lt4}

pub read_form-returns-in-Unary-len2 : goal.read_form-returns-in-Unary-len2
read_form-returns-in-Unary-len2 t c =
    rw (c.in-Unary-len2.is-0, one_operand c.args.location c.in-Unary-len2.op c.args.items.now c.a-item.result (omega arith) c.a-item.is) c.read_unary.ensures

pub read_form-returns-in-Ok : goal.read_form-returns-in-Ok
read_form-returns-in-Ok t c =
    rw (c.in-Binary-len3.is-0, two_operands c.args.location c.in-Binary-len3.op c.args.items.now c.a-item-then-this-lt4.result c.b-item.result (omega arith) c.a-item-then-this-lt4.is c.b-item.is, c.in-Ok.ensures) c.read_binary.ensures

pub read_form-returns-in-Err : goal.read_form-returns-in-Err
read_form-returns-in-Err t c given =
    rw (c.in-Binary-len3.is-0, two_operands c.args.location c.in-Binary-len3.op c.args.items.now c.a-item-then-this-lt4.result c.b-item.result (omega arith) c.a-item-then-this-lt4.is c.b-item.is, c.in-Err.ensures given) refl

pub read_form-returns-in_default : goal.read_form-returns-in_default
read_form-returns-in_default t c _ =
    other_count c.args.location c.args.word c.args.items.now (λ n.
    elim c.in_default.branch [
      | read_form-in_default-via-in-Column+then-items-lt2 w ↦ grind arith
      | read_form-in_default-via-in-Column+else-items-lt2+else-this-lt3 w ↦ grind arith
      | read_form-in_default-via-in-Null+then-this-lt2 w ↦ grind arith
      | read_form-in_default-via-in-Null+else-this-lt2+else-this-lt3-2 w ↦ grind arith
      | read_form-in_default-via-in-Unary+then-this-lt2-2 w ↦ grind arith
      | read_form-in_default-via-in-Unary+else-this-lt2-2+else-this-lt3-3 w ↦ grind arith
      | read_form-in_default-via-in-Binary+then-this-lt3-4 w ↦ grind arith
      | read_form-in_default-via-in-Binary+else-this-lt3-4+else-this-lt4 w ↦ grind arith
    ])
