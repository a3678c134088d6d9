-- A checked plan may go to another thread: shown a type at a time, since a search down through a plan runs out of steps. A type
-- that reaches itself has its lemma in its knot, a function of one premise for each kind of field.
use mathlib.Core.List.{◌∷◌, []}
use denote.RattleType.{RattleType}
use denote.Param.Send.{IsSend, sendable}
use denote.Struct.Tuple.{Tuple}
use denote.Struct.Field.{usize-field, i64-field}
use Rattle.std.proofs.Crossing.{crosses}
use Rattle.sqlite_items.specs.contracts.Boxed as Boxed
use Rattle.df_value.proofs.frac.Frac.TheSendSync as frac
use Rattle.df_value.proofs.list.List.TheSendSync as list
use Rattle.df_value.proofs.schema.Schema.TheSendSync as schema
use Rattle.df_value.proofs.text.Text.TheSendSync as text
use Rattle.df_expr.specs.contracts.expr.Expr as Expr
use Rattle.df_expr.proofs.expr.Expr.TheLaws.TheKnot as expr
use Rattle.df_expr.specs.contracts.physical.PhysicalExpr as PhysicalExpr
use Rattle.df_expr.proofs.physical.PhysicalExpr.TheLaws.TheKnot as physical
use Rattle.df_ops.proofs.agg.Agg.TheSendSync as agg
use Rattle.df_plan.specs.contracts.plan.Plan as Plan
use Rattle.df_plan.specs.contracts.checked.CheckedPlan as CheckedPlan
use Rattle.df_plan.specs.contracts.checked.CheckedPlan.TheInside as Inside
use Rattle.df_plan.proofs.plan.Plan.TheLaws.TheKnot as plan

boxed_send : (R : RattleType) → IsSend R → IsSend (Boxed.the_row R)
boxed_send R s = search (sendable, crosses) depth 20

expr_field_send : IsSend (Expr.the_field).row
expr_field_send = expr.send-Expr text.the_send (search (sendable, text.the_send, frac.the_send) depth 20) (search sendable depth 20) (search sendable depth 20) boxed_send (search sendable depth 20)

expr_send : IsSend Expr.the_row
expr_send = let e = expr_field_send in search sendable depth 20

pub physical_field_send : IsSend (PhysicalExpr.the_field).row
physical_field_send = physical.send-PhysicalExpr (search (sendable, crosses) depth 20) (search (sendable, text.the_send, frac.the_send) depth 20) (search sendable depth 20) boxed_send (search sendable depth 20)

pub physical_send : IsSend PhysicalExpr.the_row
physical_send = let e = physical_field_send in search sendable depth 20

usize_send : IsSend usize-field.row
usize_send = search sendable depth 20

i64_send : IsSend i64-field.row
i64_send = search sendable depth 20

pub pair_send : (R S : RattleType) → IsSend R → IsSend S → IsSend (Tuple (R ∷ S ∷ []))
pair_send R S r s = search sendable depth 20

plan_field_send : IsSend (Plan.the_field).row
plan_field_send = plan.send-Plan usize_send boxed_send expr_field_send (list.the_send _ (pair_send _ _ text.the_send expr_send)) (list.the_send _ text.the_send)
    (list.the_send _ (pair_send _ _ text.the_send agg.the_send)) (search sendable depth 20) (search sendable depth 20) text.the_send (search sendable depth 20) i64_send (search sendable depth 20)

plan_send : IsSend Plan.the_row
plan_send = let p = plan_field_send in search sendable depth 20

inside_send : IsSend Inside.the_row
inside_send = let p = plan_send in let f = plan_field_send in search (sendable, list.the_send, schema.the_send) depth 20

pub checked_send : IsSend CheckedPlan.the_row
checked_send = let i = inside_send in search sendable depth 20
