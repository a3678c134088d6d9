-- A tree of parts that were made is fresh, where the parts are.
use Rattle.std.proofs.Common.{◌≡◌, ℕ, ◌+◌, List, sym, subst}
use Rattle.std.specs.Prelude.{IfOk, IsOk, OnOk, Result, Ok, Err}
use Rattle.std.specs.declared.alloc.AllocError.{AllocError}
use Rattle.std.specs.declared.alloc.Global.{Global}
use Rattle.std.specs.declared.boxed.Box.{Box}
use Rattle.std.proofs.lemmas.Bool.{false≢true}
use Rattle.df_value.specs.Schemas.{Columns}
use Rattle.df_expr.specs.declared.meter.Meter.{Meter}
use Rattle.df_column.specs.Tables.{TaggedRows}
use Rattle.df_plan.specs.Checks.{plan_check}
use Rattle.df_plan.specs.declared.plan.Plan.{Plan}
use Rattle.df_live.specs.Fresh.{IsFreshFor, IsJoinOf, IsNodeOf, IsPlanOfTwo, IsPlanOver}
use Rattle.df_live.specs.declared.building.Fresh.{Fresh}
use Rattle.df_live.specs.declared.joined.JoinOperator.{JoinOperator}
use Rattle.df_live.specs.declared.operator.LiveOperator.{LiveOperator}
use Rattle.df_live.specs.declared.tree.LiveTree.{LiveTree, Join, Operator}
use Rattle.df_live.proofs.FreshJoins.{join_fresh}
use Rattle.df_live.proofs.FreshTrees.{one_fresh}
use Rattle.df_live.proofs.NoRows.{gives_none}
use Rattle.df_live.proofs.Parts.{within_limits}

abbrev pub Made : Type 0 → Type 0
Made T = Result T AllocError

-- what holds of a part where it was made
pub part : {T : Type 0} (P : T → Type 0) (r : Made T) (x : T) → IfOk r P → r ≡ Ok x → P x
part P r x h is = subst (λ q. IfOk q P) is h

-- a node over one input
pub one_made :
    (input : Fresh) (schema : Columns) (box : Made (Box LiveTree Global)) (node : Made LiveOperator) (parts : Made (Box LiveTree Global × LiveOperator)) (r : Made Fresh) →
    IfOk box (λ b. b.value ≡ input.tree) → IfOk parts (λ p. box ≡ Ok p.0) → IfOk parts (λ p. node ≡ Ok p.1) →
    IfOk r (λ made. IfOk parts (λ p. made ≡ record { tree = Operator p.0 p.1; schema = schema; scans = input.scans })) → OnOk r (IsOk parts) →
    IfOk r (λ made. (schemas : List Columns) (i p : Plan) (operator : TaggedRows → TaggedRows) (cost : ℕ → Meter) → IsFreshFor input i schemas →
    plan_check p schemas ≡ Ok schema → IsPlanOver schemas i p operator cost → IfOk node (λ n. IsNodeOf n input.schema operator cost) → IsFreshFor made p schemas)
one_made input schema box node parts (Err e) boxed first second tree there = tt
one_made input schema box node (Err e) (Ok f) boxed first second tree there = absurd (false≢true there)
one_made input schema box node (Ok q) (Ok f) boxed first second tree there = λ schemas i p operator cost h checks plan is.
    subst (λ (made : Fresh). IsFreshFor made p schemas) (sym tree)
    (one_fresh schemas i p input schema q.0 q.1 operator cost (part (λ b. b.value ≡ input.tree) box q.0 boxed first) h checks plan
    (part (λ n. IsNodeOf n input.schema operator cost) node q.1 is second) (λ frames empty. gives_none schemas frames empty i))

-- a join of two inputs
pub two_made :
    (left right : Fresh) (schema : Columns) (a b : Made (Box LiveTree Global)) (node : Made JoinOperator) (boxes : Made (Box LiveTree Global × Box LiveTree Global))
    (parts : Made ((Box LiveTree Global × Box LiveTree Global) × JoinOperator)) (r : Made Fresh) →
    IfOk a (λ b. b.value ≡ left.tree) → IfOk b (λ b. b.value ≡ right.tree) → IfOk boxes (λ p. a ≡ Ok p.0) → IfOk boxes (λ p. b ≡ Ok p.1) →
    IfOk parts (λ p. boxes ≡ Ok p.0) → IfOk parts (λ p. node ≡ Ok p.1) →
    IfOk r (λ made. IfOk parts (λ p. made ≡ record { tree = Join p.0.0 p.0.1 p.1; schema = schema; scans = left.scans + right.scans })) → OnOk r (IsOk parts) →
    IfOk r (λ made. (schemas : List Columns) (i j p : Plan) (joined : TaggedRows → TaggedRows → TaggedRows) → IsFreshFor left i schemas → IsFreshFor right j schemas →
    plan_check p schemas ≡ Ok schema → IsPlanOfTwo schemas i j p joined →
    IfOk node (λ n. IsJoinOf n left.schema right.schema left.scans right.scans joined) → IsFreshFor made p schemas)
two_made left right schema a b node boxes parts (Err e) boxed_a boxed_b first second both last tree there = tt
two_made left right schema a b node boxes (Err e) (Ok f) boxed_a boxed_b first second both last tree there = absurd (false≢true there)
two_made left right schema a b node boxes (Ok q) (Ok f) boxed_a boxed_b first second both last tree there = λ schemas i j p joined h g checks plan is.
    subst (λ (made : Fresh). IsFreshFor made p schemas) (sym tree)
    (join_fresh schemas i j p left right schema q.0.0 q.0.1 q.1 joined
    (part (λ b. b.value ≡ left.tree) a q.0.0 boxed_a (part (λ s. a ≡ Ok s.0) boxes q.0 first both))
    (part (λ b. b.value ≡ right.tree) b q.0.1 boxed_b (part (λ s. b ≡ Ok s.1) boxes q.0 second both))
    h g checks (within_limits p schemas schema checks).1 plan
    (part (λ n. IsJoinOf n left.schema right.schema left.scans right.scans joined) node q.1 is last))
