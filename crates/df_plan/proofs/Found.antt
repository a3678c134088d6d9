-- What the check of a node finds: the columns that the node's table then has.
use Rattle.std.proofs.Common.{◌≡◌, ℕ, ◌∙◌, Bool, true, false, cond, List, [], ◌∷◌, ◌++◌, length, map, refl, ap, sym, append_assoc, append-nil}
use Rattle.std.specs.Prelude.{Ok, Err, Option, Some, None, unwrap_or, nat_lt}
use Rattle.std.specs.List.{AllByRecursion}
use Rattle.df_value.specs.declared.cell.CellType.{CellType}
use Rattle.df_value.specs.declared.cell.CellType.TheVariants as dtype
use Rattle.df_value.specs.Schemas.{column_dtype, doubled_column_after}
use Rattle.df_expr.specs.declared.expr.Expr.{Expr}
use Rattle.df_ops.specs.Tables.{key_column, aggregate_column, aggregate_dtype, group_by_columns}
use Rattle.df_ops.specs.NamedColumns.{with_columns}
use Rattle.df_ops.specs.RowWise.{item_column, with_columns_schema}
use Rattle.df_value.specs.Names.{doubled_name_after}
use Rattle.df_value.specs.Schemas.{Columns}
use Rattle.df_plan.specs.ItemChecks.{CheckResult, DtypeResult, ColumnResult, key_dtype, aggregate_dtype_check, key_column_result, aggregate_column_result, select_column_result, with_columns_column_result, with_column, columns_after}
use Rattle.df_value.specs.Outcomes.{then_next}
use Rattle.df_plan.specs.Checks.{to_schema, to_schema_unless, added_columns_check, filter_check, select_check, with_columns_check, group_by_check, plan_check, columns_of, plan_levels, plan_scans}
use Rattle.df_plan.specs.JoinChecks.{join_check, join_schema, fault_first, either_name, keys_fault}
use Rattle.df_ops.specs.Joins.{columns_of_join}
use Rattle.df_plan.specs.declared.fault.PlanFault.{PlanFault}
use Rattle.df_plan.specs.declared.fault.PlanFault.TheVariants as fault
use Rattle.df_ops.specs.declared.agg.Agg.{Agg}
use Rattle.df_plan.specs.declared.plan.Plan.{Plan}
use Rattle.df_plan.proofs.AggregatesFit.{aggregate_fits}
use Rattle.df_plan.proofs.ItemKinds.{HasKind, output_found, added_found, named_ok}

pub then_ok :
    (c : CheckResult) (next : Columns → CheckResult) (cs : Columns) → then_next c next ≡ Ok cs →
    (o : Columns) × ((c ≡ Ok o) × (next o ≡ Ok cs))
then_ok (Ok o) next cs h = (o, (refl, h))
then_ok (Err f) next cs h = cc

with_ok :
    (r : ColumnResult) (next : List ℕ × CellType → CheckResult) (cs : Columns) → with_column r next ≡ Ok cs →
    (c : List ℕ × CellType) × ((r ≡ Ok c) × (next c ≡ Ok cs))
with_ok (Ok c) next cs h = (c, (refl, h))
with_ok (Err f) next cs h = cc

-- each item gives the column that f gives, and P holds of it
each_found :
    {T : Type 0} (column : T → ColumnResult) (f : T → List ℕ × CellType) (P : T → Type 0) →
    ((x : T) (c : List ℕ × CellType) → column x ≡ Ok c → (c ≡ f x) × P x) →
    (out : Columns) (xs : List T) (o : Columns) → columns_after column out xs ≡ Ok o → (o ≡ out ++ map f xs) × AllByRecursion P xs
each_found column f P found out [] o h =
    let same : o ≡ out = cc in
    (same ∙ sym (append-nil out), tt)
each_found column f P found out (x ∷ xs) o h =
    let here = with_ok (column x) (λ c. columns_after column (out ++ c ∷ []) xs) o h in
    let is = found x here.0 here.1.0 in
    let rest = each_found column f P found (out ++ here.0 ∷ []) xs o here.1.1 in
    let joined : (out ++ here.0 ∷ []) ++ map f xs ≡ out ++ here.0 ∷ map f xs = simp append_assoc in
    (rest.0 ∙ (joined ∙ ap (λ (c : List ℕ × CellType). out ++ c ∷ map f xs) is.0), (is.1, rest.1))

-- a key names a column
abbrev pub IsColumn : Columns → List ℕ → Type 0
IsColumn columns name = (t : CellType) × (column_dtype name columns ≡ Some t)

key_is : (name : List ℕ) (o : Option CellType) (t : CellType) → key_dtype name o ≡ Ok t → o ≡ Some t
key_is name None t h = cc
key_is name (Some dtype.Frac) t h = cc
key_is name (Some dtype.Int) t h = cc
key_is name (Some dtype.Wide) t h = cc
key_is name (Some dtype.Text) t h = cc
key_is name (Some dtype.Bool) t h = cc

key_found :
    (columns : Columns) (name : List ℕ) (c : List ℕ × CellType) → key_column_result columns name ≡ Ok c →
    (c ≡ key_column columns name) × IsColumn columns name
key_found columns name c h =
    let typed = named_ok name (key_dtype name (column_dtype name columns)) c h in
    let is : column_dtype name columns ≡ Some typed.0 = key_is name (column_dtype name columns) typed.0 typed.1.0 in
    (typed.1.1 ∙ ap (λ (u : Option CellType). (name, unwrap_or u dtype.Int)) (sym is), (typed.0, is))

-- an aggregate takes its column's type
abbrev pub IsTaken : Columns → List ℕ × Agg → Type 0
IsTaken columns a = (t : CellType) × (aggregate_dtype_check columns a.1 ≡ Ok t)

aggregate_found :
    (columns : Columns) (a : List ℕ × Agg) (c : List ℕ × CellType) → aggregate_column_result columns a ≡ Ok c →
    (c ≡ aggregate_column columns a) × IsTaken columns a
aggregate_found columns a c h =
    let typed = named_ok a.0 (aggregate_dtype_check columns a.1) c h in
    let is : typed.0 ≡ aggregate_dtype columns a.1 = (aggregate_fits columns [] refl a.1 typed.0 typed.1.0).0 in
    (typed.1.1 ∙ ap (λ (t : CellType). (a.0, t)) is, (typed.0, typed.1.0))

chosen : (b : Bool) (cs o : Columns) (f : PlanFault) → cond {A = CheckResult} b (Err f) (Ok cs) ≡ Ok o → o ≡ cs
chosen true cs o f h = cc
chosen false cs o f h = cc

pub settled_is_at : (cs : Columns) (d : Option (List ℕ)) (o : Columns) → to_schema_unless cs d ≡ Ok o → o ≡ cs
settled_is_at cs (Some name) o h = cc
settled_is_at [] None o h = cc
settled_is_at (c ∷ cs) None o h = chosen (nat_lt 32 (length (c ∷ cs))) (c ∷ cs) o fault.TooWide h

pub filter_found : (columns : Columns) (k : DtypeResult) (cs : Columns) → filter_check columns k ≡ Ok cs → cs ≡ columns
filter_found columns (Ok dtype.Bool) cs h = cc
filter_found columns (Ok dtype.Int) cs h = cc
filter_found columns (Ok dtype.Wide) cs h = cc
filter_found columns (Ok dtype.Text) cs h = cc
filter_found columns (Ok dtype.Frac) cs h = cc
filter_found columns (Err f) cs h = cc

pub select_found :
    (columns : Columns) (items : List (List ℕ × Expr)) (cs : Columns) → select_check columns items ≡ Ok cs →
    (cs ≡ map (item_column columns) items) × AllByRecursion (HasKind columns) items
select_found columns [] cs h = cc
select_found columns (i ∷ items) cs h =
    let first = then_ok (columns_after (select_column_result columns) [] (i ∷ items)) to_schema cs h in
    let each = each_found (select_column_result columns) (item_column columns) (HasKind columns) (output_found columns) [] (i ∷ items) first.0 first.1.0 in
    let of_all = settled_is_at first.0 (doubled_column_after [] first.0) cs first.1.1 in
    (of_all ∙ each.0, each.1)

pub with_found :
    (columns : Columns) (items : List (List ℕ × Expr)) (cs : Columns) → with_columns_check columns items ≡ Ok cs →
    (cs ≡ with_columns_schema columns items) × AllByRecursion (HasKind columns) items
with_found columns items cs h =
    let first = then_ok (columns_after (with_columns_column_result columns) [] items) (added_columns_check columns) cs h in
    let each = each_found (with_columns_column_result columns) (item_column columns) (HasKind columns) (added_found columns) [] items first.0 first.1.0 in
    let of_all = settled_is_at (with_columns columns first.0) (doubled_column_after [] first.0) cs first.1.1 in
    (of_all ∙ ap (λ (added : Columns). with_columns columns added) each.0, each.1)

pub group_found :
    (columns : Columns) (keys : List (List ℕ)) (aggs : List (List ℕ × Agg)) (cs : Columns) →
    group_by_check columns keys aggs ≡ Ok cs → (cs ≡ group_by_columns columns keys aggs) × (AllByRecursion (IsColumn columns) keys × AllByRecursion (IsTaken columns) aggs)
group_found columns [] aggs cs h = cc
group_found columns (k ∷ ks) aggs cs h =
    let first = then_ok (columns_after (key_column_result columns) [] (k ∷ ks)) (λ out. then_next (columns_after (aggregate_column_result columns) out aggs) to_schema) cs h in
    let second = then_ok (columns_after (aggregate_column_result columns) first.0 aggs) to_schema cs first.1.1 in
    let of_keys = each_found (key_column_result columns) (key_column columns) (IsColumn columns) (key_found columns) [] (k ∷ ks) first.0 first.1.0 in
    let of_aggregates = each_found (aggregate_column_result columns) (aggregate_column columns) (IsTaken columns) (aggregate_found columns) first.0 aggs second.0 second.1.0 in
    let of_all = settled_is_at second.0 (doubled_column_after [] second.0) cs second.1.1 in
    (of_all ∙ (of_aggregates.0 ∙ ap (λ (o : Columns). o ++ map (aggregate_column columns) aggs) of_keys.0), (of_keys.1, of_aggregates.1))

first_ok : (o : Option PlanFault) (c : CheckResult) (cs : Columns) → fault_first o c ≡ Ok cs → c ≡ Ok cs
first_ok None c cs h = h
first_ok (Some f) c cs h = cc

neither_doubled :
    (cs : Columns) (a b : Option (List ℕ)) (o : Columns) → to_schema_unless cs (either_name a b) ≡ Ok o → (o ≡ cs) × (b ≡ None)
neither_doubled cs (Some name) b o h = cc
neither_doubled cs None (Some name) o h = cc
neither_doubled cs None None o h = (settled_is_at cs None o h, refl)

pub join_found :
    (left right : Columns) (keys : List (List ℕ)) (cs : Columns) → join_check left right keys ≡ Ok cs →
    (cs ≡ columns_of_join left right keys) × (doubled_column_after [] (columns_of_join left right keys) ≡ None)
join_found left right [] cs h = cc
join_found left right (k ∷ ks) cs h =
    let columns = columns_of_join left right (k ∷ ks) in
    neither_doubled columns (doubled_name_after (λ k. k) [] (k ∷ ks)) (doubled_column_after [] columns) cs
    (first_ok (keys_fault left right (k ∷ ks)) (join_schema columns (k ∷ ks)) cs h)

deep : (b : Bool) (c : CheckResult) (cs : Columns) (f : PlanFault) → cond {A = CheckResult} b (Err f) c ≡ Ok cs → c ≡ Ok cs
deep true c cs f h = cc
deep false c cs f h = h

pub checked_columns : (p : Plan) (frames : List Columns) (cs : Columns) → plan_check p frames ≡ Ok cs → columns_of p frames ≡ Ok cs
checked_columns p frames cs h =
    deep (nat_lt 3 (plan_scans p)) (columns_of p frames) cs fault.TooManyScans (deep (nat_lt 12 (plan_levels p)) _ cs fault.TooDeep h)
