-- The rows of a key, in tables and as they are staged.
use Rattle.std.proofs.Common.{◌≡◌, ℕ, zero, suc, Bool, true, false, cond, List, [], ◌∷◌, ◌++◌, map, Option, Some, None, Result, Ok, Err, OnOk, IsOk, refl, sym, ap, subst, ◌∙◌}
use Rattle.std.specs.Prelude.{◌==◌, ◌||◌, slice_get}
use Rattle.std.specs.List.{list_any}
use Rattle.std.specs.Map.{lookup}
use Rattle.std.specs.Option.{option_and_then}
use Rattle.std.specs.Ordering.{eq_by_cmp}
use Rattle.std.proofs.lemmas.Bool.{eqb-true}
use Rattle.std.specs.FinMap as finite
use Rattle.indexmap.specs.IndexMap.{IndexMap, get, set_value_at}
use Rattle.df_value.specs.Rows.{cell_at, row_eq}
use Rattle.df_value.specs.RowEq.{row_eq-Decides}
use Rattle.df_value.specs.declared.cell.CellType.{CellType}
use Rattle.df_column.specs.Changes.{set_at}
use Rattle.df_column.specs.TagOrder.{tag_total, tag_same}
use Rattle.df_column.specs.Tables.{TableParts, TaggedRows}
use Rattle.df_column.specs.Tags.{tag_cmp}
use Rattle.df_column.specs.declared.tag.Tag.{Tag}
use Rattle.df_delta.proofs.Changes.{get-set_at}
use Rattle.df_expr.specs.Value.{is_null}
use Rattle.df_ops.specs.Groups.{key_of}
use Rattle.df_join.specs.Keyed.{group_of, table_or_none, unless_empty, rows_or_empty, table_or, staged_or, state_of}
use Rattle.df_join.specs.RowNotes.{row_before, row_after, without}
use Rattle.df_join.specs.Rules.{Cells}
use Rattle.df_join.proofs.Joined.{get-kept}
use Rattle.df_join.proofs.Spread.{tied}

pub row_yes : (a b : Cells) → row_eq a b ≡ true → a ≡ b
row_yes a b e = (row_eq-Decides a b).0 e

pub row_itself : (a : Cells) → row_eq a a ≡ true
row_itself a = (row_eq-Decides a a).1 refl

pub swap : (a b : Cells) → row_eq a b ≡ row_eq b a
swap a b = elim (row_eq a b) as (λ c. row_eq a b ≡ c → c ≡ row_eq b a) [
  | true ↦ λ e. sym (row_itself b) ∙ ap (row_eq b) (sym (row_yes a b e))
  | false ↦ λ e. elim (row_eq b a) as (λ c. row_eq b a ≡ c → false ≡ c) [
    | true ↦ λ f. let yes : row_eq a b ≡ true = subst (λ x. row_eq x b ≡ true) (row_yes b a f) (row_itself b) in cc (e, yes)
    | false ↦ λ f. refl
  ] refl
] refl

-- tables and their rows
pub rows-table_or_none : (schema : List (List ℕ × CellType)) (rows : TaggedRows) → rows_or_empty (table_or_none schema rows) ≡ rows
rows-table_or_none schema rows = elim (finite.len rows == 0) as (λ b. (finite.len rows == 0) ≡ b → rows_or_empty (cond b None (Some (record { schema = schema; rows = rows }))) ≡ rows) [
  | true ↦ λ e. sym (finite.empty_of_len rows (eqb-true (finite.len rows) 0 e))
  | false ↦ λ e. refl
] refl

pub rows-staged : (a b : Option TableParts) (m : TableParts) → a ≡ Some m → rows_or_empty (staged_or a b) ≡ m.rows
rows-staged a b m e = ap (λ a. rows_or_empty (staged_or a b)) e ∙ rows-table_or_none m.schema m.rows

pub rows-kept : (a b : Option TableParts) → a ≡ None → rows_or_empty (staged_or a b) ≡ rows_or_empty b
rows-kept a b e = ap (λ a. rows_or_empty (staged_or a b)) e

pub table_or-rows : (empty : TableParts) (rows : TaggedRows) → empty.rows ≡ finite.empty → table_or empty (table_or_none empty.schema rows) ≡ record { schema = empty.schema; rows = rows }
table_or-rows empty rows none = elim (finite.len rows == 0) as (λ b. (finite.len rows == 0) ≡ b → table_or empty (cond b None (Some (record { schema = empty.schema; rows = rows }))) ≡ record { schema = empty.schema; rows = rows }) [
  | true ↦ λ e.
      let same : empty.rows ≡ rows = none ∙ sym (finite.empty_of_len rows (eqb-true (finite.len rows) 0 e)) in
      λ i. record { schema = empty.schema; rows = same i }
  | false ↦ λ e. refl
] refl

pub group-empty : (indices : List (Option ℕ)) (schema : List (List ℕ × CellType)) (k : Cells) → None ≡ table_or_none schema (group_of indices k finite.empty)
group-empty indices schema k =
    sym (ap (table_or_none schema) nothing ∙ ap (λ n. cond (n == 0) None (Some (record { schema = schema; rows = finite.empty }))) (finite.len-empty tag_cmp Cells))
  where
    nothing : group_of indices k finite.empty ≡ finite.empty
    nothing = finite.same_map tag_total tag_same _ _ (λ q.
        get-kept (λ (x : Cells). row_eq (key_of indices x) k) finite.empty q
        ∙ ap (option_and_then (λ (x : Cells). cond (row_eq (key_of indices x) k) (Some x) None)) (finite.get-empty tag_cmp q)
        ∙ sym (finite.get-empty tag_cmp q))

-- one row that goes or comes changes the rows of its key
module _ (indices : List (Option ℕ)) (t : TaggedRows) (tag : Tag) where
  of_key : Cells → Cells → Option Cells
  of_key k x = cond (row_eq (key_of indices x) k) (Some x) None

  get_group : (k : Cells) (u : TaggedRows) (q : Tag) → finite.get (group_of indices k u) q ≡ option_and_then (λ (x : Cells). cond (row_eq (key_of indices x) k) (Some x) None) (finite.get u q)
  get_group k u q = get-kept (λ (x : Cells). row_eq (key_of indices x) k) u q

  pub group_set : (k : Cells) (v : Option Cells) → option_and_then (λ (x : Cells). cond (row_eq (key_of indices x) k) (Some x) None) v ≡ v → set_at (group_of indices k t) tag v ≡ group_of indices k (set_at t tag v)
  group_set k v is = finite.same_map tag_total tag_same _ _ (λ q.
      get-set_at tag_total (group_of indices k t) tag v q
      ∙ elim (eq_by_cmp tag_cmp q tag) as (λ b. cond b v (finite.get (group_of indices k t) q) ≡ option_and_then (λ (x : Cells). cond (row_eq (key_of indices x) k) (Some x) None) (cond b v (finite.get t q))) [
        | true ↦ sym is
        | false ↦ get_group k t q
      ]
      ∙ sym (get_group k (set_at t tag v) q ∙ ap (option_and_then (λ (x : Cells). cond (row_eq (key_of indices x) k) (Some x) None)) (get-set_at tag_total t tag v q)))

  pub group_kept : (k : Cells) (v : Option Cells) → option_and_then (λ (x : Cells). cond (row_eq (key_of indices x) k) (Some x) None) v ≡ None
      → option_and_then (λ (x : Cells). cond (row_eq (key_of indices x) k) (Some x) None) (finite.get t tag) ≡ None → group_of indices k t ≡ group_of indices k (set_at t tag v)
  group_kept k v none was = finite.same_map tag_total tag_same _ _ (λ q.
      get_group k t q
      ∙ elim (eq_by_cmp tag_cmp q tag) as (λ b. eq_by_cmp tag_cmp q tag ≡ b → option_and_then (λ (x : Cells). cond (row_eq (key_of indices x) k) (Some x) None) (finite.get t q) ≡ option_and_then (λ (x : Cells). cond (row_eq (key_of indices x) k) (Some x) None) (cond b v (finite.get t q))) [
        | true ↦ λ b. ap (λ p. option_and_then (λ (x : Cells). cond (row_eq (key_of indices x) k) (Some x) None) (finite.get t p)) (tied q tag b) ∙ was ∙ sym none
        | false ↦ λ b. refl
      ] refl
      ∙ sym (get_group k (set_at t tag v) q ∙ ap (option_and_then (λ (x : Cells). cond (row_eq (key_of indices x) k) (Some x) None)) (get-set_at tag_total t tag v q)))

  pub group_without : (goes : Bool) (k : Cells) → without goes (group_of indices k t) tag ≡ group_of indices k (without goes t tag)
  group_without true k = group_set k None refl
  group_without false k = refl

  module _ (goes : Bool) (row : Cells) (stood : finite.get t tag ≡ row_before goes row) where
    own : (k : Cells) → row_eq (key_of indices row) k ≡ true → option_and_then (λ (x : Cells). cond (row_eq (key_of indices x) k) (Some x) None) (row_after goes row) ≡ row_after goes row
    own k e = elim goes as (λ g. option_and_then (λ (x : Cells). cond (row_eq (key_of indices x) k) (Some x) None) (row_after g row) ≡ row_after g row) [
      | true ↦ refl
      | false ↦ ap (λ b. cond b (Some row) None) e
    ]

    other : (k : Cells) → row_eq (key_of indices row) k ≡ false → (b : Bool) → option_and_then (λ (x : Cells). cond (row_eq (key_of indices x) k) (Some x) None) (cond b (Some row) None) ≡ None
    other k e true = ap (λ b. cond b (Some row) None) e
    other k e false = refl

    other_after : (k : Cells) → row_eq (key_of indices row) k ≡ false → (b : Bool) → option_and_then (λ (x : Cells). cond (row_eq (key_of indices x) k) (Some x) None) (cond b None (Some row)) ≡ None
    other_after k e true = refl
    other_after k e false = ap (λ b. cond b (Some row) None) e

    -- the rows of each key after it
    pub group_moved : (schema : List (List ℕ × CellType)) (k : Cells)
        → cond (row_eq (key_of indices row) k) (table_or_none schema (set_at (group_of indices (key_of indices row) t) tag (row_after goes row))) (table_or_none schema (group_of indices k t))
        ≡ table_or_none schema (group_of indices k (set_at t tag (row_after goes row)))
    group_moved schema k = elim (row_eq (key_of indices row) k) as (λ b. row_eq (key_of indices row) k ≡ b → cond b (table_or_none schema (set_at (group_of indices (key_of indices row) t) tag (row_after goes row))) (table_or_none schema (group_of indices k t)) ≡ table_or_none schema (group_of indices k (set_at t tag (row_after goes row)))) [
      | true ↦ λ e. ap (table_or_none schema) (ap (λ k. set_at (group_of indices k t) tag (row_after goes row)) (row_yes _ _ e) ∙ group_set k (row_after goes row) (own k e))
      | false ↦ λ e. ap (table_or_none schema) (group_kept k (row_after goes row) (other_after k e goes) (ap (option_and_then (λ (x : Cells). cond (row_eq (key_of indices x) k) (Some x) None)) stood ∙ other k e goes))
    ] refl

-- what is staged for one key
pub staged_state : (schema : List (List ℕ × CellType)) (b : Bool) (after : TableParts) (rows : TaggedRows) (old now : Option TableParts) → after ≡ record { schema = schema; rows = rows }
    → staged_or (cond b (Some after) (cond b None old)) now ≡ cond b (table_or_none schema rows) (staged_or old now)
staged_state schema true after rows old now e = ap unless_empty e
staged_state schema false after rows old now e = refl

-- tables put in place one by one
lookup_last : {X : Type 0} (es : List (Cells × X)) (k : Cells) (x : X) (j : Cells) → lookup (row_eq j) es ≡ None → row_eq j k ≡ true → lookup (row_eq j) (es ++ (k, x) ∷ []) ≡ Some x
lookup_last [] k x j none e = ap (λ b. cond b (Some x) None) e
lookup_last (f ∷ es) k x j none e = elim (row_eq j f.0) as (λ b. cond b (Some f.1) (lookup (row_eq j) es) ≡ None → cond b (Some f.1) (lookup (row_eq j) (es ++ (k, x) ∷ [])) ≡ Some x) [
  | true ↦ λ none. cc none
  | false ↦ λ none. lookup_last es k x j none e
] none

module _ {S : Type 0} where
  pub put_more : (tables next staged rest : IndexMap Cells TableParts S) (key : Cells) (m : TableParts) → staged.entries ≡ rest.entries ++ (key, m) ∷ []
      → ((k : Cells) → get row_eq rest k ≡ cond (row_eq key k) None (get row_eq staged k))
      → ((k : Cells) → get row_eq next k ≡ cond (row_eq key k) (unless_empty m) (get row_eq tables k))
      → (k : Cells) → state_of next rest k ≡ state_of tables staged k
  put_more tables next staged rest key m e popped put k =
      ap (λ s. staged_or s (get row_eq next k)) (popped k) ∙ ap (staged_or (cond (row_eq key k) None (get row_eq staged k))) (put k)
      ∙ elim (row_eq key k) as (λ b. row_eq key k ≡ b → staged_or (cond b None (get row_eq staged k)) (cond b (unless_empty m) (get row_eq tables k)) ≡ state_of tables staged k) [
        | true ↦ λ b. sym (ap (λ s. staged_or s (get row_eq tables k)) (ap (lookup (row_eq k)) e
            ∙ lookup_last rest.entries key m k (popped k ∙ ap (λ b. cond b None (get row_eq staged k)) b) (swap k key ∙ b)))
        | false ↦ λ b. refl
      ] refl

-- what is written back as it was changes nothing
pub same_value_at : {K X : Type 0} (es : List (K × X)) (i : ℕ) (w : X) → Some w ≡ slice_get (map (λ e. e.1) es) i → set_value_at es i w ≡ es
same_value_at [] i w e = refl
same_value_at (x ∷ es) zero w e = let same : w ≡ x.1 = cc e in ap (λ w. (x.0, w) ∷ es) same
same_value_at (x ∷ es) (suc i) w e = ap (λ es. x ∷ es) (same_value_at es i w e)

pub on_ok_here : {A E P : Type 0} (r : Result A E) → OnOk r P → IsOk r → P
on_ok_here (Ok a) p is = p
on_ok_here (Err e) p is = cc is

pub is_empty : (m : TableParts) → finite.len m.rows ≡ 0 → None ≡ unless_empty m
is_empty m e = ap (λ (n : ℕ). cond (n == 0) None (Some m)) (sym e)

-- a key has a null where one of the cells is null of which it is made
pub null_cells : (row : Cells) (indices : List (Option ℕ)) → list_any (λ i. is_null (cell_at i row)) indices ≡ list_any is_null (key_of indices row)
null_cells row [] = refl
null_cells row (i ∷ is) = ap (λ b. is_null (cell_at i row) || b) (null_cells row is)
