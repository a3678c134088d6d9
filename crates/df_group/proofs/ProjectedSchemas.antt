-- Some columns of a schema are a schema, unless they are none.
use Rattle.std.proofs.Common.{◌≡◌, ℕ, ◌<◌, ◌≤◌, Bool, true, false, cond, List, [], ◌∷◌, ◌++◌, length, filter, Some, None, refl, ap, subst, ◌∙◌, append-nil, arith}
use Rattle.std.specs.Prelude.{◌==◌, ◌||◌, ◌/◌, is_some, nat_lt}
use Rattle.std.specs.List.{list_any}
use Rattle.std.specs.Str.{bytes_eq}
use Rattle.std.proofs.lemmas.Bool.Decides.{Decides-eqb, Decides-ltb}
use Rattle.std.proofs.lemmas.List.Elements.{filter-append}
use Rattle.df_value.specs.Choices.{by_test, neither}
use Rattle.df_value.specs.Limits.{most_columns}
use Rattle.df_value.specs.Names.{AreDistinct, distinct-cons, distinct-head}
use Rattle.df_value.specs.SchemaFaults.{schema_fault}
use Rattle.df_value.specs.Schemas.{Columns, IsSchema}
use Rattle.df_value.specs.declared.schema.SchemaFault.{SchemaFault}
use Rattle.df_value.specs.declared.schema.SchemaFault.TheVariants as fault
use Rattle.df_ops.specs.declared.agg.Agg.{Agg}
use Rattle.df_group.specs.Projections.{are_all_kept, indices_among, is_needed, is_text, member_columns, member_indices, needed_columns}
use Rattle.df_group.proofs.ProjectedCells.{passing}

none_passes : {X : Type 0} (p q : X → Bool) (xs : List X) → list_any q xs ≡ false → list_any q (filter p xs) ≡ false
none_passes p q [] h = refl
none_passes p q (x ∷ xs) h =
    let parts = neither (q x) (list_any q xs) h in
    let rest = none_passes p q xs parts.1 in
    by_test (λ l. list_any q l ≡ false) (p x) (x ∷ filter p xs) (filter p xs) (λ _. ap (λ b. b || list_any q (filter p xs)) parts.0 ∙ rest) (λ _. rest)

or_true : (b : Bool) → (b || true) ≡ true
or_true true = refl
or_true false = refl

not_zero : (n : ℕ) → 0 < n → (n == 0) ≡ false
not_zero n h = elim (n == 0) as (λ b. (b ≡ true → n ≡ 0) → b ≡ false) [ true ↦ λ zero. absurd (let none : n ≡ 0 = zero refl in omega arith) | false ↦ λ zero. refl ] (Decides-eqb n 0).0

not_below : (m n : ℕ) → n ≤ m → nat_lt m n ≡ false
not_below m n h = elim (nat_lt m n) as (λ b. (b ≡ true → m < n) → b ≡ false) [ true ↦ λ below. absurd (let lt : m < n = below refl in omega arith) | false ↦ λ below. refl ] (Decides-ltb m n).0

module _ (p : List ℕ → Bool) where
  passing_apart : (seen cs : Columns) → AreDistinct (λ c. c.0) seen cs → AreDistinct (λ c. c.0) (passing p seen) (passing p cs)
  passing_apart seen [] apart = refl
  passing_apart seen (c ∷ cs) apart =
      let head = distinct-head (λ c. c.0) seen c cs apart in
      let rest = passing_apart (seen ++ c ∷ []) cs head.1 in
      let split : passing p (seen ++ c ∷ []) ≡ passing p seen ++ cond (p c.0) (c ∷ []) [] = filter-append (λ c. p c.0) seen (c ∷ []) in
      by_test (λ (l : Columns). AreDistinct (λ c. c.0) (passing p seen) l) (p c.0) (c ∷ passing p cs) (passing p cs)
      (λ e. distinct-cons (λ c. c.0) (passing p seen) c (passing p cs) (none_passes (λ c. p c.0) (λ d. bytes_eq d.0 c.0) seen head.0)
      (subst (λ (s : Columns). AreDistinct (λ c. c.0) s (passing p cs)) (split ∙ ap (λ b. passing p seen ++ cond b (c ∷ []) []) e) rest))
      (λ e. subst (λ (s : Columns). AreDistinct (λ c. c.0) s (passing p cs)) (split ∙ ap (λ b. passing p seen ++ cond b (c ∷ []) []) e ∙ append-nil (passing p seen)) rest)

  passing_few : (cs : Columns) → length (passing p cs) ≤ length cs
  passing_few [] = omega arith
  passing_few (c ∷ cs) =
      let rest = passing_few cs in
      elim (p c.0) as (λ b. length (cond b (c ∷ passing p cs) (passing p cs)) ≤ length (c ∷ cs)) [ true ↦ omega arith | false ↦ omega arith ]

  fault_of_none : (ks : Columns) (e : SchemaFault) → length ks ≤ most_columns → AreDistinct (λ c. c.0) [] ks → schema_fault ks ≡ Some e → length ks ≡ 0
  fault_of_none [] e few apart h = refl
  fault_of_none (k ∷ ks) e few apart h =
      let fine : schema_fault (k ∷ ks) ≡ None =
      (λ i. cond (not_below most_columns (length (k ∷ ks)) few i) (Some fault.TooWide) (cond (is_some (apart i)) (Some fault.DoubledName) None)) in
      absurd (cc (fine, h))

  -- passing columns of a schema are a schema, unless there are none
  pub none_left : (columns : Columns) (e : SchemaFault) → IsSchema columns → schema_fault (passing p columns) ≡ Some e → length (passing p columns) ≡ 0
  none_left columns e is h =
      let few = passing_few columns in
      let all = is.few in
      fault_of_none (passing p columns) e (omega arith) (passing_apart [] columns is.distinct) h

module _ (columns : Columns) (aggregates : List (List ℕ × Agg)) where
  abbrev needed : Columns
  needed = needed_columns columns aggregates

  -- where all are kept, the columns are those of the input, without indices
  pub all_kept : are_all_kept columns aggregates ≡ true → (member_columns columns aggregates ≡ columns) × (member_indices columns aggregates ≡ None)
  all_kept e = (
    ap (λ b. cond b columns needed) e,
    ap (λ b. cond b None (Some (indices_among needed columns))) e,
  )

  -- else they are those that are needed, with their indices
  pub few_kept : are_all_kept columns aggregates ≡ false
      → (member_columns columns aggregates ≡ needed) × (member_indices columns aggregates ≡ Some (indices_among needed columns))
  few_kept e = (
    ap (λ b. cond b columns needed) e,
    ap (λ b. cond b None (Some (indices_among needed columns))) e,
  )

  -- where the needed columns are no schema, all are kept
  pub kept_of_fault : (e : SchemaFault) → IsSchema columns → schema_fault needed ≡ Some e → are_all_kept columns aggregates ≡ true
  kept_of_fault e is h =
      ap (λ n. (n == 0) || (nat_lt (length columns / 2) n || list_any (λ c. is_text c.1) needed))
      (none_left (is_needed columns aggregates) columns e is h)

  -- they are where more than half of the columns are needed
  pub kept_of_many : length columns / 2 < length needed → are_all_kept columns aggregates ≡ true
  kept_of_many h =
      let many : nat_lt (length columns / 2) (length needed) ≡ true = (Decides-ltb (length columns / 2) (length needed)).1 h in
      ap (λ b. (length needed == 0) || (b || list_any (λ c. is_text c.1) needed)) many
      ∙ or_true (length needed == 0)

  -- and where one of these has texts
  pub kept_of_text : list_any (λ c. is_text c.1) needed ≡ true → are_all_kept columns aggregates ≡ true
  kept_of_text h =
      ap (λ b. (length needed == 0) || (nat_lt (length columns / 2) (length needed) || b)) h
      ∙ ap (λ b. (length needed == 0) || b) (or_true (nat_lt (length columns / 2) (length needed)))
      ∙ or_true (length needed == 0)

  -- they are not where the needed columns are a schema of at most half of them, without texts
  pub few_of_schema : 0 < length needed → length needed ≤ length columns / 2
      → list_any (λ c. is_text c.1) needed ≡ false → are_all_kept columns aggregates ≡ false
  few_of_schema some few plain =
      (λ i. not_zero (length needed) some i
      || (not_below (length columns / 2) (length needed) few i || plain i))
