use Rattle.std.proofs.Common.{◌≡◌, ◌∙◌, List, ap, cond, false, length, refl, true, Some, subst, sym}
use mathlib.Core.Bool.{false≢true}
use Rattle.std.specs.FinMap as finite
use Rattle.std.specs.Option.{option_copied}
use Rattle.std.specs.Prelude.{◌==◌, IfSome}
use Rattle.std.proofs.lemmas.Bool.{eqb-true}
use Rattle.indexmap.specs.IndexMap.{get}
use Rattle.df_value.specs.Rows.{row_eq}
use Rattle.df_column.specs.Tables.{TableParts}
use Rattle.df_column.specs.declared.entry.Entry.{Entry}
use Rattle.df_group.specs.GroupIndex.{Follows, IsRowBefore, changed_group, group_with, member_entries, staged_after}
use Rattle.df_group.proofs.Followed.{row_followed}
use Rattle.df_group.proofs.Staged.{staged_none, staged_some}
use Rattle.df_group.proofs.staging.stage_group.Goals as goal

pub returns-then-is_empty-clause-staged : goal.returns-then-is_empty-clause-staged
returns-then-is_empty-clause-staged c follows k =
    let g = c.args.grouping.now in
    let v = c.in_ok-changes.changes.entries in
    let kept : v.items ≡ member_entries g c.args.changes = c.in_ok-changes.ensures.entries in
    let none : length (member_entries g c.args.changes) ≡ 0 = ap length (sym kept) ∙ sym v.ok.0 ∙ eqb-true v.len 0 (sym c.is_empty.ensures ∙ c.if-is_empty.true) in
    sym
    (ap (λ o. cond (row_eq c.args.key k) o (get row_eq c.args.staged.now k)) (staged_none g c.args.key (get row_eq c.args.index.now c.args.key) (get row_eq c.args.staged.now k) (member_entries g c.args.changes) none)
    ∙ elim (row_eq c.args.key k) as (λ b. cond b (get row_eq c.args.staged.now k) (get row_eq c.args.staged.now k) ≡ get row_eq c.args.staged.now k) [ true ↦ refl | false ↦ refl ])

pub returns-in-Ok-clause-staged : goal.returns-in-Ok-clause-staged
returns-in-Ok-clause-staged c follows k =
    let g = c.args.grouping.now in
    let v = c.in_ok-changes.changes.entries in
    let entries = v.items in
    let kept : entries ≡ member_entries g c.args.changes = c.in_ok-changes.ensures.entries in
    let now = option_copied c.get-now.result in
    let members = c.in_ok-members.members in
    let here = subst (λ (es : List Entry). Follows g c.args.key now es) (sym kept) (subst (λ o. Follows g c.args.key o (member_entries g c.args.changes)) (sym c.get-now.ensures.value) follows) in
    let before = subst (λ o. IfSome o (λ row. IsRowBefore g c.args.key row c.deref.result.now (finite.values members.rows))) (sym c.row_before-before.ensures)
    (row_followed g c.args.key now entries c.deref.result.now (finite.values members.rows) here (cc c.deref.ensures.value) (ap (λ (t : TableParts). finite.values t.rows) c.in_ok-members.ensures)) in
    c.in-Ok.ensures.updates.0 k
    ∙ ap (λ group. cond (row_eq c.args.key k) group (get row_eq c.args.staged.now k))
    (ap (λ group. Some group) (c.in_ok-group.ensures.group (c.in_ok-totals.ensures here c.in_ok-members.ensures) before ∙ ap (group_with g c.args.key) c.in_ok-members.ensures
    ∙ ap (λ o. changed_group g c.args.key o entries) c.get-now.ensures.value)
    ∙ sym (staged_some g c.args.key (get row_eq c.args.index.now c.args.key) (get row_eq c.args.staged.now k) entries (λ z. false≢true (sym c.if-is_empty.false ∙ c.is_empty.ensures ∙ ap (λ n. n == 0) (v.ok.0 ∙ z))))
    ∙ ap (λ es. staged_after g c.args.key (get row_eq c.args.index.now c.args.key) es (get row_eq c.args.staged.now k)) kept)
