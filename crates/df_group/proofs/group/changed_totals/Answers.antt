use Rattle.std.proofs.Common.{◌≡◌, ◌∙◌, Some, None, ap, sym}
use Rattle.std.proofs.lemmas.Result.{IfOk-weaker}
use Rattle.std.specs.Option.{option_copied}
use Rattle.df_group.specs.GroupIndex.{totals_now}
use Rattle.df_group.proofs.Followed.{followed}
use Rattle.df_group.proofs.group.changed_totals.Goals as goal

pub returns-in-Some : goal.returns-in-Some
returns-in-Some c =
    let g = c.args.grouping.now in
    let now = option_copied c.args.group in
    let some : now ≡ Some c.in-Some.group.now = ap option_copied c.in-Some.is in
    IfOk-weaker c.moved_totals.result _ _
    (λ ts made. followed g c.args.key.now now c.args.changes.now.entries.items c.args.members.now c.as_slice.result.now ts c.deref.result.now (c.as_slice.ensures ∙ ap (totals_now g) (sym some)) (cc c.deref.ensures.value) made)
    c.moved_totals.ensures

pub returns-in_ok-none-in-None : goal.returns-in_ok-none-in-None
returns-in_ok-none-in-None c =
    let g = c.args.grouping.now in
    let now = option_copied c.args.group in
    let none : now ≡ None = ap option_copied c.in-None.is in
    IfOk-weaker c.moved_totals-in-None.result _ _
    (λ ts made. followed g c.args.key.now now c.args.changes.now.entries.items c.args.members.now c.as_slice-in-None.result.now ts c.deref-in-None.result.now
    (c.as_slice-in-None.ensures ∙ c.in_ok-none-in-None.ensures ∙ ap (totals_now g) (sym none)) (cc c.deref-in-None.ensures.value) made)
    c.moved_totals-in-None.ensures
