use Rattle.std.proofs.Common.{◌≡◌, Bool, true, false, ap, not, refl, subst, sym, ◌∙◌}
use Rattle.std.specs.Prelude.{IsTrue, T, is_some}
use Rattle.std.specs.Option.{option_copied}
use Rattle.std.specs.Ordering.{is_lt}
use Rattle.std.specs.FinMap.{find, is_sorted}
use Rattle.df_value.specs.CellOrder.{cell_cmp}
use Rattle.df_tree.specs.Leaves.{items_in}
use Rattle.df_counts.specs.Entries.{entries_of}
use Rattle.df_counts.proofs.Greatest.{none_above, none_there}
use Rattle.df_counts.proofs.counts.Counts.has_none_above.Goals as goal

is_false : (b : Bool) → IsTrue (not b) → b ≡ false
is_false true h = cc h
is_false false h = refl

pub returns-in-Some-last : goal.returns-in-Some-last
returns-in-Some-last c h v there =
    let is : entries_of c.self.inside.entries ≡ items_in c.in-Some.entries.seq = ap entries_of c.in-Some.is in
    let less : c.is_less.result ≡ is_lt (cell_cmp c.args.value.now c.in-Some-last.last.now.0) = c.is_less.ensures ∙ ap (λ w. is_lt (cell_cmp c.args.value.now w)) (c.get.ensures ∙ ap (λ e. e.0) c.last-in-Some-last.view_is) in
    none_above (items_in c.in-Some.entries.seq) c.args.value.now c.in-Some-last.last.now v (subst (λ es. T (is_sorted cell_cmp es)) is c.self.invariant) (sym (ap option_copied c.in-Some-last.is) ∙ c.last.ensures)
    (sym less ∙ is_false c.is_less.result h)
    (ap (λ es. is_some (find cell_cmp v es)) (sym is ∙ c.self.view_is) ∙ there)

pub returns-in-None-last : goal.returns-in-None-last
returns-in-None-last c h v there =
    let is : entries_of c.self.inside.entries ≡ items_in c.in-Some.entries.seq = ap entries_of c.in-Some.is in
    absurd (none_there (items_in c.in-Some.entries.seq) v (sym (ap option_copied c.in-None-last.is) ∙ c.last.ensures) (ap (λ es. is_some (find cell_cmp v es)) (sym is ∙ c.self.view_is) ∙ there))
