use Rattle.std.proofs.Common.{◌≡◌, Bool, true, false, not, refl, ap, sym, ◌∙◌}
use Rattle.std.specs.Ordering.{is_lt}
use Rattle.df_value.specs.CellOrder.{cell_cmp}
use Rattle.df_counts.proofs.PlaceLemmas.{gap_at, there_at}
use Rattle.df_counts.proofs.entries.is_at.Goals as goal

is_false : (b : Bool) → not b ≡ true → b ≡ false
is_false true h = cc h
is_false false h = refl

is_true : (b : Bool) → not b ≡ false → b ≡ true
is_true true h = refl
is_true false h = cc h

pub returns-clause-there : goal.returns-clause-there
returns-clause-there c h =
    let less : c.is_less.result ≡ is_lt (cell_cmp c.args.value.now c.get.result.now.0) = c.is_less.ensures ∙ ap (λ w. is_lt (cell_cmp c.args.value.now w)) (c.get-2.ensures ∙ ap (λ e. e.0) c.behind-entries.view_is) in
    there_at _ c.args.place c.args.value.now c.requires.place c.get.result.now c.get.ensures (sym less ∙ is_false c.is_less.result h)

pub returns-clause-gap : goal.returns-clause-gap
returns-clause-gap c h =
    let less : c.is_less.result ≡ is_lt (cell_cmp c.args.value.now c.get.result.now.0) = c.is_less.ensures ∙ ap (λ w. is_lt (cell_cmp c.args.value.now w)) (c.get-2.ensures ∙ ap (λ e. e.0) c.behind-entries.view_is) in
    gap_at _ c.args.place c.args.value.now c.requires.place c.get.result.now c.get.ensures c.requires.sorted (sym less ∙ is_true c.is_less.result h)
