use Rattle.std.proofs.Common.{◌≡◌, ◌∙◌, ◌-◌, None, ap, arith, drop, false, rules, subst, sym, take, true}
use Rattle.std.proofs.lemmas.Bool.{ltb-true}
use Rattle.std.proofs.lemmas.List.{get_or_default}
use Rattle.std.proofs.lemmas.Result.{IfOk-weaker}
use Rattle.df_column.specs.BlockLists.{IsSpliceOf, min_or_max_cell}
use Rattle.df_column.specs.MinMaxCells.{min_or_max_with}
use Rattle.df_column.proofs.KeptMinMax.{reached_min_or_max, staying_min_or_max, three_of_splice}
use Rattle.df_column.proofs.leaf.Leaf.renewed.Goals as goal
use Rattle.df_column.proofs.leaf.Leaf.renewed.Goals.{else-not-stays-via-then-not-stays+else-is_kept_beyond, else-not-stays-via-else-not-stays}

pub returns : goal.returns
returns c =
    let e = c.args.which in
    let i = c.args.column in
    let old = c.self.inside.run in
    let new = c.args.run.now in
    let low = c.args.low in
    let high = c.args.high in
    let end = c.len.result - (c.len-2.result - high) in
    let there = ltb-true _ _ (sym c.in-Some.ensures.lookup.0) in
    let kept : c.in-Some.kept.now ≡ min_or_max_cell e old i =
    c.in-Some.ensures.lookup.1 ∙ get_or_default c.kept.result.now i c.in-Some.kept.now None there ∙ c.kept.ensures i there ∙ ap (λ bs. min_or_max_cell e bs i) (sym c.self.view_is) in
    let edit = three_of_splice old new low high end (subst (λ bs. IsSpliceOf bs low high new) (sym c.self.view_is) c.requires) (omega (arith, c.len.ensures.value, c.len-2.ensures.value)) in
    let stays = c.is_kept_beyond-stays.result in
    let more = min_or_max_cell e (drop low (take end new)) i in
    let made : min_or_max_with e c.in-Some.kept.now more ≡ min_or_max_cell e new i =
    elim c.else-not-stays.branch [
      | else-not-stays-via-then-not-stays+else-is_kept_beyond w ↦
          (let f : stays ≡ false = search rules in
          let g : w.is_kept_beyond.result ≡ false = search rules in
          reached_min_or_max e old new (take low old) (drop low (take high old)) (drop low (take end new)) (drop high old) i c.in-Some.kept.now edit.was edit.is kept stays w.is_kept_beyond.result c.is_kept_beyond-stays.ensures.none f w.is_kept_beyond.ensures.some g)
      | else-not-stays-via-else-not-stays w ↦
          (let t : stays ≡ true = search rules in
          staying_min_or_max e old new (take low old) (drop low (take high old)) (drop low (take end new)) (drop high old) i c.in-Some.kept.now edit.was edit.is kept stays c.is_kept_beyond-stays.ensures.some t)
    ] in
    IfOk-weaker c.min_or_max_between.result _ _
    (λ v h. h ∙ ap (λ o. min_or_max_with e o more) c.in_ok-best.ensures ∙ made)
    c.min_or_max_between.ensures
