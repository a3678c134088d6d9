use Rattle.std.proofs.Common.{◌<◌, ◌+◌, ◌-◌, length, ap, sym, ◌∙◌, refl, arith, subst}
use Rattle.std.specs.Prelude.{slice_set}
use Rattle.std.specs.List.{insert}
use Rattle.df_tree.specs.Leaves.{rank_above, leaves_of_parts, Kept}
use Rattle.df_tree.specs.Level.{AllParts, AreLevel}
use Rattle.df_tree.proofs.HalfLemmas.{kept_set, kept_two}
use Rattle.df_tree.proofs.LevelLemmas.{halved_none, halved_second, level_of, level_set, part_at, parts_two, rank_set, rank_two}
use Rattle.df_tree.proofs.halving.halve_at.Goals as goal

pub returns-in_err-halved-clause-kept : goal.returns-in_err-halved-clause-kept
returns-in_err-halved-clause-kept g c =
    let near : c.args.at < length c.reserve.new.self.items = omega (arith, c.requires, c.in_ok-reserve.ensures.len, c.reserve.new.self.ok) in
    subst (λ ks. Kept {I = g.row.I.Denot} (leaves_of_parts {I = g.row.I.Denot} ks) (leaves_of_parts {I = g.row.I.Denot} (slice_set c.reserve.new.self.items c.args.at c.halved.new.self))) c.in_ok-reserve.ensures.items
    (kept_set {I = g.row.I.Denot} c.reserve.new.self.items c.args.at c.index_mut.result.now c.halved.new.self near c.index_mut.ensures.value c.in_err-halved.ensures.halved)

pub returns-in_err-halved-clause-rank : goal.returns-in_err-halved-clause-rank
returns-in_err-halved-clause-rank g c =
    rank_set {I = g.row.I.Denot} c.reserve.new.self.items c.args.at c.index_mut.result.now c.halved.new.self c.index_mut.ensures.value c.in_err-halved.ensures.rank ∙ ap (λ ks. rank_above {I = g.row.I.Denot} ks) c.in_ok-reserve.ensures.items

pub returns-in_err-halved-clause-level : goal.returns-in_err-halved-clause-level
returns-in_err-halved-clause-level g c = λ h.
    let near : c.args.at < length c.reserve.new.self.items = omega (arith, c.requires, c.in_ok-reserve.ensures.len, c.reserve.new.self.ok) in
    let kept : Kept {I = g.row.I.Denot} c.index_mut.result.now.0 c.halved.new.self.0 = c.in_err-halved.ensures.halved in
    level_set {I = g.row.I.Denot} c.reserve.new.self.items c.args.at c.index_mut.result.now c.halved.new.self near c.index_mut.ensures.value c.in_err-halved.ensures.rank
    (λ n. let m = ap length kept.items in omega (arith, m, n)) (subst (λ ks. AreLevel {I = g.row.I.Denot} ks) (sym c.in_ok-reserve.ensures.items) h)

pub returns-in-None-clause-kept : goal.returns-in-None-clause-kept
returns-in-None-clause-kept g c =
    let near : c.args.at < length c.reserve.new.self.items = omega (arith, c.requires, c.in_ok-reserve.ensures.len, c.reserve.new.self.ok) in
    subst (λ ks. Kept {I = g.row.I.Denot} (leaves_of_parts {I = g.row.I.Denot} ks) (leaves_of_parts {I = g.row.I.Denot} (slice_set c.reserve.new.self.items c.args.at c.halved.new.self))) c.in_ok-reserve.ensures.items
    (kept_set {I = g.row.I.Denot} c.reserve.new.self.items c.args.at c.index_mut.result.now c.halved.new.self near c.index_mut.ensures.value (halved_none {I = g.row.I.Denot} c.in_ok-halved.field-0 c.index_mut.result.now.0 c.halved.new.self.0 c.index_mut.result.now.1 c.in-None.is c.in_ok-halved.ensures.halved))

pub returns-in-None-clause-rank : goal.returns-in-None-clause-rank
returns-in-None-clause-rank g c =
    rank_set {I = g.row.I.Denot} c.reserve.new.self.items c.args.at c.index_mut.result.now c.halved.new.self c.index_mut.ensures.value c.in_ok-halved.ensures.rank ∙ ap (λ ks. rank_above {I = g.row.I.Denot} ks) c.in_ok-reserve.ensures.items

pub returns-in-None-clause-level : goal.returns-in-None-clause-level
returns-in-None-clause-level g c = λ h.
    let near : c.args.at < length c.reserve.new.self.items = omega (arith, c.requires, c.in_ok-reserve.ensures.len, c.reserve.new.self.ok) in
    let kept : Kept {I = g.row.I.Denot} c.index_mut.result.now.0 c.halved.new.self.0 = (halved_none {I = g.row.I.Denot} c.in_ok-halved.field-0 c.index_mut.result.now.0 c.halved.new.self.0 c.index_mut.result.now.1 c.in-None.is c.in_ok-halved.ensures.halved) in
    level_set {I = g.row.I.Denot} c.reserve.new.self.items c.args.at c.index_mut.result.now c.halved.new.self near c.index_mut.ensures.value c.in_ok-halved.ensures.rank
    (λ n. let m = ap length kept.items in omega (arith, m, n)) (subst (λ ks. AreLevel {I = g.row.I.Denot} ks) (sym c.in_ok-reserve.ensures.items) h)

pub returns-in-Ok-clause-kept : goal.returns-in-Ok-clause-kept
returns-in-Ok-clause-kept g c =
    let near : c.args.at < length c.reserve.new.self.items = omega (arith, c.requires, c.in_ok-reserve.ensures.len, c.reserve.new.self.ok) in
    let halved = halved_second {I = g.row.I.Denot} c.in_ok-halved.field-0 c.in-Some.second c.index_mut.result.now.0 c.halved.new.self.0 c.index_mut.result.now.1 c.in-Some.is c.in_ok-halved.ensures.halved in
    subst (λ ks. Kept {I = g.row.I.Denot} (leaves_of_parts {I = g.row.I.Denot} c.args.parts.now.items) (leaves_of_parts {I = g.row.I.Denot} ks)) (sym c.in-Ok.ensures.items)
    (subst (λ ks. Kept {I = g.row.I.Denot} (leaves_of_parts {I = g.row.I.Denot} ks) (leaves_of_parts {I = g.row.I.Denot} (insert (slice_set c.reserve.new.self.items c.args.at c.halved.new.self) (c.args.at + 1) c.in-Some.second))) c.in_ok-reserve.ensures.items
    (kept_two {I = g.row.I.Denot} c.reserve.new.self.items c.args.at (c.args.at + 1) c.index_mut.result.now c.halved.new.self c.in-Some.second refl near c.index_mut.ensures.value halved.kept))

pub returns-in-Ok-clause-rank : goal.returns-in-Ok-clause-rank
returns-in-Ok-clause-rank g c =
    let near : c.args.at < length c.reserve.new.self.items = omega (arith, c.requires, c.in_ok-reserve.ensures.len, c.reserve.new.self.ok) in
    let halved = halved_second {I = g.row.I.Denot} c.in_ok-halved.field-0 c.in-Some.second c.index_mut.result.now.0 c.halved.new.self.0 c.index_mut.result.now.1 c.in-Some.is c.in_ok-halved.ensures.halved in
    ap (λ ks. rank_above {I = g.row.I.Denot} ks) c.in-Ok.ensures.items
    ∙ rank_two {I = g.row.I.Denot} c.reserve.new.self.items c.args.at (c.args.at + 1) c.index_mut.result.now c.halved.new.self c.in-Some.second refl near c.index_mut.ensures.value c.in_ok-halved.ensures.rank halved.part.rank_is
    ∙ ap (λ ks. rank_above {I = g.row.I.Denot} ks) c.in_ok-reserve.ensures.items

pub returns-in-Ok-clause-level : goal.returns-in-Ok-clause-level
returns-in-Ok-clause-level g c = λ h.
    let near : c.args.at < length c.reserve.new.self.items = omega (arith, c.requires, c.in_ok-reserve.ensures.len, c.reserve.new.self.ok) in
    let halved = halved_second {I = g.row.I.Denot} c.in_ok-halved.field-0 c.in-Some.second c.index_mut.result.now.0 c.halved.new.self.0 c.index_mut.result.now.1 c.in-Some.is c.in_ok-halved.ensures.halved in
    let all : AreLevel {I = g.row.I.Denot} c.reserve.new.self.items = subst (λ ks. AreLevel {I = g.row.I.Denot} ks) (sym c.in_ok-reserve.ensures.items) h in
    let mine = part_at {I = g.row.I.Denot} _ c.args.at c.reserve.new.self.items c.index_mut.result.now all near c.index_mut.ensures.value in
    let made = parts_two {I = g.row.I.Denot} (rank_above {I = g.row.I.Denot} c.reserve.new.self.items - 1) c.args.at (c.args.at + 1) c.reserve.new.self.items c.halved.new.self c.in-Some.second refl near all
    (record { rank_is = c.in_ok-halved.ensures.rank ∙ mine.rank_is; some = halved.first }) (record { rank_is = halved.part.rank_is ∙ mine.rank_is; some = halved.part.some }) in
    level_of {I = g.row.I.Denot} (rank_above {I = g.row.I.Denot} c.reserve.new.self.items - 1) _ (subst (λ ks. AllParts {I = g.row.I.Denot} (rank_above {I = g.row.I.Denot} c.reserve.new.self.items - 1) ks) (sym c.in-Ok.ensures.items) made)
