use Rattle.std.proofs.Common.{◌∙◌, ap, sym, arith, []}
use Rattle.std.specs.Prelude.{◌==◌}
use Rattle.std.specs.Cmp.Lexicographic.{pointwise}
use Rattle.df_column.specs.Pools.{parts}
use Rattle.df_column.proofs.Parts.{length-parts}
use Rattle.df_column.proofs.PoolLemmas.{place_from_next, place_from_here, place_from_end}
use Rattle.df_column.proofs.pool.place_in.Goals as goal

pub returns-then-eq : goal.returns-then-eq
returns-then-eq c =
    let texts = parts 0 c.args.bytes.now c.args.ends.now in
    let l = length-parts 0 c.args.bytes.now c.args.ends.now in
    let same = ap (λ u. pointwise ◌==◌ u c.args.text.now) (sym (c.part.ensures [])) ∙ sym c.eq.ensures ∙ c.if-eq.true in
    sym (place_from_here c.loop-place.place c.args.text.now texts (omega (arith, l)) same) ∙ c.loop-place.invariant

pub loop-place-preserved : goal.loop-place-preserved
loop-place-preserved c =
    let texts = parts 0 c.args.bytes.now c.args.ends.now in
    let l = length-parts 0 c.args.bytes.now c.args.ends.now in
    let other = ap (λ u. pointwise ◌==◌ u c.args.text.now) (sym (c.part.ensures [])) ∙ sym c.eq.ensures ∙ c.if-eq.false in
    sym (place_from_next c.loop-place.place c.args.text.now texts (omega (arith, l)) other) ∙ c.loop-place.invariant

pub returns : goal.returns
returns c =
    let texts = parts 0 c.args.bytes.now c.args.ends.now in
    let l = length-parts 0 c.args.bytes.now c.args.ends.now in
    sym (place_from_end c.loop-place.place c.args.text.now texts (omega (arith, l))) ∙ c.loop-place.invariant
