use Rattle.df_column.specs.Tags.{tag_cmp}
use Rattle.df_group.proofs.IndexMaps.{all_dropped}
use Rattle.std.proofs.Common.{ap, ◌∙◌, ◌≡◌, suc, ◌-◌, drop, subst, sym, arith}
use Rattle.std.specs.FinMap as finite
use Rattle.indexmap.specs.IndexMap.{keys}
use Rattle.df_group.specs.GroupIndex.{output_at}
use Rattle.df_group.specs.NotedSides.{both_sides}
use Rattle.df_group.proofs.Output.{noted_more}
use Rattle.df_group.proofs.notes.note_all.Goals as goal

pub loop-at-init : goal.loop-at-init
loop-at-init c =
    let ks = keys c.args.staged.now in
    record {
      within = omega (arith, c.len-at.ensures.len);
      noted = λ g t u over leads q.
          ap (λ m. finite.get m q) c.new-notes.ensures
          ∙ finite.get-empty tag_cmp q
          ∙ ap (λ ks. both_sides (output_at g ks t q) (output_at g ks u q)) (sym (all_dropped c.args.staged.now c.len-at.result c.len-at.ensures.len));
    }

pub loop-at-preserved-in-Continue-1 : goal.loop-at-preserved-in-Continue-1
loop-at-preserved-in-Continue-1 c =
    let ks = keys c.args.staged.now in
    let up : c.loop-at.at ≡ suc (c.loop-at.at - 1) = omega arith in
    record {
      within = omega arith;
      noted = λ g t u over leads q. noted_more g c.args.index.now c.args.staged.now t u (c.loop-at.at - 1) c.in-Some.key.now c.in-Some.group.now q _ _ over leads
          (sym c.in-Some.ensures.entry) c.in-Some.ensures.value
          (subst (λ n. finite.get c.loop-at.notes q ≡ both_sides (output_at g (drop n ks) t q) (output_at g (drop n ks) u q)) up (c.loop-at.invariant.noted g t u over leads q))
          (c.in_ok-note_group.ensures q);
    }
