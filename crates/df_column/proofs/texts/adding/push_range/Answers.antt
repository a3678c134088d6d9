use Rattle.std.proofs.Common.{◌∙◌, ◌++◌, ◌∷◌, [], None, ap, sym, arith, append_assoc, drop, map, take}
use Rattle.df_column.specs.Texts.{pool_text, text_now}
use Rattle.df_column.proofs.SpliceLemmas.{range_next}
use Rattle.df_column.proofs.texts.adding.push_range.Goals as goal

pub loop-at-preserved : goal.loop-at-preserved
loop-at-preserved c =
    let made = c.in_ok-push_text.ensures in
    let start = map (pool_text c.args.pool.now) c.args.places.now in
    let low = c.args.low in
    let at = c.loop-at.at in
    let old = c.args.old.now in
    let is = c.loop-at.invariant in
    record {
      sound = made.sound;
      from = omega (arith, is.from);
      few = omega (arith, made.len, is.few, c.loop-at-test.true);
      lookup = made.lookup;
      texts = made.texts ∙ ap (λ ts. ts ++ text_now c.get.result ∷ []) is.texts
          ∙ append_assoc start (drop low (take at old)) (text_now c.get.result ∷ [])
          ∙ ap (λ ts. start ++ ts) (ap (λ t. drop low (take at old) ++ t ∷ []) (c.get.ensures None) ∙ sym (range_next old low at None is.from (omega (arith, c.loop-at-test.true, c.requires.in_range))));
    }
