use Rattle.std.proofs.Common.{◌∷◌, [], ◌∙◌, ap, arith, length, length-append, sym}
use Rattle.df_csv.proofs.CutFacts.{none_found, quoted_drop}
use Rattle.df_csv.proofs.SegmentFacts.{cut_more, uncut}
use Rattle.df_csv.proofs.segments.segments.Goals as goal

pub loop-init : goal.loop-init
loop-init c =
    rw c.new-segments.ensures.items (
      uncut c.args.text.now c.requires,
      none_found c.args.text.now c.memchr.result (sym c.is_some.ensures ∙ c.if-is_some.false) c.memchr.ensures,
      omega arith,
      omega arith,
    )

pub loop-preserved : goal.loop-preserved
loop-preserved c =
    let (cuts, unquoted, few, within) = c.loop.invariant in
    let cut = c.in-Some.ensures.cut in
    let more = ap length c.in_ok-push-2.ensures.items ∙ length-append c.loop.segments.items (c.split_at.result.0 ∷ []) in
    let low = c.loop-test.true in (
      rw c.in_ok-push-2.ensures.items
          (cut_more c.args.text.now c.loop.segments.items c.loop.rest.now c.split_at.result.1.now c.split_at.result.0 c.in-Some.at cuts unquoted cut c.split_at.ensures.front c.split_at.ensures.back),
      rw c.split_at.ensures.back (quoted_drop c.in-Some.at c.loop.rest.now unquoted),
      omega (arith, more, few),
      omega (arith, low),
    )
