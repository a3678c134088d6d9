use Rattle.std.proofs.Common.{◌<◌, Bor, List, ℕ, arith, length, subst, sym}
use Rattle.csv.specs.Reading.{default_config, records}
use Rattle.df_csv.specs.Segments.{IsReadable}
use Rattle.df_csv.proofs.PickedFacts.{made_together, together}
use Rattle.df_csv.proofs.SegmentFacts.{readable}
use Rattle.df_csv.proofs.threaded.read_segments.Goals as goal

pub layout_of-requires : goal.layout_of-requires
layout_of-requires g c =
    let segments = c.in_ok-segments.segments in
    let given = c.in_ok-segments.ensures in
    let some : 0 < length segments.items = omega (arith, c.if-len-lt2.false, c.len.ensures, segments.ok.0) in
    let each = readable c.args.text.now segments.items given.records c.requires.texts given.marks in
    subst (λ (s : Bor (List ℕ)). IsReadable s.now) (sym c.index.ensures) (each 0 c.index.result.now some)

pub read_parts-requires-after_bounds : goal.read_parts-requires-after_bounds
read_parts-requires-after_bounds g c κs within =
    readable c.args.text.now c.in_ok-segments.segments.items c.in_ok-segments.ensures.records c.requires.texts c.in_ok-segments.ensures.marks

pub returns : goal.returns
returns g c =
    let segments = c.in_ok-segments.segments in
    let some : 0 < length segments.items = omega (arith, c.if-len-lt2.false, c.len.ensures, segments.ok.0) in
    made_together c.args.columns.now (records default_config c.args.text.now) c.in-Some-2.parts.items c.from_parts.result
    (together c.args.columns.now c.in-Some.layout c.args.text.now c.index.result.now segments.items c.in-Some-2.parts.items some c.index.ensures
    c.in_ok-segments.ensures.records (rw c.in-Some.is at c.in_ok-layout.ensures) (rw c.in-Some-2.is at c.in_ok-parts.ensures))
    c.from_parts.ensures.value c.from_parts.ensures.few
