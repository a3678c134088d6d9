use Rattle.std.proofs.Common.{◌∙◌, List, ap, sym, arith}
use Rattle.std.specs.Option.{IfSome}
use mathlib.Core.Bool.{false≢true}
use Rattle.indexmap.specs.IndexMap.{get}
use Rattle.df_value.specs.Rows.{row_eq}
use Rattle.df_value.specs.declared.cell.Cell.{Cell}
use Rattle.df_column.specs.Tables.{AreRising}
use Rattle.df_group.specs.GroupIndex.{Follows, member_entries, staged_with}
use Rattle.df_group.proofs.IndexMaps.{none_left, popped, rest_has, taken_has}
use Rattle.df_group.proofs.Staged.{stage_more}
use Rattle.df_group.proofs.staging.stage_all.Goals as goal

pub stage_group-requires-clause-rising : goal.stage_group-requires-clause-rising
stage_group-requires-clause-rising c =
    let key = c.in-Some.key in
    taken_has (λ x. AreRising x.entries.items) key (get row_eq c.loop-key.changes key) (get row_eq c.pop.new.self key) c.in-Some.key_changes
    (popped c.loop-key.changes c.pop.new.self key c.in-Some.key_changes c.in-Some.ensures.entries c.in-Some.ensures.updates.0 key)
    (c.loop-key.invariant.rising key)

pub loop-key-preserved : goal.loop-key-preserved
loop-key-preserved c =
    let key = c.in-Some.key in
    let a = c.in_ok-stage_group.ensures.grows in
    let b = c.in_ok-stage_group.ensures.counted in
    let g = c.loop-key.invariant.grows in
    let h = c.loop-key.invariant.counted in
    let n = c.in-Some.ensures.len in
    let here = λ (all : (k : List Cell) → IfSome (get row_eq c.args.changes k) (λ x. Follows c.args.grouping.now k (get row_eq c.args.index.now k) (member_entries c.args.grouping.now x))).
    taken_has (λ x. Follows c.args.grouping.now key (get row_eq c.args.index.now key) (member_entries c.args.grouping.now x)) key (get row_eq c.loop-key.changes key) (get row_eq c.pop.new.self key) c.in-Some.key_changes
    (popped c.loop-key.changes c.pop.new.self key c.in-Some.key_changes c.in-Some.ensures.entries c.in-Some.ensures.updates.0 key)
    (c.loop-key.invariant.follow all key) in
    record {
      follow = λ all k. rest_has (λ x. Follows c.args.grouping.now k (get row_eq c.args.index.now k) (member_entries c.args.grouping.now x)) (row_eq key k) (get row_eq c.loop-key.changes k) (get row_eq c.pop.new.self k) (c.in-Some.ensures.updates.0 k) (c.loop-key.invariant.follow all k);
      staged = λ all k. stage_more c.args.grouping.now key k (get row_eq c.args.index.now) c.in-Some.key_changes
          (get row_eq c.loop-key.changes k) (get row_eq c.pop.new.self k) (get row_eq c.loop-key.staged k) (get row_eq c.stage_group.new.staged k)
          (popped c.loop-key.changes c.pop.new.self key c.in-Some.key_changes c.in-Some.ensures.entries c.in-Some.ensures.updates.0 k)
          (c.in-Some.ensures.updates.0 k) (c.in_ok-stage_group.ensures.staged (here all) k)
          ∙ c.loop-key.invariant.staged all k;
      rising = λ k. rest_has (λ x. AreRising x.entries.items) (row_eq key k) (get row_eq c.loop-key.changes k) (get row_eq c.pop.new.self k) (c.in-Some.ensures.updates.0 k) (c.loop-key.invariant.rising k);
      grows = (omega (arith, a.0, g.0), omega (arith, a.1, g.1), omega (arith, a.2, g.2), omega (arith, a.3, g.3));
      small = c.loop-key.invariant.small;
      counted = (omega (arith, b.0, h.0), omega (arith, b.1, h.1, n), omega (arith, b.2, h.2), omega (arith, b.3, h.3));
    }

pub returns-clause-staged : goal.returns-clause-staged
returns-clause-staged c all k =
    ap (λ o. staged_with c.args.grouping.now k (get row_eq c.args.index.now k) o (get row_eq c.loop-key.staged k))
    (sym (none_left c.loop-key.changes k (λ h. false≢true (c.in_default.ensures.found.1 h))))
    ∙ c.loop-key.invariant.staged all k
