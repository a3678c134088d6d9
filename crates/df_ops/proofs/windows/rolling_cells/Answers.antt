use Rattle.std.proofs.Common.{◌≡◌, ℕ, ◌+◌, ◌∙◌, length, map, take, ap, sym, arith}
use Rattle.std.specs.List.{range_with_len}
use Rattle.std.proofs.lemmas.List.FromFn.{map-range_with_len_more}
use Rattle.df_ops.specs.Aggregates.{cells_of}
use Rattle.df_ops.specs.Windows.{rolling_cell, window_of}
use Rattle.df_ops.proofs.WindowFacts.{rolled_rows}
use Rattle.df_ops.proofs.windows.rolling_cells.Goals as goal

pub loop-i-preserved : goal.loop-i-preserved
loop-i-preserved c =
    let i = c.loop-i.i in
    let f = λ (k : ℕ). rolling_cell c.args.kind c.args.m (window_of c.args.w (cells_of c.args.index (take (k + 1) c.args.rows.now))) in
    rw (map-range_with_len_more f 0 i i (omega arith), c.in_ok-push.ensures.items, c.in_ok-rolling_last.ensures.value, c.loop-i.invariant)

pub returns : goal.returns
returns c =
    let rows = c.args.rows.now in
    let f = λ (k : ℕ). rolling_cell c.args.kind c.args.m (window_of c.args.w (cells_of c.args.index (take (k + 1) rows))) in
    let all : c.loop-i.i ≡ length rows = omega arith in
    c.loop-i.invariant ∙ (ap (λ n. map f (range_with_len 0 n)) all ∙ sym (rolled_rows c.args.kind c.args.w c.args.m c.args.index rows))
