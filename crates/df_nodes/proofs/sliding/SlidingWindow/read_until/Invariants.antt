use Rattle.std.proofs.Common.{◌≡◌}
use Rattle.std.specs.FinMap as finite
use Rattle.df_nodes.specs.Sliding.{IsBefore, IsOver}
use Rattle.df_nodes.proofs.sliding.SlidingWindow.read_until.Given as goal

abbrev pub invariant-loop-next : goal.invariant-loop-next
invariant-loop-next l =
    record {
      over : IsOver l.rolling l.self (finite.values l.input.rows);
      before : IsBefore l.rolling.w l.at l.self;
      stop : l.self.stop ≡ l._next;
    }
