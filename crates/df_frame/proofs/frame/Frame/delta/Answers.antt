use Rattle.std.proofs.Common.{◌≡◌, ◌∙◌, Some, None, map, ap, sym, subst}
use Rattle.std.specs.FinMap as finite
use Rattle.std.specs.List.{enumerate_from}
use Rattle.df_delta.specs.Differences.{IsDiff}
use Rattle.df_frame.specs.FrameParts.{FrameParts}
use Rattle.df_frame.specs.FrameTables.{coming_row, set_rows, tagged_rows_of}
use Rattle.df_frame.specs.Frames.{with_chunk}
use Rattle.df_frame.proofs.FrameTableFacts.{rows-deleted, rows-replaced, table-is}
use Rattle.df_frame.proofs.PreparedFacts.{prepared-diff, run-of-chunk}
use Rattle.df_frame.proofs.frame.Frame.delta.Goals as goal

pub returns-in_ok-delta_of_rows-in-Append : goal.returns-in_ok-delta_of_rows-in-Append
returns-in_ok-delta_of_rows-in-Append c =
    let f = c.args.self.now.state in
    let chunk = c.in-Append.chunk.now in
    let takes = rw c.in-Append.is at c.requires.free in
    let same =
    ap (λ first. finite.from_sorted (map coming_row (enumerate_from first c.in_ok-rows-in-Append.rows.items))) c.first.ensures
    ∙ ap (λ rows. finite.from_sorted (map coming_row (enumerate_from chunk.first rows))) (c.in_ok-rows-in-Append.ensures ∙ (c.as_slice.ensures ∙ c.rows.ensures.value)) in
    rw c.in-Append.is
    (subst (IsDiff (tagged_rows_of f) (tagged_rows_of (with_chunk chunk f))) (sym (c.in_ok-delta_of_rows-in-Append.ensures ∙ same))
    (prepared-diff chunk f (run-of-chunk chunk c.rows.ensures.sound) c.requires.sound takes))

pub returns-in-Prepared : goal.returns-in-Prepared
returns-in-Prepared c =
    let f = c.args.self.now.state in
    let chunk = c.in-Prepared.prepared.now in
    let takes = rw c.in-Prepared.is at c.requires.free in
    rw c.in-Prepared.is
    (subst (IsDiff (tagged_rows_of f) (tagged_rows_of (with_chunk chunk f))) (sym c.lend.ensures.value)
    (prepared-diff chunk f c.lend.ensures.sound c.requires.sound takes))

pub returns-in_ok-delta_at-in-Delete : goal.returns-in_ok-delta_at-in-Delete
returns-in_ok-delta_at-in-Delete c =
    let f = c.args.self.now.state in
    let t = c.self.inside.table.rows in
    let ns = c.in-Delete.numbers.now in
    let is : t ≡ tagged_rows_of f = sym (table-is t c.self.invariant.tags) ∙ ap (λ (x : FrameParts). tagged_rows_of x.state) c.self.view_is in
    rw c.in-Delete.is
    (subst (λ u. IsDiff (tagged_rows_of f) u c.in_ok-delta_at-in-Delete.field-0) (rows-deleted ns f c.requires.sound)
    (subst (λ u. IsDiff u (set_rows u (map (λ n. (n, None)) ns)) c.in_ok-delta_at-in-Delete.field-0) is c.in_ok-delta_at-in-Delete.ensures))

pub returns-in_ok-delta_at-in-Replace : goal.returns-in_ok-delta_at-in-Replace
returns-in_ok-delta_at-in-Replace c =
    let f = c.args.self.now.state in
    let t = c.self.inside.table.rows in
    let rows = c.in-Replace.rows.now in
    let takes = rw c.in-Replace.is at c.requires.free in
    let is : t ≡ tagged_rows_of f = sym (table-is t c.self.invariant.tags) ∙ ap (λ (x : FrameParts). tagged_rows_of x.state) c.self.view_is in
    rw c.in-Replace.is
    (subst (λ u. IsDiff (tagged_rows_of f) u c.in_ok-delta_at-in-Replace.field-0) (rows-replaced rows f c.requires.sound takes.1)
    (subst (λ u. IsDiff u (set_rows u (map (λ r. (r.0, Some r.1)) rows)) c.in_ok-delta_at-in-Replace.field-0) is c.in_ok-delta_at-in-Replace.ensures))
