use Rattle.std.proofs.Common.{◌≡◌, ◌∙◌, ap, arith, length}
use Rattle.df_session.proofs.NumberFacts.{behind-rows}
use Rattle.df_session.proofs.numbers.end_of_chunk.Goals as goal

pub returns : goal.returns
returns c =
    let chunk = c.args.chunk.now in
    let n : c.len-count.result ≡ length chunk.rows = c.len-count.ensures ∙ ap length c.rows.ensures.value in
    let k = behind-rows chunk.first (length chunk.rows) (λ e. c.if-count-eq0.false (n ∙ e)) in
    let first = c.first.ensures in
    let wide = c.from.ensures in
    omega (arith, k, n, first, wide)
