-- What nodes may count, at most.
use Rattle.std.proofs.Common.{◌≡◌, ℕ, ◌*◌, ◌^◌, ◌≤◌, ap, ◌∙◌, arith}
use Rattle.df_delta.specs.Work.{evaluations}
use Rattle.df_nodes.specs.Rolling.{windows}
use Rattle.df_live.specs.Fresh.{IsAtMost}

pub once : (d e : ℕ) → e ≡ 1 → 2 * d * e ≡ 2 * d
once d e is = ap (λ x. 2 * d * x) is ∙ omega arith

pub few_evaluations : (e : ℕ) → e ≤ 32 → IsAtMost (evaluations (2 ^ 65 * e)) (2 ^ 82)
few_evaluations e le = (omega (arith, le), omega arith, omega arith, omega arith)

pub few_windows : (w : ℕ) → w ≤ 65536 → IsAtMost (windows (2 ^ 64 * w)) (2 ^ 82)
few_windows w le = (omega arith, omega arith, omega arith, omega (arith, le))
