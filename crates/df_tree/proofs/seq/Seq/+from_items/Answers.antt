use Rattle.std.proofs.Common.{rules, ℕ, ◌++◌, ◌/◌, take, ap, sym, ◌∙◌, arith}
use Rattle.df_tree.specs.Leaves.{items_in}
use Rattle.df_tree.proofs.LeafLemmas.{items-one}
use Rattle.df_tree.proofs.HalfLemmas.{rejoined}
use Rattle.df_tree.proofs.Outcomes.{if_ok_then}
use Rattle.df_tree.proofs.seq.Seq.+from_items.Goals as goal

pub returns-then-len-le-WIDTH : goal.returns-then-len-le-WIDTH
returns-then-len-le-WIDTH g t c = if_ok_then c.shared.result c.shared.ensures (λ k h. ap (λ p. p.0) h ∙ items-one {I = g.row.I.Denot} c.args.run.items 0)

pub returns : goal.returns
returns g t c =
    let half = c.in_ok-half.ensures in
    let mid : ℕ = c.len-mid.result / 2 in
    let both = ap (λ l. l ++ items_in {I = g.row.I.Denot} c.in_ok-second.second) (c.in_ok-first.ensures ∙ half.items) ∙ ap (λ l. take mid c.args.run.items ++ l) (c.in_ok-second.ensures ∙ half.tail) in
    if_ok_then c.joined.result c.joined.ensures (λ k h. h ∙ both ∙ sym (rejoined mid c.args.run.items))

pub from_items-requires : goal.from_items-requires
from_items-requires g t c κs inside =
    (omega (arith, c.in_ok-half.ensures.len, c.len.ensures, c.if-len-le-WIDTH.false, c.len-mid.ensures, c.args.run.ok, c.split_off.new.self.ok, c.decreases), search rules)

pub from_items-requires-2 : goal.from_items-requires-2
from_items-requires-2 g t c κs inside =
    (omega (arith, c.in_ok-half.ensures.tail_len, c.len.ensures, c.if-len-le-WIDTH.false, c.len-mid.ensures, c.args.run.ok, c.in_ok-half.half.ok, c.decreases), search rules)
