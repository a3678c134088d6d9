use Rattle.std.proofs.Common.{◌≡◌, ◌<◌, ◌+◌, ◌-◌, length, ap, ◌∙◌, arith}
use Rattle.std.specs.List.{insert}
use Rattle.df_tree.specs.Leaves.{items}
use Rattle.df_tree.proofs.EditLemmas.{items_put_in}
use Rattle.df_tree.proofs.ReadyLemmas.{reserved_room}
use Rattle.df_tree.proofs.seq.Seq.insert.Goals as goal

pub put_in-requires-clause-room : goal.put_in-requires-clause-room
put_in-requires-clause-room g c =
    let some : 0 < length (items {I = g.row.I.Denot} c.args.self.now.0) = omega (arith, c.len.ensures, c.if-len-eq0.false) in
    reserved_room {I = g.row.I.Denot} _ _ _ some c.in_ok-reserve_at.ensures.kept c.in_ok-reserve_at.ensures.reserved

pub returns-then-index-eq0 : goal.returns-then-index-eq0
returns-then-index-eq0 g c =
    let first : 0 + 0 ≡ c.args.index = omega (arith, c.if-index-eq0.true) in
    items_put_in {I = g.row.I.Denot} _ _ 0 0 c.args.item (omega arith) c.put_in.ensures.edited
    ∙ ap (λ l. insert l (0 + 0) c.args.item) c.in_ok-reserve_at.ensures.kept.items
    ∙ ap (λ n. insert (items {I = g.row.I.Denot} c.args.self.now.0) n c.args.item) first

pub put_in-requires-2-clause-room : goal.put_in-requires-2-clause-room
put_in-requires-2-clause-room g c =
    let some : c.args.index - 1 < length (items {I = g.row.I.Denot} c.args.self.now.0) = omega (arith, c.requires, c.if-index-eq0.false) in
    reserved_room {I = g.row.I.Denot} _ _ _ some c.in_ok-reserve_at-2.ensures.kept c.in_ok-reserve_at-2.ensures.reserved

pub returns : goal.returns
returns g c =
    let behind : c.args.index - 1 + 1 ≡ c.args.index = omega (arith, c.if-index-eq0.false) in
    items_put_in {I = g.row.I.Denot} _ _ (c.args.index - 1) 1 c.args.item (omega arith) c.put_in-2.ensures.edited
    ∙ ap (λ l. insert l (c.args.index - 1 + 1) c.args.item) c.in_ok-reserve_at-2.ensures.kept.items
    ∙ ap (λ n. insert (items {I = g.row.I.Denot} c.args.self.now.0) n c.args.item) behind
