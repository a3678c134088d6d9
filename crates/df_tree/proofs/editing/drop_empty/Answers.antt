use Rattle.df_tree.specs.Level.{AllParts}
use Rattle.df_tree.proofs.LevelLemmas.{one_gone, one_stays}
use Rattle.std.proofs.Common.{◌<◌, length, sym, arith, subst}
use Rattle.df_tree.specs.Leaves.{leaves_of_parts, Kept}
use Rattle.df_tree.proofs.HalfLemmas.{kept_gone}
use Rattle.df_tree.proofs.editing.drop_empty.Goals as goal

pub returns-then-len-eq0-clause-kept : goal.returns-then-len-eq0-clause-kept
returns-then-len-eq0-clause-kept g c =
    let near : c.args.at < length c.args.parts.now.items = omega (arith, c.requires, c.args.parts.now.ok) in
    subst (λ ks. Kept {I = g.row.I.Denot} (leaves_of_parts {I = g.row.I.Denot} c.args.parts.now.items) (leaves_of_parts {I = g.row.I.Denot} ks)) (sym c.remove-empty.ensures.items)
    (kept_gone {I = g.row.I.Denot} c.args.parts.now.items c.args.at c.index.result.now near c.index.ensures (omega (arith, c.len.ensures, c.if-len-eq0.true)))

pub returns-then-len-eq0-clause-level : goal.returns-then-len-eq0-clause-level
returns-then-len-eq0-clause-level g c = λ r a.
    subst (AllParts {I = g.row.I.Denot} r) (sym c.remove-empty.ensures.items) (one_gone {I = g.row.I.Denot} r c.args.at c.args.parts.now.items a)

pub returns-else-len-eq0-clause-level : goal.returns-else-len-eq0-clause-level
returns-else-len-eq0-clause-level g c = λ r a.
    one_stays {I = g.row.I.Denot} r c.args.at c.args.parts.now.items c.index.result.now a c.index.ensures (omega (arith, c.len.ensures, c.if-len-eq0.false))
