use Rattle.std.proofs.Common.{subst, sym}
use Rattle.df_tree.specs.Leaves.{items_in}
use Rattle.df_join.specs.Places.{IsPlace}
use Rattle.df_join.proofs.Places.{place_behind, place_found}
use Rattle.df_join.proofs.tree_table.edits.place_of.Goals as goal

pub returns-in-Some : goal.returns-in-Some
returns-in-Some c = place_found c.args.tag (items_in c.args.rows.now) c.in-Some.index c.in-Some.ensures

pub returns-in-None : goal.returns-in-None
returns-in-None c = subst (IsPlace c.args.tag (items_in c.args.rows.now)) (sym c.len.ensures) (place_behind c.args.tag (items_in c.args.rows.now) c.in-None.ensures)
