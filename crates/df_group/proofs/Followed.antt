-- The totals of a group that were moved by its changes are those of its members.
use Rattle.std.proofs.Common.{◌≡◌, List, sym, subst, ◌∙◌}
use Rattle.std.specs.Prelude.{IfSome, None, Option, Some, option_map}
use Rattle.std.specs.FinMap as finite
use Rattle.df_value.specs.declared.cell.Cell.{Cell}
use Rattle.df_column.specs.Tables.{TableParts}
use Rattle.df_column.specs.declared.entry.Entry.{Entry}
use Rattle.df_group.specs.GroupIndex.{Follows, IsRowBefore, edited_table, members_now, totals_now, totals_of}
use Rattle.df_group.specs.Totals.{Lead, totals_over}
use Rattle.df_group.specs.declared.group.Group.{Group}
use Rattle.df_group.specs.declared.grouping.Grouping.{Grouping}
use Rattle.df_group.specs.declared.total.Total.{Total}
use Rattle.df_group.proofs.Totals.{totals_moved}

pub followed : (g : Grouping) (key : List Cell) (now : Option Group) (changes : List Entry) (members : TableParts) (totals moved : List Total) (entries : List Entry) → totals ≡ totals_now g now → entries ≡ changes
    → ((old : List (List Cell)) → totals ≡ totals_over totals old → Lead old entries (finite.values members.rows) → moved ≡ totals_over totals (finite.values members.rows))
    → Follows g key now changes → members ≡ edited_table (members_now g now) changes → moved ≡ totals_of g (finite.values members.rows)
followed g key now changes members totals moved entries is same made follows edited =
    let old = finite.values (members_now g now).rows in
    let lead : Lead old changes (finite.values members.rows) = subst (λ p. Lead old changes (finite.values p.rows)) (sym edited) follows.lead in
    totals_moved g totals moved old (finite.values members.rows) (is ∙ follows.own)
    (λ each. made old each (subst (λ es. Lead old es (finite.values members.rows)) (sym same) lead))

-- the row of the group before
pub row_followed : (g : Grouping) (key : List Cell) (now : Option Group) (changes : List Entry) (entries : List Entry) (new : List (List Cell)) → Follows g key now changes → entries ≡ changes
    → new ≡ finite.values (edited_table (members_now g now) changes).rows → IfSome (option_map (λ group. group.row) now) (λ row. IsRowBefore g key row entries new)
row_followed g key None changes entries new follows is edited = tt
row_followed g key (Some group) changes entries new follows is edited = record {
  old = finite.values group.members.rows;
  is = follows.row;
  lead = subst (λ es. Lead (finite.values group.members.rows) es new) (sym is) (subst (λ rs. Lead (finite.values group.members.rows) changes rs) (sym edited) follows.lead);
}
