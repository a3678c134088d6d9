-- The table of a view that is given, or is not there.
use Rattle.std.proofs.Common.{◌≡◌, ◌∙◌, ℕ, List, Option, Some, None, ap, refl, sym}
use Rattle.std.specs.Prelude.{bytes_eq, find, option_map}
use Rattle.std.specs.FinMap as finite
use Rattle.df_column.specs.Tables.{TableParts}
use Rattle.df_plan.specs.CheckedParts.{CheckedParts}
use Rattle.df_state.specs.Pictures.{PictureParts, rows_in}
use Rattle.df_state.specs.Reads.{view_named, view_schema_of}
use Rattle.df_state.specs.declared.state.State.{State}
use Rattle.df_catalogue.specs.KeptChanges.{tagged_table_of}
use Rattle.df_session.specs.Asked.{plan_named}
use Rattle.df_session.specs.declared.definitions.Definitions.{Definitions}
use Rattle.df_session.specs.declared.view_table.ViewTable.{ViewTable}
use Rattle.df_shell.specs.ViewTables.{IsTableIn, IsTableOf}

pub none-mapped : {X Y : Type 0} (f : X → Y) (o : Option X) → None ≡ option_map f o → o ≡ None
none-mapped f None e = refl
none-mapped f (Some x) e = cc

pub given-of :
    (s : State) (name : List ℕ) (o : Option TableParts) (t : TableParts) (v : ViewTable) → o ≡ Some t →
    option_map (λ (u : TableParts). finite.values u.rows) o ≡ option_map (λ w. w.table) (view_named name s.views) →
    option_map (λ (u : TableParts). u.rows) o ≡ tagged_table_of s name → option_map (λ (u : TableParts). u.schema) o ≡ view_schema_of s name →
    v.name ≡ name → v.schema ≡ t.schema → v.table ≡ t → IsTableOf s name v
given-of s name o t v is rows tags schema n c same = record {
  named = n;
  schema = sym schema ∙ (ap (option_map (λ (u : TableParts). u.schema)) is ∙ ap Some (sym c));
  tagged = sym tags ∙ (ap (option_map (λ (u : TableParts). u.rows)) is ∙ ap (λ (u : TableParts). Some u.rows) (sym same));
  rows = sym rows
      ∙ (ap (option_map (λ (u : TableParts). finite.values u.rows)) is ∙ ap (λ (u : TableParts). Some (finite.values u.rows)) (sym same));
}

pub given-in :
    (d : Definitions) (p : PictureParts) (name : List ℕ) (plan : Option CheckedParts) (q : CheckedParts) (o : Option TableParts) (t : TableParts) (v : ViewTable) →
    plan ≡ Some q → plan ≡ plan_named d name → o ≡ Some t → option_map rows_in o ≡ option_map (λ w. w.1) (find (λ w. bytes_eq w.0 name) p.views) →
    v.name ≡ name → v.schema ≡ q.schema → v.table ≡ t → IsTableIn d p name v
given-in d p name plan q o t v planned named is rows n c same = record {
  named = n;
  schema = ap (option_map (λ (r : CheckedParts). r.schema)) (sym named ∙ planned) ∙ ap Some (sym c);
  rows = sym rows ∙ (ap (option_map rows_in) is ∙ ap (λ (u : TableParts). Some (rows_in u)) (sym same));
}
