use Rattle.std.proofs.Common.{◌≡◌, ◌∙◌, true, ap, arith, length, refl, subst, sym}
use Rattle.std.specs.Prelude.{Option, Some, None, is_none}
use Rattle.std.proofs.lemmas.List.{with_items_is}
use Rattle.df_state.specs.declared.state.StagedParts.{StagedParts}
use Rattle.df_state.specs.Desks.{AreInOrder}
use Rattle.df_shell.proofs.NextNumberFacts.{numbered-after}
use Rattle.df_session.specs.Numbers.{noted}
use Rattle.df_shell.proofs.store.Store.apply.Goals as goal

pub apply-made-requires : goal.apply-made-requires
apply-made-requires g c = subst (λ ds. AreInOrder ds c.args.self.now.catalogue.state) (sym c.as_mut_slice-desks.ensures.value) c.args.self.now.in_order

none-there : (o : Option StagedParts) → is_none o ≡ true → o ≡ None
none-there None h = refl
none-there (Some s) h = cc

pub invariant_of-self : goal.invariant_of-self
invariant_of-self g c =
    let old = c.args.self.now in
    let long : length c.apply-made.new.desks ≡ old.desks.len = omega (arith, c.apply-made.auto.desks, c.as_mut_slice-desks.ensures.len) in
    record {
      in_order = subst (λ ds. AreInOrder ds c.apply-made.new.self.state) (sym (with_items_is old.desks c.apply-made.new.desks long)) c.apply-made.ensures.in_order;
      nothing_staged = ap is_none (c.apply-made.ensures.nothing_staged (none-there _ old.nothing_staged));
      numbered = numbered-after old.catalogue.state c.apply-made.new.self.state c.args.change c.apply-made.result c.end_of-end.result old.numbers
          c.note.new.self c.apply-made.ensures.state.after c.apply-made.ensures.state.same old.numbered c.end_of-end.ensures (c.note.ensures ∙ ap (λ e. noted e old.numbers) c.end_if_made.ensures);
    }
