-- Making notes one after another.
use Rattle.std.proofs.Common.{◌≡◌, ◌<◌, ◌+◌, ℕ, Bool, true, false, cond, not, List, [], ◌∷◌, ◌++◌, length, take, get_or, Option, Some, None, refl, sym, ap, subst, ◌∙◌, append-nil}
use Rattle.std.specs.Prelude.{◌==◌}
use Rattle.std.specs.List.{flat_map}
use Rattle.std.specs.Ordering.{eq_by_cmp}
use Rattle.std.proofs.lemmas.List.{take_more, map-append}
use Rattle.std.proofs.lemmas.Grind.{flat_map-append}
use Rattle.std.specs.FinMap as finite
use Rattle.df_column.specs.declared.tag.Tag.{Tag}
use Rattle.df_join.specs.Rules.{Cells}
use Rattle.df_column.specs.Changes.{Change}
use Rattle.df_column.specs.Tags.{tag_cmp}
use Rattle.df_column.specs.Changes.{set_at, applied_list}
use Rattle.df_delta.specs.Notes.{IsNote}
use Rattle.df_column.specs.TagOrder.{tag_total}
use Rattle.df_delta.proofs.Changes.{get-set_at}
use Rattle.df_join.specs.Spread.{combine, no_tag}
use Rattle.df_delta.specs.Deltas.{Changes}
use Rattle.df_delta.specs.Notes.{moved, then_change}
use Rattle.df_join.specs.Rules.{joined_row}
use Rattle.df_join.specs.RowNotes.{Note, Leads, Noted, pair_notes, lone_notes, replaced_list, replaced_pair, right_list}
use Rattle.df_join.specs.declared.rule.JoinRule.{JoinRule}
use Rattle.df_join.proofs.Spread.{tied}
use Rattle.df_join.proofs.Fits.{fits_append, applied_append}

first_old : (n : Option (Change Cells)) (d : Change Cells) (x y : Option Cells) → IsNote n x y → y ≡ d.old → (then_change n d).old ≡ x
first_old None d x y h e = sym (h ∙ e)
first_old (Some c) d x y h e = h.0

last_new : (n : Option (Change Cells)) (d : Change Cells) → (then_change n d).new ≡ d.new
last_new None d = refl
last_new (Some c) d = refl

both_noted : (c : Change Cells) (x y : Option Cells) → c.old ≡ x → c.new ≡ y → IsNote (Some c) x y
both_noted c x y p q = (p, q)

-- a change noted behind what is noted at its tag
pub noted_one : (notes : Changes) (tag : Tag) (d : Change Cells) → Noted notes (finite.insert notes tag (then_change (finite.get notes tag) d)) ((tag, d) ∷ [])
noted_one notes tag d = record {
  after = λ from to leads fits. record {
    at = λ q.
        let c : Change Cells = then_change (finite.get notes tag) d in
        subst (λ n. IsNote n (finite.get from q) (finite.get (set_at to tag d.new) q)) (sym (finite.get-insert tag_total notes tag c q))
        (subst (λ y. IsNote (cond (eq_by_cmp tag_cmp q tag) (Some c) (finite.get notes q)) (finite.get from q) y) (sym (get-set_at tag_total to tag d.new q))
        (elim (eq_by_cmp tag_cmp q tag) as (λ b. eq_by_cmp tag_cmp q tag ≡ b → IsNote (cond b (Some c) (finite.get notes q)) (finite.get from q) (cond b d.new (finite.get to q))) [
          | true ↦ λ b. both_noted c (finite.get from q) d.new (first_old (finite.get notes tag) d (finite.get from tag) (finite.get to tag) (leads.at tag) fits.0 ∙ ap (finite.get from) (sym (tied q tag b))) (last_new (finite.get notes tag) d)
          | false ↦ λ b. leads.at q
        ] refl));
  };
}

pub noted_as : (a b : Changes) (tag q : Tag) (d e : Change Cells) → b ≡ finite.insert a tag (then_change (finite.get a tag) d) → tag ≡ q → d ≡ e → Noted a b ((q, e) ∷ [])
noted_as a b tag q d e made same is = subst (λ b. Noted a b ((q, e) ∷ [])) (sym made) (subst (λ es. Noted a (finite.insert a tag (then_change (finite.get a tag) d)) es) (λ i. (same i, is i) ∷ []) (noted_one a tag d))

pub noted_at : {a b : Changes} {d : Change Cells} (tag q : Tag) → tag ≡ q → Noted a b ((tag, d) ∷ []) → Noted a b ((q, d) ∷ [])
noted_at {a} {b} {d} tag q e noted = subst (λ t. Noted a b ((t, d) ∷ [])) e noted

pub noted_nothing : (es : Changes) → Noted es es []
noted_nothing es = record { after = λ from to leads fits. leads }

pub noted_append : (a b c : Changes) (ns ms : List Note) → Noted a b ns → Noted b c ms → Noted a c (ns ++ ms)
noted_append a b c ns ms p q = record {
  after = λ from to leads fits.
      let both = fits_append to ns ms fits in
      subst (Leads c from) (sym (applied_append to ns ms)) (q.after from (applied_list to ns) (p.after from to leads both.0) both.1);
}

pub pairs_more : (rule : JoinRule) (one goes : Bool) (tag : Tag) (left : Cells) (items : List (Tag × Cells)) (i : ℕ) (e : Tag × Cells) (a b c : Changes) → i < length items → e ≡ get_or items i e
    → Noted a b (pair_notes rule one goes tag left (take i items))
    → Noted b c ((combine one tag e.0, moved goes (joined_row rule left (Some e.1))) ∷ [])
    → Noted a c (pair_notes rule one goes tag left (take (i + 1) items))
pairs_more rule one goes tag left items i e a b c lt is p q =
    subst (Noted a c) (sym (ap (pair_notes rule one goes tag left) (take_more items i e lt ∙ ap (λ x. take i items ++ x ∷ []) (sym is)) ∙ map-append (λ (f : Tag × Cells). (combine one tag f.0, moved goes (joined_row rule left (Some f.1)))) (take i items) (e ∷ [])))
    (noted_append a b c _ _ p q)

pub rights_more : (rule : JoinRule) (one lone goes : Bool) (tag : Tag) (right : Cells) (items : List (Tag × Cells)) (i : ℕ) (e : Tag × Cells) (a b c n : Changes) → i < length items → e ≡ get_or items i e
    → Noted a b (right_list rule one lone goes tag right (take i items))
    → Noted b c (lone_notes rule one lone (not goes) e.0 e.1)
    → Noted c n ((combine one e.0 tag, moved goes (joined_row rule e.1 (Some right))) ∷ [])
    → Noted a n (right_list rule one lone goes tag right (take (i + 1) items))
rights_more rule one lone goes tag right items i e a b c n lt is p q r =
    let notes_of = λ (e : Tag × Cells). lone_notes rule one lone (not goes) e.0 e.1 ++ (combine one e.0 tag, moved goes (joined_row rule e.1 (Some right))) ∷ [] in
    subst (Noted a n) (sym (ap (right_list rule one lone goes tag right) (take_more items i e lt ∙ ap (λ x. take i items ++ x ∷ []) (sym is)) ∙ flat_map-append notes_of (take i items) (e ∷ []) ∙ ap (λ ns. flat_map notes_of (take i items) ++ ns) (append-nil (notes_of e))))
    (noted_append a b n _ _ p (noted_append b c n _ _ q r))

pub replaced_more : (rule : JoinRule) (one : Bool) (tag : Tag) (y z : Cells) (items : List (Tag × Cells)) (i : ℕ) (e : Tag × Cells) (a b c : Changes) → i < length items → e ≡ get_or items i e
    → Noted a b (replaced_list rule one tag y z (take i items))
    → Noted b c ((combine one e.0 tag, replaced_pair rule e.1 y z) ∷ [])
    → Noted a c (replaced_list rule one tag y z (take (i + 1) items))
replaced_more rule one tag y z items i e a b c lt is p q =
    subst (Noted a c) (sym (ap (replaced_list rule one tag y z) (take_more items i e lt ∙ ap (λ x. take i items ++ x ∷ []) (sym is)) ∙ map-append (λ (f : Tag × Cells). (combine one f.0 tag, replaced_pair rule f.1 y z)) (take i items) (e ∷ [])))
    (noted_append a b c _ _ p q)

module _ (rule : JoinRule) (one : Bool) (a b : Changes) (goes : Bool) (tag : Tag) (left : Cells) where
  pub alone_stays : (stays : Bool) → stays ≡ true → Noted a b ((combine one tag no_tag, moved goes (joined_row rule left None)) ∷ []) → Noted a b (lone_notes rule one stays goes tag left)
  alone_stays stays e noted = subst (λ s. Noted a b (lone_notes rule one s goes tag left)) (sym e) noted
