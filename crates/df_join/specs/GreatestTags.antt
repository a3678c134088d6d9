-- The greatest tag of rows, and the test whether it is at least a given one.
use Rattle.std.specs.Prelude.{◌≡◌, Bool, true, false, ◌||◌, not, cond, List, Option, Some, None, refl}
use Rattle.std.proofs.Common.{sym, ap, ◌∙◌}
use Rattle.std.specs.Ordering.{is_lt, ordering_reverse}
use Rattle.std.specs.declared.cmp.Ordering.{Ordering}
use Rattle.std.specs.declared.cmp.Ordering.TheVariants.{Less, Equal, Greater}
use Rattle.df_value.specs.declared.cell.Cell.{Cell}
use Rattle.df_column.specs.TagOrder.{tag_total}
use Rattle.df_column.specs.Tags.{tag_cmp}
use Rattle.df_column.specs.declared.tag.Tag.{Tag}
use Rattle.df_tree.specs.Laws.{MonoidLaws}
use Rattle.df_join.specs.declared.tree_table.tagged_row.GreatestTag.{GreatestTag}

abbrev pub some_tag : Option Tag → GreatestTag
some_tag o = record { tag = o }

-- that of no rows
abbrev pub no_tag : GreatestTag
no_tag = some_tag None

-- that of one row
abbrev pub tag_of : Tag × List Cell → GreatestTag
tag_of r = some_tag (Some r.0)

abbrev pub greater : Tag → Tag → Tag
greater a b = cond (is_lt (tag_cmp a b)) b a

abbrev pub greater_of : Option Tag → Option Tag → Option Tag
greater_of None b = b
greater_of (Some a) None = Some a
greater_of (Some a) (Some b) = Some (greater a b)

-- that of rows and those behind them
abbrev pub greatest : GreatestTag → GreatestTag → GreatestTag
greatest x y = some_tag (greater_of x.tag y.tag)

abbrev pub is_at_least : Tag → Option Tag → Bool
is_at_least tag None = false
is_at_least tag (Some a) = not (is_lt (tag_cmp a tag))

-- whether there is a tag that is at least this one
abbrev pub is_from : Tag → GreatestTag → Bool
is_from tag x = is_at_least tag x.tag

less : (r : Ordering) → is_lt r ≡ true → r ≡ Less
less Less e = refl
less Equal e = cc e
less Greater e = cc e

-- a tag that is not below another is below each tag only if the other one is, too
at_least_below : (a b c : Tag) → is_lt (tag_cmp a b) ≡ false → is_lt (tag_cmp a c) ≡ true → is_lt (tag_cmp b c) ≡ true
at_least_below a b c h l = elim (tag_cmp b a) as (λ r. tag_cmp b a ≡ r → is_lt (tag_cmp b c) ≡ true) [
  | Less ↦ λ e. ap is_lt (tag_total.trans b a c e (less (tag_cmp a c) l))
  | Equal ↦ λ e. ap is_lt (tag_total.congr b a c e) ∙ l
  | Greater ↦ λ e. let lower : is_lt (tag_cmp a b) ≡ true = ap is_lt (tag_total.antisymm a b ∙ ap ordering_reverse e) in cc (lower, h)
] refl

below_both : (a b c : Tag) → is_lt (tag_cmp a b) ≡ true → is_lt (tag_cmp b c) ≡ true → is_lt (tag_cmp a c) ≡ true
below_both a b c h l = ap is_lt (tag_total.trans a b c (less (tag_cmp a b) h) (less (tag_cmp b c) l))

or_true : (b : Bool) → true ≡ (b || true)
or_true true = refl
or_true false = refl

pub or_false : (b : Bool) → b ≡ (b || false)
or_false true = refl
or_false false = refl

-- the greater one is at least a tag where one of them is
at_least_either : (tag a b : Tag) → not (is_lt (tag_cmp (greater a b) tag)) ≡ (not (is_lt (tag_cmp a tag)) || not (is_lt (tag_cmp b tag)))
at_least_either tag a b =
    elim (is_lt (tag_cmp a b)) as (λ c. is_lt (tag_cmp a b) ≡ c → not (is_lt (tag_cmp (cond c b a) tag)) ≡ (not (is_lt (tag_cmp a tag)) || not (is_lt (tag_cmp b tag)))) [
      | true ↦ λ e. elim (is_lt (tag_cmp b tag)) as (λ d. is_lt (tag_cmp b tag) ≡ d → not d ≡ (not (is_lt (tag_cmp a tag)) || not d)) [
        | true ↦ λ p. sym (ap (λ x. not x || false) (below_both a b tag e p))
        | false ↦ λ p. or_true (not (is_lt (tag_cmp a tag)))
      ] refl
      | false ↦ λ e. elim (is_lt (tag_cmp a tag)) as (λ d. is_lt (tag_cmp a tag) ≡ d → not d ≡ (not d || not (is_lt (tag_cmp b tag)))) [
        | true ↦ λ p. sym (ap not (at_least_below a b tag e p))
        | false ↦ λ p. refl
      ] refl
    ] refl

greater_again : (a b c : Tag) → greater (greater a b) c ≡ greater a (greater b c)
greater_again a b c =
    elim (is_lt (tag_cmp a b)) as (λ x. is_lt (tag_cmp a b) ≡ x → greater (cond x b a) c ≡ greater a (greater b c)) [
      | true ↦ λ p. elim (is_lt (tag_cmp b c)) as (λ y. is_lt (tag_cmp b c) ≡ y → cond y c b ≡ greater a (cond y c b)) [
        | true ↦ λ q. sym (ap (λ z. cond z c a) (below_both a b c p q))
        | false ↦ λ q. sym (ap (λ z. cond z b a) p)
      ] refl
      | false ↦ λ p. elim (is_lt (tag_cmp b c)) as (λ y. is_lt (tag_cmp b c) ≡ y → greater a c ≡ greater a (cond y c b)) [
        | true ↦ λ q. refl
        | false ↦ λ q. elim (is_lt (tag_cmp a c)) as (λ z. is_lt (tag_cmp a c) ≡ z → cond z c a ≡ greater a b) [
          | true ↦ λ r. let above : is_lt (tag_cmp b c) ≡ true = at_least_below a b c p r in cc (above, q)
          | false ↦ λ r. sym (ap (λ z. cond z b a) p)
        ] refl
      ] refl
    ] refl

greater_of-none : (o : Option Tag) → greater_of o None ≡ o
greater_of-none None = refl
greater_of-none (Some a) = refl

greater_of-again : (o p q : Option Tag) → greater_of (greater_of o p) q ≡ greater_of o (greater_of p q)
greater_of-again None p q = refl
greater_of-again (Some a) None q = refl
greater_of-again (Some a) (Some b) None = refl
greater_of-again (Some a) (Some b) (Some c) = ap Some (greater_again a b c)

pub greatest_laws : MonoidLaws no_tag greatest
greatest_laws = record {
  nothing = refl;
  left = λ x y. refl;
  right = λ x y. ap some_tag (greater_of-none (greater_of x.tag y.tag));
  associative = λ x y z. ap some_tag (greater_of-again x.tag y.tag z.tag);
}

at_least_of : (tag : Tag) (o p : Option Tag) → is_at_least tag (greater_of o p) ≡ (is_at_least tag o || is_at_least tag p)
at_least_of tag None p = refl
at_least_of tag (Some a) None = or_false (not (is_lt (tag_cmp a tag)))
at_least_of tag (Some a) (Some b) = at_least_either tag a b

-- there is one among all rows where there is one on one side
pub is_from-greatest : (tag : Tag) (x y : GreatestTag) → is_from tag (greatest x y) ≡ (is_from tag x || is_from tag y)
is_from-greatest tag x y = at_least_of tag x.tag y.tag

pub is_from_stays : (tag : Tag) (x y : GreatestTag) → is_from tag x ≡ true → is_from tag (greatest x y) ≡ true
is_from_stays tag x y h = is_from-greatest tag x y ∙ ap (λ b. b || is_from tag y) h
