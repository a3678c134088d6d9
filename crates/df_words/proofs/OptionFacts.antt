-- What a parse of the command line gives for an option with a number.
use Rattle.std.proofs.Common.{◌≡◌, ◌∙◌, ◌<◌, ◌≤◌, ap, ℕ, Bool, true, false, List, [], ◌∷◌, length, Option, Some, None, refl, sym, subst, inl, inr, arith, zero, suc, map}
use Rattle.std.specs.Prelude.{IfSome, slice_get, codes, not, option_and_then, option_map, slice_index}
use Rattle.std.specs.List.{All, slice_index_or}
use Rattle.std.specs.Str.{bytes_eq}
use Rattle.std.specs.Borrow.{Bor}
use Rattle.std.proofs.lemmas.Bool.{cases_lt, eqb-true}
use Rattle.std.proofs.lemmas.List.{get_or-map, length-map}
use Rattle.std.proofs.lemmas.List.Elements.{All-get_or}
use Rattle.std.proofs.lemmas.Slice.Eq.{bytes_eq-Decides}
use Rattle.clap.specs.Words.{App, Rule, app_of, found_of, is_simple, matched_of, one_text, read_as, reading_of, rule_of}
use Rattle.clap.specs.Values.{IsUnsignedIn, Accepts}
use Rattle.clap.specs.Facts.{args_of, groups_of, Entry, EntryPasses, HasReading, PassesArg, parser_of, parser_of_value}
use Rattle.clap.specs.Built.{IsAuto, IsParsedFrom, NamesNoGroup, SameRules}
use Rattle.clap.specs.Walk.{is_empty, is_simple_arg}
use Rattle.clap.proofs.WalkLemmas.{both}
use Rattle.clap.proofs.OnLiterals.{clap_on_literals}
use Rattle.clap.proofs.CallerLemmas.{entry_by_id}
use Rattle.clap.specs.declared.builder.arg.Arg.{Arg}
use Rattle.clap.specs.declared.builder.command.Command.{Command}
use Rattle.clap.specs.declared.builder.command.Command.TheViews.{out-Command}
use Rattle.clap.specs.declared.builder.value_parser.Reading.{Reading}
use Rattle.clap.specs.declared.builder.value_parser.Reading.TheVariants as reading
use Rattle.clap.specs.declared.builder.value_parser.ValueParser.{ValueParser}
use Rattle.clap.specs.declared.builder.value_parser.ValueParser.TheVariants as parser
use Rattle.clap.specs.declared.parser.matches.ArgMatches.{ArgMatches}
use Rattle.clap.specs.declared.parser.matches.Found.{Found}
use Rattle.clap.specs.declared.parser.matches.MatchedArg.{MatchedArg}
use Rattle.df_words.specs.RunLine.{command_line, number_or}

-- each rule of this name has this parser
abbrev Parses : List ℕ → ValueParser → Rule → Type 0
Parses name q r = bytes_eq r.id name ≡ true → r.parser ≡ Some q

-- the parser of an argument of the built command that has the name of an option
parser_here : (c : Command) (m : ArgMatches) (p : IsParsedFrom c m) (name : List ℕ) (q : ValueParser)
    → All (Parses name q) (map rule_of (args_of c))
    → (name ≡ codes "help" → ⊥) → (name ≡ codes "version" → ⊥)
    → (j : ℕ) (x : Arg) → j < length (args_of p.built) → slice_index_or (args_of p.built) j x ≡ x → bytes_eq x.id.now name ≡ true
    → parser_of x ≡ q
parser_here c m p name q all no_help no_version j x high at same =
    let x_id : x.id.now ≡ name = (bytes_eq-Decides x.id.now name).0 same in
    elim (cases_lt j (length (args_of c))) [
      | inl under ↦
          let s = subst (λ w. SameRules (slice_index_or (args_of c) j x) w) at (p.from.kept j x under).1 in
          let there = get_or-map rule_of (args_of c) j x (rule_of x) under in
          let old_same : bytes_eq (slice_index_or (args_of c) j x).id.now name ≡ true = rw (← s.id) same in
          let long = length-map (args_of c) rule_of in
          let rule = all j (rule_of x) (omega arith) in
          let old_parser : (slice_index_or (args_of c) j x).value_parser ≡ Some q = rw there at rule old_same in
          ap parser_of_value (s.parser q old_parser)
      | inr over ↦
          let flag = subst IsAuto at (p.from.extra j x over high) in
          absurd (elim flag [ inl h ↦ no_help (sym x_id ∙ h) | inr h ↦ no_version (sym x_id ∙ h) ])
    ]

-- what an option's parser lets through stands in its limits
in_limits : (b : Bool) (q : ValueParser) (low high : ℕ) (t : List ℕ) → q ≡ parser.Unsigned low high → Accepts b q t → IsUnsignedIn low high t
in_limits b q low high t is accepted = subst (λ (w : ValueParser). Accepts b w t) is accepted

-- the arguments of a command that have this name read numbers in these limits
abbrev ReadsIn : Command → List ℕ → ℕ → ℕ → Type 0
ReadsIn c name low high = (j : ℕ) (x : Arg) → j < length (args_of c) → slice_index_or (args_of c) j x ≡ x → bytes_eq x.id.now name ≡ true → parser_of x ≡ parser.Unsigned low high

value_in : (c : Command) (name : List ℕ) (low high : ℕ) → ReadsIn c name low high → (v : List ℕ) → PassesArg c name v → IsUnsignedIn low high v
value_in c name low high reads v any = in_limits any.1.ignore_case (parser_of any.1) low high v (reads any.0 any.1 any.2 any.3 any.4.0) any.4.1

plainly_read : (c : Command) (name : List ℕ) (low high : ℕ) → ReadsIn c name low high → (r : Reading) → HasReading c name r → r ≡ reading.AsWritten
plainly_read c name low high reads r any = sym any.4.1 ∙ ap reading_of (reads any.0 any.1 any.2 any.3 any.4.0)

first_in : (c : Command) (name : List ℕ) (low high : ℕ) → ReadsIn c name low high → (vs : List (Bor (List ℕ)))
    → All (λ (v : Bor (List ℕ)). PassesArg c name v.now) vs → IfSome (option_map (λ s. read_as reading.AsWritten s.now) (slice_get vs 0)) (IsUnsignedIn low high)
first_in c name low high reads [] all = tt
first_in c name low high reads (v ∷ vs) all =
    value_in c name low high reads v.now (All-get_or (λ (v : Bor (List ℕ)). PassesArg c name v.now) (v ∷ vs) 0 v (omega arith) all)

-- the entry of an option
entry_in : (c : Command) (name : List ℕ) (low high : ℕ) → ReadsIn c name low high → groups_of c ≡ [] → (name ≡ [] → ⊥)
    → (e : Entry) → e.0.now ≡ name → EntryPasses c e → IfSome (option_map (λ s. read_as e.1.reading s.now) (slice_get e.1.vals.items 0)) (IsUnsignedIn low high)
entry_in c name low high reads no_groups named e key passes =
    let no_group : e.1.is_group ≡ true → ⊥ = λ g. elim (passes.3 g) [
      | inl empty ↦ named (sym key ∙ empty)
      | inr lots ↦
          let bad : 0 < 0 = rw no_groups at lots in
          absurd (omega arith)
    ] in
    let all : All (λ (v : Bor (List ℕ)). PassesArg c name v.now) e.1.vals.items = elim passes.0 [
      | inl g ↦ absurd (no_group g)
      | inr vals ↦ subst (λ (w : List ℕ). All (λ (v : Bor (List ℕ)). PassesArg c w v.now) e.1.vals.items) key vals
    ] in
    let is : e.1.reading ≡ reading.AsWritten = elim passes.4 [
      | inl g ↦ absurd (no_group g)
      | inr h ↦ plainly_read c name low high reads e.1.reading (subst (λ (w : List ℕ). HasReading c w e.1.reading) key h)
    ] in
    subst (λ (r : Reading). IfSome (option_map (λ s. read_as r s.now) (slice_get e.1.vals.items 0)) (IsUnsignedIn low high)) (sym is)
    (first_in c name low high reads e.1.vals.items all)

-- the text of an option of a built command, if it has one
entry_text : (c : Command) (f : Found) (name : List ℕ) (low high : ℕ) → All (EntryPasses c) f.entries.items → groups_of c ≡ [] → (name ≡ [] → ⊥)
    → ReadsIn c name low high → IfSome (one_text f name) (IsUnsignedIn low high)
entry_text c f name low high entries no_groups named reads = go (matched_of f name) refl
  where
    go : (o : Option MatchedArg) → matched_of f name ≡ o → IfSome (one_text f name) (IsUnsignedIn low high)
    go None found = subst (λ (o : Option MatchedArg). IfSome (option_and_then (λ (a : MatchedArg). option_map (λ s. read_as a.reading s.now) (slice_get a.vals.items 0)) o) (IsUnsignedIn low high)) (sym found) tt
    go (Some x) found =
        let got = entry_by_id (EntryPasses c) f.entries.items name x entries found in
        let here = entry_in c name low high reads no_groups named got.0 ((bytes_eq-Decides got.0.0.now name).0 got.2) got.3 in
        let is : matched_of f name ≡ Some got.0.1 = found ∙ ap (λ (a : MatchedArg). Some a) (sym got.1) in
        subst (λ (o : Option MatchedArg). IfSome (option_and_then (λ (a : MatchedArg). option_map (λ s. read_as a.reading s.now) (slice_get a.vals.items 0)) o) (IsUnsignedIn low high)) (sym is) here

empty_is : {X : Type 0} (xs : List X) → is_empty xs ≡ true → xs ≡ []
empty_is [] h = refl
empty_is (x ∷ xs) h =
    let none : suc (length xs) ≡ 0 = eqb-true _ _ h in
    absurd (omega arith)

false_is : (b : Bool) → not b ≡ true → b ≡ false
false_is true h = cc
false_is false h = refl

-- the arguments of the command line name no group
names_no_group : (c : Command) → app_of c ≡ command_line → NamesNoGroup c
names_no_group c is k d lt =
    let there = get_or-map rule_of (args_of c) k d (rule_of d) lt in
    let rules_are : map rule_of (args_of c) ≡ command_line.top.rules = ap (λ (a : App). a.top.rules) is in
    let long = length-map (args_of c) rule_of in
    let all : All (λ (r : Rule). r.is_simple ≡ true) (map rule_of (args_of c)) = subst (All (λ (r : Rule). r.is_simple ≡ true)) (sym rules_are) each_simple in
    let rule = all k (rule_of d) (omega arith) in
    let simple : is_simple_arg (slice_index_or (args_of c) k d) ≡ true = rw there at rule in
    empty_is _ (both _ _ (both _ _ (both _ _ simple).1).1).0
  where
    each_simple : All (λ (r : Rule). r.is_simple ≡ true) command_line.top.rules
    each_simple zero r lt = refl
    each_simple (suc zero) r lt = refl
    each_simple (suc (suc zero)) r lt = refl
    each_simple (suc (suc (suc k))) r lt = absurd (omega arith)

-- After a parse of the command line the text of an option, if it has one, is a number in the option's limits.
pub option_text : (c : Command) (m : ArgMatches) → IsParsedFrom c m → app_of c ≡ command_line → (name : List ℕ) (most : ℕ)
    → All (Parses name (parser.Unsigned 1 most)) command_line.top.rules → (name ≡ [] → ⊥) → (name ≡ codes "help" → ⊥) → (name ≡ codes "version" → ⊥)
    → IfSome (one_text (found_of m) name) (IsUnsignedIn 1 most)
option_text c m p is name most parses named no_help no_version =
    let plain = ap (λ (a : App). a.top.is_plain) is in
    let groups = (both _ _ plain).0 in
    let globals = (both _ _ (both _ _ (both _ _ plain).1).1).0 in
    let no_globals : (out-Command c).has_globals ≡ false = false_is _ globals in
    let no_groups : groups_of c ≡ [] = empty_is _ groups in
    let kept = p.from.same_groups (names_no_group c is) in
    let rules_are : map rule_of (args_of c) ≡ command_line.top.rules = ap (λ (a : App). a.top.rules) is in
    let all = subst (All (Parses name (parser.Unsigned 1 most))) (sym rules_are) parses in
    entry_text p.built (found_of m) name 1 most (p.parsed (p.from.globals ∙ no_globals)).values (kept.1 ∙ no_groups) named
    (parser_here c m p name (parser.Unsigned 1 most) all no_help no_version)

-- two texts that are one begin with one byte
unlike : {s t : List ℕ} → s ≡ t → slice_index s 0 ≡ slice_index t 0
unlike e = ap (λ u. slice_index u 0) e

pub workers_text : (c : Command) (m : ArgMatches) → IsParsedFrom c m → app_of c ≡ command_line
    → IfSome (one_text (found_of m) (codes "workers")) (IsUnsignedIn 1 16)
workers_text c m p is = option_text c m p is (codes "workers") 16 parses
    (λ e. let bad : 119 ≡ 0 = unlike e in absurd (omega arith))
    (λ e. let bad : 119 ≡ 104 = unlike e in absurd (omega arith))
    (λ e. let bad : 119 ≡ 118 = unlike e in absurd (omega arith))
  where
    parses : All (Parses (codes "workers") (parser.Unsigned 1 16)) command_line.top.rules
    parses zero r lt same = cc
    parses (suc zero) r lt same = refl
    parses (suc (suc zero)) r lt same = cc
    parses (suc (suc (suc k))) r lt same = absurd (omega arith)

pub chunk_text : (c : Command) (m : ArgMatches) → IsParsedFrom c m → app_of c ≡ command_line
    → IfSome (one_text (found_of m) (codes "chunk")) (IsUnsignedIn 1 65536)
chunk_text c m p is = option_text c m p is (codes "chunk") 65536 parses
    (λ e. let bad : 99 ≡ 0 = unlike e in absurd (omega arith))
    (λ e. let bad : 99 ≡ 104 = unlike e in absurd (omega arith))
    (λ e. let bad : 99 ≡ 118 = unlike e in absurd (omega arith))
  where
    parses : All (Parses (codes "chunk") (parser.Unsigned 1 65536)) command_line.top.rules
    parses zero r lt same = cc
    parses (suc zero) r lt same = cc
    parses (suc (suc zero)) r lt same = refl
    parses (suc (suc (suc k))) r lt same = absurd (omega arith)

-- the number of an option, or the one that it has without a text, stands in the limits
pub number_in : (low high missing : ℕ) (text : Option (List ℕ)) → IfSome text (IsUnsignedIn low high) → low ≤ missing → missing ≤ high
    → (low ≤ number_or missing text) × (number_or missing text ≤ high)
number_in low high missing None limits least most = (least, most)
number_in low high missing (Some t) limits least most = (limits.2, limits.3)

-- the command line is one of which clap's own words give the matches
pub is_exact : is_simple command_line ≡ true
unfolding clap_on_literals
is_exact = refl
