-- The types and the dependences of a specification that was read fit what it declares.
use Rattle.std.proofs.Common.{codes, ◌≡◌, ◌≢◌, ℕ, zero, suc, ◌+◌, ◌<◌, ◌≤◌, nat_eq, nat_le, refl, sym, ap, ◌∙◌, subst, Bool, true, false, not, ◌&&◌}
use Rattle.std.proofs.Common.{◌||◌, List, [], ◌∷◌, ◌++◌, map, length, Option, Some, None, Result, Ok, Err, IfOk, is_some, arith, length-append}
use Rattle.std.proofs.lemmas.List.{map-append, length-map}
use Rattle.std.proofs.lemmas.Bool.{and_parts, and_from, both_ways, eq-eqb, eqb-true, leb-true, leb-false}
use Rattle.std.specs.List.{list_any}
use Rattle.aw_list.proofs.Members.{got_map as get_map}
use Rattle.aw_list.proofs.Everyday.{get_within, get-left as get_front}
use Rattle.aw_spelling.specs.Spelling.{is_name}
use Rattle.aw_name_index.specs.Places.{number_of, place_of}
use Rattle.aw_name_index.proofs.FirstTold.{NoneHolds}
use Rattle.aw_name_index.proofs.Lookups.{place_within}
use Rattle.aw_term.specs.WellFormed.{Each}
use Rattle.aw_term.proofs.Eaches.{each_push, each_map}
use Rattle.aw_grammar.specs.declared.rule.Con.{Con}
use Rattle.aw_grammar.specs.declared.rule.Sort.{Sort}
use Rattle.aw_grammar.specs.declared.raw.RawCon.{RawCon}
use Rattle.aw_grammar.specs.declared.raw.RawSort.{RawSort}
use Rattle.aw_grammar.specs.declared.fault.DeclKind.{DeclKind}
use Rattle.aw_grammar.specs.Declarations.{Declarations, con_names, sort_names, sort_declared, with_con, with_sort, with_start_at, with_rule}
use Rattle.aw_grammar.specs.Written.{WrittenRule}
use Rattle.aw_grammar.proofs.FaultlessRule.{or_true}
use Rattle.aw_face.specs.declared.faces.FaceKind.{FaceKind}
use Rattle.aw_base.specs.declared.declared.Triple.{Triple}
use Rattle.aw_typed.specs.declared.data.Shape.{Shape}
use Rattle.aw_typed.specs.declared.data.Carry.{Carry}
use Rattle.aw_spec.specs.declared.fault.SpecFault.{SpecFault}
use Rattle.aw_spec.specs.declared.spec_text.SpecText.{SpecText}
use Rattle.aw_spec.specs.Answers.{Spells}
use Rattle.aw_spec.specs.Declares.{IsDeclared}
use Rattle.aw_term_reader.proofs.Steps.{bound}
use Rattle.aw_spec.specs.Lines.{Line, RoleLine, ConLine, SortLine, StartLine, OfferLine, UseLine, TypeLine, ShapeLine, CarryLine, DependsLine, FreeLine, RuleLine, ScheduleLine}
use Rattle.aw_spec.specs.TypeLines.{type_names, types_named, shape_named, carry_named, is_other_arity, are_other_counts, are_no_positions, is_position}
use Rattle.aw_spec.specs.TypesFit.{Alongside, is_empty, ShapeFits, CarryFits, IsOfSort, AreTwo, arities_in, counts_in, TypesFit}
use Rattle.aw_spec.specs.Reading.{Spec, Draft, On, declaring, if_kept, keeping, says, with_no_shape, with_no_carry, offer_tests, with_offer, use_tests}
use Rattle.aw_spec.specs.Reading.{with_use, type_tests, with_type, con_place, sort_place, shape_tests, with_shape, carry_tests, with_carry}
use Rattle.aw_spec.specs.Reading.{depends_tests, with_depends, free_tests, with_free, no_draft, Good, specification}
use Rattle.aw_spec.specs.Views.{spec_seen}
use Rattle.aw_spec.proofs.KeptLines.{reading_keeps}
use Rattle.aw_spec.proofs.Tested.{tested_on}
use Rattle.aw_spec.proofs.TypeSteps.{alongside_push, alongside_map, alongside_set, alongside_length, any_set, any_none, later_push, each_untested, others_apart, numbers_within}

pub on_is : (x y : Spec) → On x ≡ On y → x ≡ y
on_is x y e = cc

abbrev counts : Sort → ℕ × ℕ
counts s = (s.takes, s.gives)

abbrev arity : Con → ℕ
arity c = c.arity

not_false : (b : Bool) → not b ≡ false → b ≡ true
not_false true h = refl
not_false false h = cc

declared_fits : (s after : Spec) (kind : Option DeclKind) (d : Declarations) → declaring s kind d ≡ On after → TypesFit (record s { declared = d }) → TypesFit after
declared_fits s after None d e fit = subst TypesFit (on_is (record s { declared = d }) after e) fit
declared_fits s after (Some kind) d e fit = cc

con_fits : (s : Spec) (c : RawCon) → TypesFit s → TypesFit (record (with_no_shape s) { declared = with_con s.declared c })
con_fits s c fit =
    let n = 2 + length s.types.names in
    record {
      typed = fit.typed ∙ ap (λ b. not (is_empty s.types.names) || (b || list_any (λ (o : Option Carry). is_some o) s.types.carries)) (sym (any_none s.types.shapes));
      few_types = fit.few_types;
      named = fit.named;
      differ = fit.differ;
      shapes = subst (λ arities. Alongside (ShapeFits n) arities (s.types.shapes ++ None ∷ [])) (sym (map-append arity s.declared.cons (record { name = c.name; arity = c.arity } ∷ [])))
          (alongside_push (ShapeFits n) (arities_in s.declared) s.types.shapes c.arity None fit.shapes tt);
      carries = fit.carries;
      depends = fit.depends;
      declared_once = fit.declared_once;
    }

of_more : (some more : List (ℕ × ℕ)) (d : Triple) → IsOfSort some d → IsOfSort (some ++ more) d
of_more some more d h = (h.0, get_front some more d.sort h.0 h.1, h.2, h.3, h.4, h.5)

sort_fits : (s : Spec) (r : RawSort) → TypesFit s → TypesFit (record (with_no_carry s) { declared = with_sort s.declared r })
sort_fits s r fit =
    let n = 2 + length s.types.names in
    let more = map-append counts s.declared.sorts (sort_declared s.declared r ∷ []) in
    let one : List (ℕ × ℕ) = (r.takes, r.gives) ∷ [] in
    record {
      typed = fit.typed ∙ ap (λ b. not (is_empty s.types.names) || (list_any (λ (o : Option Shape). is_some o) s.types.shapes || b)) (sym (any_none s.types.carries));
      few_types = fit.few_types;
      named = fit.named;
      differ = fit.differ;
      shapes = fit.shapes;
      carries = subst (λ cs. Alongside (CarryFits n) cs (s.types.carries ++ None ∷ [])) (sym more)
          (alongside_push (CarryFits n) (counts_in s.declared) s.types.carries (r.takes, r.gives) None fit.carries tt);
      depends = subst (λ cs. Each (IsOfSort cs) s.depends) (sym more) (each_map (IsOfSort (counts_in s.declared))
          (IsOfSort (counts_in s.declared ++ one)) s.depends (λ d h. of_more (counts_in s.declared) one d h) fit.depends);
      declared_once = fit.declared_once;
    }

counts_start : (sorts : List Sort) (i : ℕ) → map counts (with_start_at sorts i) ≡ map counts sorts
counts_start [] i = refl
counts_start (s ∷ sorts) zero = refl
counts_start (s ∷ sorts) (suc i) = ap (λ cs. counts s ∷ cs) (counts_start sorts i)

-- types

pub not_empty : (ns : List (List ℕ)) (n : List ℕ) → is_empty (ns ++ n ∷ []) ≡ false
not_empty [] n = refl
not_empty (m ∷ ns) n = refl

shape_below : (n m arity : ℕ) → n ≤ m → (o : Option Shape) → ShapeFits n arity o → ShapeFits m arity o
shape_below n m arity le None h = tt
shape_below n m arity le (Some x) h = (h.0, omega (arith, h.1, le), each_map (λ t. t < n) (λ t. t < m) x.parts (λ t less. omega (arith, less, le)) h.2)

carry_below : (n m : ℕ) (c : ℕ × ℕ) → n ≤ m → (o : Option Carry) → CarryFits n c o → CarryFits m c o
carry_below n m c le None h = tt
carry_below n m c le (Some k) h =
    (h.0, h.1, each_map (λ t. t < n) (λ t. t < m) k.takes (λ t less. omega (arith, less, le)) h.2, each_map (λ t. t < n) (λ t. t < m) k.gives (λ t less. omega (arith, less, le)) h.3)

type_fits : (s : Spec) (name : List ℕ) → is_name name ≡ true → NoneHolds (type_tests s name) → TypesFit s → TypesFit (with_type s name)
type_fits s name named none fit =
    let names = s.types.names in
    let n = 2 + length names in
    let m = 2 + length (names ++ name ∷ []) in
    let few : length names < 256 = leb-false 256 (length names) none.0 in
    let le : n ≤ m = omega (arith, length-append names (name ∷ [])) in
    record {
      typed = sym (ap (λ b. not b || (list_any (λ (o : Option Shape). is_some o) s.types.shapes || list_any (λ (o : Option Carry). is_some o) s.types.carries)) (not_empty names name));
      few_types = omega (arith, few, length-append names (name ∷ []));
      named = each_push (λ x. is_name x ≡ true) names name fit.named named;
      differ = later_push (λ a b. a ≢ b) (type_names s.types) name fit.differ (others_apart name (type_names s.types) none.1.0);
      shapes = alongside_map (ShapeFits n) (ShapeFits m) (arities_in s.declared) s.types.shapes (λ a o h. shape_below n m a le o h) fit.shapes;
      carries = alongside_map (CarryFits n) (CarryFits m) (counts_in s.declared) s.types.carries (λ c o h. carry_below n m c le o h) fit.carries;
      depends = fit.depends;
      declared_once = fit.declared_once;
    }

-- shapes

-- the numbers of types by name, where n types are declared
abbrev below : List (List ℕ) → List ℕ → Type 0
below names is = Each (λ t. t < 2 + length names) is

named_below : (s : Spec) (ns : List (List ℕ)) (is : List ℕ) → types_named (type_names s.types) ns ≡ Some is → below s.types.names is
named_below s ns is e =
    each_map (λ t. t < length (type_names s.types)) (λ t. t < 2 + length s.types.names) is (λ t less. omega (arith, less)) (numbers_within (type_names s.types) ns is e)

shape_numbers : (s : Spec) (parts : List (List ℕ)) (own : List ℕ) (x : Shape) → shape_named (type_names s.types) parts own ≡ Some x → (x.own < 2 + length s.types.names) × below s.types.names x.parts
shape_numbers s parts own x e =
    let all = type_names s.types in
    bound (types_named all parts) _ x e (λ ps found e1. bound (place_of own all) _ x e1 (λ o placed e2.
    let same : ◌≡◌ {A = Shape} (record { parts = ps; own = o }) x = cc in
    subst (λ (y : Shape). (y.own < 2 + length s.types.names) × below s.types.names y.parts) same (omega (arith, place_within own all o placed), named_below s parts ps found)))

carry_numbers : (s : Spec) (takes gives : List (List ℕ)) (k : Carry) → carry_named (type_names s.types) takes gives ≡ Some k → below s.types.names k.takes × below s.types.names k.gives
carry_numbers s takes gives k e =
    let all = type_names s.types in
    bound (types_named all takes) _ k e (λ ts found e1. bound (types_named all gives) _ k e1 (λ gs read e2.
    let same : ◌≡◌ {A = Carry} (record { takes = ts; gives = gs }) k = cc in
    subst (λ (y : Carry). below s.types.names y.takes × below s.types.names y.gives) same (named_below s takes ts found, named_below s gives gs read)))

same_arity : (o : Option Con) (c : Con) (x : Shape) → o ≡ Some c → is_other_arity o (Some x) ≡ false → length x.parts ≡ c.arity
same_arity o c x e h = eqb-true (length x.parts) c.arity (not_false _ (ap (λ v. is_other_arity v (Some x)) (sym e) ∙ h))

same_counts : (o : Option Sort) (c : Sort) (k : Carry) → o ≡ Some c → are_other_counts o (Some k) ≡ false → (length k.takes ≡ c.takes) × (length k.gives ≡ c.gives)
same_counts o c k e h =
    let both = and_parts (nat_eq (length k.takes) c.takes) (nat_eq (length k.gives) c.gives) (not_false _ (ap (λ v. are_other_counts v (Some k)) (sym e) ∙ h)) in
    (eqb-true (length k.takes) c.takes both.0, eqb-true (length k.gives) c.gives both.1)

shape_fits : (s : Spec) (at : Option ℕ) (shape : Option Shape) → ((i : ℕ) → at ≡ Some i → i < length s.declared.cons) →
    ((x : Shape) → shape ≡ Some x → (x.own < 2 + length s.types.names) × below s.types.names x.parts) → NoneHolds (shape_tests s at shape) → TypesFit s → TypesFit (with_shape s at shape)
shape_fits s None shape within numbers none fit = absurd (both_ways _ none.1.0 refl)
shape_fits s (Some i) None within numbers none fit = absurd (both_ways _ none.1.0 refl)
shape_fits s (Some i) (Some x) within numbers none fit =
    let n = 2 + length s.types.names in
    let found = get_within s.declared.cons i (within i refl) in
    let c = found.0 in
    let below = numbers x refl in
    let size : length s.types.shapes ≡ length s.declared.cons = alongside_length (ShapeFits n) (arities_in s.declared) s.types.shapes fit.shapes ∙ length-map s.declared.cons arity in
    let some = any_set s.types.shapes i x (omega (arith, size, within i refl)) in
    record {
      typed = sym (ap (λ b. not (is_empty s.types.names) || (b || list_any (λ (o : Option Carry). is_some o) s.types.carries)) some ∙ or_true (not (is_empty s.types.names)));
      few_types = fit.few_types;
      named = fit.named;
      differ = fit.differ;
      shapes = alongside_set (ShapeFits n) (arities_in s.declared) s.types.shapes i c.arity (Some x) fit.shapes
          (get_map arity s.declared.cons i c found.1) (same_arity _ c x found.1 none.1.1.0, below.0, below.1);
      carries = fit.carries;
      depends = fit.depends;
      declared_once = fit.declared_once;
    }

carry_fits : (s : Spec) (at : Option ℕ) (carry : Option Carry) → ((i : ℕ) → at ≡ Some i → i < length s.declared.sorts) →
    ((k : Carry) → carry ≡ Some k → below s.types.names k.takes × below s.types.names k.gives) → NoneHolds (carry_tests s at carry) → TypesFit s → TypesFit (with_carry s at carry)
carry_fits s None carry within numbers none fit = absurd (both_ways _ none.1.0 refl)
carry_fits s (Some i) None within numbers none fit = absurd (both_ways _ none.1.0 refl)
carry_fits s (Some i) (Some k) within numbers none fit =
    let n = 2 + length s.types.names in
    let found = get_within s.declared.sorts i (within i refl) in
    let c = found.0 in
    let below = numbers k refl in
    let same = same_counts _ c k found.1 none.1.1.0 in
    let size : length s.types.carries ≡ length s.declared.sorts = alongside_length (CarryFits n) (counts_in s.declared) s.types.carries fit.carries ∙ length-map s.declared.sorts counts in
    let some = any_set s.types.carries i k (omega (arith, size, within i refl)) in
    record {
      typed = sym (ap (λ b. not (is_empty s.types.names) || (list_any (λ (o : Option Shape). is_some o) s.types.shapes || b)) some
          ∙ ap (λ b. not (is_empty s.types.names) || b) (or_true (list_any (λ (o : Option Shape). is_some o) s.types.shapes)) ∙ or_true (not (is_empty s.types.names)));
      few_types = fit.few_types;
      named = fit.named;
      differ = fit.differ;
      shapes = fit.shapes;
      carries = alongside_set (CarryFits n) (counts_in s.declared) s.types.carries i (counts c) (Some k) fit.carries (get_map counts s.declared.sorts i c found.1) (same.0, same.1, below.0, below.1);
      depends = fit.depends;
      declared_once = fit.declared_once;
    }

-- dependences

is_apart : (t : Triple) (k i j : ℕ) → (nat_eq t.sort k && (nat_eq t.i i && nat_eq t.j j)) ≡ false → AreTwo t (record { sort = k; i = i; j = j })
is_apart t k i j h es ei ej = both_ways _ h (and_from _ _ (eq-eqb t.sort k es) (and_from _ _ (eq-eqb t.i i ei) (eq-eqb t.j j ej)))

positions_of : (o : Option Sort) (c : Sort) (i j : ℕ) → o ≡ Some c → are_no_positions o i j ≡ false → ((1 ≤ i) × (i ≤ c.takes)) × ((1 ≤ j) × (j ≤ c.gives))
positions_of o c i j e h =
    let both = and_parts (is_position c.takes i) (is_position c.gives j) (not_false _ (ap (λ v. are_no_positions v i j) (sym e) ∙ h)) in
    let first = and_parts (nat_le 1 i) (nat_le i c.takes) both.0 in
    let last = and_parts (nat_le 1 j) (nat_le j c.gives) both.1 in
    ((leb-true 1 i first.0, leb-true i c.takes first.1), (leb-true 1 j last.0, leb-true j c.gives last.1))

depends_fits : (s : Spec) (at : Option ℕ) (i j : ℕ) → ((k : ℕ) → at ≡ Some k → k < length s.declared.sorts) → NoneHolds (depends_tests s at i j) → TypesFit s → TypesFit (with_depends s at i j)
depends_fits s None i j within none fit = absurd (both_ways _ none.1.0 refl)
depends_fits s (Some k) i j within none fit =
    let found = get_within s.declared.sorts k (within k refl) in
    let c = found.0 in
    let at = positions_of _ c i j found.1 none.1.1.0 in
    let new : Triple = record { sort = k; i = i; j = j } in
    record {
      typed = fit.typed;
      few_types = fit.few_types;
      named = fit.named;
      differ = fit.differ;
      shapes = fit.shapes;
      carries = fit.carries;
      depends = each_push (IsOfSort (counts_in s.declared)) s.depends new fit.depends (counts c, get_map counts s.declared.sorts k c found.1, at.0.0, at.0.1, at.1.0, at.1.1);
      declared_once = later_push AreTwo s.depends new fit.declared_once
          (each_untested (λ (t : Triple). nat_eq t.sort k && (nat_eq t.i i && nat_eq t.j j)) (λ t. AreTwo t new) (λ t h. is_apart t k i j h) s.depends none.0);
    }

-- each line

kept_fits : (s after : Spec) (o : Option (ℕ × FaceKind)) → if_kept s o ≡ On after → TypesFit s → TypesFit after
kept_fits s after None e fit = subst TypesFit (on_is s after e) fit
kept_fits s after (Some fault) e fit = cc

rule_fits : (s after : Spec) (r : WrittenRule) (kind : Option DeclKind) → keeping s r (declaring s kind (with_rule s.declared r)) ≡ On after → TypesFit s → TypesFit after
rule_fits s after r (Some x) e fit = cc
rule_fits s after r None e fit = kept_fits (record s { declared = with_rule s.declared r }) after _ e fit

con_within : (s : Spec) (name : List ℕ) (i : ℕ) → con_place s name ≡ Some i → i < length s.declared.cons
con_within s name i e = omega (arith, place_within name (con_names s.declared) i e, length-map s.declared.cons (λ (c : Con). c.name))

sort_within : (s : Spec) (name : List ℕ) (i : ℕ) → sort_place s name ≡ Some i → i < length s.declared.sorts
sort_within s name i e = omega (arith, place_within name (sort_names s.declared) i e, length-map s.declared.sorts (λ (t : Sort). t.name))

said_fits : (s after : Spec) (line : Line) → IsDeclared line → says s line ≡ On after → TypesFit s → TypesFit after
said_fits s after (RoleLine name) named e fit = declared_fits s after _ _ e fit
said_fits s after (ConLine name arity) named e fit = declared_fits (with_no_shape s) after _ _ e (con_fits s _ fit)
said_fits s after (SortLine name role takes gives) named e fit = declared_fits (with_no_carry s) after _ _ e (sort_fits s _ fit)
said_fits s after (StartLine sort) named e fit =
    let i = number_of sort (sort_names s.declared) in
    let same = sym (counts_start s.declared.sorts i) in
    declared_fits s after _ _ e (record {
      typed = fit.typed;
      few_types = fit.few_types;
      named = fit.named;
      differ = fit.differ;
      shapes = fit.shapes;
      carries = subst (λ cs. Alongside (CarryFits (2 + length s.types.names)) cs s.types.carries) same fit.carries;
      depends = subst (λ cs. Each (IsOfSort cs) s.depends) same fit.depends;
      declared_once = fit.declared_once;
    })
said_fits s after (OfferLine sort) named e fit = subst TypesFit (tested_on (offer_tests s sort) (with_offer s sort) after e).1 fit
said_fits s after (UseLine role sort) named e fit = subst TypesFit (tested_on (use_tests s role sort) (with_use s role sort) after e).1 fit
said_fits s after (TypeLine name) named e fit =
    let on = tested_on (type_tests s name) (with_type s name) after e in
    subst TypesFit on.1 (type_fits s name named on.0 fit)
said_fits s after (ShapeLine con parts own) named e fit =
    let at = con_place s con in
    let shape = shape_named (type_names s.types) parts own in
    let on = tested_on (shape_tests s at shape) (with_shape s at shape) after e in
    subst TypesFit on.1 (shape_fits s at shape (λ i h. con_within s con i h) (λ x h. shape_numbers s parts own x h) on.0 fit)
said_fits s after (CarryLine sort takes gives) named e fit =
    let at = sort_place s sort in
    let carry = carry_named (type_names s.types) takes gives in
    let on = tested_on (carry_tests s at carry) (with_carry s at carry) after e in
    subst TypesFit on.1 (carry_fits s at carry (λ i h. sort_within s sort i h) (λ k h. carry_numbers s takes gives k h) on.0 fit)
said_fits s after (DependsLine sort i j) named e fit =
    let at = sort_place s sort in
    let on = tested_on (depends_tests s at i j) (with_depends s at i j) after e in
    subst TypesFit on.1 (depends_fits s at i j (λ k h. sort_within s sort k h) on.0 fit)
said_fits s after FreeLine named e fit = subst TypesFit (tested_on (free_tests s) (with_free s) after e).1 fit
said_fits s after (RuleLine rule) named e fit = rule_fits s after rule _ e fit
said_fits s after (ScheduleLine loads) named e fit = cc

no_types_fit : TypesFit no_draft.spec
no_types_fit = record {
  typed = refl;
  few_types = omega arith;
  named = tt;
  differ = ((apart, tt), (tt, tt));
  shapes = tt;
  carries = tt;
  depends = tt;
  declared_once = tt;
}
  where
    apart : codes "num" ≢ codes "text"
    apart e = cc

pub reading_fits : (lines : List (List ℕ)) (s : Spec) (n : ℕ) (loads : Bool) → specification lines ≡ Good s n loads → TypesFit s
reading_fits lines s n loads e =
    reading_keeps (λ (d : Draft). TypesFit d.spec) TypesFit (λ d after line named h le fit. said_fits d.spec after line named h fit) (λ d fit. fit) no_draft 0 n s loads lines no_types_fit e

pub read_types : (r : Result SpecText SpecFault) (lines : List (List ℕ)) → Spells r (specification lines) → IfOk r (λ s. TypesFit (spec_seen s))
read_types (Ok s) lines e = reading_fits lines (spec_seen s) s.lines s.loads e
read_types (Err f) lines e = tt
