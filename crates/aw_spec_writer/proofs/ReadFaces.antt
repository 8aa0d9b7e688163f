-- The faces of a specification that was read name what is declared, and each offer and each use once.
use Rattle.std.proofs.Common.{◌≡◌, ℕ, zero, suc, ◌<◌, ◌≤◌, nat_eq, refl, sym, ap, ◌∙◌, subst, Bool, true, false, cond, ◌&&◌, List, [], ◌∷◌, ◌++◌, length, Option, Some, None, arith, length-append}
use Rattle.std.proofs.lemmas.List.{length-map}
use Rattle.std.proofs.lemmas.Bool.{and_from, both_ways, eq-eqb, eqb-false}
use Rattle.aw_name_index.specs.Places.{number_of}
use Rattle.aw_name_index.proofs.Lookups.{place_within}
use Rattle.aw_term.specs.WellFormed.{Each, Later}
use Rattle.aw_term.proofs.Eaches.{each_push, each_map}
use Rattle.aw_grammar.specs.declared.rule.Sort.{Sort}
use Rattle.aw_grammar.specs.declared.fault.DeclKind.{DeclKind}
use Rattle.aw_grammar.specs.Written.{WrittenRule}
use Rattle.aw_grammar.specs.Named.{number_named}
use Rattle.aw_grammar.specs.Declarations.{Declarations, sort_names, with_start_at, with_rule, grammar_in}
use Rattle.aw_face.specs.declared.faces.Using.{Using}
use Rattle.aw_face.specs.declared.faces.FaceKind.{FaceKind}
use Rattle.aw_face.specs.Faces.{is_offered, is_used, face_fault}
use Rattle.aw_spec.specs.declared.fault.SpecKind.TheVariants as kind
use Rattle.aw_spec.specs.Lines.{Line, RoleLine, ConLine, SortLine, StartLine, OfferLine, UseLine, TypeLine, ShapeLine, CarryLine, DependsLine, FreeLine, RuleLine, ScheduleLine}
use Rattle.aw_spec.proofs.Tested.{offer_by, use_by, tested_on}
use Rattle.aw_spec.specs.Placed.{offering, using_by}
use Rattle.aw_spec.specs.TypeLines.{type_names, shape_named, carry_named}
use Rattle.aw_spec.specs.TypesFit.{TypesFit}
use Rattle.aw_spec.proofs.KeptTypes.{reading_fits, on_is}
use Rattle.aw_spec.specs.Reading.{Spec, Draft, On, Wrong, told_or, with_free, with_no_shape, with_no_carry, type_tests, with_type, con_place}
use Rattle.aw_spec.specs.Reading.{sort_place, shape_tests, with_shape, carry_tests, with_carry, depends_tests, with_depends, declaring, if_kept}
use Rattle.aw_spec.specs.Reading.{keeping, says, Good, no_draft, specification}
use Rattle.aw_spec.proofs.KeptLines.{reading_keeps}
use Rattle.aw_spec.proofs.TypeSteps.{later_push, each_untested as none_holds}
use Rattle.aw_spec_writer.specs.Writable.{AreApart, FacesFit}

abbrev AreOther : ℕ → ℕ → Type 0
AreOther a b = a ≡ b → ⊥

-- what is so of faces, where these numbers of roles and sorts are declared
record Sound (roles sorts : ℕ) (os : List ℕ) (us : List Using) : Type 0 where
  pub offers : Each (λ sort. sort < sorts) os
  pub offered_once : Later AreOther os
  pub uses : Each (λ (u : Using). (u.role < roles) × (u.sort < sorts)) us
  pub used_once : Later AreApart us

abbrev IsSound : Spec → Type 0
IsSound s = Sound (length s.declared.roles) (length s.declared.sorts) s.offers s.uses

-- more may be declared
more : (r1 s1 r2 s2 : ℕ) (offers : List ℕ) (uses : List Using) → r1 ≤ r2 → s1 ≤ s2 → Sound r1 s1 offers uses → Sound r2 s2 offers uses
more r1 s1 r2 s2 offers uses h k s = record {
  offers = each_map (λ x. x < s1) (λ x. x < s2) offers (λ x less. omega (arith, less, k)) s.offers;
  offered_once = s.offered_once;
  uses = each_map (λ (u : Using). (u.role < r1) × (u.sort < s1)) (λ (u : Using). (u.role < r2) × (u.sort < s2)) uses (λ u less. (omega (arith, less.0, h), omega (arith, less.1, k))) s.uses;
  used_once = s.used_once;
}

is_apart : (u v : Using) → (nat_eq u.role v.role && nat_eq u.sort v.sort) ≡ false → AreApart u v
is_apart u v h er es = both_ways _ h (and_from _ _ (eq-eqb u.role v.role er) (eq-eqb u.sort v.sort es))

length_start : (sorts : List Sort) (i : ℕ) → length (with_start_at sorts i) ≡ length sorts
length_start [] i = refl
length_start (s ∷ sorts) zero = refl
length_start (s ∷ sorts) (suc i) = ap (λ n. suc n) (length_start sorts i)

longer : {A : Type 0} (xs : List A) (x : A) → length xs ≤ length (xs ++ x ∷ [])
longer xs x = omega (arith, length-append xs (x ∷ []))

declared_sound : (s after : Spec) (kind : Option DeclKind) (d : Declarations) → declaring s kind d ≡ On after → length s.declared.roles ≤ length
    d.roles → length s.declared.sorts ≤ length d.sorts → IsSound s → IsSound after
declared_sound s after None d e h k sound =
    subst IsSound (on_is (record s { declared = d }) after e) (more (length s.declared.roles) (length s.declared.sorts) (length d.roles) (length d.sorts) s.offers s.uses h k sound)
declared_sound s after (Some x) d e h k sound = cc

place_below : (s : Spec) (name : List ℕ) (i : ℕ) → number_named (sort_names s.declared) name ≡ Some i → i < length s.declared.sorts
place_below s name i e = omega (arith, place_within name (sort_names s.declared) i e, length-map s.declared.sorts (λ (t : Sort). t.name))

offered_sound : (s after : Spec) (i : ℕ) (t : Bool) → is_offered i s.offers ≡ t → i < length s.declared.sorts → cond t (Wrong kind.Double)
    (On (record s { offers = s.offers ++ i ∷ [] })) ≡ On after → IsSound s → IsSound after
offered_sound s after i true h less e sound = cc
offered_sound s after i false h less e sound = subst IsSound (on_is (record s { offers = s.offers ++ i ∷ [] }) after e) (record {
  offers = each_push (λ sort. sort < length s.declared.sorts) s.offers i sound.offers less;
  offered_once = later_push AreOther s.offers i sound.offered_once (none_holds (λ o. nat_eq o i) (λ o. AreOther o i) (λ o k. eqb-false o i k) s.offers h);
  uses = sound.uses;
  used_once = sound.used_once;
})

offer_sound : (s after : Spec) (name : List ℕ) (o : Option ℕ) → number_named (sort_names s.declared) name ≡ o → offering s o ≡ On after → IsSound s → IsSound after
offer_sound s after name None h e sound = cc
offer_sound s after name (Some i) h e sound = offered_sound s after i (is_offered i s.offers) refl (place_below s name i h) e sound

used_sound : (s after : Spec) (u : Using) (t : Bool) → is_used u.role u.sort s.uses ≡ t → u.role < length s.declared.roles →
    u.sort < length s.declared.sorts → cond t (Wrong kind.Double) (On (record s { uses = s.uses ++ u ∷ [] })) ≡ On after → IsSound s → IsSound after
used_sound s after u true h r k e sound = cc
used_sound s after u false h r k e sound = subst IsSound (on_is (record s { uses = s.uses ++ u ∷ [] }) after e) (record {
  offers = sound.offers;
  offered_once = sound.offered_once;
  uses = each_push (λ (v : Using). (v.role < length s.declared.roles) × (v.sort < length s.declared.sorts)) s.uses u sound.uses (r, k);
  used_once = later_push AreApart s.uses u sound.used_once (none_holds (λ (v : Using). nat_eq v.role u.role && nat_eq v.sort u.sort) (λ v. AreApart v u) (λ v k. is_apart v u k) s.uses h);
})

use_sound : (s after : Spec) (role sort : List ℕ) (r k : Option ℕ) → number_named s.declared.roles role ≡ r → number_named (sort_names s.declared)
    sort ≡ k → using_by s r k ≡ On after → IsSound s → IsSound after
use_sound s after role sort None k hr hk e sound = cc
use_sound s after role sort (Some r) None hr hk e sound = cc
use_sound s after role sort (Some r) (Some k) hr hk e sound =
    used_sound s after (record { role = r; sort = k }) (is_used r k s.uses) refl (place_within role s.declared.roles r hr) (place_below s sort k hk) e sound

kept_sound : (s after : Spec) (o : Option (ℕ × FaceKind)) → if_kept s o ≡ On after → IsSound s → IsSound after
kept_sound s after None e sound = subst IsSound (on_is s after e) sound
kept_sound s after (Some fault) e sound = cc

rule_sound : (s after : Spec) (r : WrittenRule) (kind : Option DeclKind) → keeping s r (declaring s kind (with_rule s.declared r)) ≡ On after → IsSound s → IsSound after
rule_sound s after r (Some x) e sound = cc
rule_sound s after r None e sound = kept_sound (record s { declared = with_rule s.declared r }) after _ e sound

free_sound : (s after : Spec) (free : Bool) → told_or (with_free s) (cond free (Some kind.Double) None) ≡ On after → IsSound s → IsSound after
free_sound s after true e sound = cc
free_sound s after false e sound = subst IsSound (on_is (with_free s) after e) sound

said_sound : (s after : Spec) (line : Line) → says s line ≡ On after → IsSound s → IsSound after
said_sound s after (RoleLine name) e sound = declared_sound s after _ _ e (longer s.declared.roles name) (omega arith) sound
said_sound s after (ConLine name arity) e sound = declared_sound (with_no_shape s) after _ _ e (omega arith) (omega arith) sound
said_sound s after (SortLine name role takes gives) e sound = declared_sound (with_no_carry s) after _ _ e (omega arith) (longer s.declared.sorts _) sound
said_sound s after (StartLine sort) e sound = declared_sound s after _ _ e (omega arith) (omega (arith, length_start s.declared.sorts (number_of sort (sort_names s.declared)))) sound
said_sound s after (OfferLine sort) e sound = offer_sound s after sort (number_named (sort_names s.declared) sort) refl (sym (offer_by s sort) ∙ e) sound
said_sound s after (UseLine role sort) e sound = use_sound s after role sort (number_named s.declared.roles role)
    (number_named (sort_names s.declared) sort) refl refl (sym (use_by s role sort) ∙ e) sound
said_sound s after (TypeLine name) e sound = subst IsSound (tested_on (type_tests s name) (with_type s name) after e).1 sound
said_sound s after (ShapeLine con parts own) e sound =
    let shape = shape_named (type_names s.types) parts own in subst IsSound (tested_on (shape_tests s (con_place s con) shape) (with_shape s (con_place s con) shape) after e).1 sound
said_sound s after (CarryLine sort takes gives) e sound =
    let carry = carry_named (type_names s.types) takes gives in subst IsSound (tested_on (carry_tests s (sort_place s sort) carry) (with_carry s (sort_place s sort) carry) after e).1 sound
said_sound s after (DependsLine sort i j) e sound = subst IsSound (tested_on (depends_tests s (sort_place s sort) i j) (with_depends s (sort_place s sort) i j) after e).1 sound
said_sound s after FreeLine e sound = free_sound s after s.free e sound
said_sound s after (RuleLine rule) e sound = rule_sound s after rule _ e sound
said_sound s after (ScheduleLine loads) e sound = cc

pub read_fits : (lines : List (List ℕ)) (s : Spec) (n : ℕ) (loads : Bool) → specification lines ≡ Good s n loads → face_fault (grammar_in s.declared) s.offers s.uses ≡ None → FacesFit s × TypesFit s
read_fits lines s n loads e kept =
    let sound = reading_keeps (λ (d : Draft). IsSound d.spec) IsSound (λ d after line named h le sound. said_sound d.spec after line h sound)
    (λ d sound. sound) no_draft 0 n s loads lines (record { offers = tt; offered_once = tt; uses = tt; used_once = tt }) e in
    (record { kept = kept; offers = sound.offers; offered_once = sound.offered_once; uses = sound.uses; used_once = sound.used_once }, reading_fits lines s n loads e)
