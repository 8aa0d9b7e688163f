-- Lines of early kinds declare neither sorts nor rules, and there are few types.
use Rattle.std.proofs.Common.{◌≡◌, ℕ, ◌<◌, ◌≤◌, List, [], ◌∷◌, sym, ◌∙◌, subst, length, arith, Option, None, Some, Result, Ok, Err, length-append}
use Rattle.std.proofs.lemmas.Bool.{leb-false}
use Rattle.std.proofs.lemmas.List.{length-map}
use Rattle.aw_grammar.specs.declared.fault.DeclKind.{DeclKind}
use Rattle.aw_grammar.specs.Declarations.{Declarations, with_rule}
use Rattle.aw_grammar.specs.Written.{WrittenRule}
use Rattle.aw_face.specs.declared.faces.FaceKind.{FaceKind}
use Rattle.aw_grammar.specs.GrammarOf.{entry}
use Rattle.aw_spec.proofs.Tested.{tested_on}
use Rattle.aw_spec.specs.declared.draft.AfterLine.{AfterLine}
use Rattle.aw_spec.specs.declared.draft.AfterLine.TheVariants as then
use Rattle.aw_spec.specs.declared.draft.LineFault.{LineFault}
use Rattle.aw_spec.specs.declared.reader.Reader.{Reader}
use Rattle.aw_spec.specs.LineAnswers.{Says, spec_so_far}
use Rattle.aw_spec.specs.ReaderAnswers.{IsAtStage, IsStill}
use Rattle.aw_name_index.specs.Places.{first_told}
use Rattle.aw_spec.specs.declared.fault.SpecKind.{SpecKind}
use Rattle.aw_spec.specs.Stages.{sorts_stage, rules_stage}
use Rattle.aw_spec.specs.Lines.{Line, RoleLine, ConLine, SortLine, StartLine, OfferLine, UseLine, TypeLine, ShapeLine, CarryLine, DependsLine, FreeLine, RuleLine, ScheduleLine}
use Rattle.aw_spec.specs.TypeLines.{type_names, shape_named, carry_named}
use Rattle.aw_spec.specs.Reading.{Spec, Step, On, Wrong, Stop, declaring, if_kept, keeping, told_or, offer_tests, with_offer, use_tests, with_use}
use Rattle.aw_spec.specs.Reading.{with_no_shape, with_no_carry, type_tests, with_type, con_place, sort_place, shape_tests, with_shape, carry_tests}
use Rattle.aw_spec.specs.Reading.{with_carry, depends_tests, with_depends, free_tests, with_free, says, stage_of}

-- what a property of declarations has to be for a step to keep it
abbrev Holds : (Declarations → Type 0) → Step → Type 0
Holds P (On s) = P s.declared
Holds P (Wrong kind) = Unit {0}
Holds P (Stop loads) = Unit {0}

declares : (P : Declarations → Type 0) (s : Spec) (kind : Option DeclKind) (after : Declarations) → P after → Holds P (declaring s kind after)
declares P s None after h = h
declares P s (Some kind) after h = tt

told : (P : Declarations → Type 0) (kind : Option SpecKind) (after : Spec) → P after.declared → Holds P (told_or after kind)
told P None after h = h
told P (Some kind) after h = tt

no_sorts : (s : Spec) (line : Line) → stage_of line < sorts_stage → length s.declared.sorts ≡ 0 → Holds (λ d. length d.sorts ≡ 0) (says s line)
no_sorts s (RoleLine name) h e = declares (λ d. length d.sorts ≡ 0) s _ _ e
no_sorts s (ConLine name arity) h e = declares (λ d. length d.sorts ≡ 0) (with_no_shape s) _ _ e
no_sorts s (SortLine name role takes gives) h e = absurd (omega arith)
no_sorts s (StartLine sort) h e = absurd (omega arith)
no_sorts s (OfferLine sort) h e = absurd (omega arith)
no_sorts s (UseLine role sort) h e = absurd (omega arith)
no_sorts s (TypeLine name) h e = absurd (omega arith)
no_sorts s (ShapeLine con parts own) h e = absurd (omega arith)
no_sorts s (CarryLine sort takes gives) h e = absurd (omega arith)
no_sorts s (DependsLine sort i j) h e = absurd (omega arith)
no_sorts s FreeLine h e = absurd (omega arith)
no_sorts s (RuleLine rule) h e = absurd (omega arith)
no_sorts s (ScheduleLine loads) h e = tt

no_rules : (s : Spec) (line : Line) → stage_of line < rules_stage → length s.declared.rules ≡ 0 → Holds (λ d. length d.rules ≡ 0) (says s line)
no_rules s (RoleLine name) h e = declares (λ d. length d.rules ≡ 0) s _ _ e
no_rules s (ConLine name arity) h e = declares (λ d. length d.rules ≡ 0) (with_no_shape s) _ _ e
no_rules s (SortLine name role takes gives) h e = declares (λ d. length d.rules ≡ 0) (with_no_carry s) _ _ e
no_rules s (StartLine sort) h e = declares (λ d. length d.rules ≡ 0) s _ _ e
no_rules s (OfferLine sort) h e = told (λ d. length d.rules ≡ 0) (first_told (offer_tests s sort)) (with_offer s sort) e
no_rules s (UseLine role sort) h e = told (λ d. length d.rules ≡ 0) (first_told (use_tests s role sort)) (with_use s role sort) e
no_rules s (TypeLine name) h e = told (λ d. length d.rules ≡ 0) (first_told (type_tests s name)) (with_type s name) e
no_rules s (ShapeLine con parts own) h e =
    let shape = shape_named (type_names s.types) parts own in told (λ d. length d.rules ≡ 0) (first_told (shape_tests s (con_place s con) shape)) (with_shape s (con_place s con) shape) e
no_rules s (CarryLine sort takes gives) h e =
    let carry = carry_named (type_names s.types) takes gives in told (λ d. length d.rules ≡ 0) (first_told (carry_tests s (sort_place s sort) carry)) (with_carry s (sort_place s sort) carry) e
no_rules s (DependsLine sort i j) h e = told (λ d. length d.rules ≡ 0) (first_told (depends_tests s (sort_place s sort) i j)) (with_depends s (sort_place s sort) i j) e
no_rules s FreeLine h e = told (λ d. length d.rules ≡ 0) (first_told (free_tests s)) (with_free s) e
no_rules s (RuleLine rule) h e = absurd (omega arith)
no_rules s (ScheduleLine loads) h e = tt

held : (P : Declarations → Type 0) (x : Step) (s : Spec) → x ≡ On s → Holds P x → P s.declared
held P (On t) s e h = let same : t ≡ s = cc in subst (λ (u : Spec). P u.declared) same h
held P (Wrong kind) s e h = cc
held P (Stop loads) s e h = cc

pub keeps_no_sorts : (s after : Spec) (line : Line) → says s line ≡ On after → stage_of line < sorts_stage → length s.declared.sorts ≡ 0 → length after.declared.sorts ≡ 0
keeps_no_sorts s after line e h z = held (λ d. length d.sorts ≡ 0) (says s line) after e (no_sorts s line h z)

pub keeps_no_rules : (s after : Spec) (line : Line) → says s line ≡ On after → stage_of line < rules_stage → length s.declared.rules ≡ 0 → length after.declared.rules ≡ 0
keeps_no_rules s after line e h z = held (λ d. length d.rules ≡ 0) (says s line) after e (no_rules s line h z)

few_pushed : (s after : Spec) (name : List ℕ) → says s (TypeLine name) ≡ On after → length after.types.names ≤ 256
few_pushed s after name e =
    let on = tested_on (type_tests s name) (with_type s name) after e in
    let few : length s.types.names < 256 = leb-false 256 (length s.types.names) on.0.0 in
    subst (λ (u : Spec). length u.types.names ≤ 256) on.1 (omega (arith, few, length-append s.types.names (name ∷ [])))

same_types : (s after : Spec) (told : Option SpecKind) → told_or s told ≡ On after → length s.types.names ≤ 256 → length after.types.names ≤ 256
same_types s after None e few = let same : s ≡ after = cc in subst (λ (u : Spec). length u.types.names ≤ 256) same few
same_types s after (Some kind) e few = cc

same_declaring : (s after : Spec) (kind : Option DeclKind) (d : Declarations) → declaring s kind d ≡ On after → length s.types.names ≤ 256 → length after.types.names ≤ 256
same_declaring s after None d e few = let same : ◌≡◌ {A = Spec} (record s { declared = d }) after = cc in subst (λ (u : Spec). length u.types.names ≤ 256) same few
same_declaring s after (Some kind) d e few = cc

same_kept : (s after : Spec) (o : Option (ℕ × FaceKind)) → if_kept s o ≡ On after → length s.types.names ≤ 256 → length after.types.names ≤ 256
same_kept s after None e few = let same : s ≡ after = cc in subst (λ (u : Spec). length u.types.names ≤ 256) same few
same_kept s after (Some fault) e few = cc

same_keeping : (s after : Spec) (r : WrittenRule) (kind : Option DeclKind) → keeping s r (declaring s kind (with_rule s.declared r)) ≡ On after →
    length s.types.names ≤ 256 → length after.types.names ≤ 256
same_keeping s after r None e few = same_kept (record s { declared = with_rule s.declared r }) after _ e few
same_keeping s after r (Some kind) e few = cc

-- at most 256 types are declared
pub keeps_few_types : (s after : Spec) (line : Line) → says s line ≡ On after → length s.types.names ≤ 256 → length after.types.names ≤ 256
keeps_few_types s after (RoleLine name) e few = same_declaring s after _ _ e few
keeps_few_types s after (ConLine name arity) e few = same_declaring (with_no_shape s) after _ _ e few
keeps_few_types s after (SortLine name role takes gives) e few = same_declaring (with_no_carry s) after _ _ e few
keeps_few_types s after (StartLine sort) e few = same_declaring s after _ _ e few
keeps_few_types s after (OfferLine sort) e few = same_types (with_offer s sort) after (first_told (offer_tests s sort)) e few
keeps_few_types s after (UseLine role sort) e few = same_types (with_use s role sort) after (first_told (use_tests s role sort)) e few
keeps_few_types s after (TypeLine name) e few = few_pushed s after name e
keeps_few_types s after (ShapeLine con parts own) e few =
    let shape = shape_named (type_names s.types) parts own in same_types (with_shape s (con_place s con) shape) after (first_told (shape_tests s (con_place s con) shape)) e few
keeps_few_types s after (CarryLine sort takes gives) e few =
    let carry = carry_named (type_names s.types) takes gives in same_types (with_carry s (sort_place s sort) carry) after (first_told (carry_tests s (sort_place s sort) carry)) e few
keeps_few_types s after (DependsLine sort i j) e few = same_types (with_depends s (sort_place s sort) i j) after (first_told (depends_tests s (sort_place s sort) i j)) e few
keeps_few_types s after FreeLine e few = same_types (with_free s) after (first_told (free_tests s)) e few
keeps_few_types s after (RuleLine rule) e few = same_keeping s after rule _ e few
keeps_few_types s after (ScheduleLine loads) e few = cc

-- behind a line that leads on, the stage of that line tells of the lines so far what it should
pub still_at_stage : (before after : Reader) (line : Line) (result : Result AfterLine LineFault) → before.stage ≤ stage_of line → after.stage ≡ stage_of line → IsAtStage before →
    Says (spec_so_far before.draft) after.draft result (says (spec_so_far before.draft) line) → IsStill after result
still_at_stage before after line (Ok then.Next) le here at said =
    let s = spec_so_far before.draft in
    let t = spec_so_far after.draft in
    let g = before.draft.grammar in
    let h = after.draft.grammar in
    record {
      no_sorts = λ early.
          let line_early : stage_of line < sorts_stage = omega arith in
          let before_early : before.stage < sorts_stage = omega arith in
          keeps_no_sorts s t line said line_early (at.no_sorts before_early);
      few_types = keeps_few_types s t line said at.few_types;
      no_rules = λ early.
          let line_early : stage_of line < rules_stage = omega arith in
          let before_early : before.stage < rules_stage = omega arith in
          sym (length-map h.rules (entry h.sorts)) ∙ keeps_no_rules s t line said line_early (length-map g.rules (entry g.sorts) ∙ at.no_rules before_early);
    }
still_at_stage before after line (Ok (then.End loads)) le here at said = tt
still_at_stage before after line (Err fault) le here at said = tt
