-- The rules of a specification that was read keep to the faces of its roles.
use Rattle.std.proofs.Common.{◌≡◌, ℕ, suc, ◌<◌, ◌≤◌, refl, sym, ap, ◌∙◌, subst, List, [], ◌∷◌, ◌++◌, map, length, arith, Option, None, Some, Result, Ok, Err, IfOk}
use Rattle.std.proofs.lemmas.List.{map-append, nil_from_length}
use Rattle.aw_term.specs.Rules as P
use Rattle.aw_grammar.specs.declared.fault.DeclKind.{DeclKind}
use Rattle.aw_grammar.specs.Declarations.{Entry, entry_of, with_rule}
use Rattle.aw_grammar.specs.GrammarView.{sorts_of}
use Rattle.aw_grammar.specs.GrammarOf.{grammar_of}
use Rattle.aw_grammar.specs.Kinds.{rule_kind}
use Rattle.aw_grammar.specs.Written.{WrittenRule}
use Rattle.aw_grammar.proofs.Entries.{rules_of_entries}
use Rattle.aw_face.specs.declared.faces.Using.{Using}
use Rattle.aw_face.specs.declared.faces.FaceKind.{FaceKind}
use Rattle.aw_face.specs.Faces.{rule_fault, at_rule, rules_fault, face_fault}
use Rattle.aw_spec.specs.declared.fault.SpecFault.{SpecFault}
use Rattle.aw_spec.specs.declared.spec_text.SpecText.{SpecText}
use Rattle.aw_spec.specs.Answers.{Spells}
use Rattle.aw_spec.specs.Lines.{Line, RoleLine, ConLine, SortLine, StartLine, OfferLine, UseLine, TypeLine, ShapeLine, CarryLine, DependsLine, FreeLine, RuleLine, ScheduleLine}
use Rattle.aw_spec.specs.Reading.{Spec, Draft, On, declaring, if_kept, keeping, says, stage_of, no_draft, specification}
use Rattle.aw_spec.specs.Stages.{rules_stage}
use Rattle.aw_spec.proofs.KeptLines.{reading_keeps}
use Rattle.aw_spec.proofs.Stages.{keeps_no_rules}

abbrev rule_in : Entry → P.Rule
rule_in e = e.rule

-- no child of a rule is at fault
abbrev IsKept : Spec → Type 0
IsKept s = rules_fault (sorts_of s.declared.sorts) s.offers s.uses 0 (map rule_in s.declared.rules) ≡ None

abbrev IsGood : Draft → Type 0
IsGood d = IsKept d.spec × (d.stage < rules_stage → length d.spec.declared.rules ≡ 0)

later_kept : (i : ℕ) (o : Option (ℕ × FaceKind)) (later new : Option (ℕ × ℕ × FaceKind)) → at_rule i o later ≡ None → (later ≡ None → new ≡ None) → at_rule i o new ≡ None
later_kept i None later new e h = h e
later_kept i (Some f) later new e h = cc

rule_more : (sorts : List P.Sort) (offers : List ℕ) (uses : List Using) (i : ℕ) (rs : List P.Rule) (r : P.Rule) → rules_fault sorts offers uses i
    rs ≡ None → rule_fault sorts offers uses r ≡ None → rules_fault sorts offers uses i (rs ++ r ∷ []) ≡ None
rule_more sorts offers uses i [] r e h = ap (λ o. at_rule i o None) h
rule_more sorts offers uses i (x ∷ xs) r e h = later_kept i (rule_fault sorts offers uses x) _ _ e (λ k. rule_more sorts offers uses (suc i) xs r k h)

no_rules_kept : (s : Spec) → length s.declared.rules ≡ 0 → IsKept s
no_rules_kept s h = ap (λ rs. rules_fault (sorts_of s.declared.sorts) s.offers s.uses 0 (map rule_in rs)) (nil_from_length s.declared.rules h)

early : (s after : Spec) (line : Line) (before : ℕ) → says s line ≡ On after → stage_of line < rules_stage → before ≤ stage_of line →
    (before < rules_stage → length s.declared.rules ≡ 0) → IsGood (record { spec = after; stage = stage_of line })
early s after line before e h le none =
    let here : before < rules_stage = omega arith in
    let still = keeps_no_rules s after line e h (none here) in
    (no_rules_kept after still, λ k. still)

rule_kept : (s after : Spec) (r : WrittenRule) (kind : Option DeclKind) (o : Option (ℕ × FaceKind)) → IsKept s →
    rule_fault (sorts_of s.declared.sorts) s.offers s.uses (entry_of s.declared r).rule ≡ o →
    keeping s r (declaring s kind (with_rule s.declared r)) ≡ On after → IsKept after
rule_kept s after r (Some kind) o k h e = cc
rule_kept s after r None (Some fault) k h e =
    let wrong : if_kept (record s { declared = with_rule s.declared r }) (Some fault) ≡ On after = ap (if_kept (record s { declared = with_rule s.declared r })) (sym h) ∙ e in cc
rule_kept s after r None None k h e =
    let on : if_kept (record s { declared = with_rule s.declared r }) None ≡ On after = ap (if_kept (record s { declared = with_rule s.declared r })) (sym h) ∙ e in
    let same : ◌≡◌ {A = Spec} (record s { declared = with_rule s.declared r }) after = cc in
    subst IsKept same
    (ap (rules_fault (sorts_of s.declared.sorts) s.offers s.uses 0) (map-append rule_in s.declared.rules (entry_of s.declared r ∷ []))
    ∙ rule_more (sorts_of s.declared.sorts) s.offers s.uses 0 (map rule_in s.declared.rules) (entry_of s.declared r).rule k h)

said_good : (s after : Spec) (line : Line) (before : ℕ) → says s line ≡ On after → before ≤ stage_of line →
    IsGood (record { spec = s; stage = before }) → IsGood (record { spec = after; stage = stage_of line })
said_good s after (RoleLine name) before e le good = early s after (RoleLine name) before e (omega arith) le good.1
said_good s after (ConLine name arity) before e le good = early s after (ConLine name arity) before e (omega arith) le good.1
said_good s after (SortLine name role takes gives) before e le good = early s after (SortLine name role takes gives) before e (omega arith) le good.1
said_good s after (StartLine sort) before e le good = early s after (StartLine sort) before e (omega arith) le good.1
said_good s after (OfferLine sort) before e le good = early s after (OfferLine sort) before e (omega arith) le good.1
said_good s after (UseLine role sort) before e le good = early s after (UseLine role sort) before e (omega arith) le good.1
said_good s after (TypeLine name) before e le good = early s after (TypeLine name) before e (omega arith) le good.1
said_good s after (ShapeLine con parts own) before e le good = early s after (ShapeLine con parts own) before e (omega arith) le good.1
said_good s after (CarryLine sort takes gives) before e le good = early s after (CarryLine sort takes gives) before e (omega arith) le good.1
said_good s after (DependsLine sort i j) before e le good = early s after (DependsLine sort i j) before e (omega arith) le good.1
said_good s after FreeLine before e le good = early s after FreeLine before e (omega arith) le good.1
said_good s after (RuleLine rule) before e le good = (rule_kept s after rule (rule_kind s.declared rule) _ good.0 refl e, λ k. absurd (omega arith))
said_good s after (ScheduleLine loads) before e le good = cc

pub read_faces : (r : Result SpecText SpecFault) (lines : List (List ℕ)) → Spells r (specification lines) → IfOk r (λ s. face_fault (grammar_of s.grammar) s.faces.offers s.faces.uses ≡ None)
read_faces (Ok s) lines e =
    ap (rules_fault (sorts_of s.grammar.sorts) s.faces.offers s.faces.uses 0) (rules_of_entries s.grammar.sorts s.grammar.rules)
    ∙ reading_keeps IsGood IsKept (λ d after line named h le good. said_good d.spec after line d.stage h le good) (λ d good. good.0) no_draft 0 s.lines _ s.loads lines (refl, λ k. refl) e
read_faces (Err f) lines e = tt
