-- What is written of a specification is read as the specification.
use Rattle.std.proofs.Common.{◌≡◌, ◌+◌, false, refl, ap, ◌∙◌, [], ◌++◌, length, map, arith}
use Rattle.aw_lex.specs.Lines.{lines_of}
use Rattle.aw_grammar.specs.Declarations.{Declarations, sort_names}
use Rattle.aw_spec.specs.Lines.{RoleLine}
use Rattle.aw_spec.specs.Stages.{roles_stage, cons_stage, sorts_stage, starts_stage, offers_stage, uses_stage, types_stage, depends_stage, free_stage, rules_stage}
use Rattle.aw_spec.specs.Reading.{Spec, no_spec, no_draft, Good, specification}
use Rattle.aw_spec_writer.specs.SpecLines.{con_line, sort_line, start_lines, offer_line, use_line, declaration_lines, face_lines, typing_lines, free_lines, rule_lines, spec_lines, written}
use Rattle.aw_spec_writer.specs.Writable.{FacesFit}
use Rattle.aw_spec_writer.proofs.Leading.{Between, between_both, leads_read, lines_again}
use Rattle.aw_spec_writer.proofs.Declaring.{Fine, with_roles, with_cons, with_sorts, with_offers, with_uses, with_typing, with_rules, unstarted}
use Rattle.aw_spec_writer.proofs.Declaring.{roles_lead, cons_lead, sorts_lead, starts_lead, offers_lead, uses_lead, free_leads, rules_lead}
use Rattle.aw_spec.specs.TypesFit.{TypesFit}
use Rattle.aw_spec_writer.proofs.Typing.{typing_leads}
use Rattle.aw_spec_writer.proofs.SpelledSpecs.{Spelled, spec_spelled}

declared_lead : (d : Declarations) → Fine d → Between roles_stage starts_stage no_spec (declaration_lines d) (with_sorts d.roles d.cons d.sorts)
declared_lead d fine =
    between_both roles_stage roles_stage cons_stage starts_stage no_spec (with_roles d.roles) (with_sorts d.roles d.cons d.sorts)
    (map (λ name. RoleLine name) d.roles) (map con_line d.cons ++ (map (sort_line d.roles) d.sorts ++ start_lines d.sorts)) (omega arith)
    (roles_lead d.roles fine.few_roles fine.roles_differ)
    (between_both cons_stage cons_stage sorts_stage starts_stage (with_roles d.roles) (with_cons d.roles d.cons) (with_sorts d.roles d.cons d.sorts)
    (map con_line d.cons) (map (sort_line d.roles) d.sorts ++ start_lines d.sorts) (omega arith)
    (cons_lead d.roles d.cons fine.few_cons fine.cons_differ fine.arities)
    (between_both sorts_stage sorts_stage starts_stage starts_stage (with_cons d.roles d.cons) (with_sorts d.roles d.cons (map unstarted d.sorts))
    (with_sorts d.roles d.cons d.sorts) (map (sort_line d.roles) d.sorts) (start_lines d.sorts) (omega arith)
    (sorts_lead d.roles d.cons d.sorts fine.roles_differ fine.few_sorts fine.sorts_differ fine.sorts)
    (starts_lead d.roles d.cons d.sorts fine.sorts_differ fine.sorts)))

faces_lead : (s : Spec) → Fine s.declared → FacesFit s → Between offers_stage uses_stage
    (with_sorts s.declared.roles s.declared.cons s.declared.sorts) (face_lines s) (with_uses s.declared s.offers s.uses)
faces_lead s fine faces =
    let d = s.declared in
    between_both offers_stage offers_stage uses_stage uses_stage (with_sorts d.roles d.cons d.sorts) (with_offers d s.offers)
    (with_uses d s.offers s.uses) (map (offer_line (sort_names d)) s.offers) (map (use_line d.roles (sort_names d)) s.uses) (omega arith)
    (offers_lead d s.offers fine.sorts_differ faces.offers faces.offered_once)
    (uses_lead d s.offers s.uses fine.roles_differ fine.sorts_differ faces.uses faces.used_once)

pub spec_leads : (s : Spec) → Fine s.declared → FacesFit s → TypesFit s → Between roles_stage rules_stage no_spec (spec_lines s) s
spec_leads s fine faces types =
    let d = s.declared in
    between_both roles_stage starts_stage offers_stage rules_stage no_spec (with_sorts d.roles d.cons d.sorts) s (declaration_lines d)
    (face_lines s ++ (typing_lines s ++ (free_lines s ++ rule_lines d))) (omega arith) (declared_lead d fine)
    (between_both offers_stage uses_stage types_stage rules_stage (with_sorts d.roles d.cons d.sorts) (with_uses d s.offers s.uses) s (face_lines s)
    (typing_lines s ++ (free_lines s ++ rule_lines d)) (omega arith) (faces_lead s fine faces)
    (between_both types_stage depends_stage free_stage rules_stage (with_uses d s.offers s.uses) (with_typing d s.offers s.uses s.types s.depends) s
    (typing_lines s) (free_lines s ++ rule_lines d) (omega arith) (typing_leads s fine.cons_differ fine.sorts_differ types)
    (between_both free_stage free_stage rules_stage rules_stage (with_typing d s.offers s.uses s.types s.depends) (with_rules s []) s (free_lines s)
    (rule_lines d) (omega arith) (free_leads s s.free refl) (rules_lead s fine faces.kept))))

pub written_again : (s : Spec) → Fine s.declared → Spelled s.declared → FacesFit s → TypesFit s → specification (lines_of (written s)) ≡ Good s (length (spec_lines s)) false
written_again s fine spelled faces types =
    let ls = spec_lines s in
    let all = spec_spelled s fine spelled faces types in
    let leads = spec_leads s fine faces types 0 (omega arith) in
    let count : 0 + length ls ≡ length ls = omega arith in
    ap specification (lines_again ls all) ∙ leads_read no_draft (record { spec = s; stage = leads.0 }) 0 ls all leads.2 ∙ ap (λ k. Good s k false) count
