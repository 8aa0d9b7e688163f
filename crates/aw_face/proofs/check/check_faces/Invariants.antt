use Rattle.std.proofs.Common.{◌≡◌, ◌-◌, drop}
use Rattle.aw_grammar.specs.GrammarOf.{grammar_of}
use Rattle.aw_face.specs.Faces.{face_fault}
use Rattle.aw_face.proofs.RuleSteps.{faults_from}
use Rattle.aw_face.proofs.check.check_faces.Given as goal

abbrev pub invariant-loop-rule : goal.invariant-loop-rule
invariant-loop-rule l = faults_from l.g.sorts l.f.offers l.f.uses l.number (drop l.number l.g.rules) ≡ face_fault (grammar_of l.g) l.f.offers l.f.uses

abbrev pub decreases-loop-rule : goal.decreases-loop-rule
decreases-loop-rule l = 1024 - l.number
