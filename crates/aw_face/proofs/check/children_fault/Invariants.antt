use Rattle.std.proofs.Common.{◌≡◌, ◌+◌, ◌≤◌, length, map}
use Rattle.aw_grammar.specs.GrammarView.{sorts_of, child_of}
use Rattle.aw_face.specs.Faces as face
use Rattle.aw_face.proofs.check.children_fault.Given as goal

abbrev pub invariant-loop-rest : goal.invariant-loop-rest
invariant-loop-rest l =
    record {
      within : l.place + length l.rest ≤ 9;
      same : face.children_fault (sorts_of l.sorts) l.f.offers l.f.uses l.role l.place (map (child_of l.sorts) l.rest)
          ≡ face.children_fault (sorts_of l.sorts) l.f.offers l.f.uses l.role 1 (map (child_of l.sorts) l.fn.children);
    }

abbrev pub decreases-loop-rest : goal.decreases-loop-rest
decreases-loop-rest l = length l.rest
