use Rattle.std.proofs.Common.{◌+◌, ◌*◌, ◌≡◌}
use Rattle.aw_sched.proofs.ReadArguments.{ReadSoFar}
use Rattle.aw_sched.proofs.known.ArgumentReader.+argument.Given as goal

abbrev pub decreases-argument : goal.decreases-argument
decreases-argument l = 2 * l.depth

abbrev pub decreases-arguments : goal.decreases-arguments
decreases-arguments l = 2 * l.depth + 1

abbrev pub invariant-arguments-reading : goal.invariant-arguments-reading
invariant-arguments-reading l = record {
  grammar : l.self.grammar.now ≡ l.initial.self.grammar.now;
  read : ReadSoFar l.initial.self.grammar.now.cons l.depth l.initial.self.room l.initial.self.rest.now l.found l.self.room l.self.rest.now;
}

abbrev pub decreases-arguments-reading : goal.decreases-arguments-reading
decreases-arguments-reading l = l.self.room
