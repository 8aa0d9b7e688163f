use Rattle.std.proofs.Common.{◌≡◌, ◌-◌, ◌≤◌, drop, length}
use Rattle.aw_lex.specs.Tokens.{tokens_from, tokens_of}
use Rattle.aw_lex.proofs.TokenSteps.{behind}
use Rattle.aw_lex.proofs.token.read_tokens.Given as goal

abbrev pub invariant-loop-at : goal.invariant-loop-at
invariant-loop-at l =
    record {
      within : l.at ≤ length l.line;
      rest : behind l.found (tokens_from l.at 0 (drop l.at l.line)) ≡ tokens_of l.line;
    }

abbrev pub decreases-loop-at : goal.decreases-loop-at
decreases-loop-at l = length l.line - l.at
