use Rattle.std.proofs.Common.{◌≡◌, ◌++◌, map, take}
use Rattle.aw_term.specs.Artifacts.{listed, ground_text}
use Rattle.aw_term.specs.Views.{ground_of}
use Rattle.aw_grammar.specs.GrammarOf.{words_of}
use Rattle.aw_sched_writer.proofs.Texts.{before}
use Rattle.aw_sched_writer.proofs.arguments.+arguments.Given as goal

abbrev pub invariant-push_grounds-loop-ground : goal.invariant-push_grounds-loop-ground
invariant-push_grounds-loop-ground l = record {
  text : l.text ≡ l.initial.text ++ listed (map (ground_text (words_of l.g)) (map ground_of (take l.ground-index l.grounds)));
  between : l.between ≡ before l.ground-index;
}
