use Rattle.std.proofs.Common.{◌≡◌, drop, map}
use Rattle.std.specs.Prelude.{Result}
use Rattle.aw_term.specs.Artifacts.{artifact_text}
use Rattle.aw_term.specs.Configs.{Config}
use Rattle.aw_grammar.specs.GrammarOf.{grammar_of, words_of}
use Rattle.aw_out.specs.declared.error.PrintFault.{PrintFault}
use Rattle.aw_out.specs.Report.{Bounded, Prints}
use Rattle.aw_law_sites.specs.Worlds.{World}
use Rattle.aw_law_worlds.specs.ReadRows.{AreRead}
use Rattle.aw_world.specs.Seen.{KeepEach}
use Rattle.aw_world.proofs.listing.print_each.Given as goal

-- whatever prints what is left has printed the whole; each workspace has its printer
abbrev pub invariant-loop-spot : goal.invariant-loop-spot
invariant-loop-spot g l =
    record {
      named : l.names.grammar.now ≡ l.accepted.grammar;
      ready : KeepEach g.W.Workspace l.accepted.grammar l.report l.sites l.printers.items;
      prints : (v : World) → map (λ w. g.W.Workspace.seen w) l.sites ≡ v.sites → (rows : Config) → AreRead (grammar_of l.accepted.grammar) v rows → (new : Bounded) (result : Result Unit PrintFault) →
          Prints (artifact_text (words_of l.accepted.grammar) (drop l.spot-index rows)) l.report new result → Prints (artifact_text (words_of l.accepted.grammar) rows) l.fn.report new result;
    }
