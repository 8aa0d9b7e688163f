-- How the cases of joined journals stand.
use Rattle.std.specs.Prelude.{◌≡◌, [], Some}
use Rattle.std.specs.declared.result.Result.{Result}
use Rattle.aw_grammar.specs.declared.grammar.Grammar.{Grammar}
use Rattle.aw_grammar.specs.GrammarOf.{grammar_of, words_of}
use Rattle.aw_law_sites.specs.Worlds as V
use Rattle.aw_out.specs.Report.{Bounded, Prints}
use Rattle.aw_out.specs.declared.error.PrintFault.{PrintFault}
use Rattle.aw_term.specs.Artifacts.{artifact_text}
use Rattle.aw_term.specs.Choices.{undivided}
use Rattle.aw_term.specs.Configs.{Config}

-- the artifact lines of the choices that were taken in this world, as one undivided workspace has them
abbrev pub PrintsCases : Grammar → V.World → Bounded → Bounded → Result Unit PrintFault → Type 0
PrintsCases d v old new result = (c : Config) → undivided (grammar_of d) [] v.taken ≡ Some c → Prints (artifact_text (words_of d) c) old new result
