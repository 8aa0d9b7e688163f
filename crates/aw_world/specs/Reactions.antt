-- What the plain definitions say of the program's choices, messages and events.
use Rattle.std.specs.Prelude.{◌≡◌, ℕ, List, [], ◌++◌, map, length, Some}
use Rattle.std.specs.declared.result.Result.{Result}
use Rattle.aw_grammar.specs.declared.grammar.Grammar.{Grammar}
use Rattle.aw_grammar.specs.GrammarOf.{grammar_of, words_of}
use Rattle.aw_choice.specs.declared.choice.Choice.{Choice}
use Rattle.aw_choice.specs.ChoiceView.{choice_of}
use Rattle.aw_term.specs.Configs.{Config}
use Rattle.aw_term.specs.Rules as R
use Rattle.aw_term.specs.Choices.{undivided}
use Rattle.aw_term.specs.Artifacts.{artifact_text}
use Rattle.aw_msg.specs.declared.message.Message.{Message}
use Rattle.aw_msg.specs.MessageView.{message_of}
use Rattle.aw_apply.specs.Messages as plain
use Rattle.aw_apply.specs.Messages.{Received}
use Rattle.aw_out.specs.declared.error.PrintFault.{PrintFault}
use Rattle.aw_out.specs.Report.{Bounded, Prints}
use Rattle.aw_law_sites.specs.Sites.{Site, Reaction}
use Rattle.aw_law_sites.specs.Choosing.{Chosen, choose}
use Rattle.aw_law_sites.specs.Reacting.{receive}
use Rattle.aw_law_sites.specs.Worlds.{World}
use Rattle.aw_law_worlds.specs.ReadRows.{AreRead}

-- what a site does for a choice
abbrev pub choice_at : R.Grammar → Site → Choice → Chosen
choice_at g s c = choose g s (choice_of c)

-- what a site does for a message
abbrev pub message_at : R.Grammar → Site → Message → Received Reaction
message_at g s m = receive g s (message_of g m)

-- messages as plain ones
abbrev pub all_messages : R.Grammar → List Message → List plain.Message
all_messages g ms = map (message_of g) ms

-- these messages are added
abbrev pub AddsMessages : R.Grammar → List Message → List Message → List plain.Message → Type 0
AddsMessages g old new more = all_messages g new ≡ all_messages g old ++ more

-- the lines of the rows that are read from what the sites of a world hold
abbrev pub PrintsRows : Grammar → World → Bounded → Bounded → Result Unit PrintFault → Type 0
PrintsRows d v old new result = (rows : Config) → AreRead (grammar_of d) v rows → Prints (artifact_text (words_of d) rows) old new result

-- the artifacts of the undivided configuration of these choices
abbrev pub PrintsArtifacts : Grammar → List Choice → Bounded → Bounded → Result Unit PrintFault → Type 0
PrintsArtifacts d cs old new result = (c : Config) → undivided (grammar_of d) [] (map choice_of cs) ≡ Some c → Prints (artifact_text (words_of d) c) old new result

-- the undivided configuration of these choices has so many rows
abbrev pub HasRows : Grammar → List Choice → ℕ → Type 0
HasRows d cs n = (c : Config) → undivided (grammar_of d) [] (map choice_of cs) ≡ Some c → n ≡ length c
