-- A choice that is made from its bytes at once is what its line asks for.
use Rattle.std.proofs.Common.{◌≡◌, ℕ, refl, sym, ap, ◌∙◌, subst, false, List, [], ◌∷◌, map, Some}
use Rattle.std.proofs.lemmas.Bool.{and_from}
use Rattle.aw_term.specs.Names.{Node}
use Rattle.aw_term.specs.Rules as R
use Rattle.aw_term.specs.Choices.{Develop}
use Rattle.aw_choice.specs.declared.choice.Choice.TheVariants as given
use Rattle.aw_term.specs.Views.{ground_of}
use Rattle.aw_term.specs.WellFormed.{Each}
use Rattle.aw_term.specs.declared.ground.Ground.{Ground}
use Rattle.aw_grammar.specs.declared.grammar.Grammar.{Grammar}
use Rattle.aw_grammar.specs.GrammarOf.{grammar_of, words_of, declarations_of}
use Rattle.aw_grammar.specs.Named.{number_named}
use Rattle.aw_grammar.proofs.Entries.{declared_grammar}
use Rattle.aw_base.specs.NodeNames.{node_named}
use Rattle.aw_typed.specs.Types.{Types}
use Rattle.aw_term_reader.specs.Lexemes as lex
use Rattle.aw_term_reader.specs.Lexemes.{Lexeme}
use Rattle.aw_term_reader.specs.Sound.{IsSound}
use Rattle.aw_term_reader.proofs.SoundTerms.{tokens_are_sound}
use Rattle.aw_lex.proofs.Slices.{tokens_are_slices}
use Rattle.aw_sched.specs.Answers.{MayCome, event_seen}
use Rattle.aw_sched.specs.Arguments.{ReadsAll}
use Rattle.aw_sched.specs.ByteArguments.{Says, SaysBefore, TakesAll}
use Rattle.aw_sched.specs.KnownChoices.{IsKnownChoice}
use Rattle.aw_sched.specs.declared.event.Event.{Event}
use Rattle.aw_sched.specs.declared.event.Event.TheVariants.{Choose}
use Rattle.aw_sched.specs.Events.{Chooses, event_of, is_long}
use Rattle.aw_sched.specs.LineEvents.{AreFound}
use Rattle.aw_sched.specs.Lines.{ChooseLine, choice_at}
use Rattle.aw_sched.specs.Schedules.{by_form, by_kind, by_type}
use Rattle.aw_sched.proofs.AlikeArguments.{args_fit}
use Rattle.aw_sched.proofs.LineLaws.{args_found, choose_good}
use Rattle.aw_sched.proofs.ReadLines.{line_reads}
use Rattle.aw_sched.proofs.SoundLines.{sound_choice}

-- what bytes say is sound
sound_says : (bs : List ℕ) (ls : List Lexeme) → Says bs ls → Each IsSound ls
sound_says bs ls s = subst (Each IsSound) s.2 (tokens_are_sound bs 0 s.0 (tokens_are_slices bs s.0 s.1))

-- the name of a rule, and its arguments
record ReadsChoice (g : Grammar) (ls : List Lexeme) (rule : List ℕ) (found : List Ground) : Type 0 where
  pub tail : List Lexeme
  pub begun : ls ≡ lex.Name rule ∷ tail
  pub all : ReadsAll g.cons tail found

-- the line that these lexemes spell behind the node
line_is : (g : Grammar) (ls : List Lexeme) (n rule : List ℕ) (found : List Ground) → (read : ReadsChoice g ls rule found) → choice_at n ls ≡ Some (ChooseLine n rule read.all.terms)
line_is g ls n rule found read =
    let line = ChooseLine n rule read.all.terms in
    ap (choice_at n) (read.begun ∙ ap (λ k. lex.Name rule ∷ k) read.all.spelled) ∙ line_reads line read.all.written

choice_found : (g : Grammar) (ls : List Lexeme) (n rule : List ℕ) (i : ℕ) (found : List Ground) → Each IsSound ls → Some i ≡ number_named (words_of g).rules rule
    → (read : ReadsChoice g ls rule found) → AreFound (declarations_of g) (grammar_of g) rule read.all.terms i found
choice_found g ls n rule i found sound e read =
    let args = read.all.terms in
    let fine = sound_choice n ls (ChooseLine n rule args) sound (line_is g ls n rule found read) in
    args_found g rule args i found read.all.within e read.all.known fine
    (args_fit g.cons (grammar_of g) args (map ground_of found) refl read.all.known fine read.all.within ∙ read.all.arities)

choice_gives : (g : Grammar) (t : Types) (ls : List Lexeme) (n rule : List ℕ) (node : Node) (i : ℕ) (found : List Ground) → Each IsSound ls → Some i ≡ number_named (words_of g).rules rule
    → is_long n ≡ false → node_named (words_of g) (grammar_of g) n ≡ Some node → ReadsChoice g ls rule found
    → by_form t (declarations_of g) (choice_at n ls) ≡ by_type t (grammar_of g) (Chooses (Develop node i (map ground_of found)))
choice_gives g t ls n rule node i found sound e short named read =
    let d = declarations_of g in
    let line = ChooseLine n rule read.all.terms in
    let good = choose_good g n rule read.all.terms node i found short named (choice_found g ls n rule i found sound e read) in
    ap (by_form t d) (line_is g ls n rule found read)
    ∙ ap (by_kind t d line) good.0
    ∙ ap (λ (h : R.Grammar). by_type t h (event_of d line)) (sym (declared_grammar g))
    ∙ ap (by_type t (grammar_of g)) good.1

-- a choice at this node, from the bytes behind the node's name
pub known_is : (g : Grammar) (node : Node) (bytes behind rest rule : List ℕ) (i : ℕ) (found : List Ground) (event : Event) → SaysBefore bytes [] behind → SaysBefore behind (lex.Name rule ∷ []) rest
    → Some i ≡ number_named (words_of g).rules rule → TakesAll g.cons rest found → event ≡ Choose (given.Develop node i found) → IsKnownChoice g node bytes event
known_is g node bytes behind rest rule i found event blank front e all is =
    let ls = lex.Name rule ∷ all.spelled in
    let said : Says bytes ls = blank ls (front all.spelled all.says) in
    let sound = sound_says bytes ls said in
    let read : ReadsChoice g ls rule found = record { tail = all.spelled; begun = refl; all = all.reads } in
    record {
      spelled = ls;
      says = said;
      gives = λ t text names. choice_gives g t ls text rule node i found sound e names.0 names.1.0 read ∙ ap (λ (x : Event). by_type t (grammar_of g) (event_seen x)) (sym is);
      fits = λ text names.
          let fine = choice_found g ls text rule i found sound e read in
          subst (MayCome (grammar_of g)) (sym is) (and_from _ _ names.1.1 (and_from _ _ fine.declared fine.fit));
    }
