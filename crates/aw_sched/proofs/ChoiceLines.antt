-- A line that is `choose `, the name of a node, and what stands behind it.
use Rattle.std.proofs.Common.{◌≡◌, ℕ, refl, sym, ap, ◌∙◌, subst, Bool, true, false, ◌||◌, not, List, [], ◌∷◌, ◌++◌, Option, Some, None, codes}
use Rattle.std.specs.Prelude.{Ok, IfSome, is_some, is_none}
use Rattle.aw_spelling.specs.Spelling.{node_name, parts_of_name}
use Rattle.aw_lex.specs.declared.token.Token.{Token}
use Rattle.aw_lex.specs.Tokens.{is_word_byte, tokens_of}
use Rattle.aw_name_index.specs.Places.{stands, first_told}
use Rattle.aw_term.specs.Rules.{Grammar}
use Rattle.aw_term.specs.Artifacts.{Words}
use Rattle.aw_typed.specs.Types.{Types}
use Rattle.aw_grammar.specs.Written.{Written}
use Rattle.aw_grammar.specs.Kinds.{all_have_arities}
use Rattle.aw_grammar.specs.Declarations.{Declarations, grammar_in, rule_names, words_in}
use Rattle.aw_base.specs.NodeNames.{node_in, node_named, with_parts}
use Rattle.aw_term_reader.specs.Forms.{name, terms_in_braces}
use Rattle.aw_term_reader.specs.Lexemes.{Lexeme, Name, Node, lexemes}
use Rattle.aw_term_reader.proofs.Lexing.{Ends}
use Rattle.aw_term_reader.proofs.SaysTokens.{Lexes, lexes_blank, lexes_name, lexes_node}
use Rattle.aw_term_reader.proofs.Steps.{bound}
use Rattle.aw_term_reader.proofs.TokensBehind.{lexes_tokens}
use Rattle.aw_sched.specs.Answers.{event_seen}
use Rattle.aw_sched.specs.ChoiceFronts.{EndsAtSpace, IsCutChoice}
use Rattle.aw_sched.specs.Events.{Event, args_are_past, args_unknown, is_long, line_kind}
use Rattle.aw_sched.specs.LineEvents.{ReadsLine}
use Rattle.aw_sched.specs.Lines.{Line, ChooseLine, choice_at}
use Rattle.aw_sched.specs.Schedules.{LineRead, Gives, by_form, by_kind, read_line}
use Rattle.aw_sched.specs.declared.event.Event.{Event as GivenEvent}
use Rattle.aw_sched.specs.declared.fault.SchedKind.{SchedKind}
use Rattle.aw_sched.specs.declared.fault.SchedKind.TheVariants.{Limit, Unknown, Arity, Name as NoName}
use Rattle.aw_sched.proofs.LexedLines.{lexed_line}
use Rattle.aw_sched.proofs.SoundLines.{only_is}

word_ends : (rest : List ℕ) → EndsAtSpace rest → Ends rest
word_ends [] h = tt
word_ends (b ∷ bs) h = ap is_word_byte h

-- The tokens are those of the two words, and then those of the rest.
choice_lexes : (w rest : List ℕ) (ts : List Token) → node_name w ≡ true → EndsAtSpace rest → tokens_of rest ≡ Ok ts →
    Lexes (codes "choose " ++ (w ++ rest)) (Name (codes "choose") ∷ Node w ∷ lexemes rest ts)
choice_lexes w rest ts h e k =
    lexes_name (codes "choose") (32 ∷ (w ++ rest)) (Node w ∷ lexemes rest ts) refl refl
    (lexes_blank (w ++ rest) (Node w ∷ lexemes rest ts) (lexes_node w rest (lexemes rest ts) h (word_ends rest e) (lexes_tokens rest ts k)))

cut_choice : (t : Types) (d : Declarations) (line w rest : List ℕ) (ts : List Token) → IsCutChoice line w rest → node_name w ≡ true → tokens_of rest ≡ Ok ts
    → read_line t d line ≡ by_form t d (choice_at w (lexemes rest ts))
cut_choice t d line w rest ts cut h k =
    ap (read_line t d) cut.bytes ∙ lexed_line t d (codes "choose " ++ (w ++ rest)) (Name (codes "choose") ∷ Node w ∷ lexemes rest ts) refl (choice_lexes w rest ts h cut.ends k)

-- the name of a node has the spelling of one
spelled_or_none : (w : Words) (g : Grammar) (o : Option (List ℕ × ℕ × List (List ℕ × ℕ))) → is_none (node_in (with_parts w g o)) ≡ false → is_some o ≡ true
spelled_or_none w g None h = cc
spelled_or_none w g (Some parts) h = refl

-- a choice that is given has a node
last_told : (a b c n : Bool) → first_told ((a, Limit) ∷ (b, Unknown) ∷ (c, Arity) ∷ (n, NoName) ∷ []) ≡ None → n ≡ false
last_told true b c n h = cc
last_told false true c n h = cc
last_told false false true n h = cc
last_told false false false true h = cc
last_told false false false false h = refl

given_kind : (t : Types) (d : Declarations) (line : Line) (e : Event) (kind : Option SchedKind) → by_kind t d line kind ≡ Gives e → kind ≡ None
given_kind t d line e None h = refl
given_kind t d line e (Some kind) h = cc

given_choice : (t : Types) (d : Declarations) (n rule : List ℕ) (args : List Written) (e : Event) → by_kind t d (ChooseLine n rule args)
    (line_kind d (ChooseLine n rule args)) ≡ Gives e → node_name n ≡ true
given_choice t d n rule args e h =
    let w = words_in d in
    let g = grammar_in d in
    let told = given_kind t d (ChooseLine n rule args) e (line_kind d (ChooseLine n rule args)) h in
    spelled_or_none w g (parts_of_name n)
    (last_told (args_are_past args || is_long n) (not (stands rule (rule_names d)) || args_unknown d args) (not (all_have_arities d.cons args)) (is_none (node_named w g n)) told)

given_line : (t : Types) (d : Declarations) (n : List ℕ) (ls : List Lexeme) (e : Event) (o : Option Line) → choice_at n ls ≡ o → by_form t d o ≡ Gives e → node_name n ≡ true
given_line t d n ls e None f h = cc
given_line t d n ls e (Some line) f h =
    bound (name ls) _ line f (λ rule f1 e1.
    bound (terms_in_braces rule.1) _ line e1 (λ args f2 e2.
    let same : ChooseLine n rule.0 args.0 ≡ line = only_is (ChooseLine n rule.0 args.0) line args.1 e2 in
    given_choice t d n rule.0 args.0 e (subst (λ l. by_kind t d l (line_kind d l) ≡ Gives e) (sym same) h)))

-- So a choice that is read from what stands behind the word is what the line gives: the word is then one token, the name of a node.
cut_choice_gives : (t : Types) (d : Declarations) (line w rest : List ℕ) (ts : List Token) (e : Event) → IsCutChoice line w rest → tokens_of rest ≡ Ok ts
    → by_form t d (choice_at w (lexemes rest ts)) ≡ Gives e → read_line t d line ≡ Gives e
cut_choice_gives t d line w rest ts e cut k h =
    let ls = lexemes rest ts in
    cut_choice t d line w rest ts cut (given_line t d w ls e (choice_at w ls) refl h) k ∙ h

pub cut_choice_reads : (t : Types) (d : Declarations) (line w rest : List ℕ) (found tokens : List Token) (read : LineRead) (o : Option GivenEvent) →
    IsCutChoice line w rest → tokens_of rest ≡ Ok found → tokens ≡ found
    → by_form t d (choice_at w (lexemes rest tokens)) ≡ read → ReadsLine read (Ok o) → IfSome o (λ e. read_line t d line ≡ Gives (event_seen e))
cut_choice_reads t d line w rest found tokens read None cut k e f h = tt
cut_choice_reads t d line w rest found tokens read (Some event) cut k e f h =
    cut_choice_gives t d line w rest found (event_seen event) cut k (ap (λ ts. by_form t d (choice_at w (lexemes rest ts))) (sym e) ∙ f ∙ h)
