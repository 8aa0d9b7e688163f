-- The messages of an outbox of the program stay sendable where a site answers a choice or a message.
use Rattle.std.proofs.Common.{◌≡◌, Bool, true, List, ◌++◌, map, Result, Ok, Err, ap, sym, ◌∙◌, subst}
use Rattle.std.specs.Prelude.{OnOk, OnErr}
use Rattle.aw_term.specs.Rules.{Grammar}
use Rattle.aw_term.specs.Choices.{Choice}
use Rattle.aw_grammar.specs.declared.grammar.Grammar as program
use Rattle.aw_grammar.specs.GrammarOf.{grammar_of}
use Rattle.aw_base.specs.ChoiceFits.{choice_ok}
use Rattle.aw_store.specs.declared.facts.Facts.{Ghosts}
use Rattle.aw_apply.specs.Messages as P
use Rattle.aw_msg.specs.declared.message.Message.{Message}
use Rattle.aw_msg.specs.MessageView.{message_of}
use Rattle.aw_law_sites.specs.Choosing.{choose}
use Rattle.aw_law_sites.specs.Reacting.{receive}
use Rattle.aw_law_sites.specs.SiteEvents.{after_choice, after_message}
use Rattle.aw_law_sites.specs.Sites.{Site}
use Rattle.aw_law_sites.specs.ValidNames.{equations_ok}
use Rattle.aw_law_sites.specs.Worlds.{node_of}
use Rattle.aw_space.specs.declared.space.Space.{Space}
use Rattle.aw_space.specs.Seen.{grammar_in}
use Rattle.aw_space.specs.Spaces as S
use Rattle.aw_space.specs.Spaces.{is_home}
use Rattle.aw_site.proofs.MadeValid.{MakesValid, makes_valid}
use Rattle.aw_subs.specs.declared.subs.Subs.{Subs}
use Rattle.aw_site.specs.Answers.{sent_by, sent_for}
use Rattle.aw_site.specs.Sendable.{all_sendable}
use Rattle.aw_site.specs.PartsSeen.{parts_seen}
use Rattle.aw_site.specs.Shown.{Shows}
use Rattle.aw_site.proofs.SentNames.{sendable_append}
use Rattle.aw_site.proofs.SentValid.{choice_outbox, choice_valid, message_outbox, message_valid}

-- what an event sends stands at the end of the outbox, and is sendable
abbrev pub SendsWell : Grammar → Site → Site → List P.Message → Type 0
SendsWell g s t sent = (t.outbox ≡ s.outbox ++ sent) × (all_sendable g sent ≡ true)

module _ {F : Type 0} (f : Ghosts F) (old new : Space F f) (subs subs' : Subs) (outbox outbox' : List Message) (loads : Bool) where
  abbrev g : Grammar
  g = grammar_in f old

  pub sendable_on : {A E : Type 0} (r : Result A E) (t : Site) (sent : List P.Message) → grammar_in f new ≡ g → SendsWell g (parts_seen f old subs outbox loads) t sent
      → OnOk r (parts_seen f new subs' outbox' loads ≡ t) → OnErr r (parts_seen f new subs' outbox' loads ≡ parts_seen f old subs outbox loads)
      → all_sendable g (map (message_of g) outbox) ≡ true → all_sendable (grammar_in f new) (map (message_of (grammar_in f new)) outbox') ≡ true
  sendable_on (Ok a) t sent same well ok err before =
      let now : map (message_of (grammar_in f new)) outbox' ≡ map (message_of g) outbox ++ sent = ap (λ (s : Site). s.outbox) ok ∙ well.0 in
      (λ i. all_sendable (same i) (now i)) ∙ sendable_append g (map (message_of g) outbox) sent before well.1
  sendable_on (Err e) t sent same well ok err before =
      let now : map (message_of (grammar_in f new)) outbox' ≡ map (message_of g) outbox = ap (λ (s : Site). s.outbox) err in
      (λ i. all_sendable (same i) (now i)) ∙ before

module _ {F : Type 0} (f : Ghosts F) (old : Space F f) (subs : Subs) (outbox : List Message) (loads : Bool) (s : Site) (shows : Shows f old subs outbox loads s) where
  abbrev gr : program.Grammar
  gr = old.accepted.now.grammar

  equations_valid : equations_ok (grammar_of gr) s.equations ≡ true
  equations_valid = ap (λ (sp : S.Space). equations_ok (grammar_of gr) sp.equations) shows.holds.holds ∙ old.valid.equations

  choice_here : (c : Choice) → choice_ok (grammar_of gr) c ≡ true → is_home (grammar_of gr) old.role (node_of c) ≡ true
      → SendsWell (grammar_of gr) s (after_choice s (choose (grammar_of gr) s c)) (sent_by (choose (grammar_of gr) s c))
  choice_here c ok here =
      let makes = makes_valid gr old.role old.held.items (f.map old.facts) (f.names old.facts) old.sound old.valid c ok here in
      let same = ap (λ (sp : S.Space). S.outcome (grammar_of gr) sp c) shows.holds.holds in
      let (es, cs) = subst (MakesValid (grammar_of gr) c) (sym same) makes in
      (choice_outbox (grammar_of gr) s c, choice_valid (grammar_of gr) s c equations_valid es cs)

  -- a choice
  pub choice_sends : (g : program.Grammar) (c : Choice) → g ≡ gr → choice_ok (grammar_of g) c ≡ true → is_home (grammar_of g) old.role (node_of c) ≡ true
      → SendsWell (grammar_of gr) s (after_choice s (choose (grammar_of g) s c)) (sent_by (choose (grammar_of g) s c))
  choice_sends g c same ok here =
      subst (λ (x : program.Grammar). SendsWell (grammar_of gr) s (after_choice s (choose (grammar_of x) s c)) (sent_by (choose (grammar_of x) s c))) (sym same)
      (choice_here c (subst (λ (x : program.Grammar). choice_ok (grammar_of x) c ≡ true) same ok) (subst (λ (x : program.Grammar). is_home (grammar_of x) old.role (node_of c) ≡ true) same here))

  -- a message
  pub message_sends : (g : program.Grammar) (m : Message) → g ≡ gr
      → SendsWell (grammar_of gr) s (after_message s (receive (grammar_of g) s (message_of (grammar_of g) m))) (sent_for (receive (grammar_of g) s (message_of (grammar_of g) m)))
  message_sends g m same =
      subst (λ (x : program.Grammar). SendsWell (grammar_of gr) s (after_message s (receive (grammar_of x) s (message_of (grammar_of x) m)))
      (sent_for (receive (grammar_of x) s (message_of (grammar_of x) m)))) (sym same)
      (message_outbox (grammar_of gr) s (message_of (grammar_of gr) m), message_valid (grammar_of gr) s equations_valid (message_of (grammar_of gr) m))
