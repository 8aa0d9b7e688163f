-- What a choice and a delivery do to the plain world that is seen.
use Rattle.std.proofs.Common.{◌≡◌, ℕ, ◌+◌, ◌<◌, ◌≤◌, arith, Bool, true, false, List, [], ◌∷◌, ◌++◌, length, map, ap, sym, ◌∙◌, refl}
use Rattle.std.specs.Prelude.{slice_set, if◌then◌else◌}
use Rattle.std.proofs.lemmas.List.{length-map, length-append, map-append, append-nil}
use Rattle.aw_list.proofs.Members.{never}
use Rattle.aw_term.specs.Trees.{Never}
use Rattle.aw_term.specs.Names.{Ref}
use Rattle.aw_term.specs.Rules.{get}
use Rattle.aw_term.specs.Rules as R
use Rattle.aw_term.specs.Choices as Q
use Rattle.aw_grammar.specs.declared.grammar.Grammar.{Grammar}
use Rattle.aw_grammar.specs.GrammarOf.{grammar_of}
use Rattle.aw_choice.specs.declared.choice.Choice.{Choice}
use Rattle.aw_choice.specs.declared.choice.Answer.{Answer}
use Rattle.aw_choice.specs.ChoiceView.{choice_of, answer_of}
use Rattle.aw_law_sites.specs.Sites.{Site, Reaction, empty_site}
use Rattle.aw_law_sites.specs.Choosing.{Chosen, No, Did, choose}
use Rattle.aw_law_worlds.proofs.Refusing.{refusals_law}
use Rattle.aw_apply.specs.Messages.{Received, BadName, NotMine, Conflict, Repeat, New}
use Rattle.aw_law_sites.specs.Worlds as V
use Rattle.aw_world.specs.declared.workspace.Workspace.{Ghosts}
use Rattle.aw_msg.specs.declared.message.Message.{Message}
use Rattle.aw_world.specs.declared.moves.Reply.TheVariants as replies
use Rattle.aw_world.specs.Marks.{marks}
use Rattle.aw_msg.specs.MessageView.{message_of}
use Rattle.aw_term.specs.Choices.{is_taken}
use Rattle.aw_world.specs.MoveView.{reply_of}
use Rattle.aw_world.specs.Seen.{Steps, ChoseAt, GotAt, world_of}
use Rattle.aw_world.proofs.MarkLemmas.{marks_more, marks_set}
use Rattle.aw_world.proofs.Pairings.{set_same}

-- lists that come together
lengths : {A B : Type 0} (h : A → B) (ms ns : List A) (sent : List B) → map h ns ≡ map h ms ++ sent → length ns ≡ length ms + length sent
lengths h ms ns sent e = sym (length-map ns h) ∙ ap length e ∙ length-append (map h ms) sent ∙ ap (λ n. n + length sent) (length-map ms h)

-- no refusal of a choice is `taken`
abbrev IsHonest : Chosen → Type 0
IsHonest (No a) = is_taken a ≡ false
IsHonest (Did x) = Unit {0}

module _ {W : Type 0} (f : Ghosts W) (d : Grammar) (ws xs : List W) (ms ns : List Message) where
  abbrev ss : List Site
  ss = map (λ w. f.seen w) ws

  pub chose : (bs : List Bool) (cs ds : List Choice) (c : Choice) (a : Answer) (at : ℕ) (x : Chosen) → IsHonest x → ChoseAt f d xs at ss (get (empty_site false at) ss at) ms ns x a
      → ds ≡ (if is_taken (answer_of a) then cs ++ c ∷ [] else cs) → length bs ≤ length ms → Steps f d xs ns bs ds (V.chosen_at (world_of f d ws ms bs cs) at (choice_of c) x) (replies.Choice a)
  chose bs cs ds c a at (No b) honest C noted l =
      let sites = C.sites ∙ set_same (empty_site false at) ss at in
      let messages = C.messages ∙ append-nil _ in
      let delivered = marks_more {B = ℕ} ms ns bs [] l (lengths (message_of (grammar_of d)) ms ns [] C.messages) ∙ append-nil _ in
      let taken = ap (map choice_of) (noted ∙ ap (λ t. if t then cs ++ c ∷ [] else cs) (ap is_taken C.answer ∙ honest)) in
      record { world = λ i. record { sites = sites i; messages = messages i; delivered = delivered i; taken = taken i }; reply = ap V.Answered C.answer }
  chose bs cs ds c a at (Did y) honest C noted l =
      let delivered = marks_more ms ns bs y.sent l (lengths (message_of (grammar_of d)) ms ns y.sent C.messages) in
      let taken = ap (map choice_of) (noted ∙ ap (λ t. if t then cs ++ c ∷ [] else cs) (ap is_taken C.answer)) ∙ map-append choice_of cs (c ∷ []) in
      record { world = λ i. record { sites = C.sites i; messages = C.messages i; delivered = delivered i; taken = taken i }; reply = ap V.Answered C.answer }

  new_reply : (b : Bool) → b ≡ true → reply_of (if b then replies.New else replies.Again) ≡ V.IsNew
  new_reply true e = refl
  new_reply false e = absurd cc

  again_reply : (b : Bool) → b ≡ false → reply_of (if b then replies.New else replies.Again) ≡ V.Again
  again_reply true e = absurd cc
  again_reply false e = refl

  -- the flags stand as they were before the room was made
  still : (os bs : List Bool) (cs : List Choice) (b : Bool) (k at : ℕ) → map (λ w. f.seen w) xs ≡ slice_set ss at (get (empty_site false at) ss at)
      → map (message_of (grammar_of d)) ns ≡ map (message_of (grammar_of d)) ms ++ [] → b ≡ false → ((zs : List Message) → marks zs bs ≡ marks zs os) → k < length bs → length bs ≤ length ms
      → Steps f d xs ns (slice_set bs k true) cs (record { world = V.mark_delivered k (world_of f d ws ms os cs); reply = V.Again }) (if b then replies.New else replies.Again)
  still os bs cs b k at es em eb pad h l =
      let m = lengths (message_of (grammar_of d)) ms ns [] em in
      let sites = es ∙ set_same (empty_site false at) ss at in
      let messages = em ∙ append-nil _ in
      let delivered = marks_set ns bs k h (omega (arith, l, m)) ∙ ap (λ z. slice_set z k true) (marks_more {B = ℕ} ms ns bs [] l m ∙ append-nil _ ∙ pad ms) in
      record { world = λ i. record { sites = sites i; messages = messages i; delivered = delivered i; taken = map choice_of cs }; reply = again_reply b eb }

  pub got : (os bs : List Bool) (cs : List Choice) (b : Bool) (k at : ℕ) (x : Received Reaction) → GotAt f d xs at ss (get (empty_site false at) ss at) ms ns x b
      → ((zs : List Message) → marks zs bs ≡ marks zs os) → k < length bs → length bs ≤ length ms
      → Steps f d xs ns (slice_set bs k true) cs (V.received_at (world_of f d ws ms os cs) k at x) (if b then replies.New else replies.Again)
  got os bs cs b k at (New y) G pad h l =
      let m = lengths (message_of (grammar_of d)) ms ns y.sent G.messages in
      let delivered = marks_set ns bs k h (omega (arith, l, m)) ∙ ap (λ z. slice_set z k true) (marks_more ms ns bs y.sent l m)
      ∙ ap (λ z. slice_set (z ++ map (λ m. false) y.sent) k true) (pad ms) in
      record { world = λ i. record { sites = G.sites i; messages = G.messages i; delivered = delivered i; taken = map choice_of cs }; reply = new_reply b G.fresh }
  got os bs cs b k at BadName G pad h l = still os bs cs b k at G.sites G.messages G.fresh pad h l
  got os bs cs b k at NotMine G pad h l = still os bs cs b k at G.sites G.messages G.fresh pad h l
  got os bs cs b k at (Conflict p q) G pad h l = still os bs cs b k at G.sites G.messages G.fresh pad h l
  got os bs cs b k at Repeat G pad h l = still os bs cs b k at G.sites G.messages G.fresh pad h l

-- an answer that is not `taken`
not_taken : (a : Q.Answer Ref) → (a ≡ Q.Taken → Never) → is_taken a ≡ false
not_taken Q.Taken h = never (h refl)
not_taken Q.Known h = refl
not_taken Q.NotHere h = refl
not_taken Q.Developed h = refl
not_taken Q.NotItsRule h = refl
not_taken Q.Arguments h = refl
not_taken (Q.WaitsFor r) h = refl
not_taken (Q.Mismatch p) h = refl
not_taken (Q.CircleAt r) h = refl
not_taken Q.TooDeep h = refl

honest_on : (x : Chosen) → ((a : Q.Answer Ref) → x ≡ No a → a ≡ Q.Taken → Never) → IsHonest x
honest_on (No a) h = not_taken a (h a refl)
honest_on (Did x) h = tt

pub honest : (g : R.Grammar) (s : Site) (c : Q.Choice) → IsHonest (choose g s c)
honest g s c = honest_on (choose g s c) (refusals_law g s c)
