-- What trying an event did to a driver.
use Rattle.std.proofs.Common.{◌≡◌, ℕ, true, false, List, [], ◌∷◌, ◌++◌, map, refl, sym, ap, ◌∙◌, subst, eqb-true}
use Rattle.std.specs.Prelude.{nat_eq}
use Rattle.aw_accept.specs.declared.accepted.Accepted.{Accepted}
use Rattle.aw_apply.specs.Messages as M
use Rattle.aw_grammar.specs.GrammarOf.{grammar_of}
use Rattle.aw_law_journals.specs.Driving.{was_taken, was_new}
use Rattle.aw_law_sites.specs.SiteEvents.{Chose, Got}
use Rattle.aw_law_sites.specs.Worlds.{World, Chooses, Delivers, step}
use Rattle.aw_law_sites.specs.Worlds as V
use Rattle.aw_msg.specs.MessageView.{message_of}
use Rattle.aw_msg.specs.declared.message.Message.{Message}
use Rattle.aw_term.specs.Choices.{Choice}
use Rattle.aw_term.specs.Trees.{Never}
use Rattle.aw_typed.specs.Types.{Types}
use Rattle.aw_world.specs.MoveView.{move_of, reply_of}
use Rattle.aw_world.specs.Shown.{ShowsMove}
use Rattle.aw_world.specs.declared.moves.Move.{Move}
use Rattle.aw_world.specs.declared.moves.Reply.{Reply}
use Rattle.aw_world.specs.declared.workspace.Workspace.{Ghosts}
use Rattle.aw_world.specs.declared.world.World as shown
use Rattle.aw_book_drive.specs.declared.index.Index.{Index}
use Rattle.aw_book_drive.specs.Indexes.{Covers, IsAt}
use Rattle.aw_book_drive.specs.Driving.{grammar_in, sent_in, may_be_asked, Nearly, NotesSent, Drives, Tries}
use Rattle.aw_book_drive.specs.declared.driver.Driver.{Driver}
use Rattle.aw_book_drive.proofs.Driven.{near-messages, drives-still, drives-on}
use Rattle.aw_book_drive.proofs.Nearly.{near-step, refused-stays, old-stays}
use Rattle.aw_book_drive.proofs.Trying.{taken-reply, new-reply, untaken-reply, old-reply, choice-fits, unasked-none, untaken-none, others-none, unsent-none, old-none, at-sent}

-- what is noted of the driver behind the step is noted of the one before it
pub note-as : {W : Type 0} {f : Ghosts W} (m y x : Driver W f) → m.world ≡ y.world → m.index ≡ x.index → grammar_in y ≡ grammar_in x → NotesSent m y → (front more : List M.Message) →
    map (message_of (grammar_in x)) y.world.messages ≡ front ++ more → Covers x.index front → Covers y.index (map (message_of (grammar_in x)) y.world.messages)
note-as {W} {f} m y x world index same noted front more e c =
    let a : sent_in m ≡ map (message_of (grammar_in x)) y.world.messages =
    ap (λ (w : shown.World W f). map (message_of (grammar_of w.accepted.now.grammar)) w.messages) world ∙ ap (λ g. map (message_of g) y.world.messages) same in
    subst (λ (ms : List M.Message). Covers y.index ms) a (noted front more (a ∙ e) (subst (λ (j : Index). Covers j front) (sym index) c))

module _ {W : Type 0} (f : Ghosts W) (t : Types) (x : Driver W f) (v : World) (moves : List V.Move) (role : ℕ) (d : Drives f x v moves) where
  -- a choice that may not be asked
  pub not-asked : (c : Choice) → may_be_asked t (grammar_in x) role c ≡ false → Tries f t (grammar_in x) x v moves role (Chose c) false
  not-asked c miss = (unasked-none t (grammar_in x) v role c miss, d)

  -- a message for another role
  pub not-here : (m : Message) → nat_eq m.to role ≡ false → Tries f t (grammar_in x) x v moves role (Got (message_of (grammar_in x) m)) false
  not-here m miss = (others-none t (grammar_in x) v role (message_of (grammar_in x) m) miss, d)

  -- a message that was not sent
  pub not-sent : (m : Message) → ((k : ℕ) → IsAt x.world.messages m k → Never) → Tries f t (grammar_in x) x v moves role (Got (message_of (grammar_in x) m)) false
  not-sent m miss = (unsent-none t (grammar_in x) v role m x.world.messages (near-messages f x.world v (grammar_in x) refl d.world) miss, d)

  module _ (y : Driver W f) (same : y.world.accepted.now ≡ x.world.accepted.now) where
    same-in : grammar_of y.world.accepted.now.grammar ≡ grammar_in x
    same-in = ap (λ (a : Accepted). grammar_of a.grammar) same

    -- a choice that was not taken
    pub not-taken : (c : Choice) (r : Reply) → was_taken (reply_of r) ≡ false → ShowsMove f x.world y.world (Chooses c) r → y.index ≡ x.index → y.moves.items ≡ x.moves.items →
        Tries f t (grammar_in x) y v moves role (Chose c) false
    not-taken c r miss shows index steps =
        let (reply, near) = near-step f x.world y.world v (Chooses c) r d.world shows in
        let none = untaken-reply (step (grammar_in x) v (Chooses c)).reply (ap was_taken (sym reply) ∙ miss) in
        (untaken-none t (grammar_in x) v role c none, drives-still f x y v moves d (subst (λ (w : World). Nearly f y.world w) (refused-stays (grammar_in x) v c none) near) index steps)

    -- a choice that was
    pub is-taken : (c : Choice) (r : Reply) (stepped : Move) → may_be_asked t (grammar_in x) role c ≡ true → was_taken (reply_of r) ≡ true → ShowsMove f x.world y.world (Chooses c) r →
        (m : Driver W f) → m.world ≡ y.world → m.index ≡ x.index → NotesSent m y →
        move_of stepped ≡ Chooses c → y.moves.items ≡ x.moves.items ++ stepped ∷ [] → Tries f t (grammar_in x) y v moves role (Chose c) true
    is-taken c r stepped asked hit shows m world index noted is steps =
        let (reply, near) = near-step f x.world y.world v (Chooses c) r d.world shows in
        let taken = sym reply ∙ taken-reply (reply_of r) hit in
        (Chooses c, choice-fits t (grammar_in x) v role c asked taken, drives-on f x y v moves (grammar_in x) stepped (Chooses c) same-in d near (note-as m y x world index same-in noted) is steps)

    -- a message that was nothing new
    pub not-new : (m : Message) (k : ℕ) (r : Reply) → IsAt x.world.messages m k → was_new (reply_of r) ≡ false → ShowsMove f x.world y.world (Delivers k) r → y.index ≡ x.index → y.moves.items ≡ x.moves.items →
        Tries f t (grammar_in x) y v moves role (Got (message_of (grammar_in x) m)) false
    not-new m k r at miss shows index steps =
        let g = grammar_in x in
        let (reply, near) = near-step f x.world y.world v (Delivers k) r d.world shows in
        let none = old-reply (step g v (Delivers k)).reply (ap was_new (sym reply) ∙ miss) in
        let sent = at-sent g v m x.world.messages k (near-messages f x.world v g refl d.world) at in
        (old-none t g v role (message_of g m) k sent none, drives-still f x y v moves d (old-stays f y.world g v k none near) index steps)

    -- a message that was
    pub is-new : (m : Message) (k : ℕ) (r : Reply) (stepped : Move) → nat_eq m.to role ≡ true → IsAt x.world.messages m k → was_new (reply_of r) ≡ true → ShowsMove f x.world y.world (Delivers k) r →
        (z : Driver W f) → z.world ≡ y.world → z.index ≡ x.index → NotesSent z y →
        move_of stepped ≡ Delivers k → y.moves.items ≡ x.moves.items ++ stepped ∷ [] → Tries f t (grammar_in x) y v moves role (Got (message_of (grammar_in x) m)) true
    is-new m k r stepped here at hit shows z world index noted is steps =
        let g = grammar_in x in
        let (reply, near) = near-step f x.world y.world v (Delivers k) r d.world shows in
        let sent = at-sent g v m x.world.messages k (near-messages f x.world v g refl d.world) at in
        let new = sym reply ∙ new-reply (reply_of r) hit in
        (Delivers k, (eqb-true m.to role here, sent, new), drives-on f x y v moves g stepped (Delivers k) same-in d near (note-as z y x world index same-in noted) is steps)
