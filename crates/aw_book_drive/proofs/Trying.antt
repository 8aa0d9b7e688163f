-- What is known where an event was tried.
use Rattle.std.specs.Prelude.{slice_get, nat_eq, ◌&&◌}
use Rattle.std.proofs.Common.{◌≡◌, ℕ, true, false, List, map, Some, refl, sym, ap, ◌∙◌, eqb-true, eq-eqb}
use Rattle.std.proofs.lemmas.Bool.{and_parts, and_from}
use Rattle.aw_base.specs.ChoiceFits.{choice_ok}
use Rattle.aw_apply.specs.Messages.{Message}
use Rattle.aw_law_sites.specs.Homes.{home}
use Rattle.aw_law_sites.specs.SiteEvents.{Chose, Got}
use Rattle.aw_law_sites.specs.Worlds.{World, node_of, Reply, Answered, IsNew, Again, NoMessage, Move, Chooses, Delivers, step}
use Rattle.aw_law_worlds.specs.Invariant.{IsSent}
use Rattle.aw_law_journals.specs.Driving.{was_taken, was_new}
use Rattle.aw_law_journals.specs.Journals.{Fits}
use Rattle.aw_msg.specs.MessageView.{message_of}
use Rattle.aw_msg.specs.declared.message.Message as program
use Rattle.aw_term.specs.Choices.{Choice, Answer, Known, NotHere, Developed, NotItsRule, Arguments, WaitsFor, Mismatch, CircleAt, TooDeep, Taken}
use Rattle.aw_term.specs.Names.{Ref}
use Rattle.aw_term.specs.Rules.{Grammar}
use Rattle.aw_term.specs.Trees.{Never}
use Rattle.aw_typed.specs.Types.{Types}
use Rattle.aw_typed.specs.TypeFaults.{arg_ok}
use Rattle.aw_book_drive.specs.Indexes.{IsAt}
use Rattle.aw_book_drive.proofs.Fronts.{seen-from, seen-at}
use Rattle.aw_book_drive.specs.Driving.{may_be_asked}
use Rattle.aw_book_drive.proofs.Nearly.{same-reply}
use Rattle.aw_book_drive.proofs.Told.{message-told}

taken-answer : (a : Answer Ref) → was_taken (Answered a) ≡ true → Answered a ≡ Answered Taken
taken-answer Known e = absurd cc
taken-answer NotHere e = absurd cc
taken-answer Developed e = absurd cc
taken-answer NotItsRule e = absurd cc
taken-answer Arguments e = absurd cc
taken-answer (WaitsFor on) e = absurd cc
taken-answer (Mismatch path) e = absurd cc
taken-answer (CircleAt at) e = absurd cc
taken-answer TooDeep e = absurd cc
taken-answer Taken e = refl

-- a reply is what it is told to be
pub taken-reply : (r : Reply) → was_taken r ≡ true → r ≡ Answered Taken
taken-reply (Answered a) e = taken-answer a e
taken-reply IsNew e = absurd cc
taken-reply Again e = absurd cc
taken-reply NoMessage e = absurd cc

pub new-reply : (r : Reply) → was_new r ≡ true → r ≡ IsNew
new-reply (Answered a) e = absurd cc
new-reply IsNew e = refl
new-reply Again e = absurd cc
new-reply NoMessage e = absurd cc

pub untaken-reply : (r : Reply) → was_taken r ≡ false → r ≡ Answered Taken → Never
untaken-reply r e p = let z : was_taken r ≡ true = ap was_taken p in absurd cc

pub old-reply : (r : Reply) → was_new r ≡ false → r ≡ IsNew → Never
old-reply r e p = let z : was_new r ≡ true = ap was_new p in absurd cc

module _ (t : Types) (g : Grammar) (v : World) (role : ℕ) where
  -- a choice that may be asked and is taken is allowed
  pub choice-fits : (c : Choice) → may_be_asked t g role c ≡ true → (step g v (Chooses c)).reply ≡ Answered Taken → Fits t g v role (Chose c) (Chooses c)
  choice-fits c e r =
      let (ok, more) = and_parts (choice_ok g c) (arg_ok t g c && nat_eq (home g (node_of c)) role) e in
      let (fits, here) = and_parts (arg_ok t g c) (nat_eq (home g (node_of c)) role) more in
      (refl, ok, fits, eqb-true (home g (node_of c)) role here, r)

  -- one that may not be asked is not
  pub unasked-none : (c : Choice) → may_be_asked t g role c ≡ false → (e : Move) → Fits t g v role (Chose c) e → Never
  unasked-none c b (Chooses d) f =
      let z : may_be_asked t g role c ≡ true =
      and_from (choice_ok g c) (arg_ok t g c && nat_eq (home g (node_of c)) role) f.1 (and_from (arg_ok t g c) (nat_eq (home g (node_of c)) role) f.2 (eq-eqb (home g (node_of c)) role f.3)) in
      absurd cc
  unasked-none c b (Delivers k) f = f

  -- one that is not taken is not
  pub untaken-none : (c : Choice) → ((step g v (Chooses c)).reply ≡ Answered Taken → Never) → (e : Move) → Fits t g v role (Chose c) e → Never
  untaken-none c n (Chooses d) f = n f.4
  untaken-none c n (Delivers k) f = f

  -- a message for another role is not
  pub others-none : (m : Message) → nat_eq m.to role ≡ false → (e : Move) → Fits t g v role (Got m) e → Never
  others-none m b (Delivers k) f = let z : nat_eq m.to role ≡ true = eq-eqb m.to role f.0 in absurd cc
  others-none m b (Chooses d) f = f

  -- one that was not sent is not
  pub unsent-none : (m : program.Message) (messages : List program.Message) → v.messages ≡ map (message_of g) messages → ((k : ℕ) → IsAt messages m k → Never) →
      (e : Move) → Fits t g v role (Got (message_of g m)) e → Never
  unsent-none m messages same n (Delivers k) f =
      let (x, at, p) = seen-from (message_of g) messages k (message_of g m) (ap (λ ms. slice_get ms k) (sym same) ∙ f.1) in
      n k (at ∙ ap Some (message-told g x m p))
  unsent-none m messages same n (Chooses d) f = f

  -- one that is nothing new is not
  pub old-none : (m : Message) (k : ℕ) → IsSent v m k → ((step g v (Delivers k)).reply ≡ IsNew → Never) → (e : Move) → Fits t g v role (Got m) e → Never
  old-none m k sent n (Delivers j) f = n (same-reply g v m k j sent f.1 ∙ f.2)
  old-none m k sent n (Chooses d) f = f

-- a message that stands at a number was sent with it
pub at-sent : (g : Grammar) (v : World) (m : program.Message) (messages : List program.Message) (k : ℕ) → v.messages ≡ map (message_of g) messages → IsAt messages m k → IsSent v (message_of g m) k
at-sent g v m messages k same at = ap (λ ms. slice_get ms k) same ∙ seen-at (message_of g) messages k m at
