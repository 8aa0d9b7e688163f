-- Why an event is not allowed.
use Rattle.std.specs.Prelude.{slice_get, IsTrue, ◌↔◌}
use Rattle.std.proofs.Common.{◌≡◌, ℕ, ◌+◌, ◌<◌, ◌≤◌, Bool, true, List, [], length, Some, sym, ap, ◌∙◌, subst, inl, inr, arith}
use Rattle.std.proofs.lemmas.Bool.{cases_lt}
use Rattle.std.proofs.lemmas.Option.{same_Some}
use Rattle.aw_choice.specs.ChoiceView.{choice_of}
use Rattle.aw_choice.specs.declared.choice.Answer.{Answer}
use Rattle.aw_choice.specs.declared.choice.Choice.{Choice}
use Rattle.aw_journal.specs.EventView.{event_of}
use Rattle.aw_journal.specs.declared.payload.NodeEvent.{NodeEvent}
use Rattle.aw_journal.specs.declared.payload.NodeEvent.TheVariants.{Took}
use Rattle.aw_law_journals.specs.Journals.{Fits}
use Rattle.aw_law_sites.specs.SiteEvents.{Chose}
use Rattle.aw_law_sites.specs.Worlds as V
use Rattle.aw_law_sites.specs.Worlds.{World, Answered, Chooses, step}
use Rattle.aw_msg.specs.declared.message.Message.{Message}
use Rattle.aw_msg.specs.declared.message.MsgKind.TheVariants.{Call, Ask, Tell}
use Rattle.aw_name.specs.declared.node.Node.{Node}
use Rattle.aw_name.specs.declared.node.Ref.{Ref}
use Rattle.aw_store.specs.declared.equation.Equation.{Equation}
use Rattle.aw_term.specs.Choices.{Taken}
use Rattle.aw_term.specs.Rules.{Grammar}
use Rattle.aw_term.specs.Trees.{Never}
use Rattle.aw_typed.specs.Types.{Types}
use Rattle.aw_world.specs.Shown.{ShowsMove}
use Rattle.aw_world.specs.declared.moves.Reply.TheVariants as reply
use Rattle.aw_world.specs.declared.workspace.Workspace.{Ghosts}
use Rattle.aw_book_drive.specs.Causes.{without_load, AreAlike, IsAlikeAt, IsCause, TellsCause}
use Rattle.aw_book_drive.specs.Driving.{grammar_in, types_in, may_be_asked, Uses, Nearly, Drives}
use Rattle.aw_book_drive.specs.Joins.{NoneFits}
use Rattle.aw_book_drive.specs.Journals.{site_event}
use Rattle.aw_book_drive.specs.declared.causes.Cause.{Cause}
use Rattle.aw_book_drive.specs.declared.causes.Cause.TheVariants.{Refused}
use Rattle.aw_book_drive.specs.declared.driver.Driver.{Driver}
use Rattle.aw_book_drive.specs.declared.lanes.Lane.{Lane}
use Rattle.aw_book_drive.proofs.Keeping.{uses-all}
use Rattle.aw_book_drive.proofs.Driven.{drives-still}
use Rattle.aw_book_drive.proofs.Nearly.{near-step, refused-stays}
use Rattle.aw_book_drive.proofs.Places.{none-past}
use Rattle.aw_book_drive.proofs.Trying.{choice-fits}

-- one more is not alike
pub none-alike : (messages : List Message) (m x : Message) (i : ℕ) → slice_get messages i ≡ Some x → (AreAlike x m → Never) → ((k : ℕ) → k < i → IsAlikeAt messages m k → Never) →
    (k : ℕ) → k < i + 1 → IsAlikeAt messages m k → Never
none-alike messages m x i at back before k l alike =
    elim (cases_lt k i) [
      | inl less ↦ before k less alike
      | inr more ↦ (let p : k ≡ i = omega (arith, l, more) in
          let (y, there, like) = alike in
          let q : y ≡ x = same_Some y x (sym there ∙ (ap (slice_get messages) p ∙ at)) in
          back (subst (λ (z : Message). AreAlike z m) q like))
    ]

-- none of all is
pub none-alike-all : (messages : List Message) (m : Message) (i : ℕ) → length messages ≤ i → ((k : ℕ) → k < i → IsAlikeAt messages m k → Never) → (k : ℕ) → IsAlikeAt messages m k → Never
none-alike-all messages m i l before k alike =
    let (y, there, like) = alike in
    let within = none-past messages k y there in
    before k (omega (arith, within, l)) alike

-- a choice that may be asked, and yet is not allowed, is answered so, and nothing changes
pub refused-cause : {W : Type 0} (f : Ghosts W) (t : Types) (x y : Driver W f) (v : World) (moves : List V.Move) (role : ℕ) (c : Choice) (answer : Answer) (messages : List Message) → Drives f x v moves →
    ((e : V.Move) → Fits t (grammar_in x) v role (Chose (choice_of c)) e → Never) → may_be_asked t (grammar_in x) role (choice_of c) ≡ true →
    ShowsMove f x.world y.world (Chooses (choice_of c)) (reply.Choice answer) → y.index ≡ x.index → y.moves.items ≡ x.moves.items →
    IsCause t (grammar_in x) v messages role (Took c) (Refused answer) × Drives f y v moves
refused-cause f t x y v moves role c answer messages d back asked shows index steps =
    let g = grammar_in x in
    let (same, near) = near-step f x.world y.world v (Chooses (choice_of c)) (reply.Choice answer) d.world shows in
    let untaken : (step g v (Chooses (choice_of c))).reply ≡ Answered Taken → Never =
    λ taken. back (Chooses (choice_of c)) (choice-fits t g v role (choice_of c) asked taken) in (
      (asked, sym same),
      drives-still f x y v moves d (subst (λ (w : World). Nearly f y.world w) (refused-stays g v (choice_of c) untaken) near) index steps,
    )

-- what is told of an event is told of the lane whose next one it is
pub tells-cause : {W : Type 0} (f : Ghosts W) (x y : Driver W f) (t : Types) (d : Grammar) → Uses x t d → (v : World) (moves : List V.Move) (messages : List Message) (role : ℕ) (lane here : Lane) (event : NodeEvent)
    (cause : Cause) → here ≡ lane → here.next ≡ Some event → NoneFits t d v role lane →
    (((e : V.Move) → Fits (types_in x) (grammar_in x) v role (site_event (grammar_in x) (event_of event)) e → Never) →
    IsCause (types_in x) (grammar_in x) v messages role event cause × Drives f y v moves) → TellsCause t d v messages role lane (Some cause) × Drives f y v moves
tells-cause f x y t d u v moves messages role lane here event cause same next none told =
    let all = uses-all x t d (λ a b. ((e : V.Move) → Fits a b v role (site_event b (event_of event)) e → Never) → IsCause a b v messages role event cause × Drives f y v moves) u told in
    let is : lane.next ≡ Some event = ap (λ (l : Lane). l.next) (sym same) ∙ next in
    let r = all (λ e fits. none event e is fits) in
    ((event, is, r.0), r.1)

-- two messages of one kind
module _ (a b : Message) (to : a.to ≡ b.to) (r : Bool) where
  pub alike-calls : (n m : Node) (rs ss : List Ref) (load other : List Equation) → a.kind ≡ Call n rs load → b.kind ≡ Call m ss other → (IsTrue r ↔ (n ≡ m) × (rs ≡ ss)) → IsTrue r ↔ AreAlike a b
  alike-calls n m rs ss load other p q (forth, back) = (
    λ t. let (e, f) = forth t in (to, ap without_load p ∙ ((λ i. Call (e i) (f i) []) ∙ sym (ap without_load q))),
    λ alike. let same : Call n rs [] ≡ Call m ss [] = sym (ap without_load p) ∙ (alike.1 ∙ ap without_load q) in back ((cc), (cc)),
  )

  pub alike-asks : (x y : Ref) (from role : ℕ) → a.kind ≡ Ask x from → b.kind ≡ Ask y role → (IsTrue r ↔ (x ≡ y) × (from ≡ role)) → IsTrue r ↔ AreAlike a b
  alike-asks x y from role p q (forth, back) = (
    λ t. let (e, f) = forth t in (to, ap without_load p ∙ ((λ i. Ask (e i) (f i)) ∙ sym (ap without_load q))),
    λ alike. let same : Ask x from ≡ Ask y role = sym (ap without_load p) ∙ (alike.1 ∙ ap without_load q) in back ((cc), (cc)),
  )

  pub alike-tells : (x y : Equation) (load other : List Equation) → a.kind ≡ Tell x load → b.kind ≡ Tell y other → (IsTrue r ↔ (x ≡ y)) → IsTrue r ↔ AreAlike a b
  alike-tells x y load other p q (forth, back) = (
    λ t. let e = forth t in (to, ap without_load p ∙ ((λ i. Tell (e i) []) ∙ sym (ap without_load q))),
    λ alike. let same : Tell x [] ≡ Tell y [] = sym (ap without_load p) ∙ (alike.1 ∙ ap without_load q) in back (cc),
  )
