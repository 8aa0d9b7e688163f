-- Whatever comes, honest or forged: a site keeps its equations and its nodes, and a guard that is decided stays so.
use Rattle.std.specs.Prelude.{not, ◌⊎◌}
use Rattle.std.proofs.Common.{Bool, List, None, Option, Some, [], ap, cond, false, inl, inr, map, refl, subst, sym, true, ℕ, ◌∙◌, ◌∷◌, ◌≡◌}
use Rattle.aw_list.specs.Members.{Member}
use Rattle.aw_list.proofs.Members.{member_map, never}
use Rattle.aw_term.specs.Choices.{Choice, Develop, Outcome, Refused, Start, Starts, Takes}
use Rattle.aw_term.specs.Configs.{Done, State}
use Rattle.aw_term.specs.Names.{Node, Ref, node_eq}
use Rattle.aw_term.specs.Rules.{Grammar, Term, Ground}
use Rattle.aw_term.specs.Trees.{Never}
use Rattle.aw_term.specs.Held.{Held, held_of, mark}
use Rattle.aw_name.specs.SameNodes.{node_is}
use Rattle.aw_store.specs.Equations.{Body, find}
use Rattle.aw_store.proofs.MoreEquations.{find-left_more}
use Rattle.aw_apply.specs.Guard.{guard_all}
use Rattle.aw_apply.specs.Made.{Call}
use Rattle.aw_apply.specs.Messages.{Asks, Calls, Kind, Message, Tells, BadName, Conflict, New, NotMine, Received, Repeat, Clash}
use Rattle.aw_law_sites.specs.Joint.{called_held}
use Rattle.aw_law_sites.proofs.AnyOrders.{Member-all_held, Member-inserted_held}
use Rattle.aw_law_sites.proofs.Guarding.{Final, guard_all-keeps}
use Rattle.aw_law_sites.specs.Worlds.{node_of}
use Rattle.aw_law_sites.specs.SiteEvents.{SiteEvent, Chose, Got, after_choice, after_message, site_step, site_run}
use Rattle.aw_law_sites.specs.Choosing.{Chosen, Did, No, choose, choose_on, outcome}
use Rattle.aw_law_sites.specs.Reacting.{add_held, react, receive, received_on}
use Rattle.aw_law_sites.specs.Receiving.{clash, is_mine, is_repeat}
use Rattle.aw_law_sites.specs.Sites.{Reaction, Site}
use Rattle.aw_law_sites.specs.Telling.{calls_in}
use Rattle.aw_law_sites.specs.ValidNames.{message_ok}
use Rattle.aw_law_worlds.specs.Laws.{EquationsStay, SiteStays}
use Rattle.aw_law_worlds.proofs.Learning.{add-kept}

abbrev pub Keeps : Site → Site → Type 0
Keeps s t = (r : Ref) (b : Body) → find s.equations r ≡ Some b → find t.equations r ≡ Some b

abbrev pub Holds_on : Site → Site → Type 0
Holds_on s t = (h : Held) → Member h s.held → Member h t.held ⊎ ((r : ℕ) × (args : List Ground) × Member (record h { state = Done r args }) t.held)

pub new-of : (o : Option Clash) (b : Bool) (x y : Reaction) → received_on o b x ≡ New y → x ≡ y
new-of (Some c) b x y e = absurd cc
new-of None true x y e = absurd cc
new-of None false x y e = cc

add_held-more : (o : Option Held) (c : Call) (hs : List Held) (h : Held) → Member h hs → Member h (add_held o c hs)
add_held-more None c hs h m = Member-inserted_held h (called_held c) hs (inr m)
add_held-more (Some d) c hs h m = m

react-keeps : (g : Grammar) (s : Site) (k : Kind) → Keeps s (react g s k).site × Holds_on s (react g s k).site
react-keeps g s (Calls c load) = (add-kept s.equations load, λ h m. inl (add_held-more (held_of c.node s.held) c s.held h m))
react-keeps g s (Asks r from) = (λ r b f. f, λ h m. inl m)
react-keeps g s (Tells e load) = (add-kept s.equations (e ∷ load), λ h m. inl m)

pub cond-new : (b : Bool) (z o : Received Reaction) (y : Reaction) → (z ≡ New y → Never) → cond b z o ≡ New y → o ≡ New y
cond-new true z o y f e = never (f e)
cond-new false z o y f e = e

-- any message
pub receive-keeps : (g : Grammar) (s : Site) (m : Message) (y : Reaction) → receive g s m ≡ New y → Keeps s y.site × Holds_on s y.site
receive-keeps g s m y e =
    let a = cond-new (not (message_ok g s.role m)) BadName _ y (λ z. absurd cc) e in
    let b = cond-new (not (is_mine g s.role m)) NotMine _ y (λ z. absurd cc) a in
    subst (λ (y : Reaction). Keeps s y.site × Holds_on s y.site) (new-of (clash s m.kind) (is_repeat s m.kind) (react g s m.kind) y b) (react-keeps g s m.kind)

pub did-inj : {x y : Reaction} → Did x ≡ Did y → x ≡ y
did-inj e = cc

mark-on : (t : Bool) (n : Node) (ri : ℕ) (args : List Ground) (h : Held) (hs : List Held) → node_eq n h.node ≡ t → Member (mark n (Done ri args) h)
    hs → Member h hs ⊎ ((r : ℕ) × (xs : List Ground) × Member (record h { state = Done r xs }) hs)
mark-on true n ri args h hs e m = inr (ri, args, subst (λ (h : Held). Member h hs) (ap (λ b. cond b (record h { state = Done ri args }) h) e) m)
mark-on false n ri args h hs e m = inl (subst (λ (h : Held). Member h hs) (ap (λ b. cond b (record h { state = Done ri args }) h) e) m)

choose-on-keeps : (g : Grammar) (s : Site) (c : Choice) (o : Outcome Ref Ref) (y : Reaction) → choose_on g s c o ≡ Did y → Keeps s y.site × Holds_on s y.site
choose-on-keeps g s c (Refused a) y e = absurd cc
choose-on-keeps g s (Start st k) Starts y e = subst (λ (y : Reaction). Keeps s y.site × Holds_on s y.site) (did-inj e) (λ r b f. f, λ h m. inl (Member-inserted_held h _ s.held (inr m)))
choose-on-keeps g s (Develop n r args) Starts y e = absurd cc
choose-on-keeps g s (Start st k) (Takes rule xs) y e = absurd cc
choose-on-keeps g s (Develop n r args) (Takes rule xs) y e =
    subst (λ (y : Reaction). Keeps s y.site × Holds_on s y.site) (did-inj e) (
      find-left_more s.equations _,
      λ h m. mark-on (node_eq n h.node) n r args h _ refl (Member-all_held (mark n (Done r args) h) (calls_in g s.role _)
          (map (mark n (Done r args)) s.held) (inr (member_map (mark n (Done r args)) h s.held m))),
    )

-- any choice
pub choose-keeps : (g : Grammar) (s : Site) (c : Choice) (y : Reaction) → choose g s c ≡ Did y → Keeps s y.site × Holds_on s y.site
choose-keeps g s c y e = choose-on-keeps g s c (outcome g s c) y e

-- a guard that is Yes, or Differs, stays so
pub decided-stays : (s t : Site) → Keeps s t → (n : ℕ) (ps : List Term) (rs : List Ref) → Final t.equations (guard_all s.equations n ps rs) →
    guard_all t.equations n ps rs ≡ guard_all s.equations n ps rs
decided-stays s t k n ps rs f = guard_all-keeps s.equations t.equations k n ps rs f

-- equations that stay keep each decided guard
pub equations_stay : (s t : Site) → Keeps s t → EquationsStay s.equations t.equations
equations_stay s t k = record {
  equations = k;
  yes = λ n ps rs bound e. decided-stays s t k n ps rs (subst (Final t.equations) (sym e) tt) ∙ e;
  differs = λ n ps rs path e. decided-stays s t k n ps rs (subst (Final t.equations) (sym e) tt) ∙ e;
  waits = λ n ps rs r gone e. decided-stays s t k n ps rs (subst (Final t.equations) (sym e) gone) ∙ e;
}

received_stays : (g : Grammar) (s : Site) (m : Message) (o : Received Reaction) → receive g s m ≡ o → Keeps s (after_message s o) × Holds_on s (after_message s o)
received_stays g s m (New y) e = receive-keeps g s m y e
received_stays g s m BadName e = (λ r b f. f, λ h i. inl i)
received_stays g s m NotMine e = (λ r b f. f, λ h i. inl i)
received_stays g s m (Conflict a b) e = (λ r b f. f, λ h i. inl i)
received_stays g s m Repeat e = (λ r b f. f, λ h i. inl i)

chosen_stays : (g : Grammar) (s : Site) (c : Choice) (o : Chosen) → choose g s c ≡ o → Keeps s (after_choice s o) × Holds_on s (after_choice s o)
chosen_stays g s c (No a) e = (λ r b f. f, λ h i. inl i)
chosen_stays g s c (Did y) e = choose-keeps g s c y e

event_stays : (g : Grammar) (s : Site) (e : SiteEvent) → Keeps s (site_step g s e) × Holds_on s (site_step g s e)
event_stays g s (Chose c) = chosen_stays g s c (choose g s c) refl
event_stays g s (Got m) = received_stays g s m (receive g s m) refl

on_and_on : (s t u : Site) → Holds_on s t → Holds_on t u → Holds_on s u
on_and_on s t u f k h m = elim (f h m) [
  | inl i ↦ k h i
  | inr (r, xs, i) ↦ elim (k (record h { state = Done r xs }) i) [ inl j ↦ inr (r, xs, j) | inr z ↦ inr z ]
]

run_stays : (g : Grammar) (s : Site) (es : List SiteEvent) → Keeps s (site_run g s es) × Holds_on s (site_run g s es)
run_stays g s [] = (λ r b f. f, λ h i. inl i)
run_stays g s (e ∷ es) =
    let (a, b) = event_stays g s e in
    let (c, d) = run_stays g (site_step g s e) es in
    (λ r x f. c r x (a r x f), on_and_on s (site_step g s e) (site_run g (site_step g s e) es) b d)

-- a message changes no node
react_holds : (g : Grammar) (s : Site) (k : Kind) (h : Held) → Member h s.held → Member h (react g s k).site.held
react_holds g s (Calls c load) h m = add_held-more (held_of c.node s.held) c s.held h m
react_holds g s (Asks r from) h m = m
react_holds g s (Tells e load) h m = m

message_holds : (g : Grammar) (s : Site) (m : Message) (o : Received Reaction) → receive g s m ≡ o → (h : Held) → Member h s.held → Member h (after_message s o).held
message_holds g s m (New y) e h i =
    let a = cond-new (not (message_ok g s.role m)) BadName _ y (λ z. absurd cc) e in
    let b = cond-new (not (is_mine g s.role m)) NotMine _ y (λ z. absurd cc) a in
    subst (λ (y : Reaction). Member h y.site.held) (new-of (clash s m.kind) (is_repeat s m.kind) (react g s m.kind) y b) (react_holds g s m.kind h i)
message_holds g s m BadName e h i = i
message_holds g s m NotMine e h i = i
message_holds g s m (Conflict a b) e h i = i
message_holds g s m Repeat e h i = i

-- a choice changes its own node alone
mark-other : (t : Bool) (n : Node) (st : State) (h : Held) (hs : List Held) → node_eq n h.node ≡ t → (h.node ≡ n → Never) → Member (mark n st h) hs → Member h hs
mark-other true n st h hs e f m = never (f (sym (node_is n h.node e)))
mark-other false n st h hs e f m = subst (λ (h : Held). Member h hs) (ap (λ b. cond b (record h { state = st }) h) e) m

choice_holds : (g : Grammar) (s : Site) (c : Choice) (o : Outcome Ref Ref) (h : Held) → Member h s.held → (h.node ≡ node_of c → Never) → Member h (after_choice s (choose_on g s c o)).held
choice_holds g s c (Refused a) h i f = i
choice_holds g s (Start st k) Starts h i f = Member-inserted_held h _ s.held (inr i)
choice_holds g s (Develop n r args) Starts h i f = i
choice_holds g s (Start st k) (Takes rule xs) h i f = i
choice_holds g s (Develop n r args) (Takes rule xs) h i f =
    mark-other (node_eq n h.node) n (Done r args) h _ refl f (Member-all_held (mark n (Done r args) h) (calls_in g s.role _)
    (map (mark n (Done r args)) s.held) (inr (member_map (mark n (Done r args)) h s.held i)))

-- over all events, honest and forged
pub site_stays : (g : Grammar) → SiteStays g
site_stays g = record {
  equations = λ s es. equations_stay s (site_run g s es) (run_stays g s es).0;
  nodes = λ s es. (run_stays g s es).1;
  message = λ s m. message_holds g s m (receive g s m) refl;
  choice = λ s c. choice_holds g s c (outcome g s c);
}
