-- What a plain site answers to a message, by what was found out of it, and what it then does.
use Rattle.std.proofs.Common.{◌≡◌, ℕ, ◌≤◌, Bool, true, false, cond, List, ◌∷◌, Option, Some, None, nat_eq, refl, sym, subst, arith}
use Rattle.std.specs.Prelude.{◌&&◌, not, nat_lt, is_some}
use Rattle.std.proofs.lemmas.Bool.{and_parts, ltb-true}
use Rattle.std.proofs.Math.Logic.{∥∥₁_elim}
use Rattle.std.specs.Coded.{le_prop}
use Rattle.aw_list.proofs.Everyday.{is_false as not_true}
use Rattle.aw_term.specs.Names.{Ref}
use Rattle.aw_term.specs.Rules.{Grammar}
use Rattle.aw_term.specs.Held.{Held, held_of}
use Rattle.aw_grammar.specs.declared.grammar.Grammar as program
use Rattle.aw_grammar.specs.GrammarOf.{grammar_of}
use Rattle.aw_store.specs.Equations.{Equation, Map}
use Rattle.aw_apply.specs.Made.{Call}
use Rattle.aw_apply.specs.Messages.{Kind, Calls, Asks, Tells, Message, Clash, BadName, NotMine, Conflict, Repeat, New}
use Rattle.aw_msg.specs.declared.message.MsgKind.{MsgKind}
use Rattle.aw_msg.specs.declared.message.MsgKind.TheVariants as msg
use Rattle.aw_msg.specs.MessageView.{plain_kind}
use Rattle.aw_law_sites.specs.Receiving.{is_mine, about_ok, clash, is_repeat, first_clash, call_clash, all_held}
use Rattle.aw_law_sites.specs.Reacting.{received_on, receive, react}
use Rattle.aw_law_sites.specs.Sites.{Site}
use Rattle.aw_law_sites.specs.ValidNames.{message_ok, names_ok, origin_ok}
use Rattle.aw_space.specs.Placings.{MayBeCalled, MayBeLearnt}
use Rattle.aw_site_repeat.specs.Holders.{holder, IsOfRole}
use Rattle.aw_site_repeat.specs.Views.{kind_of}
use Rattle.aw_site.specs.Judged.{IsFresh}

-- ---- the answer

pub answered_as : (g : Grammar) (s : Site) (m : Message) (ok mine known : Bool) (c : Option Clash) → message_ok g s.role m ≡ ok →
    is_mine g s.role m ≡ mine → clash s m.kind ≡ c → is_repeat s m.kind ≡ known
    → receive g s m ≡ cond (not ok) BadName (cond (not mine) NotMine (received_on c known (react g s m.kind)))
answered_as g s m ok mine known c a b d e = λ i. cond (not (a i)) BadName (cond (not (b i)) NotMine (received_on (d i) (e i) (react g s m.kind)))

pub bad_name : (g : Grammar) (s : Site) (m : Message) → message_ok g s.role m ≡ false → receive g s m ≡ BadName
bad_name g s m a = answered_as g s m false (is_mine g s.role m) (is_repeat s m.kind) (clash s m.kind) a refl refl refl

pub not_mine : (g : Grammar) (s : Site) (m : Message) → message_ok g s.role m ≡ true → is_mine g s.role m ≡ false → receive g s m ≡ NotMine
not_mine g s m a b = answered_as g s m true false (is_repeat s m.kind) (clash s m.kind) a b refl refl

pub in_conflict : (g : Grammar) (s : Site) (m : Message) (c : Clash) → message_ok g s.role m ≡ true → is_mine g s.role m ≡ true → clash s m.kind ≡ Some c → receive g s m ≡ Conflict c.kept c.came
in_conflict g s m c a b d = answered_as g s m true true (is_repeat s m.kind) (Some c) a b d refl

pub known_already : (g : Grammar) (s : Site) (m : Message) → message_ok g s.role m ≡ true → is_mine g s.role m ≡ true → clash s m.kind ≡ None → is_repeat s m.kind ≡ true → receive g s m ≡ Repeat
known_already g s m a b d e = answered_as g s m true true true None a b d e

pub new_here : (g : Grammar) (s : Site) (m : Message) → IsFresh g s m → receive g s m ≡ New (react g s m.kind)
new_here g s m h = answered_as g s m true true false None h.ok h.mine h.free h.new

-- ---- tests by nodes, equations and watchers alone

pub clash_same : (s : Site) (hs : List Held) (k : Map) (ws : Ref → ℕ → Bool) (kind : Kind) → s.held ≡ hs → s.equations ≡ k → clash (holder hs k ws) kind ≡ clash s kind
clash_same s hs k ws (Calls c load) e f = λ i. call_clash (held_of c.node (sym e i)) c (first_clash (sym f i) load)
clash_same s hs k ws (Asks r from) e f = refl
clash_same s hs k ws (Tells x load) e f = λ i. first_clash (sym f i) (x ∷ load)

pub repeat_same : (s : Site) (hs : List Held) (k : Map) (kind : Kind) → s.held ≡ hs → s.equations ≡ k → is_repeat (holder hs k s.watches) kind ≡ is_repeat s kind
repeat_same s hs k (Calls c load) e f = λ i. is_some (held_of c.node (sym e i)) && all_held (sym f i) load
repeat_same s hs k (Asks r from) e f = refl
repeat_same s hs k (Tells x load) e f = λ i. all_held (sym f i) (x ∷ load)

-- a question is of a role, of which there are 64 at most
few_roles : (g : program.Grammar) → (grammar_of g).roles ≤ 64
few_roles g = ∥∥₁_elim g.well_formed le_prop (λ w. omega (arith, w.roles, w.few_roles))

pub asks_of_role : (g : program.Grammar) (kind : MsgKind) → names_ok (grammar_of g) (kind_of (grammar_of g) kind) ≡ true → IsOfRole (plain_kind kind)
asks_of_role g (msg.Call n rs load) ok = tt
asks_of_role g (msg.Ask r from) ok =
    let few = few_roles g in
    let (a, b) = and_parts _ _ ok in
    let below = ltb-true from (grammar_of g).roles b in
    omega (arith, few, below)
asks_of_role g (msg.Tell e load) ok = tt

-- ---- what may come

-- a valid call of a node of this role
pub call_may_come : (g : Grammar) (role : ℕ) (m : Message) (c : Call) (load : List Equation) → m.kind ≡ Calls c load → message_ok g role m ≡ true →
    is_mine g role m ≡ true → MayBeCalled g role c × MayBeLearnt g role load
call_may_come g role m c load e ok mine =
    let ok' = and_parts _ _ (subst (λ k. (nat_lt m.to g.roles && (names_ok g k && origin_ok g role k)) ≡ true) e ok) in
    let mine' = and_parts _ _ (subst (λ k. (nat_eq m.to role && about_ok g role k) ≡ true) e mine) in
    let (names, origin) = and_parts _ _ ok'.1 in
    let (call, equations) = and_parts _ _ names in
    let (steps, from) = and_parts _ _ origin in
    let (here, others) = and_parts _ _ mine'.1 in
    (record { ok = call; here = here; child = steps; parent = not_true _ from }, record { ok = equations; others = others })

-- valid equations of other roles
pub tell_may_come : (g : Grammar) (role : ℕ) (m : Message) (x : Equation) (load : List Equation) → m.kind ≡ Tells x load →
    message_ok g role m ≡ true → is_mine g role m ≡ true → MayBeLearnt g role (x ∷ load)
tell_may_come g role m x load e ok mine =
    let ok' = and_parts _ _ (subst (λ k. (nat_lt m.to g.roles && (names_ok g k && origin_ok g role k)) ≡ true) e ok) in
    let mine' = and_parts _ _ (subst (λ k. (nat_eq m.to role && about_ok g role k) ≡ true) e mine) in
    let (names, origin) = and_parts _ _ ok'.1 in
    record { ok = names; others = mine'.1 }
