-- Loads have at most 64 equations.
use Rattle.std.specs.Prelude.{slice_get, filter, nat_eq, not}
use Rattle.std.proofs.Common.{ℕ, zero, suc, ◌≤◌, Bool, true, false, cond, List, [], ◌∷◌, ◌++◌, map, length, Option, Some, None, sym, subst, inl, inr, arith}
use Rattle.aw_list.specs.Members.{Member}
use Rattle.aw_list.proofs.Members.{member_split, member_unmap, never}
use Rattle.aw_term.specs.Choices.{Choice, Start, Develop, Outcome, Refused, Starts, Takes}
use Rattle.aw_term.specs.Configs.{Done}
use Rattle.aw_term.specs.Held.{held_of, insert_all, mark}
use Rattle.aw_term.specs.Names.{Ref}
use Rattle.aw_term.specs.Rules.{Grammar}
use Rattle.aw_store.specs.Equations.{Body, Equation, find, mentions}
use Rattle.aw_apply.specs.Made.{Call, made}
use Rattle.aw_apply.specs.Messages.{Kind, Calls, Asks, Tells, Message, Received, New, Repeat, Conflict, NotMine, BadName}
use Rattle.aw_law_sites.specs.Asking.{all_inherited, all_mentions, ask_message, asking, is_wanted}
use Rattle.aw_law_sites.specs.Choosing.{Chosen, No, Did, choose_on, choose, outcome}
use Rattle.aw_law_sites.specs.Homes.{home}
use Rattle.aw_law_sites.specs.InOrder.{in_order}
use Rattle.aw_law_sites.specs.Loads.{Given, load_of, next_given, walk}
use Rattle.aw_law_sites.specs.Reacting.{add_held, react, receive, received_on}
use Rattle.aw_law_sites.specs.Receiving.{add_all, clash, is_mine, is_repeat}
use Rattle.aw_law_sites.specs.Sites.{Site, Reaction}
use Rattle.aw_law_sites.specs.Telling.{call_out, calls_in, calls_out, tell, tell_back, tells, watchers_from}
use Rattle.aw_law_sites.specs.ValidNames.{message_ok}
use Rattle.aw_law_sites.specs.Worlds.{World, site_at, chosen_at, received_at, deliver_on, node_of, Move, Chooses, Delivers, step, run}

-- the load of a message has at most 64 equations
abbrev pub FewLoad : Kind → Type 0
FewLoad (Calls c load) = length load ≤ 64
FewLoad (Asks r from) = Unit {0}
FewLoad (Tells e load) = length load ≤ 64

-- and so has that of each of these
abbrev pub AllFew : List Message → Type 0
AllFew ms = (m : Message) → Member m ms → FewLoad m.kind

few-both : (xs ys : List Message) → AllFew xs → AllFew ys → AllFew (xs ++ ys)
few-both xs ys a b m i = elim (member_split m xs ys i) [ inl o ↦ a m o | inr o ↦ b m o ]

walk-few : (n : ℕ) (g : Grammar) (s : Site) (seen rs : List Ref) → length (walk n g s seen rs) ≤ n
walk-few zero g s seen rs = omega arith
walk-few (suc n) g s seen rs = go (next_given g s seen rs) (walk-few n g s)
  where
    go : (o : Option Given) → ((seen rs : List Ref) → length (walk n g s seen rs) ≤ n)
        → length {A = Equation} (elim o [ None ↦ [] | Some d ↦ d.equation ∷ walk n g s (d.equation.left ∷ seen) (mentions d.equation.body ++ d.rest) ]) ≤ suc n
    go None f = omega arith
    go (Some d) f = let i = f (d.equation.left ∷ seen) (mentions d.equation.body ++ d.rest) in omega (arith, i)

load-few : (g : Grammar) (s : Site) (seen rs : List Ref) → length (load_of g s seen rs) ≤ 64
load-few g s seen rs = go s.loads
  where
    go : (b : Bool) → length (cond b (walk 64 g s seen rs) []) ≤ 64
    go true = walk-few 64 g s seen rs
    go false = omega arith

tells-few : (g : Grammar) (s : Site) (es : List Equation) → AllFew (tells g s es)
tells-few g s [] = λ m i. never i
tells-few g s (e ∷ es) = few-both (map (tell g s e) (watchers_from 64 0 (s.watches e.left))) (tells g s es)
    (λ m i. let (r, j, p) = member_unmap (tell g s e) m (watchers_from 64 0 (s.watches e.left)) i in subst (λ (m : Message). FewLoad m.kind) (sym p) (load-few g s (e.left ∷ []) (mentions e.body)))
    (tells-few g s es)

calls-few : (g : Grammar) (s : Site) (cs : List Call) → AllFew (calls_out g s cs)
calls-few g s [] = λ m i. never i
calls-few g s (c ∷ cs) = go (nat_eq (home g c.node) s.role) (calls-few g s cs)
  where
    go : (b : Bool) → AllFew (calls_out g s cs) → AllFew (cond b (calls_out g s cs) (call_out g s c ∷ calls_out g s cs))
    go true f = f
    go false f = λ m i. elim i [ inl p ↦ subst (λ (m : Message). FewLoad m.kind) (sym p) (load-few g s [] c.inherited) | inr o ↦ f m o ]

asking-few : (g : Grammar) (s : Site) (first : List Message) (rs : List Ref) → AllFew first → AllFew (asking g s first rs).sent
asking-few g s first rs a = few-both first (map (ask_message g s.role) (filter (is_wanted g s) (in_order rs))) a
    (λ m i. let (r, j, p) = member_unmap (ask_message g s.role) m (filter (is_wanted g s) (in_order rs)) i in subst (λ (m : Message). FewLoad m.kind) (sym p) tt)

back-few : (g : Grammar) (s : Site) (o : Option Body) (r : Ref) (from : ℕ) → AllFew (tell_back g s o r from)
back-few g s None r from = λ m i. never i
back-few g s (Some b) r from = λ m i. elim i [ inl p ↦ subst (λ (m : Message). FewLoad m.kind) (sym p) (load-few g s (r ∷ []) (mentions b)) | inr o ↦ never o ]

abbrev SendsFew : Chosen → Type 0
SendsFew (No a) = Unit {0}
SendsFew (Did x) = AllFew x.sent

choose-few : (g : Grammar) (s : Site) (c : Choice) (o : Outcome Ref Ref) → SendsFew (choose_on g s c o)
choose-few g s c (Refused a) = tt
choose-few g s (Start st k) Starts = λ m i. never i
choose-few g s (Start st k) (Takes rule bound) = tt
choose-few g s (Develop n r args) Starts = tt
choose-few g s (Develop n r args) (Takes rule bound) =
    let mk = made n r rule args bound in
    let own = calls_in g s.role mk.calls in
    let s' : Site = record s { held = insert_all own (map (mark n (Done r args)) s.held); choices = s.choices ++ Develop n r args ∷ []; equations = s.equations ++ mk.equations } in
    asking-few g s' (calls_out g s' mk.calls ++ tells g s' mk.equations) (all_mentions mk.equations ++ all_inherited own)
    (few-both (calls_out g s' mk.calls) (tells g s' mk.equations) (calls-few g s' mk.calls) (tells-few g s' mk.equations))

react-few : (g : Grammar) (s : Site) (k : Kind) → AllFew (react g s k).sent
react-few g s (Calls c load) =
    asking-few g (record s { held = add_held (held_of c.node s.held) c s.held; equations = add_all s.equations load }) [] (c.inherited ++ all_mentions load) (λ m i. never i)
react-few g s (Asks r from) = back-few g s (find s.equations r) r from
react-few g s (Tells e load) = asking-few g (record s { equations = add_all s.equations (e ∷ load) }) [] (all_mentions (e ∷ load)) (λ m i. never i)

abbrev BringsFew : Received Reaction → Type 0
BringsFew (New x) = AllFew x.sent
BringsFew _ = Unit {0}

receive-few : (g : Grammar) (s : Site) (m : Message) → BringsFew (receive g s m)
receive-few g s m = go (message_ok g s.role m) (is_mine g s.role m)
  where
    on : (o : _) (b : Bool) → BringsFew (received_on o b (react g s m.kind))
    on (Some c) b = tt
    on None true = tt
    on None false = react-few g s m.kind

    go : (a b : Bool) → BringsFew (cond (not a) BadName (cond (not b) NotMine (received_on (clash s m.kind) (is_repeat s m.kind) (react g s m.kind))))
    go false b = tt
    go true false = tt
    go true true = on (clash s m.kind) (is_repeat s m.kind)

module _ (g : Grammar) where
  chosen-few : (w : World) (a : ℕ) (c : Choice) (z : Chosen) → SendsFew z → AllFew w.messages → AllFew (chosen_at w a c z).world.messages
  chosen-few w a c (No x) s f = f
  chosen-few w a c (Did x) s f = few-both w.messages x.sent f s

  received-few : (w : World) (k to : ℕ) (z : Received Reaction) → BringsFew z → AllFew w.messages → AllFew (received_at w k to z).world.messages
  received-few w k to (New x) s f = few-both w.messages x.sent f s
  received-few w k to Repeat s f = f
  received-few w k to (Conflict a b) s f = f
  received-few w k to NotMine s f = f
  received-few w k to BadName s f = f

  delivered-few : (w : World) (k : ℕ) (o : Option Message) → AllFew w.messages → AllFew (deliver_on g w k o).world.messages
  delivered-few w k None f = f
  delivered-few w k (Some m) f = received-few w k m.to (receive g (site_at w m.to) m) (receive-few g (site_at w m.to) m) f

  step-few : (w : World) (e : Move) → AllFew w.messages → AllFew (step g w e).world.messages
  step-few w (Chooses c) f = chosen-few w (home g (node_of c)) c (choose g (site_at w (home g (node_of c))) c)
      (choose-few g (site_at w (home g (node_of c))) c (outcome g (site_at w (home g (node_of c))) c)) f
  step-few w (Delivers k) f = delivered-few w k (slice_get w.messages k) f

  -- each load of a world
  pub loads_are_few : (es : List Move) (w : World) → AllFew w.messages → AllFew (run g w es).messages
  loads_are_few [] w f = f
  loads_are_few (e ∷ es) w f = loads_are_few es (step g w e).world (step-few w e f)
