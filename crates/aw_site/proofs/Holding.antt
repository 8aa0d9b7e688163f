-- What a plain site holds, by the site of the program that shows it.
use Rattle.std.proofs.Common.{◌≡◌, ℕ, Bool, true, List, ◌++◌, map, Option, option_map, length, ap, sym, ◌∙◌, subst}
use Rattle.std.proofs.lemmas.Bool.{and_parts}
use Rattle.std.proofs.Math.Path.{fun_ext}
use Rattle.std.proofs.lemmas.List.{length-map, map-append}
use Rattle.aw_term.specs.Rules.{Grammar}
use Rattle.aw_node_list.specs.declared.held.Held.{Held as Node}
use Rattle.aw_grammar.specs.declared.grammar.Grammar as program
use Rattle.aw_grammar.specs.GrammarOf.{grammar_of}
use Rattle.aw_node_list.specs.HeldView.{all_of}
use Rattle.aw_store.specs.declared.facts.Facts.{Ghosts}
use Rattle.aw_subs.specs.declared.subs.Subs.{Subs}
use Rattle.aw_subs.specs.Noted.{watches_in}
use Rattle.aw_msg.specs.declared.message.Message.{Message}
use Rattle.aw_msg.specs.declared.message.MsgKind.{MsgKind}
use Rattle.aw_msg.specs.MessageView.{message_of, plain_kind}
use Rattle.aw_law_sites.specs.Asking.{asked_too}
use Rattle.aw_law_sites.specs.Receiving.{is_mine, clash, is_repeat}
use Rattle.aw_law_sites.specs.Sites.{Site, Reaction}
use Rattle.aw_law_sites.specs.ValidNames.{message_ok}
use Rattle.aw_space.specs.declared.space.Space.{Space}
use Rattle.aw_space.specs.Spaces as S
use Rattle.aw_space.specs.SpaceView.{space_of}
use Rattle.aw_space.specs.Seen.{space_seen}
use Rattle.aw_site.specs.declared.plan.Plan.{Plan}
use Rattle.aw_site.specs.Doing.{doing_planned, IsPlanned}
use Rattle.aw_site_repeat.specs.Holders.{holder, nobody, IsOfRole, ShowsAsked, ShowsWatchers}
use Rattle.aw_site_repeat.specs.Views.{kind_of}
use Rattle.aw_site.specs.Shown.{space_in, HoldsAs, Shows}
use Rattle.aw_site.specs.Views.{clash_of}
use Rattle.aw_site.specs.declared.clashes.Clash.{Clash}
use Rattle.aw_site.proofs.Receptions.{clash_same, repeat_same, asks_of_role}

-- ---- what is held

module _ {F : Type 0} (f : Ghosts F) (space : Space F f) (subs : Subs) (loads : Bool) (s : Site) (g : program.Grammar) (same : g ≡ space.accepted.now.grammar) (h : HoldsAs f space subs loads s) where
  pub seen_by : space_in s ≡ space_of (grammar_of g) space.held.items space.choices.items (f.map space.facts)
  seen_by = subst (λ (x : program.Grammar). space_in s ≡ space_of (grammar_of x) space.held.items space.choices.items (f.map space.facts)) (sym same) h.holds

  pub held_by : s.held ≡ all_of (grammar_of g) space.held.items
  held_by = ap (λ (sp : S.Space). sp.held) seen_by

  pub equations_by : s.equations ≡ f.map space.facts
  equations_by = ap (λ (sp : S.Space). sp.equations) seen_by

  -- tests of a message
  pub ok_by : (m : Message) (other : program.Grammar) (role : ℕ) (b : Bool) → other ≡ g → role ≡ space.role → b ≡ message_ok (grammar_of other) role
      (message_of (grammar_of other) m) → message_ok (grammar_of g) s.role (message_of (grammar_of g) m) ≡ b
  ok_by m other role b e r v = sym (v ∙ (λ i. message_ok (grammar_of (e i)) ((r ∙ sym h.role) i) (message_of (grammar_of (e i)) m)))

  pub mine_by : (m : Message) (other : program.Grammar) (role : ℕ) (b : Bool) → other ≡ g → role ≡ space.role → b ≡ is_mine (grammar_of other) role
      (message_of (grammar_of other) m) → is_mine (grammar_of g) s.role (message_of (grammar_of g) m) ≡ b
  mine_by m other role b e r v = sym (v ∙ (λ i. is_mine (grammar_of (e i)) ((r ∙ sym h.role) i) (message_of (grammar_of (e i)) m)))

  pub clash_by : (kind lent : MsgKind) (nodes : List Node) (facts : F) (o : Option Clash) → lent ≡ kind → nodes ≡ space.held.items → facts ≡ space.facts
      → ((gr : Grammar) → option_map clash_of o ≡ clash (holder (all_of gr nodes) (f.map facts) nobody) (kind_of gr lent)) → clash s (kind_of (grammar_of g) kind) ≡ option_map clash_of o
  clash_by kind lent nodes facts o k n e v =
      sym (v (grammar_of g)
      ∙ (λ i. clash (holder (all_of (grammar_of g) (n i)) (f.map (e i)) nobody) (kind_of (grammar_of g) (k i)))
      ∙ clash_same s (all_of (grammar_of g) space.held.items) (f.map space.facts) nobody (kind_of (grammar_of g) kind) held_by equations_by)

  pub repeat_by : (kind lent : MsgKind) (nodes : List Node) (facts : F) (b : Bool) → lent ≡ kind → nodes ≡ space.held.items → facts ≡ space.facts
      → ((gr : Grammar) → b ≡ is_repeat (holder (all_of gr nodes) (f.map facts) (watches_in subs)) (kind_of gr lent)) → is_repeat s (kind_of (grammar_of g) kind) ≡ b
  repeat_by kind lent nodes facts b k n e v =
      let watched : watches_in subs ≡ s.watches = fun_ext (λ r. fun_ext (λ role. sym (h.watchers r role))) in
      sym (v (grammar_of g)
      ∙ (λ i. is_repeat (holder (all_of (grammar_of g) (n i)) (f.map (e i)) (watched i)) (kind_of (grammar_of g) (k i)))
      ∙ repeat_same s (all_of (grammar_of g) space.held.items) (f.map space.facts) (kind_of (grammar_of g) kind) held_by equations_by)

-- a question in a valid message is of a role
pub of_role : (g : program.Grammar) (role : ℕ) (m : Message) → message_ok (grammar_of g) role (message_of (grammar_of g) m) ≡ true → IsOfRole (plain_kind m.kind)
of_role g role m ok =
    let (a, b) = and_parts _ _ ok in
    let (names, c) = and_parts _ _ b in
    asks_of_role g m.kind names

-- ---- what was planned is done

pub count_planned : (g : program.Grammar) (t : Site) (x : Reaction) (p : Plan) (n : ℕ) → n ≡ length p.sent.items → IsPlanned (grammar_of g) t x p → n ≡ length x.sent
count_planned g t x p n l e =
    l ∙ sym (length-map p.sent.items (message_of (grammar_of g))) ∙ ap (λ (y : Reaction). length y.sent) (sym e)

pub copy_planned : (g : program.Grammar) (t : Site) (x : Reaction) (p : Plan) (old new : List Message) → new ≡ old ++ p.sent.items → IsPlanned (grammar_of g) t x p
    → map (message_of (grammar_of g)) new ≡ map (message_of (grammar_of g)) old ++ x.sent
copy_planned g t x p old new n e =
    ap (map (message_of (grammar_of g))) n
    ∙ map-append (message_of (grammar_of g)) old p.sent.items
    ∙ ap (λ (y : Reaction). map (message_of (grammar_of g)) old ++ y.sent) (sym e)

outbox_planned : (g : program.Grammar) (p : Plan) (old room new : List Message) → room ≡ old → new ≡ room ++ p.sent.items
    → map (message_of (grammar_of g)) old ++ map (message_of (grammar_of g)) p.sent.items ≡ map (message_of (grammar_of g)) new
outbox_planned g p old room new r n =
    sym (map-append (message_of (grammar_of g)) old p.sent.items)
    ∙ ap (map (message_of (grammar_of g))) (sym (n ∙ (λ i. r i ++ p.sent.items)))

-- the site that did all else is shown, and then what was planned is done
pub shown_planned : {F : Type 0} (f : Ghosts F) (space : Space F f) (subs : Subs) (loads : Bool) (g : program.Grammar) (t : Site) (x : Reaction) (p : Plan) (old room new : List Message)
    → g ≡ space.accepted.now.grammar → t.role ≡ space.role → t.loads ≡ loads → space_in t ≡ space_seen f space → ShowsAsked subs (asked_too t.asked p.wanted.items) → ShowsWatchers subs t.watches
    → t.outbox ≡ map (message_of (grammar_of g)) old → room ≡ old → new ≡ room ++ p.sent.items → IsPlanned (grammar_of g) t x p → Shows f space subs new loads x.site
shown_planned f space subs loads g t x p old room new same role flag holds asked watchers outbox r n e =
    let done : Shows f space subs new loads (doing_planned (grammar_of g) t p).site = record {
      holds = record { role = role; flag = flag; holds = holds; asked = asked; watchers = watchers };
      sent =
          ap (λ ms. ms ++ map (message_of (grammar_of g)) p.sent.items) outbox
          ∙ outbox_planned g p old room new r n
          ∙ (λ i. map (message_of (grammar_of (same i))) new);
    } in
    subst (λ (y : Reaction). Shows f space subs new loads y.site) (sym e) done
