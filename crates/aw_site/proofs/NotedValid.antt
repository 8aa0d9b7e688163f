-- What a site asked for and who watches there stays valid where it answers a choice or a message.
use Rattle.std.proofs.Common.{◌≡◌, ℕ, Bool, true, false, cond, List, [], ◌∷◌, ◌++◌, filter, Option, Some, None, Result, Ok, Err, refl, ap, sym, ◌∙◌, subst}
use Rattle.std.specs.Prelude.{not, ◌||◌, ◌&&◌, nat_eq, nat_lt, OnOk, OnErr}
use Rattle.std.proofs.lemmas.Bool.{and_parts, eqb-true}
use Rattle.std.proofs.lemmas.Nat.Bits.{bit_at-zero}
use Rattle.aw_term.specs.Names.{Ref, ref_eq}
use Rattle.aw_term.specs.Rules.{Grammar}
use Rattle.aw_term.specs.Choices.{Choice}
use Rattle.aw_term.specs.Held.{held_of}
use Rattle.aw_term.proofs.RefTests.{ref_eq-true}
use Rattle.aw_base.specs.ChoiceFits.{ref_ok, choice_ok}
use Rattle.aw_grammar.specs.declared.grammar.Grammar as program
use Rattle.aw_grammar.specs.GrammarOf.{grammar_of}
use Rattle.aw_store.specs.declared.facts.Facts.{Ghosts}
use Rattle.aw_apply.specs.Messages.{Kind, Calls, Asks, Tells, Message, BadName, NotMine, Clash}
use Rattle.aw_msg.specs.declared.message.Message as sent
use Rattle.aw_law_sites.specs.Asking.{all_mentions, all_inherited, is_wanted, asked_too}
use Rattle.aw_law_sites.specs.Choosing.{outcome, choose}
use Rattle.aw_law_sites.specs.InOrder.{in_order, has_ref}
use Rattle.aw_law_sites.specs.Reacting.{add_held, react, received_on, receive}
use Rattle.aw_law_sites.specs.Receiving.{is_mine, add_all, clash, is_repeat}
use Rattle.aw_law_sites.specs.SiteEvents.{after_choice, after_message}
use Rattle.aw_law_sites.specs.Sites.{Site, Reaction}
use Rattle.aw_law_sites.specs.Telling.{calls_in, watches_too}
use Rattle.aw_law_sites.specs.ValidNames.{refs_ok, equations_ok, call_ok, names_ok, origin_ok, message_ok}
use Rattle.aw_law_sites.specs.Worlds.{node_of}
use Rattle.aw_space.specs.declared.space.Space.{Space}
use Rattle.aw_space.specs.Seen.{grammar_in}
use Rattle.aw_space.specs.Spaces as S
use Rattle.aw_space.specs.Spaces.{is_home, making}
use Rattle.aw_subs.specs.Entries.{has_bit, is_asked, watchers}
use Rattle.aw_subs.specs.Noted.{asked_in, watches_in}
use Rattle.aw_subs.specs.declared.subs.Subs.{Subs}
use Rattle.aw_site.specs.Chosen.{worked}
use Rattle.aw_site.specs.Doing.{doing}
use Rattle.aw_site.specs.Notes.{AsksValid, WatchedValid}
use Rattle.aw_site.specs.Plans.{made_mentions}
use Rattle.aw_site.specs.Shown.{Shows}
use Rattle.aw_site.proofs.ChosenSites.{asks_after, sends_after, done_on, site_reacted}
use Rattle.aw_site.proofs.MadeValid.{MakesValid, makes_valid}
use Rattle.aw_site.proofs.SentNames.{refs_append, ordered, filtered, mentioned, inherited_ok}

-- ---- references that are asked for too, and a role that watches too

module _ (g : Grammar) where
  ref_cases : (b : Bool) (r s : Ref) (ss : List Ref) → ref_eq r s ≡ b → (b || has_ref r ss) ≡ true → ref_ok g s ≡ true → (has_ref r ss ≡ true → ref_ok g r ≡ true) → ref_ok g r ≡ true
  ref_cases true r s ss same has ok later = ap (ref_ok g) (ref_eq-true r s same) ∙ ok
  ref_cases false r s ss same has ok later = later has

  ref_among : (r : Ref) (rs : List Ref) → refs_ok g rs ≡ true → has_ref r rs ≡ true → ref_ok g r ≡ true
  ref_among r [] ok has = absurd cc
  ref_among r (s ∷ ss) ok has = let (a, b) = and_parts (ref_ok g s) _ ok in ref_cases (ref_eq r s) r s ss refl has a (ref_among r ss b)

  asked_cases : (b : Bool) (r : Ref) (rs : List Ref) → (b || has_ref r rs) ≡ true → (b ≡ true → ref_ok g r ≡ true) → refs_ok g rs ≡ true → ref_ok g r ≡ true
  asked_cases true r rs has before ok = before refl
  asked_cases false r rs has before ok = ref_among r rs ok has

  asked_more : (asked : Ref → Bool) (rs : List Ref) → AsksValid g asked → refs_ok g rs ≡ true → AsksValid g (asked_too asked rs)
  asked_more asked rs before ok r has = asked_cases (asked r) r rs has (before r) ok

  abbrev Watchable : Ref → ℕ → Type 0
  Watchable r role = (ref_ok g r && nat_lt role g.roles) ≡ true

  watched_cases : (a b c : Bool) (r x : Ref) (role other : ℕ) → ref_eq r x ≡ a → nat_eq role other ≡ b → ((a && b) || c) ≡ true → Watchable r role → (c ≡ true → Watchable x other) → Watchable x other
  watched_cases true true c r x role other same equal has ok before =
      let p = ref_eq-true r x same in
      let q = eqb-true role other equal in
      (λ i. ref_ok g (sym p i) && nat_lt (sym q i) g.roles) ∙ ok
  watched_cases true false c r x role other same equal has ok before = before has
  watched_cases false b c r x role other same equal has ok before = before has

  watched_more : (watches : Ref → ℕ → Bool) (r : Ref) (role : ℕ) → WatchedValid g watches → Watchable r role → WatchedValid g (watches_too watches r role)
  watched_more watches r role before ok x other has = watched_cases (ref_eq r x) (nat_eq role other) (watches x other) r x role other refl refl has ok (before x other)

-- ---- at the beginning

pub nothing_asked : (g : Grammar) (subs : Subs) → ((r : Ref) → is_asked subs.subs r ≡ false) → AsksValid g (asked_in subs)
nothing_asked g subs none r has = let no : false ≡ true = sym (none r) ∙ has in absurd cc

pub nobody_watches : (g : Grammar) (subs : Subs) → ((r : Ref) → watchers subs.subs r ≡ 0) → WatchedValid g (watches_in subs)
nobody_watches g subs none r role has =
    let no : false ≡ true = sym (ap (λ b. has_bit b role) (none r) ∙ ap (λ x. nat_eq x 1) (bit_at-zero role)) ∙ has in
    absurd cc

-- ---- a choice

module _ (g : Grammar) (s : Site) (c : Choice) where
  after : after_choice s (choose g s c) ≡ (doing (worked g s c (outcome g s c)) (asks_after g s c (outcome g s c)) (sends_after g s c (outcome g s c))).site
  after = sym (site_reacted s (choose g s c)) ∙ ap (λ (x : Reaction). x.site) (done_on g s c (outcome g s c))

  choice_asks : MakesValid g c (outcome g s c) → AsksValid g s.asked → AsksValid g (after_choice s (choose g s c)).asked
  choice_asks makes before =
      let x = outcome g s c in
      let t = worked g s c x in
      let es = (making c x).equations in
      let cs = (making c x).calls in
      let refs : refs_ok g (made_mentions g t es cs) ≡ true = refs_append g (all_mentions es) (all_inherited (calls_in g t.role cs)) (mentioned g es makes.0) (inherited_ok g t.role cs makes.1) in
      let wanted : refs_ok g (asks_after g s c x) ≡ true = filtered g (is_wanted g t) (in_order (made_mentions g t es cs)) (ordered g (made_mentions g t es cs) refs) in
      subst (λ (y : Site). AsksValid g y.asked) (sym after) (asked_more g s.asked (asks_after g s c x) before wanted)

  choice_watched : WatchedValid g s.watches → WatchedValid g (after_choice s (choose g s c)).watches
  choice_watched before = subst (λ (y : Site). WatchedValid g y.watches) (sym after) before

-- ---- a message

module _ (g : Grammar) (s : Site) where
  wanted_ok : (t : Site) (rs : List Ref) → refs_ok g rs ≡ true → refs_ok g (filter (is_wanted g t) (in_order rs)) ≡ true
  wanted_ok t rs ok = filtered g (is_wanted g t) (in_order rs) (ordered g rs ok)

  react_asks : (kind : Kind) → names_ok g kind ≡ true → AsksValid g s.asked → AsksValid g (react g s kind).site.asked
  react_asks (Calls c load) names before =
      let (call, es) = and_parts (call_ok g c) (equations_ok g load) names in
      let t = record s { held = add_held (held_of c.node s.held) c s.held; equations = add_all s.equations load } in
      let rs = c.inherited ++ all_mentions load in
      asked_more g s.asked (filter (is_wanted g t) (in_order rs)) before
      (wanted_ok t rs (refs_append g c.inherited (all_mentions load) (and_parts _ (refs_ok g c.inherited) call).1 (mentioned g load es)))
  react_asks (Asks r from) names before = before
  react_asks (Tells e load) names before =
      let t = record s { equations = add_all s.equations (e ∷ load) } in
      let rs = all_mentions (e ∷ load) in
      asked_more g s.asked (filter (is_wanted g t) (in_order rs)) before (wanted_ok t rs (mentioned g (e ∷ load) names))

  react_watched : (kind : Kind) → names_ok g kind ≡ true → WatchedValid g s.watches → WatchedValid g (react g s kind).site.watches
  react_watched (Calls c load) names before = before
  react_watched (Asks r from) names before = watched_more g s.watches r from before names
  react_watched (Tells e load) names before = before

  received_cases : (P : Site → Type 0) (valid mine known : Bool) (c : Option Clash) (x : Reaction) → (valid ≡ true → P x.site) → P s
      → P (after_message s (cond (not valid) BadName (cond (not mine) NotMine (received_on c known x))))
  received_cases P false mine known c x now before = before
  received_cases P true false known c x now before = before
  received_cases P true true known (Some c) x now before = before
  received_cases P true true true None x now before = before
  received_cases P true true false None x now before = now refl

  after_kind : (P : Site → Type 0) (m : Message) → (names_ok g m.kind ≡ true → P (react g s m.kind).site) → P s → P (after_message s (receive g s m))
  after_kind P m now before =
      received_cases P (message_ok g s.role m) (is_mine g s.role m) (is_repeat s m.kind) (clash s m.kind) (react g s m.kind)
      (λ e. now (and_parts (names_ok g m.kind) (origin_ok g s.role m.kind) (and_parts _ _ e).1).0) before

  message_asks : (m : Message) → AsksValid g s.asked → AsksValid g (after_message s (receive g s m)).asked
  message_asks m before = after_kind (λ y. AsksValid g y.asked) m (λ names. react_asks m.kind names before) before

  message_watched : (m : Message) → WatchedValid g s.watches → WatchedValid g (after_message s (receive g s m)).watches
  message_watched m before = after_kind (λ y. WatchedValid g y.watches) m (λ names. react_watched m.kind names before) before

-- ---- sites of the program

-- what was asked for and who watches stays valid
abbrev pub KeepsNotes : Grammar → Site → Site → Type 0
KeepsNotes g s t = (AsksValid g s.asked → AsksValid g t.asked) × (WatchedValid g s.watches → WatchedValid g t.watches)

module _ {F : Type 0} (f : Ghosts F) (old new : Space F f) (subs subs' : Subs) (outbox outbox' : List sent.Message) (loads : Bool) where
  abbrev g : Grammar
  g = grammar_in f old

  abbrev Was : Site → Type 0
  Was = Shows f old subs outbox loads

  abbrev Is : Site → Type 0
  Is = Shows f new subs' outbox' loads

  asked_shown : (s t : Site) → Was s → Is t → (AsksValid g s.asked → AsksValid g t.asked) → grammar_in f new ≡ g → AsksValid g (asked_in subs) → (r : Ref)
      → asked_in subs' r ≡ true → ref_ok (grammar_in f new) r ≡ true
  asked_shown s t was is keeps same before r has =
      ap (λ (x : Grammar). ref_ok x r) same ∙ keeps (λ x h. before x (sym (was.holds.asked x) ∙ h)) r (is.holds.asked r ∙ has)

  watched_shown : (s t : Site) → Was s → Is t → (WatchedValid g s.watches → WatchedValid g t.watches) → grammar_in f new ≡ g → WatchedValid g (watches_in subs)
      → (r : Ref) (role : ℕ) → watches_in subs' r role ≡ true → (ref_ok (grammar_in f new) r && nat_lt role (grammar_in f new).roles) ≡ true
  watched_shown s t was is keeps same before r role has =
      ap (λ (x : Grammar). ref_ok x r && nat_lt role x.roles) same ∙ keeps (λ x k h. before x k (sym (was.holds.watchers x k) ∙ h)) r role (is.holds.watchers r role ∙ has)

  module _ {A E : Type 0} (after : Site → Site) (same : grammar_in f new ≡ g) (s : Site) (was : Was s) (keeps : KeepsNotes g s (after s)) where
    pub asked_on : (r : Result A E) → OnOk r ((s : Site) → Was s → Is (after s)) → OnErr r ((s : Site) → Was s → Is s)
        → AsksValid g (asked_in subs) → AsksValid (grammar_in f new) (asked_in subs')
    asked_on (Ok a) ok err before r has = asked_shown s (after s) was (ok s was) keeps.0 same before r has
    asked_on (Err e) ok err before r has = asked_shown s s was (err s was) (λ x. x) same before r has

    pub watched_on : (r : Result A E) → OnOk r ((s : Site) → Was s → Is (after s)) → OnErr r ((s : Site) → Was s → Is s)
        → WatchedValid g (watches_in subs) → WatchedValid (grammar_in f new) (watches_in subs')
    watched_on (Ok a) ok err before r role has = watched_shown s (after s) was (ok s was) keeps.1 same before r role has
    watched_on (Err e) ok err before r role has = watched_shown s s was (err s was) (λ x. x) same before r role has

module _ {F : Type 0} (f : Ghosts F) (old : Space F f) (subs : Subs) (outbox : List sent.Message) (loads : Bool) (s : Site) (shows : Shows f old subs outbox loads s) where
  abbrev gr : program.Grammar
  gr = old.accepted.now.grammar

  choice_here : (c : Choice) → choice_ok (grammar_of gr) c ≡ true → is_home (grammar_of gr) old.role (node_of c) ≡ true → KeepsNotes (grammar_of gr) s (after_choice s (choose (grammar_of gr) s c))
  choice_here c ok here =
      let makes = makes_valid gr old.role old.held.items (f.map old.facts) (f.names old.facts) old.sound old.valid c ok here in
      let same = ap (λ (sp : S.Space). S.outcome (grammar_of gr) sp c) shows.holds.holds in
      (choice_asks (grammar_of gr) s c (subst (MakesValid (grammar_of gr) c) (sym same) makes), choice_watched (grammar_of gr) s c)

  -- a choice
  pub choice_notes : (h : program.Grammar) (c : Choice) → h ≡ gr → choice_ok (grammar_of h) c ≡ true → is_home (grammar_of h) old.role (node_of c) ≡ true
      → KeepsNotes (grammar_of gr) s (after_choice s (choose (grammar_of h) s c))
  choice_notes h c same ok here =
      subst (λ (x : program.Grammar). KeepsNotes (grammar_of gr) s (after_choice s (choose (grammar_of x) s c))) (sym same)
      (choice_here c (subst (λ (x : program.Grammar). choice_ok (grammar_of x) c ≡ true) same ok) (subst (λ (x : program.Grammar). is_home (grammar_of x) old.role (node_of c) ≡ true) same here))

-- a message
pub message_notes : (g h : Grammar) (s : Site) (m : Message) → h ≡ g → KeepsNotes g s (after_message s (receive h s m))
message_notes g h s m same = subst (λ (x : Grammar). KeepsNotes g s (after_message s (receive x s m))) (sym same) (message_asks g s m, message_watched g s m)
