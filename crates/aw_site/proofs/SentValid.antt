-- What a plain site sends for a choice and for a message is valid, and stands at the end of its outbox.
use Rattle.std.proofs.Common.{◌≡◌, ℕ, Bool, true, false, cond, List, ◌∷◌, ◌++◌, map, filter, Option, Some, None, refl, ap, sym, ◌∙◌}
use Rattle.std.specs.Prelude.{not}
use Rattle.std.proofs.lemmas.Bool.{and_parts}
use Rattle.std.proofs.lemmas.List.{append-nil}
use Rattle.aw_term.specs.Names.{Ref}
use Rattle.aw_term.specs.Rules.{Grammar}
use Rattle.aw_term.specs.Choices.{Choice}
use Rattle.aw_term.specs.Held.{held_of}
use Rattle.aw_term.specs.WellFormed.{Each}
use Rattle.aw_apply.specs.Made.{Call}
use Rattle.aw_apply.specs.Messages.{Kind, Calls, Asks, Tells, Message, BadName, NotMine, Clash}
use Rattle.aw_law_sites.specs.Asking.{all_mentions, all_inherited, is_wanted, ask_message}
use Rattle.aw_law_sites.specs.Choosing.{outcome, choose}
use Rattle.aw_law_sites.specs.InOrder.{in_order}
use Rattle.aw_law_sites.specs.Reacting.{add_held, react, received_on, receive}
use Rattle.aw_law_sites.specs.Receiving.{is_mine, add_all, clash, is_repeat}
use Rattle.aw_law_sites.specs.SiteEvents.{after_choice, after_message}
use Rattle.aw_law_sites.specs.Sites.{Site, Reaction}
use Rattle.aw_law_sites.specs.Telling.{calls_in, calls_out, tells}
use Rattle.aw_law_sites.specs.ValidNames.{refs_ok, equations_ok, call_ok, names_ok, origin_ok, message_ok}
use Rattle.aw_space.specs.Spaces.{making}
use Rattle.aw_site.specs.Answers.{sent_by, sent_for}
use Rattle.aw_site.specs.Chosen.{worked, reaction_of}
use Rattle.aw_site.specs.Doing.{doing}
use Rattle.aw_site.specs.Plans.{made_mentions, told, asks_for}
use Rattle.aw_site.specs.Sendable.{all_sendable}
use Rattle.aw_site.specs.Shown.{space_in}
use Rattle.aw_site.proofs.ChosenSites.{asks_after, sends_after, done_on, made_behind, site_reacted, sent_reacted}
use Rattle.aw_site.proofs.SentNames.{refs_append, ordered, filtered, mentioned, inherited_ok, equations_append, sendable_append, asks_valid, tells_valid, calls_valid, back_valid}

-- ---- a choice

module _ (g : Grammar) (s : Site) (c : Choice) where
  does : reaction_of s (choose g s c) ≡ doing (worked g s c (outcome g s c)) (asks_after g s c (outcome g s c)) (sends_after g s c (outcome g s c))
  does = done_on g s c (outcome g s c)

  sends : sent_by (choose g s c) ≡ sends_after g s c (outcome g s c)
  sends = sym (sent_reacted s (choose g s c)) ∙ ap (λ (x : Reaction). x.sent) does

  -- what is sent stands at the end of the outbox
  pub choice_outbox : (after_choice s (choose g s c)).outbox ≡ s.outbox ++ sent_by (choose g s c)
  choice_outbox =
      ap (λ (x : Site). x.outbox) (sym (site_reacted s (choose g s c)) ∙ ap (λ (x : Reaction). x.site) does)
      ∙ ap (λ ms. s.outbox ++ ms) (sym sends)

  -- where what is made is valid, so is what is sent
  pub choice_valid : equations_ok g s.equations ≡ true → equations_ok g (making c (outcome g s c)).equations ≡ true → Each (λ (d : Call). call_ok g d ≡ true) (making c (outcome g s c)).calls
      → all_sendable g (sent_by (choose g s c)) ≡ true
  choice_valid ok new kids =
      let x = outcome g s c in
      let t = worked g s c x in
      let es = (making c x).equations in
      let cs = (making c x).calls in
      let ok' : equations_ok g t.equations ≡ true = ap (equations_ok g) (made_behind g s.role (space_in s) c x) ∙ equations_append g s.equations es ok new in
      let refs : refs_ok g (made_mentions g t es cs) ≡ true = refs_append g (all_mentions es) (all_inherited (calls_in g t.role cs)) (mentioned g es new) (inherited_ok g t.role cs kids) in
      let wanted : refs_ok g (asks_after g s c x) ≡ true = filtered g (is_wanted g t) (in_order (made_mentions g t es cs)) (ordered g (made_mentions g t es cs) refs) in
      ap (all_sendable g) sends
      ∙ sendable_append g (told g t es cs) (asks_for g t (asks_after g s c x))
      (sendable_append g (calls_out g t cs) (tells g t es) (calls_valid g t ok' cs kids) (tells_valid g t ok' es new))
      (asks_valid g t.role (asks_after g s c x) wanted)

-- ---- a message

module _ (g : Grammar) (s : Site) (ok : equations_ok g s.equations ≡ true) where
  asked_valid : (t : Site) (role : ℕ) (rs : List Ref) → refs_ok g rs ≡ true → all_sendable g (map (ask_message g role) (filter (is_wanted g t) (in_order rs))) ≡ true
  asked_valid t role rs all = asks_valid g role (filter (is_wanted g t) (in_order rs)) (filtered g (is_wanted g t) (in_order rs) (ordered g rs all))

  react_valid : (kind : Kind) → names_ok g kind ≡ true → all_sendable g (react g s kind).sent ≡ true
  react_valid (Calls c load) names =
      let (call, es) = and_parts (call_ok g c) (equations_ok g load) names in
      asked_valid (record s { held = add_held (held_of c.node s.held) c s.held; equations = add_all s.equations load }) s.role
      (c.inherited ++ all_mentions load) (refs_append g c.inherited (all_mentions load) (and_parts _ (refs_ok g c.inherited) call).1 (mentioned g load es))
  react_valid (Asks r from) names = back_valid g s ok r from
  react_valid (Tells e load) names = asked_valid (record s { equations = add_all s.equations (e ∷ load) }) s.role (all_mentions (e ∷ load)) (mentioned g (e ∷ load) names)

  received_cases : (valid mine known : Bool) (c : Option Clash) (x : Reaction) → (valid ≡ true → all_sendable g x.sent ≡ true)
      → all_sendable g (sent_for (cond (not valid) BadName (cond (not mine) NotMine (received_on c known x)))) ≡ true
  received_cases false mine known c x h = refl
  received_cases true false known c x h = refl
  received_cases true true known (Some c) x h = refl
  received_cases true true true None x h = refl
  received_cases true true false None x h = h refl

  -- what is sent for any message is valid
  pub message_valid : (m : Message) → all_sendable g (sent_for (receive g s m)) ≡ true
  message_valid m = received_cases (message_ok g s.role m) (is_mine g s.role m) (is_repeat s m.kind) (clash s m.kind) (react g s m.kind)
      (λ e. react_valid m.kind (and_parts (names_ok g m.kind) (origin_ok g s.role m.kind) (and_parts _ _ e).1).0)

react_outbox : (g : Grammar) (s : Site) (kind : Kind) → (react g s kind).site.outbox ≡ s.outbox ++ (react g s kind).sent
react_outbox g s (Calls c load) = refl
react_outbox g s (Asks r from) = refl
react_outbox g s (Tells e load) = refl

outbox_cases : (s : Site) (valid mine known : Bool) (c : Option Clash) (x : Reaction) → x.site.outbox ≡ s.outbox ++ x.sent →
    (after_message s (cond (not valid) BadName (cond (not mine) NotMine (received_on c known x)))).outbox ≡ s.outbox ++ sent_for
    (cond (not valid) BadName (cond (not mine) NotMine (received_on c known x)))
outbox_cases s false mine known c x e = sym (append-nil s.outbox)
outbox_cases s true false known c x e = sym (append-nil s.outbox)
outbox_cases s true true known (Some c) x e = sym (append-nil s.outbox)
outbox_cases s true true true None x e = sym (append-nil s.outbox)
outbox_cases s true true false None x e = e

-- what is sent stands at the end of the outbox
pub message_outbox : (g : Grammar) (s : Site) (m : Message) → (after_message s (receive g s m)).outbox ≡ s.outbox ++ sent_for (receive g s m)
message_outbox g s m = outbox_cases s (message_ok g s.role m) (is_mine g s.role m) (is_repeat s m.kind) (clash s m.kind) (react g s m.kind) (react_outbox g s m.kind)
