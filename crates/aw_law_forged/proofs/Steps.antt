-- One further event at a site: nothing, a start, a rule that is taken, or a message that is new.
use Rattle.std.specs.Prelude.{not}
use Rattle.std.proofs.Common.{◌≡◌, ℕ, Bool, true, false, cond, List, [], ◌∷◌, ◌++◌, Option, Some, None, refl, sym, ap, ◌∙◌, subst, append_assoc, append-nil}
use Rattle.aw_term.specs.Choices.{Choice, Start, Develop, Outcome, Refused, Starts, Takes}
use Rattle.aw_term.specs.Names.{Node, Ref}
use Rattle.aw_term.specs.Rules.{Grammar, Ground, Rule}
use Rattle.aw_term.specs.WellFormed.{Each}
use Rattle.aw_apply.specs.Made.{Making, made}
use Rattle.aw_apply.specs.Messages.{Message, Clash, Received, BadName, NotMine, Conflict, Repeat, New}
use Rattle.aw_law_sites.specs.Choosing.{choose_on, develop_site, outcome, start_site}
use Rattle.aw_law_sites.specs.Reacting.{react, receive, received_on}
use Rattle.aw_law_sites.specs.Receiving.{clash, is_mine, is_repeat}
use Rattle.aw_law_sites.specs.SiteEvents.{SiteEvent, Chose, Got, after_choice, after_message, site_step, site_run}
use Rattle.aw_law_sites.specs.Sites.{Site, Reaction}
use Rattle.aw_law_sites.specs.ValidNames.{message_ok}
use Rattle.aw_law_forged.specs.Forged.{making_of, makes, all_made}

-- what holds of no events, and with each further one, holds of all
pub grows : (P : List SiteEvent → Type 0) (Q : SiteEvent → Type 0) → ((xs : List SiteEvent) (e : SiteEvent) → P xs → Q e → P (xs ++ e ∷ [])) → P [] → (es : List SiteEvent) → Each Q es → P es
grows P Q more none es each = go [] es none each
  where
    go : (xs ys : List SiteEvent) → P xs → Each Q ys → P (xs ++ ys)
    go xs [] p q = subst P (sym (append-nil xs)) p
    go xs (e ∷ ys) p q = subst P (append_assoc xs (e ∷ []) ys) (go (xs ++ e ∷ []) ys (more xs e p q.0) q.1)

-- the site after one further event
pub run-more : (g : Grammar) (s : Site) (xs : List SiteEvent) (e : SiteEvent) → site_run g s (xs ++ e ∷ []) ≡ site_step g (site_run g s xs) e
run-more g s [] e = refl
run-more g s (x ∷ xs) e = run-more g (site_step g s x) xs e

-- what was made after one further event
pub made-more : (g : Grammar) (s : Site) (xs : List SiteEvent) (e : SiteEvent) → all_made g s (xs ++ e ∷ []) ≡ all_made g s xs ++ makes g (site_run g s xs) e
made-more g s [] e = append-nil (makes g s e)
made-more g s (x ∷ xs) e =
    ap (λ ms. makes g s x ++ ms) (made-more g (site_step g s x) xs e) ∙ sym (append_assoc (makes g s x) (all_made g (site_step g s x) xs) (makes g (site_run g (site_step g s x) xs) e))

-- what is said of a message by its being new
pub record IsNews (g : Grammar) (s : Site) (m : Message) : Type 0 where
  pub valid : message_ok g s.role m ≡ true
  pub mine : is_mine g s.role m ≡ true
  pub fits : clash s m.kind ≡ None
  pub news : is_repeat s m.kind ≡ false

pub is-news : (g : Grammar) (s : Site) (m : Message) (y : Reaction) → receive g s m ≡ New y → IsNews g s m × (react g s m.kind ≡ y)
is-news g s m y e = go (message_ok g s.role m) (is_mine g s.role m) (clash s m.kind) (is_repeat s m.kind) refl refl refl refl e
  where
    go : (a b : Bool) (o : Option Clash) (d : Bool) → message_ok g s.role m ≡ a → is_mine g s.role m ≡ b → clash s m.kind ≡ o → is_repeat s m.kind ≡ d →
        cond (not a) BadName (cond (not b) NotMine (received_on o d (react g s m.kind))) ≡ New y → IsNews g s m × (react g s m.kind ≡ y)
    go false b o d p q c r e = absurd cc
    go true false o d p q c r e = absurd cc
    go true true (Some x) d p q c r e = absurd cc
    go true true None true p q c r e = absurd cc
    go true true None false p q c r e = (record { valid = p; mine = q; fits = c; news = r }, cc)

-- The site after a choice and what that made: P holds where nothing happens, a case starts, and a rule is taken.
module _ (g : Grammar) (s : Site) (P : Site → List Making → Type 0) (same : P s []) where
  pub chosen-case : (c : Choice) → ((st k : ℕ) → c ≡ Start st k → outcome g s (Start st k) ≡ Starts → P (start_site s st k) [])
      → ((n : Node) (r : ℕ) (args : List Ground) (rule : Rule) (bound : List Ref) → c ≡ Develop n r args → outcome g s (Develop n r args) ≡ Takes rule bound
      → P (develop_site g s (Develop n r args) n r args (made n r rule args bound)).site (made n r rule args bound ∷ []))
      → P (site_step g s (Chose c)) (makes g s (Chose c))
  chosen-case c starts takes = go c refl (outcome g s c) refl
    where
      go : (d : Choice) → c ≡ d → (o : Outcome Ref Ref) → outcome g s d ≡ o → P (after_choice s (choose_on g s d o)) (making_of d o)
      go (Start st k) q (Refused a) e = same
      go (Start st k) q Starts e = starts st k q e
      go (Start st k) q (Takes rule bound) e = same
      go (Develop n r args) q (Refused a) e = same
      go (Develop n r args) q Starts e = same
      go (Develop n r args) q (Takes rule bound) e = takes n r args rule bound q e

-- the site after a message: P holds where it changes nothing, and where it is new
pub received-case : (g : Grammar) (s : Site) (P : Site → Type 0) → P s → (m : Message) → ((y : Reaction) → receive g s m ≡ New y → IsNews g s m → P (react g s m.kind).site) → P (site_step g s (Got m))
received-case g s P same m new = go (receive g s m) refl
  where
    go : (o : Received Reaction) → receive g s m ≡ o → P (after_message s o)
    go (New y) e = let (n, p) = is-news g s m y e in subst (λ (z : Reaction). P z.site) p (new y e n)
    go BadName e = same
    go NotMine e = same
    go (Conflict a b) e = same
    go Repeat e = same
