-- The replies of a site of the program are those of each plain site that it shows.
use Rattle.std.proofs.Common.{◌≡◌, ℕ, ◌≤◌, true, List, length, map, slice_get, Some, refl, ap, sym, ◌∙◌, subst, arith}
use Rattle.std.specs.Prelude.{option_map}
use Rattle.std.specs.Coded.{le_prop}
use Rattle.std.proofs.lemmas.List.{length-map}
use Rattle.std.proofs.lemmas.Option.{slice_get-map, slice_get_past}
use Rattle.std.proofs.lemmas.Bool.{eq-eqb}
use Rattle.std.proofs.Math.Logic.{∥∥₁_elim}
use Rattle.aw_term.specs.Names.{Node}
use Rattle.aw_term.specs.Rules.{Grammar}
use Rattle.aw_grammar.specs.declared.grammar.Grammar as declared
use Rattle.aw_grammar.specs.GrammarOf.{grammar_of}
use Rattle.aw_apply.specs.Messages as P
use Rattle.aw_store.specs.declared.facts.Facts.{Ghosts}
use Rattle.aw_msg.specs.Responses as R
use Rattle.aw_law_nodes.specs.Nodes as N
use Rattle.aw_law_sites.specs.Homes.{home}
use Rattle.aw_law_sites.specs.SiteEvents.{after_message}
use Rattle.aw_law_sites.specs.Sites.{Site, Reaction}
use Rattle.aw_space.specs.Spaces.{is_home}
use Rattle.aw_site.specs.Seen.{role_in, site_seen, IsShown}
use Rattle.aw_site.specs.declared.site.Site as program
use Rattle.aw_law_nodes.specs.Told.{told}

-- ---- messages

-- a site after a message is the one that was handled
pub received_site : (s : Site) (x : P.Received Reaction) → after_message s x ≡ (N.received s x).site
received_site s P.BadName = refl
received_site s P.NotMine = refl
received_site s (P.Conflict a b) = refl
received_site s P.Repeat = refl
received_site s (P.New x) = refl

-- ---- places

-- what stands at a place of a list
pub at_some : {A B : Type 0} (f : A → B) (say : B → N.Response) (n : ℕ) (xs : List A) (place : ℕ) (x : A) → slice_get xs place ≡ Some x →
    told (say (f x)) ≡ told (N.at_place say n (slice_get (map f xs) place))
at_some f say n xs place x e = ap (λ o. told (N.at_place say n o)) (sym (slice_get-map f xs place ∙ ap (option_map f) e))

-- and how many there are
pub at_none : {A B : Type 0} (f : A → B) (say : B → N.Response) (xs : List A) (place count : ℕ) → count ≡ length xs → length xs ≤ place →
    R.Ended count ≡ told (N.at_place say (length (map f xs)) (slice_get (map f xs) place))
at_none f say xs place count c l =
    let none = slice_get_past (map f xs) place (subst (λ n. n ≤ place) (sym (length-map xs f)) l) in
    ap R.Ended (c ∙ sym (length-map xs f)) ∙ ap (λ o. told (N.at_place say (length (map f xs)) o)) (sym none)

-- ---- choices

-- a node of the role of each plain site that is shown is at home here
pub here_at : {F : Type 0} (f : Ghosts F) (site : program.Site F f) (g : Grammar) (n : Node) → ((s : Site) → IsShown f site s → home g n ≡ s.role) → is_home g (role_in f site) n ≡ true
here_at f site g n h = eq-eqb _ _ (h (site_seen f site) refl)

-- what holds of the plain site that a site is, holds of each that it shows
pub as_seen : {F : Type 0} (f : Ghosts F) (site : program.Site F f) (P : Site → Type 0) → P (site_seen f site) → (s : Site) → IsShown f site s → P s
as_seen f site P p s e = subst P e p

-- a grammar has 64 roles at most
pub few_roles : (g : declared.Grammar) → (grammar_of g).roles ≤ 64
few_roles g = ∥∥₁_elim g.well_formed le_prop (λ w. omega (arith, w.roles, w.few_roles))
