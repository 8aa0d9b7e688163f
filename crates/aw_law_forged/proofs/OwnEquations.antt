-- The equations of a site's own references.
use Rattle.std.specs.Prelude.{nat_eq, not}
use Rattle.std.proofs.Common.{◌≡◌, ℕ, ◌+◌, Bool, true, false, cond, List, [], ◌∷◌, ◌++◌, length, Option, Some, None, refl, sym, ap, ◌∙◌, subst, append_assoc, append-nil}
use Rattle.std.proofs.lemmas.Bool.{and_parts, eq-eqb}
use Rattle.aw_term.specs.Choices.{Choice, Start, Develop, Outcome, Refused, Starts, Takes}
use Rattle.aw_term.specs.Names.{Node, Ref}
use Rattle.aw_term.specs.Rules.{Grammar, Ground, Rule}
use Rattle.aw_term.specs.WellFormed.{Each}
use Rattle.aw_term.proofs.Eaches.{each_map}
use Rattle.aw_store.specs.Equations.{Body, Equation, Map, find}
use Rattle.aw_apply.specs.Made.{Making, made}
use Rattle.aw_apply.specs.Messages.{Kind, Calls, Asks, Tells, Message, Received, BadName, NotMine, Conflict, Repeat, New}
use Rattle.aw_apply.proofs.Numbering.{Lies, made-apart}
use Rattle.aw_law_sites.specs.Choosing.{choose_on, outcome}
use Rattle.aw_law_sites.specs.Homes.{home}
use Rattle.aw_law_sites.specs.Reacting.{react, receive, received_on}
use Rattle.aw_law_sites.specs.Receiving.{about_ok, add_all, add_on, clash, is_mine, is_repeat, none_mine}
use Rattle.aw_law_sites.specs.SiteEvents.{SiteEvent, Chose, Got, after_choice, after_message, site_step, site_run}
use Rattle.aw_law_sites.specs.Sites.{Site, Reaction, empty_site}
use Rattle.aw_law_sites.specs.ValidNames.{message_ok}
use Rattle.aw_law_sites.specs.Worlds.{node_of}
use Rattle.aw_law_worlds.proofs.Growing.{new-of, cond-new}
use Rattle.aw_law_nodes.proofs.ListParts.{filter-append}
use Rattle.aw_law_forged.specs.Forged.{IsAtHome, own_equations, making_of, makes, all_made, equations_in, OwnEquationsAreMade}

-- the equations of what was made, one making behind the other
pub equations-append : (xs ys : List Making) → equations_in (xs ++ ys) ≡ equations_in xs ++ equations_in ys
equations-append [] ys = refl
equations-append (m ∷ xs) ys = ap (λ es. m.equations ++ es) (equations-append xs ys) ∙ sym (append_assoc m.equations (equations_in xs) (equations_in ys))

-- each left side of what a rule makes is of its node
pub made-left : (n : Node) (r : ℕ) (rule : Rule) (args : List Ground) (bound : List Ref) → Each (λ (e : Equation). e.left.node ≡ n) (made n r rule args bound).equations
made-left n r rule args bound =
    let (e, a) = made-apart n r rule args bound in
    each_map (Lies n 1 e 1 (1 + length rule.results)) (λ (e : Equation). e.left.node ≡ n) (made n r rule args bound).equations (λ x l. l.0) a.lie

module _ (g : Grammar) (role : ℕ) where
  own-append : (xs ys : List Equation) → own_equations g role (xs ++ ys) ≡ own_equations g role xs ++ own_equations g role ys
  own-append xs ys = filter-append (λ (e : Equation). nat_eq (home g e.left.node) role) xs ys

  -- all of them are own
  all-own : (n : Node) → home g n ≡ role → (es : List Equation) → Each (λ (e : Equation). e.left.node ≡ n) es → own_equations g role es ≡ es
  all-own n h [] k = refl
  all-own n h (e ∷ es) k =
      ap (λ b. cond b (e ∷ own_equations g role es) (own_equations g role es)) (eq-eqb (home g e.left.node) role (ap (home g) k.0 ∙ h)) ∙ ap (λ xs. e ∷ xs) (all-own n h es k.1)

  not-own : (b : Bool) → not b ≡ true → b ≡ false
  not-own true e = absurd cc
  not-own false e = refl

  -- an equation of another role is added
  add-one : (k : Map) (e : Equation) (o : Option Body) → nat_eq (home g e.left.node) role ≡ false → own_equations g role (add_on o k e) ≡ own_equations g role k
  add-one k e None f = own-append k (e ∷ []) ∙ ap (λ b. own_equations g role k ++ cond b (e ∷ []) []) f ∙ append-nil (own_equations g role k)
  add-one k e (Some b) f = refl

  add-others : (k : Map) (es : List Equation) → none_mine g role es ≡ true → own_equations g role (add_all k es) ≡ own_equations g role k
  add-others k [] f = refl
  add-others k (e ∷ es) f =
      let (a, b) = and_parts (not (nat_eq (home g e.left.node) role)) (none_mine g role es) f in
      add-others (add_on (find k e.left) k e) es b ∙ add-one k e (find k e.left) (not-own (nat_eq (home g e.left.node) role) a)

  module _ (s : Site) (is : s.role ≡ role) where
    react-own : (k : Kind) → about_ok g s.role k ≡ true → own_equations g role (react g s k).site.equations ≡ own_equations g role s.equations
    react-own (Calls c load) f = add-others s.equations load (subst (λ r. none_mine g r load ≡ true) is (and_parts _ _ f).1)
    react-own (Asks r from) f = refl
    react-own (Tells e load) f = add-others s.equations (e ∷ load) (subst (λ r. none_mine g r (e ∷ load) ≡ true) is f)

    receive-own : (m : Message) (y : Reaction) → receive g s m ≡ New y → (own_equations g role y.site.equations ≡ own_equations g role s.equations)
    receive-own m y e =
        let a = cond-new (not (message_ok g s.role m)) BadName _ y (λ z. absurd cc) e in
        go (is_mine g s.role m) refl a
      where
        go : (b : Bool) → is_mine g s.role m ≡ b → cond (not b) NotMine (received_on (clash s m.kind) (is_repeat s m.kind) (react g s m.kind)) ≡ New y
            → own_equations g role y.site.equations ≡ own_equations g role s.equations
        go true i a =
            subst (λ (z : Reaction). own_equations g role z.site.equations ≡ own_equations g role s.equations) (new-of (clash s m.kind) (is_repeat s m.kind) (react g s m.kind) y a)
            (react-own m.kind (and_parts _ _ i).1)
        go false i a = absurd cc

    pub received-own : (m : Message) (o : Received Reaction) → receive g s m ≡ o → own_equations g role (after_message s o).equations ≡ own_equations g role s.equations
    received-own m (New y) e = receive-own m y e
    received-own m BadName e = refl
    received-own m NotMine e = refl
    received-own m (Conflict a b) e = refl
    received-own m Repeat e = refl

    pub chosen-own : (c : Choice) → home g (node_of c) ≡ role → (o : Outcome Ref Ref)
        → own_equations g role (after_choice s (choose_on g s c o)).equations ≡ own_equations g role s.equations ++ equations_in (making_of c o)
    chosen-own (Start st k) h (Refused a) = sym (append-nil (own_equations g role s.equations))
    chosen-own (Start st k) h Starts = sym (append-nil (own_equations g role s.equations))
    chosen-own (Start st k) h (Takes rule bound) = sym (append-nil (own_equations g role s.equations))
    chosen-own (Develop n r args) h (Refused a) = sym (append-nil (own_equations g role s.equations))
    chosen-own (Develop n r args) h Starts = sym (append-nil (own_equations g role s.equations))
    chosen-own (Develop n r args) h (Takes rule bound) =
        let es = (made n r rule args bound).equations in
        own-append s.equations es ∙ ap (λ xs. own_equations g role s.equations ++ xs) (all-own n h es (made-left n r rule args bound) ∙ sym (append-nil es))

    pub step-own : (e : SiteEvent) → IsAtHome g role e → own_equations g role (site_step g s e).equations ≡ own_equations g role s.equations ++ equations_in (makes g s e)
    step-own (Chose c) h = chosen-own c h (outcome g s c)
    step-own (Got m) h = received-own m (receive g s m) refl ∙ sym (append-nil (own_equations g role s.equations))

-- a site keeps its role
pub react-role : (g : Grammar) (s : Site) (k : Kind) → (react g s k).site.role ≡ s.role
react-role g s (Calls c load) = refl
react-role g s (Asks r from) = refl
react-role g s (Tells e load) = refl

received-role : (g : Grammar) (s : Site) (m : Message) (o : Received Reaction) → receive g s m ≡ o → (after_message s o).role ≡ s.role
received-role g s m (New y) e =
    let a = cond-new (not (message_ok g s.role m)) BadName _ y (λ z. absurd cc) e in
    let b = cond-new (not (is_mine g s.role m)) NotMine _ y (λ z. absurd cc) a in
    subst (λ (z : Reaction). z.site.role ≡ s.role) (new-of (clash s m.kind) (is_repeat s m.kind) (react g s m.kind) y b) (react-role g s m.kind)
received-role g s m BadName e = refl
received-role g s m NotMine e = refl
received-role g s m (Conflict a b) e = refl
received-role g s m Repeat e = refl

chosen-role : (g : Grammar) (s : Site) (c : Choice) (o : Outcome Ref Ref) → (after_choice s (choose_on g s c o)).role ≡ s.role
chosen-role g s (Start st k) (Refused a) = refl
chosen-role g s (Start st k) Starts = refl
chosen-role g s (Start st k) (Takes rule bound) = refl
chosen-role g s (Develop n r args) (Refused a) = refl
chosen-role g s (Develop n r args) Starts = refl
chosen-role g s (Develop n r args) (Takes rule bound) = refl

pub step-role : (g : Grammar) (s : Site) (e : SiteEvent) → (site_step g s e).role ≡ s.role
step-role g s (Chose c) = chosen-role g s c (outcome g s c)
step-role g s (Got m) = received-role g s m (receive g s m) refl

own-run : (g : Grammar) (role : ℕ) (s : Site) (es : List SiteEvent) → s.role ≡ role → Each (IsAtHome g role) es
    → own_equations g role (site_run g s es).equations ≡ own_equations g role s.equations ++ equations_in (all_made g s es)
own-run g role s [] is h = sym (append-nil (own_equations g role s.equations))
own-run g role s (e ∷ es) is h =
    let t = site_step g s e in
    own-run g role t es (step-role g s e ∙ is) h.1
    ∙ ap (λ xs. xs ++ equations_in (all_made g t es)) (step-own g role s is e h.0)
    ∙ append_assoc (own_equations g role s.equations) (equations_in (makes g s e)) (equations_in (all_made g t es))
    ∙ ap (λ xs. own_equations g role s.equations ++ xs) (sym (equations-append (makes g s e) (all_made g t es)))

-- the equations of a site's own references are those that its own choices made
pub own_equations_are_made : (g : Grammar) → OwnEquationsAreMade g
own_equations_are_made g loads role es h = own-run g role (empty_site loads role) es refl h
