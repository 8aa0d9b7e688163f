-- The choices of a site are those of its role among the choices taken.
use Rattle.std.specs.Prelude.{nat_eq, not, filter, slice_get, slice_set}
use Rattle.std.proofs.Common.{◌≡◌, ℕ, zero, suc, ◌<◌, Bool, true, false, cond, List, [], ◌∷◌, ◌++◌, map, length, Option, Some, None, refl, sym, ap, ◌∙◌, subst, inl, inr, arith, eq-eqb, eqb-true}
use Rattle.std.proofs.lemmas.Bool.{cases_lt}
use Rattle.std.proofs.lemmas.List.{append-nil}
use Rattle.aw_list.specs.Members.{Member}
use Rattle.aw_list.proofs.Members.{never}
use Rattle.aw_list.proofs.Everyday.{length-slice_set as length-set}
use Rattle.aw_term.specs.Choices.{Choice, Start, Develop, Outcome, Refused, Starts, Takes}
use Rattle.aw_term.specs.Names.{Ref}
use Rattle.aw_term.specs.Rules.{Grammar, get, upto}
use Rattle.aw_term.specs.Trees.{Never}
use Rattle.aw_term.specs.WellFormed.{Each}
use Rattle.aw_apply.specs.Messages.{Message, Kind, Calls, Asks, Tells, Received, New, Repeat, Conflict, NotMine, BadName}
use Rattle.aw_law_sites.specs.Choosing.{Chosen, No, Did, choose, choose_on, outcome}
use Rattle.aw_law_sites.specs.Homes.{home}
use Rattle.aw_law_sites.specs.Laws.{SameChoices}
use Rattle.aw_law_sites.specs.Reacting.{react, receive}
use Rattle.aw_law_sites.specs.Receiving.{clash, is_mine, is_repeat}
use Rattle.aw_law_sites.specs.Sites.{Site, Reaction, empty_site}
use Rattle.aw_law_sites.specs.ValidNames.{message_ok}
use Rattle.aw_law_sites.specs.Worlds.{World, empty_world, site_at, node_of, chosen_at, received_at, deliver_on, Move, Chooses, Delivers, step, run, MayCome, world_after}
use Rattle.aw_law_worlds.specs.Laws.{HomesAreRoles}
use Rattle.aw_law_worlds.proofs.Lists.{Member-filter, Member-filtered}
use Rattle.aw_law_worlds.proofs.Places.{get-set, get-set_other, same_or_not}
use Rattle.aw_law_worlds.proofs.Growing.{did-inj, new-of, cond-new}
use Rattle.aw_law_nodes.proofs.ListParts.{filter-append, set-short}

-- what a reaction does to the choices of a site
choose-choices : (g : Grammar) (s : Site) (c : Choice) (o : Outcome Ref Ref) (x : Reaction) → choose_on g s c o ≡ Did x → x.site.choices ≡ s.choices ++ c ∷ []
choose-choices g s c (Refused a) x e = absurd cc
choose-choices g s (Start st k) Starts x e = subst (λ (x : Reaction). x.site.choices ≡ s.choices ++ Start st k ∷ []) (did-inj e) refl
choose-choices g s (Develop n r args) Starts x e = absurd cc
choose-choices g s (Start st k) (Takes rule xs) x e = absurd cc
choose-choices g s (Develop n r args) (Takes rule xs) x e = subst (λ (x : Reaction). x.site.choices ≡ s.choices ++ Develop n r args ∷ []) (did-inj e) refl

react-choices : (g : Grammar) (s : Site) (k : Kind) → (react g s k).site.choices ≡ s.choices
react-choices g s (Calls c load) = refl
react-choices g s (Asks r from) = refl
react-choices g s (Tells e load) = refl

receive-choices : (g : Grammar) (s : Site) (m : Message) (y : Reaction) → receive g s m ≡ New y → y.site.choices ≡ s.choices
receive-choices g s m y e =
    let a = cond-new (not (message_ok g s.role m)) BadName _ y (λ z. absurd cc) e in
    let b = cond-new (not (is_mine g s.role m)) NotMine _ y (λ z. absurd cc) a in
    subst (λ (y : Reaction). y.site.choices ≡ s.choices) (new-of (clash s m.kind) (is_repeat s m.kind) (react g s m.kind) y b) (react-choices g s m.kind)

module _ (g : Grammar) (homes : HomesAreRoles g) where
  -- the choices of one role
  abbrev of_role : ℕ → List Choice → List Choice
  of_role a cs = filter (λ (c : Choice). nat_eq (home g (node_of c)) a) cs

  of-more : (a : ℕ) (cs : List Choice) (c : Choice) (b : Bool) → nat_eq (home g (node_of c)) a ≡ b → of_role a (cs ++ c ∷ []) ≡ of_role a cs ++ cond b (c ∷ []) []
  of-more a cs c b e = filter-append (λ (c : Choice). nat_eq (home g (node_of c)) a) cs (c ∷ []) ∙ ap (λ b. of_role a cs ++ cond b (c ∷ []) []) e

  not-same : (a b : ℕ) → (a ≡ b → Never) → nat_eq a b ≡ false
  not-same a b f = go (nat_eq a b) refl
    where
      go : (t : Bool) → nat_eq a b ≡ t → nat_eq a b ≡ false
      go true e = never (f (eqb-true a b e))
      go false e = e

  -- there is a site of each role, and its choices are those of its role
  record HasChoices (w : World) : Type 0 where
    size : length w.sites ≡ g.roles
    own : (a : ℕ) → (site_at w a).choices ≡ of_role a w.taken

  took-choices : (w : World) (c : Choice) (z : Chosen) → choose g (site_at w (home g (node_of c))) c ≡ z → home g (node_of c) < g.roles →
      HasChoices w → HasChoices (chosen_at w (home g (node_of c)) c z).world
  took-choices w c (No a) e l H = H
  took-choices w c (Did x) e l H =
      let r = home g (node_of c) in record {
        size = length-set w.sites r x.site ∙ H.size;
        own = λ a. elim (same_or_not r a) [
          | inl p ↦ subst (λ a. (get (empty_site false a) (slice_set w.sites r x.site) a).choices ≡ of_role a (w.taken ++ c ∷ [])) p
              (ap (λ (s : Site). s.choices) (get-set (empty_site false r) w.sites r x.site (let n = H.size in omega (arith, n, l)))
              ∙ (choose-choices g (site_at w r) c (outcome g (site_at w r) c) x e
              ∙ (ap (λ cs. cs ++ c ∷ []) (H.own r) ∙ sym (of-more r w.taken c true (eq-eqb r r refl)))))
          | inr n ↦ ap (λ (s : Site). s.choices) (get-set_other (empty_site false a) w.sites r a x.site n)
              ∙ (H.own a ∙ sym (of-more a w.taken c false (not-same r a n) ∙ append-nil (of_role a w.taken)))
        ];
      }

  got-choices : (w : World) (k to : ℕ) (z : Received Reaction) → ((y : Reaction) → z ≡ New y → y.site.choices ≡ (site_at w to).choices) → HasChoices w → HasChoices (received_at w k to z).world
  got-choices w k to Repeat f H = record { size = H.size; own = H.own }
  got-choices w k to (Conflict a b) f H = record { size = H.size; own = H.own }
  got-choices w k to NotMine f H = record { size = H.size; own = H.own }
  got-choices w k to BadName f H = record { size = H.size; own = H.own }
  got-choices w k to (New y) f H = record {
    size = length-set w.sites to y.site ∙ H.size;
    own = λ a. elim (same_or_not to a) [
      | inl p ↦ subst (λ a. (get (empty_site false a) (slice_set w.sites to y.site) a).choices ≡ of_role a w.taken) p (elim (cases_lt to (length w.sites)) [
        | inl l ↦ ap (λ (s : Site). s.choices) (get-set (empty_site false to) w.sites to y.site l) ∙ (f y refl ∙ H.own to)
        | inr l ↦ ap (λ ss. (get (empty_site false to) ss to).choices) (set-short w.sites to y.site l) ∙ H.own to
      ])
      | inr n ↦ ap (λ (s : Site). s.choices) (get-set_other (empty_site false a) w.sites to a y.site n) ∙ H.own a
    ];
  }

  deliver-choices : (w : World) (k : ℕ) (o : Option Message) → HasChoices w → HasChoices (deliver_on g w k o).world
  deliver-choices w k None H = H
  deliver-choices w k (Some m) H = got-choices w k m.to (receive g (site_at w m.to) m) (λ y e. receive-choices g (site_at w m.to) m y e) H

  run-choices : (w : World) (es : List Move) → Each (MayCome g) es → HasChoices w → HasChoices (run g w es)
  run-choices w [] k H = H
  run-choices w (Chooses c ∷ es) k H = run-choices (step g w (Chooses c)).world es k.1 (took-choices w c (choose g (site_at w (home g (node_of c))) c) refl (homes c k.0) H)
  run-choices w (Delivers j ∷ es) k H = run-choices (step g w (Delivers j)).world es k.1 (deliver-choices w j (slice_get w.messages j) H)

  empty-size : (loads : Bool) (i n : ℕ) → length {A = Site} (map (empty_site loads) (upto i n)) ≡ n
  empty-size loads i zero = refl
  empty-size loads i (suc n) = ap suc (empty-size loads (suc i) n)

  empty-own : (loads : Bool) (i n j r : ℕ) → (get (empty_site false r) (map (empty_site loads) (upto i n)) j).choices ≡ []
  empty-own loads i zero j r = refl
  empty-own loads i (suc n) zero r = refl
  empty-own loads i (suc n) (suc j) r = empty-own loads (suc i) n j r

  has-choices : (loads : Bool) (es : List Move) → Each (MayCome g) es → HasChoices (world_after g loads es)
  has-choices loads es k = run-choices (empty_world g loads) es k (record { size = empty-size loads 0 g.roles; own = λ a. empty-own loads 0 g.roles a a })

  some-same : (w v : World) → HasChoices w → HasChoices v → ((x : Choice) → Member x w.taken → Member x v.taken) → (a : ℕ) (c : Choice) →
      Member c (site_at w a).choices → Member c (site_at v a).choices
  some-same w v H K f a c i =
      let (j, e) = Member-filtered (λ (c : Choice). nat_eq (home g (node_of c)) a) c w.taken (subst (Member c) (H.own a) i) in
      subst (Member c) (sym (K.own a)) (Member-filter (λ (c : Choice). nat_eq (home g (node_of c)) a) c v.taken (f c j) e)

  pub choices-same : (loads other : Bool) (es fs : List Move) → Each (MayCome g) es → Each (MayCome g) fs → SameChoices (world_after g loads es).taken (world_after g other fs).taken
      → (a : ℕ) → SameChoices (site_at (world_after g loads es) a).choices (site_at (world_after g other fs) a).choices
  choices-same loads other es fs k l same a =
      let H = has-choices loads es k in
      let K = has-choices other fs l in
      (some-same (world_after g loads es) (world_after g other fs) H K same.0 a, some-same (world_after g other fs) (world_after g loads es) K H same.1 a)
