-- A world of the program, as one to which events lead.
use Rattle.std.proofs.Common.{◌≡◌, ℕ, zero, suc, ◌+◌, ◌<◌, ◌≤◌, arith, false, List, [], ◌∷◌, ◌++◌, map, drop, length, Some, None, slice_get, sym, ap, ◌∙◌, subst, append_assoc}
use Rattle.std.specs.Prelude.{option_map}
use Rattle.std.specs.Coded.{le_prop}
use Rattle.std.proofs.Math.Bool.{Bool-set}
use Rattle.std.proofs.Math.Logic.{∥∥₁_elim}
use Rattle.std.proofs.lemmas.List.{append-nil, drop_all, length-map}
use Rattle.std.proofs.lemmas.Option.{same_Some, slice_get-map, slice_get_past, slice_get_within}
use mathlib.Core.Logic.{∥∥₁_prop}
use Rattle.aw_term.specs.Artifacts.{Words}
use Rattle.aw_term.specs.Choices.{undivided}
use Rattle.aw_term.specs.Held as P
use Rattle.aw_term.specs.Names.{Node}
use Rattle.aw_term.specs.Rules.{Grammar, upto}
use Rattle.aw_term.specs.Trees.{Never}
use Rattle.aw_term.specs.WellFormed.{Each}
use Rattle.aw_term.proofs.GrammarTests.{grammars_are_one}
use Rattle.aw_term.proofs.Gets.{get_none, get_some as got_site}
use Rattle.aw_iograph.specs.Graphs.{Plus}
use Rattle.aw_grammar.specs.GrammarOf.{grammar_of, words_of}
use Rattle.aw_choice.specs.ChoiceView.{choice_of}
use Rattle.aw_node_list.specs.HeldView.{held_of, all_of}
use Rattle.aw_law_sites.specs.Laws.{IsAccepted}
use Rattle.aw_law_sites.specs.Homes.{home}
use Rattle.aw_law_sites.specs.Sites.{Site, empty_site}
use Rattle.aw_law_sites.specs.Worklists.{open_items}
use Rattle.aw_law_sites.specs.Worlds as V
use Rattle.aw_law_sites.specs.Worlds.{Move, MayCome, site_at, gather, world_after}
use Rattle.aw_law_worlds.specs.Laws.{own_items}
use Rattle.aw_wait.specs.Waiting.{IsFreeOfWaiting, WaitsFor}
use Rattle.aw_world.specs.declared.workspace.Workspace.{Ghosts}
use Rattle.aw_world.specs.declared.merging.Spot.{Spot}
use Rattle.aw_world.specs.declared.world.World.{World}
use Rattle.aw_world.specs.Merged.{merged, nodes_of, held_at}
use Rattle.aw_world.specs.Opened.{AreAllInOrder}
use Rattle.aw_world.specs.Shown.{Shows}
use Rattle.aw_world.proofs.Gathered.{gathered}
use Rattle.aw_world.proofs.Lines.{told_here}
use Rattle.aw_world.proofs.Pairings.{map_got}
use Rattle.aw_world.proofs.RowsAt.{order_length, stood}
use Rattle.aw_world.proofs.WorldFacts.{reached_homes}
use Rattle.aw_world_waits.specs.declared.pair.Pair.{Pair}
use Rattle.aw_world_waits.specs.declared.waiter.Waiter.{Waiter}
use Rattle.aw_world_waits.specs.Waiters.{waited_in, holds_done, is_developed}
use Rattle.aw_world_waits.specs.Blocks.{pairs_of, pairs_with, waiter_at, waiters_at, waiting}
use Rattle.aw_world_waits.specs.Laws.{IsTold, StandThere, HaveNoCircle}
use Rattle.aw_world_waits.proofs.AtHome.{developed_is_done}
use Rattle.aw_world_waits.proofs.Pairing.{own_node, pairs_append, pairs_one}
use Rattle.aw_world_waits.proofs.Standing.{pairs_stand, no_circle_told}

never_prop : IsProp Never
never_prop x y = elim x [ ]

upto_at : (k n i : ℕ) → i < n → slice_get (upto k n) i ≡ Some (k + i)
upto_at k zero i l = absurd (omega (arith, l))
upto_at k (suc n) zero l = let z : k ≡ k + 0 = omega arith in ap Some z
upto_at k (suc n) (suc i) l = let z : suc k + i ≡ k + suc i = omega arith in upto_at (suc k) n i (omega (arith, l)) ∙ ap Some z

drop_got : {A : Type 0} (xs : List A) (i : ℕ) (x : A) → slice_get xs i ≡ Some x → drop i xs ≡ x ∷ drop (i + 1) xs
drop_got [] i x e = absurd cc
drop_got (y ∷ xs) zero x e = let same : y ≡ x = cc in ap (λ z. z ∷ xs) same
drop_got (y ∷ xs) (suc i) x e = let z : suc i + 1 ≡ suc (i + 1) = omega arith in drop_got xs i x e ∙ ap (λ j. x ∷ drop j (y ∷ xs)) (sym z)

module _ {W : Type 0} (f : Ghosts W) (w : World W f) where
  abbrev p : Grammar
  p = grammar_of w.accepted.now.grammar

  -- what follows from the events that lead to it
  by_events : (P : Type 0) → IsProp P → ((words : Words) → IsAccepted words p → (es : List Move) → Each (MayCome p) es → Shows f w (world_after p w.loads es) → P) → P
  by_events P prop so =
      let d = w.accepted.now.grammar in
      ∥∥₁_elim d.well_formed prop (λ formed. ∥∥₁_elim w.accepted.now.sound prop (λ sound. ∥∥₁_elim w.reached prop (λ r. so (words_of d) (formed, sound) r.0 r.1 r.2)))

  -- as many sites as roles
  pub site_count : (v : V.World) → Shows f w v → length v.sites ≡ p.roles
  site_count v S = ap (λ (u : V.World). length u.sites) (sym S) ∙ length-map w.sites.items (λ x. f.seen x) ∙ w.placed.count

  -- the pairs that are told stand in the undivided configuration
  pub stand : (ps : List Pair) → ((v : V.World) → Shows f w v → ps ≡ waiting p v) → StandThere p (map choice_of w.taken.items) ps
  stand ps exact c e n m told = by_events ∥ WaitsFor p c n m ∥₁ ∥∥₁_prop (λ words a es may S.
      let v = world_after p w.loads es in
      ∣ pairs_stand words p a w.loads es may c (ap (λ (u : V.World). undivided p [] u.taken) (sym S) ∙ e) n m (subst (λ ps. IsTold ps n m) (exact v S) told) ∣₁)

  pub no_circle : (ps : List Pair) → ((v : V.World) → Shows f w v → ps ≡ waiting p v) → IsFreeOfWaiting p → HaveNoCircle ps
  no_circle ps exact free n t = by_events Never never_prop (λ words a es may S.
      no_circle_told words p a free w.loads es may n (subst (λ ps. Plus (IsTold ps) n n) (exact (world_after p w.loads es) S) t))

  -- a node past the roles is nowhere developed
  pub developed_nowhere : (n : Node) → p.roles ≤ home p n → false ≡ is_developed (map choice_of w.taken.items) n
  developed_nowhere n l = by_events _ (Bool-set _ _) (λ words a es may S.
      let v = world_after p w.loads es in
      let count = site_count v S in
      let past : slice_get v.sites (home p n) ≡ None = slice_get_past v.sites (home p n) (omega (arith, l, count)) in
      let none : site_at v (home p n) ≡ empty_site false (home p n) = get_none (empty_site false (home p n)) v.sites (home p n) past in
      ap (λ (s : Site). holds_done n s.held) (sym none) ∙ sym (developed_is_done words p a w.loads es may n) ∙ ap (λ (u : V.World). is_developed u.taken n) (sym S))

  module _ (hold : (x : W) → (f.seen x).held ≡ all_of (f.its_grammar x) (f.its_nodes x)) where
    -- what a workspace holds
    pub held_there : (v : V.World) (role : ℕ) (x : W) → f.seen x ≡ site_at v role → f.its_grammar x ≡ p → (site_at v role).held ≡ all_of p (f.its_nodes x)
    held_there v role x shown same = ap (λ (s : Site). s.held) (sym shown) ∙ hold x ∙ ap (λ g. all_of g (f.its_nodes x)) same

    -- a choice was taken on a node where its home holds it as developed
    pub developed_there : (n : Node) (x : W) → ((v : V.World) → Shows f w v → f.seen x ≡ site_at v (home p n)) → f.its_grammar x ≡ p →
        holds_done n (all_of p (f.its_nodes x)) ≡ is_developed (map choice_of w.taken.items) n
    developed_there n x shown same = by_events _ (Bool-set _ _) (λ words a es may S.
        let v = world_after p w.loads es in
        ap (holds_done n) (sym (held_there v (home p n) x (shown v S) same)) ∙ sym (developed_is_done words p a w.loads es may n) ∙ ap (λ (u : V.World). is_developed u.taken n) (sym S))

    -- where all places were passed, nothing is left
    pub all_passed : (spots : List Spot) → AreAllInOrder f w.sites.items spots → (i : ℕ) → length spots ≤ i → (ps : List Pair) → (v : V.World) → Shows f w v
        → ps ++ pairs_of v.taken (own_items p v (drop i (gather v.sites))) ≡ waiting p v → ps ≡ waiting p v
    all_passed spots order i l ps v S so =
        let ws = w.sites.items in
        let homes = reached_homes f w.accepted.now w.loads ws w.messages w.marks.delivered.items w.taken.items w.reached hold w.placed in
        let n = order_length f hold w.accepted.now.grammar ws w.placed homes v (ap (λ (u : V.World). u.sites) S) spots order in
        let none : drop i (gather v.sites) ≡ [] = drop_all i (gather v.sites) (omega (arith, l, n)) in
        sym (append-nil ps) ∙ ap (λ hs. ps ++ pairs_of v.taken (own_items p v hs)) (sym none) ∙ so

    module _ (spots : List Spot) (order : AreAllInOrder f w.sites.items spots) (all : List (List Waiter)) (every : (v : V.World) → Shows f w v →
        all ≡ map (waiters_at p v) (upto 0 p.roles)) (i : ℕ) (s : Spot)
        (is : slice_get spots i ≡ Some s) where
      -- the node that stands at a place
      stands : (v : V.World) → Shows f w v → (h : P.Held) × (slice_get (gather v.sites) i ≡ Some h) × (home p h.node ≡ s.site) × (s.site < p.roles)
          × (slice_get (site_at v s.site).held s.place ≡ Some h)
      stands v S =
          let ws = w.sites.items in
          let (h, e, k) = told_here (held_at f ws) spots (merged (nodes_of f ws)) i s order is in
          let here : slice_get (gather v.sites) i ≡ Some (held_of p h) =
          ap (λ (u : V.World). slice_get (gather u.sites) i) (sym S) ∙ ap (λ hs. slice_get hs i) (gathered f hold p ws w.placed.grammar)
          ∙ slice_get-map (held_of p) (merged (nodes_of f ws)) i ∙ ap (option_map (held_of p)) k in
          let (x, at, place) = stood f ws s h e in
          let homes = reached_homes f w.accepted.now w.loads ws w.messages w.marks.delivered.items w.taken.items w.reached hold w.placed in
          let mine : site_at v s.site ≡ f.seen x = ap (λ (u : V.World). site_at u s.site) (sym S) ∙ map_got (λ y. f.seen y) (empty_site false s.site) ws s.site x at in
          let held : (site_at v s.site).held ≡ all_of p (f.its_nodes x) =
          ap (λ (t : Site). t.held) mine ∙ hold x ∙ ap (λ z. all_of z (f.its_nodes x)) (grammars_are_one (f.its_grammar x) p (w.placed.grammar s.site x at)) in
          let l = slice_get_within ws s.site x at in
          let n = w.placed.count in (
            held_of p h,
            here,
            homes s.site s.place x h at place,
            omega (arith, l, n),
            ap (λ hs. slice_get hs s.place) held ∙ slice_get-map (held_of p)
                (f.its_nodes x) s.place ∙ ap (option_map (held_of p)) place,
          )

      row_there : (v : V.World) → Shows f w v → slice_get all s.site ≡ Some (waiters_at p v s.site)
      row_there v S =
          let (h, here, at_home, l, place) = stands v S in
          ap (λ rows. slice_get rows s.site) (every v S) ∙ slice_get-map (waiters_at p v) (upto 0 p.roles) s.site ∙ ap (option_map (waiters_at p v)) (upto_at 0 p.roles s.site l)
          ∙ (let z : 0 + s.site ≡ s.site = omega arith in ap (λ a. Some (waiters_at p v a)) z)

      -- there is a row for its site, and it is within that
      pub site_within : s.site < length all
      site_within = by_events _ le_prop (λ words a es may S. slice_get_within all s.site _ (row_there (world_after p w.loads es) S))

      pub place_within : (row : List Waiter) → slice_get all s.site ≡ Some row → s.place < length row
      place_within row got = by_events _ le_prop (λ words a es may S.
          let v = world_after p w.loads es in
          let (h, here, at_home, l, place) = stands v S in
          let same : waiters_at p v s.site ≡ row = same_Some _ _ (sym (row_there v S) ∙ got) in
          let n = slice_get_within (site_at v s.site).held s.place h place in
          let m = length-map (site_at v s.site).held (waiter_at p (site_at v s.site).equations) in
          let k = ap length same in
          omega (arith, n, m, k))

      -- its pairs are those of its items, and those of the later nodes are left
      pub pairs_more : (row : List Waiter) (x : Waiter) → slice_get all s.site ≡ Some row → slice_get row s.place ≡ Some x → (old new : List Pair) →
          new ≡ old ++ pairs_with (map choice_of w.taken.items) x.node x.on
          → (v : V.World) → Shows f w v → old ++ pairs_of v.taken (own_items p v (drop i (gather v.sites))) ≡ waiting p v → new ++ pairs_of v.taken
          (own_items p v (drop (i + 1) (gather v.sites))) ≡ waiting p v
      pairs_more row x got at old new more v S so =
          let (h, here, at_home, l, place) = stands v S in
          let later = drop (i + 1) (gather v.sites) in
          let same : waiters_at p v s.site ≡ row = same_Some _ _ (sym (row_there v S) ∙ got) in
          let k = (site_at v s.site).equations in
          let own : waiter_at p k h ≡ x = same_Some _ _ (sym (ap (option_map (waiter_at p k)) place)
          ∙ sym (slice_get-map (waiter_at p k) (site_at v s.site).held s.place) ∙ ap (λ xs. slice_get xs s.place) same ∙ at) in
          let items = open_items p h.state (site_at v (home p h.node)).equations h in
          let ours : pairs_with (map choice_of w.taken.items) x.node x.on ≡ pairs_of v.taken items =
          (λ t. pairs_with (S t).taken ((sym own) t).node ((sym own) t).on)
          ∙ (λ t. pairs_with v.taken h.node (waited_in (open_items p h.state (site_at v ((sym at_home) t)).equations h)))
          ∙ sym (pairs_one v.taken h.node items (λ y m. own_node p h.state (site_at v (home p h.node)).equations h y m)) in
          ap (λ ps. ps ++ pairs_of v.taken (own_items p v later)) (more ∙ ap (λ ps. old ++ ps) ours)
          ∙ append_assoc old (pairs_of v.taken items) (pairs_of v.taken (own_items p v later))
          ∙ ap (λ ps. old ++ ps) (sym (pairs_append v.taken items (own_items p v later)))
          ∙ ap (λ hs. old ++ pairs_of v.taken (own_items p v hs)) (sym (drop_got (gather v.sites) i h here))
          ∙ so
