-- The greedy join goes as far as the journals fit.
use Rattle.std.specs.Prelude.{slice_get, slice_set, nat_eq, take, ◌&&◌}
use Rattle.std.proofs.Common.{◌≡◌, ℕ, zero, suc, ◌+◌, ◌-◌, ◌<◌, ◌≤◌, Bool, true, false, cond, List, [], ◌∷◌, ◌++◌, map, length, Option, Some, None}
use Rattle.std.proofs.Common.{refl, sym, ap, ◌∙◌, subst, inl, inr, arith, eq-eqb, eqb-true, append-nil}
use Rattle.std.proofs.lemmas.Bool.{cases_lt, and_parts, and_from}
use Rattle.std.proofs.lemmas.Option.{same_Some, slice_get_within}
use Rattle.aw_list.proofs.Members.{never, member_got}
use Rattle.aw_list.proofs.Everyday.{length-slice_set as length-set}
use Rattle.aw_term.specs.Choices.{Choice, Answer, Known, NotHere, Developed, NotItsRule, Arguments, WaitsFor, Mismatch, CircleAt, TooDeep, Taken}
use Rattle.aw_term.specs.Names.{Ref}
use Rattle.aw_term.specs.Rules.{Grammar, get}
use Rattle.aw_term.specs.Trees.{Never}
use Rattle.aw_base.specs.ChoiceFits.{choice_ok}
use Rattle.aw_typed.specs.Types.{Types}
use Rattle.aw_typed.specs.TypeFaults.{arg_ok}
use Rattle.aw_apply.specs.Messages.{Message}
use Rattle.aw_law_sites.specs.Homes.{home}
use Rattle.aw_law_sites.specs.SiteEvents.{SiteEvent, Chose, Got}
use Rattle.aw_law_sites.specs.Worlds.{World, empty_world, node_of, Reply, Answered, IsNew, Again, NoMessage, Move, Chooses, Delivers, step, world_after}
use Rattle.aw_law_worlds.specs.Invariant.{IsSent}
use Rattle.aw_law_worlds.specs.Laws.{SiteIsFold}
use Rattle.aw_law_worlds.proofs.Places.{get-set, get-set_other, same_or_not}
use Rattle.aw_law_worlds.proofs.Settling.{run_both}
use Rattle.aw_law_nodes.proofs.Mail.{Mail, Given}
use Rattle.aw_law_journals.specs.Journals.{Entry, of_role, journal_at, firsts, IsReach, Fits}
use Rattle.aw_law_journals.specs.SameMessages.{number_of}
use Rattle.aw_law_journals.specs.Driving.{was_taken, was_new, delivery, allowed, Progress, beginning, Turn, turn_or, next_turn, after_turn, turns, events_in, joined}
use Rattle.aw_law_journals.specs.Laws.{JoinReaches}
use Rattle.aw_law_journals.proofs.Coming.{Came, came-none, came-as, came-more, came-mail}
use Rattle.aw_law_journals.proofs.Reaching.{journal-firsts}
use Rattle.aw_law_journals.proofs.Sameness.{number-found, number-none}

taken-answer : (a : Answer Ref) → was_taken (Answered a) ≡ true → Answered a ≡ Answered Taken
taken-answer Known e = absurd cc
taken-answer NotHere e = absurd cc
taken-answer Developed e = absurd cc
taken-answer NotItsRule e = absurd cc
taken-answer Arguments e = absurd cc
taken-answer (WaitsFor on) e = absurd cc
taken-answer (Mismatch path) e = absurd cc
taken-answer (CircleAt at) e = absurd cc
taken-answer TooDeep e = absurd cc
taken-answer Taken e = refl

taken-reply : (r : Reply) → was_taken r ≡ true → r ≡ Answered Taken
taken-reply (Answered a) e = taken-answer a e
taken-reply IsNew e = absurd cc
taken-reply Again e = absurd cc
taken-reply NoMessage e = absurd cc

new-reply : (r : Reply) → was_new r ≡ true → r ≡ IsNew
new-reply (Answered a) e = absurd cc
new-reply IsNew e = refl
new-reply Again e = absurd cc
new-reply NoMessage e = absurd cc

-- a move under a test
given-some : (b : Bool) (d e : Move) → cond b (Some d) None ≡ Some e → (b ≡ true) × (d ≡ e)
given-some true d e p = (refl, same_Some _ _ p)
given-some false d e p = absurd cc

given-none : (b : Bool) (d : Move) → cond b (Some d) None ≡ None → b ≡ true → Never
given-none true d p e = absurd cc
given-none false d p e = absurd cc

-- one event more
take-one : {A : Type 0} (xs : List A) (n : ℕ) (x : A) → slice_get xs n ≡ Some x → take n xs ++ x ∷ [] ≡ take (suc n) xs
take-one [] n x e = absurd cc
take-one (y ∷ xs) zero x e = let p : y ≡ x = same_Some _ _ e in ap (λ y. y ∷ []) (sym p)
take-one (y ∷ xs) (suc n) x e = ap (◌∷◌ y) (take-one xs n x e)

-- how many events of the journals did not come
left : List ℕ → List (List SiteEvent) → ℕ
left [] js = events_in js
left (n ∷ ns) [] = 0
left (n ∷ ns) (j ∷ js) = (length j - n) + left ns js

left-start : (js : List (List SiteEvent)) → left (map (λ j. 0) js) js ≡ events_in js
unfolding left
left-start [] = refl
left-start (j ∷ js) = let i = left-start js in omega (arith, i)

left-less : (ns : List ℕ) (js : List (List SiteEvent)) (a : ℕ) → length ns ≡ length js → get 0 ns a < length (journal_at js a) → left (slice_set ns a (suc (get 0 ns a))) js < left ns js
unfolding left
left-less [] [] a s l = absurd (omega (arith, l))
left-less [] (j ∷ js) a s l = absurd (omega (arith, s))
left-less (n ∷ ns) [] a s l = absurd (omega (arith, s))
left-less (n ∷ ns) (j ∷ js) zero s l = omega (arith, l)
left-less (n ∷ ns) (j ∷ js) (suc a) s l = let i = left-less ns js a (omega (arith, s)) l in omega (arith, i)

left-none : (ns : List ℕ) (js : List (List SiteEvent)) → length ns ≡ length js → left ns js ≤ 0 → (r : ℕ) → length (journal_at js r) ≤ get 0 ns r
unfolding left
left-none [] [] s l r = omega arith
left-none [] (j ∷ js) s l r = absurd (omega (arith, s))
left-none (n ∷ ns) [] s l r = absurd (omega (arith, s))
left-none (n ∷ ns) (j ∷ js) s l zero = omega (arith, l)
left-none (n ∷ ns) (j ∷ js) s l (suc r) = left-none ns js (omega (arith, s)) (omega (arith, l)) r

journal-within : (js : List (List SiteEvent)) (r n : ℕ) (x : SiteEvent) → slice_get (journal_at js r) n ≡ Some x → r < length js
journal-within [] r n x e = absurd cc
journal-within (j ∷ js) zero n x e = omega arith
journal-within (j ∷ js) (suc r) n x e = let i = journal-within js r n x e in omega (arith, i)

begins-at : (js : List (List SiteEvent)) (r : ℕ) → ◌≡◌ {A = ℕ} (get 0 (map (λ j. 0) js) r) 0
begins-at [] r = refl
begins-at (j ∷ js) zero = refl
begins-at (j ∷ js) (suc r) = begins-at js r

begins-size : (js : List (List SiteEvent)) → length {A = ℕ} (map (λ j. 0) js) ≡ length js
begins-size [] = refl
begins-size (j ∷ js) = ap suc (begins-size js)

module _ (t : Types) (g : Grammar) where
  -- what is allowed fits
  chose-fits : (w : World) (r : ℕ) (c : Choice) (e : Move) → allowed t g w r (Some (Chose c)) ≡ Some e → Fits t g w r (Chose c) e
  chose-fits w r c e p =
      let (b, q) = given-some (choice_ok g c && (arg_ok t g c && (nat_eq (home g (node_of c)) r && was_taken (step g w (Chooses c)).reply))) (Chooses c) e p in
      let (k, b1) = and_parts (choice_ok g c) (arg_ok t g c && (nat_eq (home g (node_of c)) r && was_taken (step g w (Chooses c)).reply)) b in
      let (a, b2) = and_parts (arg_ok t g c) (nat_eq (home g (node_of c)) r && was_taken (step g w (Chooses c)).reply) b1 in
      let (h, x) = and_parts (nat_eq (home g (node_of c)) r) (was_taken (step g w (Chooses c)).reply) b2 in
      subst (Fits t g w r (Chose c)) q (refl, k, a, eqb-true (home g (node_of c)) r h, taken-reply (step g w (Chooses c)).reply x)

  got-fits : (w : World) (r : ℕ) (m : Message) (e : Move) (o : Option ℕ) → number_of 0 m w.messages ≡ o → delivery g w (nat_eq m.to r) o ≡ Some e → Fits t g w r (Got m) e
  got-fits w r m e None n p = absurd cc
  got-fits w r m e (Some k) n p =
      let (b, q) = given-some (nat_eq m.to r && was_new (step g w (Delivers k)).reply) (Delivers k) e p in
      let (h, x) = and_parts (nat_eq m.to r) (was_new (step g w (Delivers k)).reply) b in
      let (j, z, s) = number-found 0 m w.messages k n in
      let same : j ≡ k = omega (arith, z) in
      subst (Fits t g w r (Got m)) q (eqb-true m.to r h, subst (IsSent w m) same s, new-reply (step g w (Delivers k)).reply x)

  allowed-fits : (w : World) (r : ℕ) (x : SiteEvent) (e : Move) → allowed t g w r (Some x) ≡ Some e → Fits t g w r x e
  allowed-fits w r (Chose c) e p = chose-fits w r c e p
  allowed-fits w r (Got m) e p = got-fits w r m e (number_of 0 m w.messages) refl p

  -- and all that fits is allowed
  got-allowed : (w : World) → Mail g w → (r : ℕ) (m : Message) (k : ℕ) → Fits t g w r (Got m) (Delivers k) → (o : Option ℕ) →
      number_of 0 m w.messages ≡ o → delivery g w (nat_eq m.to r) o ≡ None → Never
  got-allowed w M r m k f None n p = number-none 0 m w.messages n (member_got w.messages k m f.1)
  got-allowed w M r m k f (Some i) n p =
      let (j, z, s) = number-found 0 m w.messages i n in
      let same = M.once j k m s f.1 in
      let here : k ≡ i = omega (arith, z, same) in
      let new : was_new (step g w (Delivers i)).reply ≡ true = subst (λ k. was_new (step g w (Delivers k)).reply ≡ true) here (ap was_new f.2) in
      given-none (nat_eq m.to r && was_new (step g w (Delivers i)).reply) (Delivers i) p
      (and_from (nat_eq m.to r) (was_new (step g w (Delivers i)).reply) (eq-eqb m.to r f.0) new)

  fits-allowed : (w : World) → Mail g w → (r : ℕ) (x : SiteEvent) (e : Move) → Fits t g w r x e → allowed t g w r (Some x) ≡ None → Never
  fits-allowed w M r (Chose c) (Chooses d) f p =
      let z = and_from (nat_eq (home g (node_of c)) r) (was_taken (step g w (Chooses c)).reply) (eq-eqb (home g (node_of c)) r f.3) (ap was_taken f.4) in
      let y = and_from (arg_ok t g c) (nat_eq (home g (node_of c)) r && was_taken (step g w (Chooses c)).reply) f.2 z in
      given-none (choice_ok g c && (arg_ok t g c && (nat_eq (home g (node_of c)) r && was_taken (step g w (Chooses c)).reply))) (Chooses c) p
      (and_from (choice_ok g c) (arg_ok t g c && (nat_eq (home g (node_of c)) r && was_taken (step g w (Chooses c)).reply)) f.1 y)
  fits-allowed w M r (Got m) (Delivers k) f p = got-allowed w M r m k f (number_of 0 m w.messages) refl p
  fits-allowed w M r (Chose c) (Delivers k) f p = never f
  fits-allowed w M r (Got m) (Chooses d) f p = never f

  module _ (js : List (List SiteEvent)) where
    -- the next event of a role's journal
    abbrev next_of : Progress → ℕ → Option SiteEvent
    next_of p r = slice_get (journal_at js r) (get 0 p.counts r)

    turn-here : (p : Progress) (r n : ℕ) (x : Turn) (o : Option Move) → allowed t g p.world r (next_of p r) ≡ o → turn_or r o (next_turn t g js p (suc r) n) ≡ Some x
        → (next_turn t g js p (suc r) n ≡ Some x → allowed t g p.world x.role (next_of p x.role) ≡ Some x.move) → allowed t g p.world x.role (next_of p x.role) ≡ Some x.move
    turn-here p r n x None a e f = f e
    turn-here p r n x (Some d) a e f =
        let q = same_Some _ _ e in subst (λ (x : Turn). allowed t g p.world x.role (next_of p x.role) ≡ Some x.move) q a

    next-found : (p : Progress) (r n : ℕ) (x : Turn) → next_turn t g js p r n ≡ Some x → allowed t g p.world x.role (next_of p x.role) ≡ Some x.move
    next-found p r zero x e = absurd cc
    next-found p r (suc n) x e = turn-here p r n x (allowed t g p.world r (next_of p r)) refl e (next-found p (suc r) n x)

    none-here : (r : ℕ) (o : Option Move) (later : Option Turn) → turn_or r o later ≡ None → (o ≡ None) × (later ≡ None)
    none-here r None later e = (refl, e)
    none-here r (Some d) later e = absurd cc

    next-none : (p : Progress) (r n : ℕ) → next_turn t g js p r n ≡ None → (a : ℕ) → r ≤ a → a < r + n → allowed t g p.world a (next_of p a) ≡ None
    next-none p r zero e a l m = absurd (omega (arith, l, m))
    next-none p r (suc n) e a l m =
        let (x, y) = none-here r (allowed t g p.world r (next_of p r)) (next_turn t g js p (suc r) n) e in
        elim (same_or_not r a) [
          | inl q ↦ subst (λ r. allowed t g p.world r (next_of p r) ≡ None) q x
          | inr q ↦ next-none p (suc r) n y a (elim (cases_lt r a) [ inl less ↦ less | inr more ↦ never (q (omega (arith, l, more))) ]) (omega (arith, m))
        ]

    -- what holds on the way
    record Followed (p : Progress) : Type 0 where
      came : Came t g (λ r. take (get 0 p.counts r) (journal_at js r)) p.moves
      here : p.world ≡ world_after g true p.moves
      size : length p.counts ≡ length js
      within : (r : ℕ) → get 0 p.counts r ≤ length (journal_at js r)

    counted : (ns : List ℕ) (a r : ℕ) → a < length ns → (b : Bool) → nat_eq a r ≡ b → get 0 (slice_set ns a (suc (get 0 ns a))) r ≡ cond b (suc (get 0 ns r)) (get 0 ns r)
    counted ns a r l true e = let p = eqb-true a r e in subst (λ r. get 0 (slice_set ns a (suc (get 0 ns a))) r ≡ suc (get 0 ns r)) p (get-set 0 ns a (suc (get 0 ns a)) l)
    counted ns a r l false e = get-set_other 0 ns a r (suc (get 0 ns a)) (λ p. let z = eq-eqb a r p in absurd cc)

    grown : (j : List SiteEvent) (n : ℕ) (x : SiteEvent) (b : Bool) → (b ≡ true → slice_get j n ≡ Some x) → take n j ++ cond b (x ∷ []) [] ≡ take (cond b (suc n) n) j
    grown j n x true f = take-one j n x (f refl)
    grown j n x false f = append-nil (take n j)

    bounded : (n k : ℕ) (b : Bool) → n ≤ k → (b ≡ true → n < k) → cond b (suc n) n ≤ k
    bounded n k true l f = f refl
    bounded n k false l f = l

    follow-on : (p : Progress) (x : Turn) (event : SiteEvent) → Followed p → next_of p x.role ≡ Some event → Fits t g p.world x.role event x.move → Followed (after_turn g p x)
    follow-on p x event F q f =
        let a = x.role in
        let l0 = journal-within js a (get 0 p.counts a) event q in
        let s = F.size in
        let l : a < length p.counts = omega (arith, l0, s) in
        let entry : Entry = record { role = a; event = event } in
        let f' = subst (λ w. Fits t g w a event x.move) F.here f in
        let at : (r : ℕ) → nat_eq a r ≡ true → next_of p r ≡ Some event = λ r e. subst (λ r. next_of p r ≡ Some event) (eqb-true a r e) q in
        record {
          came = came-as t g (λ r. take (get 0 p.counts r) (journal_at js r) ++ of_role r (entry ∷ []))
              (λ r. take (get 0 (slice_set p.counts a (suc (get 0 p.counts a))) r) (journal_at js r)) (p.moves ++ x.move ∷ [])
              (λ r. grown (journal_at js r) (get 0 p.counts r) event (nat_eq a r) (at r) ∙ ap (λ n. take n (journal_at js r)) (sym (counted p.counts a r l (nat_eq a r) refl)))
              (came-more t g (λ r. take (get 0 p.counts r) (journal_at js r)) p.moves entry x.move F.came f');
          here = ap (λ w. (step g w x.move).world) F.here ∙ sym (run_both g (empty_world g true) p.moves (x.move ∷ []));
          size = length-set p.counts a (suc (get 0 p.counts a)) ∙ F.size;
          within = λ r. subst (λ n. n ≤ length (journal_at js r)) (sym (counted p.counts a r l (nat_eq a r) refl))
              (bounded (get 0 p.counts r) (length (journal_at js r)) (nat_eq a r) (F.within r) (λ e. slice_get_within (journal_at js r) (get 0 p.counts r) event (at r e)));
        }

    -- what the join ends with
    abbrev Stops : Progress → Type 0
    Stops p = (r : ℕ) (event : SiteEvent) (e : Move) → next_of p r ≡ Some event → Fits t g p.world r event e → Never

    module _ (given : Given g) (fold : SiteIsFold g) where
      mail-of : (p : Progress) → Followed p → Mail g p.world
      mail-of p F = subst (Mail g) (sym F.here) (came-mail t g given fold (λ r. take (get 0 p.counts r) (journal_at js r)) p.moves F.came)

      all-came : (p : Progress) → Followed p → left p.counts js ≤ 0 → Stops p
      all-came p F l r event e q f =
          let n = left-none p.counts js F.size l r in
          let k = slice_get_within (journal_at js r) (get 0 p.counts r) event q in
          absurd (omega (arith, n, k))

      none-left : (p : Progress) → Followed p → next_turn t g js p 0 (length js) ≡ None → Stops p
      none-left p F n r event e q f =
          let l = journal-within js r (get 0 p.counts r) event q in
          let z = next-none p 0 (length js) n r (omega arith) (omega (arith, l)) in
          fits-allowed p.world (mail-of p F) r event e f (sym (ap (allowed t g p.world r) q) ∙ z)

      some-event : (p : Progress) (x : Turn) (o : Option SiteEvent) → next_of p x.role ≡ o → allowed t g p.world x.role o ≡ Some x.move →
          (event : SiteEvent) × (next_of p x.role ≡ Some event) × Fits t g p.world x.role event x.move
      some-event p x None q a = absurd cc
      some-event p x (Some event) q a = (event, q, allowed-fits p.world x.role event x.move a)

      less-left : (p : Progress) (x : Turn) (event : SiteEvent) (n : ℕ) → Followed p → next_of p x.role ≡ Some event → left p.counts js ≤ suc n → left (after_turn g p x).counts js ≤ n
      less-left p x event n F q l =
          let z = left-less p.counts js x.role F.size (slice_get_within (journal_at js x.role) (get 0 p.counts x.role) event q) in omega (arith, z, l)

      abbrev turns_by : ℕ → Progress → Option Turn → Progress
      turns_by n p None = p
      turns_by n p (Some x) = turns n t g js (after_turn g p x)

      abbrev Ends : Progress → Type 0
      Ends p = Followed p × Stops p

      turns-on : (n : ℕ) (p : Progress) → Followed p → left p.counts js ≤ suc n → ((q : Progress) → Followed q → left q.counts js ≤ n →
          Ends (turns n t g js q)) → (o : Option Turn) → next_turn t g js p 0 (length js) ≡ o
          → Ends (turns_by n p o)
      turns-on n p F l f None e = (F, none-left p F e)
      turns-on n p F l f (Some x) e =
          let (event, q, fits) = some-event p x (next_of p x.role) refl (next-found p 0 (length js) x e) in
          f (after_turn g p x) (follow-on p x event F q fits) (less-left p x event n F q l)

      turns-end : (n : ℕ) (p : Progress) → Followed p → left p.counts js ≤ n → Ends (turns n t g js p)
      turns-end zero p F l = (F, all-came p F l)
      turns-end (suc n) p F l = turns-on n p F l (λ q G m. turns-end n q G m) (next_turn t g js p 0 (length js)) refl

      begun : Followed (beginning g js)
      begun = record {
        came = came-as t g (λ r. []) (λ r. take (get 0 (map (λ j. 0) js) r) (journal_at js r)) [] (λ r. sym (ap (λ n. take n (journal_at js r)) (begins-at js r))) (came-none t g);
        here = refl;
        size = begins-size js;
        within = λ r. let z = begins-at js r in omega (arith, z);
      }

      pub joined-reaches : IsReach t g js (joined t g js).counts (joined t g js).moves
      joined-reaches =
          let start = left-start js in
          let (F, S) = turns-end (events_in js) (beginning g js) begun (omega (arith, start)) in
          let p = joined t g js in
          record {
            joint = came-as t g (λ r. take (get 0 p.counts r) (journal_at js r)) (journal_at (firsts p.counts js)) p.moves (λ r. sym (journal-firsts p.counts js r)) F.came;
            within = F.within;
            ended = λ r event e q f. S r event e q (subst (λ w. Fits t g w r event e) (sym F.here) f);
          }

  module _ (given : Given g) (fold : SiteIsFold g) where
    pub join_reaches : JoinReaches t g
    join_reaches js = joined-reaches js given fold
