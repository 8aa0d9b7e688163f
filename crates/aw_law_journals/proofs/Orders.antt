-- A forged message is not reached, and the order in which events come leaves no trace.
use Rattle.std.specs.Prelude.{slice_get, nat_eq, take, drop, ◌⊎◌}
use Rattle.std.proofs.Common.{◌≡◌, ℕ, zero, suc, ◌<◌, Bool, true, false, cond, List, [], ◌∷◌, ◌++◌, length, Some, refl, sym, ap, ◌∙◌, subst, inl, inr, arith, eq-eqb}
use Rattle.std.proofs.lemmas.Bool.{cases_lt}
use Rattle.std.proofs.lemmas.List.{take-append-drop}
use Rattle.aw_list.specs.Members.{Member}
use Rattle.aw_list.proofs.Members.{never, member_got, member_left, member_right, member_split}
use Rattle.aw_term.specs.Choices.{Choice, Answer, Taken}
use Rattle.aw_term.specs.Names.{Ref}
use Rattle.aw_term.specs.Rules.{Grammar, get}
use Rattle.aw_typed.specs.Types.{Types}
use Rattle.aw_apply.specs.Messages.{Message}
use Rattle.aw_law_sites.specs.Choosing.{Chosen, No, Did, choose}
use Rattle.aw_law_sites.specs.Homes.{home}
use Rattle.aw_law_sites.specs.SiteEvents.{SiteEvent, Chose, Got, site_run}
use Rattle.aw_law_sites.specs.Sites.{Site, empty_site}
use Rattle.aw_law_sites.specs.Worlds.{World, empty_world, site_at, node_of, Answered, Move, Chooses, Delivers, chosen_at, step, run, world_after}
use Rattle.aw_law_worlds.specs.Invariant.{sender}
use Rattle.aw_law_worlds.specs.Laws.{SiteIsFold, RefusalsAreNotTaken}
use Rattle.aw_law_worlds.proofs.Places.{member-get}
use Rattle.aw_law_worlds.proofs.Settling.{deliver_taken}
use Rattle.aw_law_nodes.proofs.Following.{run-follows}
use Rattle.aw_law_nodes.proofs.Mail.{Given}
use Rattle.aw_law_journals.specs.Journals.{Entry, of_role, journal_at, IsJoint, Fits, AllFit}
use Rattle.aw_law_journals.specs.Laws.{ForgedIsNotReached, OrderLeavesNoTrace}
use Rattle.aw_law_journals.proofs.Coming.{came-mail, came-site, sent-by, more-box}
use Rattle.aw_law_journals.proofs.Reaching.{firsts-came}

-- messages stay
run-keeps : (g : Grammar) (w : World) (es : List Move) (m : Message) → Member m w.messages → Member m (run g w es).messages
run-keeps g w es m i = let (k, s) = member-get w.messages m i in member_got (run g w es).messages k m ((run-follows g w es).sent k m s)

answer-of : {a b : Answer Ref} → Answered a ≡ Answered b → a ≡ b
answer-of e = cc

taken-one : (g : Grammar) → RefusalsAreNotTaken g → (w : World) (r : ℕ) (c : Choice) (s : Site) (z : Chosen) → choose g s c ≡ z →
    (chosen_at w r c z).reply ≡ Answered Taken → (chosen_at w r c z).world.taken ≡ w.taken ++ c ∷ []
taken-one g refusals w r c s (No a) e h = never (refusals s c a e (answer-of h))
taken-one g refusals w r c s (Did x) e h = refl

chose-same : {c d : Choice} → Chose c ≡ Chose d → c ≡ d
chose-same e = cc

not-got : {c : Choice} {m : Message} {A : Type 0} → Chose c ≡ Got m → A
not-got e = absurd cc

-- what one role has of one event
first-of : (r : ℕ) (x : Entry) (xs : List Entry) (y : SiteEvent) (b : Bool) → nat_eq x.role r ≡ b → Member y (cond b (x.event ∷ of_role r xs) (of_role r xs)) → (y ≡ x.event) ⊎ Member y (of_role r xs)
first-of r x xs y true e (inl p) = inl p
first-of r x xs y true e (inr m) = inr m
first-of r x xs y false e m = inr m

later-of : (r : ℕ) (x : Entry) (xs : List Entry) (y : SiteEvent) (b : Bool) → Member y (of_role r xs) → Member y (cond b (x.event ∷ of_role r xs) (of_role r xs))
later-of r x xs y true m = inr m
later-of r x xs y false m = m

here-of : (x : Entry) (xs : List Entry) (y : SiteEvent) → y ≡ x.event → Member y (of_role x.role (x ∷ xs))
here-of x xs y p = subst (λ b. Member y (cond b (x.event ∷ of_role x.role xs) (of_role x.role xs))) (sym (eq-eqb x.role x.role refl)) (inl p)

module _ (t : Types) (g : Grammar) where
  -- a message that came was sent
  came-sent : (w : World) (a : ℕ) (x : SiteEvent) (e : Move) → Fits t g w a x e → (m : Message) → Got m ≡ x → Member m w.messages
  came-sent w a (Got n) (Delivers k) f m p = let q : m ≡ n = cc in subst (λ m. Member m w.messages) (sym q) (member_got w.messages k n f.1)
  came-sent w a (Chose c) (Chooses d) f m p = absurd cc
  came-sent w a (Chose c) (Delivers k) f m p = never f
  came-sent w a (Got n) (Chooses d) f m p = never f

  got-sent : (w : World) (xs : List Entry) (es : List Move) → AllFit t g w xs es → (r : ℕ) (m : Message) → Member (Got m) (of_role r xs) → Member m (run g w es).messages
  got-sent w [] [] f r m i = never i
  got-sent w (x ∷ xs) (e ∷ es) f r m i =
      elim (first-of r x xs (Got m) (nat_eq x.role r) refl i) [
        | inl p ↦ run-keeps g w (e ∷ es) m (came-sent w x.role x.event e f.0 m p)
        | inr j ↦ got-sent (step g w e).world xs es f.1 r m j
      ]
  got-sent w [] (e ∷ es) f r m i = never f
  got-sent w (x ∷ xs) [] f r m i = never f

  module _ (refusals : RefusalsAreNotTaken g) where
    -- what one event that fits adds to the choices taken
    fits-taken : (w : World) (a : ℕ) (x : SiteEvent) (e : Move) → Fits t g w a x e → (c : Choice) → Member c (step g w e).world.taken → Member c w.taken ⊎ (Chose c ≡ x)
    fits-taken w a (Chose d) (Chooses b) f c i =
        let h = home g (node_of b) in
        let here : (chosen_at w h b (choose g (site_at w h) b)).reply ≡ Answered Taken = subst (λ d. (step g w (Chooses d)).reply ≡ Answered Taken) f.0 f.4 in
        let all = taken-one g refusals w h b (site_at w h) (choose g (site_at w h) b) refl here in
        elim (member_split c w.taken (b ∷ []) (subst (λ cs. Member c cs) all i)) [ inl j ↦ inl j | inr j ↦ elim j [ inl p ↦ inr (ap Chose (p ∙ sym f.0)) | inr k ↦ never k ] ]
    fits-taken w a (Got m) (Delivers k) f c i = inl (subst (λ cs. Member c cs) (deliver_taken g w k) i)
    fits-taken w a (Chose d) (Delivers k) f c i = never f
    fits-taken w a (Got m) (Chooses b) f c i = never f

    fits-adds : (w : World) (a : ℕ) (x : SiteEvent) (e : Move) → Fits t g w a x e → (c : Choice) → Member c w.taken ⊎ (Chose c ≡ x) → Member c (step g w e).world.taken
    fits-adds w a (Chose d) (Chooses b) f c i =
        let h = home g (node_of b) in
        let here : (chosen_at w h b (choose g (site_at w h) b)).reply ≡ Answered Taken = subst (λ d. (step g w (Chooses d)).reply ≡ Answered Taken) f.0 f.4 in
        let all = taken-one g refusals w h b (site_at w h) (choose g (site_at w h) b) refl here in
        subst (λ cs. Member c cs) (sym all) (elim i [ inl j ↦ member_left c w.taken (b ∷ []) j | inr p ↦ member_right c w.taken (b ∷ []) (inl (chose-same p ∙ f.0)) ])
    fits-adds w a (Got m) (Delivers k) f c (inl i) = subst (λ cs. Member c cs) (sym (deliver_taken g w k)) i
    fits-adds w a (Got m) (Delivers k) f c (inr p) = not-got p
    fits-adds w a (Chose d) (Delivers k) f c i = never f
    fits-adds w a (Got m) (Chooses b) f c i = never f

    -- the choices taken are those of the journals
    taken-from : (w : World) (xs : List Entry) (es : List Move) → AllFit t g w xs es → (c : Choice) → Member c (run g w es).taken → Member c w.taken ⊎ ((r : ℕ) × Member (Chose c) (of_role r xs))
    taken-from w [] [] f c i = inl i
    taken-from w (x ∷ xs) (e ∷ es) f c i =
        elim (taken-from (step g w e).world xs es f.1 c i) [
          | inl j ↦ elim (fits-taken w x.role x.event e f.0 c j) [ inl k ↦ inl k | inr p ↦ inr (x.role, here-of x xs (Chose c) p) ]
          | inr j ↦ (let (r, k) = j in inr (r, later-of r x xs (Chose c) (nat_eq x.role r) k))
        ]
    taken-from w [] (e ∷ es) f c i = never f
    taken-from w (x ∷ xs) [] f c i = never f

    taken-to : (w : World) (xs : List Entry) (es : List Move) → AllFit t g w xs es → (c : Choice) → Member c w.taken ⊎ ((r : ℕ) × Member (Chose c) (of_role r xs)) → Member c (run g w es).taken
    taken-to w [] [] f c (inl i) = i
    taken-to w [] [] f c (inr (r, i)) = never i
    taken-to w (x ∷ xs) (e ∷ es) f c (inl i) = taken-to (step g w e).world xs es f.1 c (inl (fits-adds w x.role x.event e f.0 c (inl i)))
    taken-to w (x ∷ xs) (e ∷ es) f c (inr (r, i)) =
        elim (first-of r x xs (Chose c) (nat_eq x.role r) refl i) [
          | inl p ↦ taken-to (step g w e).world xs es f.1 c (inl (fits-adds w x.role x.event e f.0 c (inr p)))
          | inr j ↦ taken-to (step g w e).world xs es f.1 c (inr (r, j))
        ]
    taken-to w [] (e ∷ es) f c i = never f
    taken-to w (x ∷ xs) [] f c i = never f

    same-taken : (js : List (List SiteEvent)) (es fs : List Move) → IsJoint t g js es → IsJoint t g js fs → (c : Choice) →
        Member c (world_after g true es).taken → Member c (world_after g true fs).taken
    same-taken js es fs j k c i =
        elim (taken-from (empty_world g true) j.0 es j.2 c i) [
          | inl n ↦ never n
          | inr n ↦ (let (r, m) = n in taken-to (empty_world g true) k.0 fs k.2 c (inr (r, subst (λ ys. Member (Chose c) ys) (j.1 r ∙ sym (k.1 r)) m)))
        ]

  module _ (given : Given g) (fold : SiteIsFold g) where
    pub forged_is_not_reached : ForgedIsNotReached t g
    forged_is_not_reached js ms fs j r n m p nobody =
        elim (cases_lt n (get 0 ms r)) [
          | inr l ↦ l
          | inl l ↦ (let c = firsts-came t g js ms fs j in
              let here : Member (Got m) (take (get 0 ms r) (journal_at js r)) = among (journal_at js r) (get 0 ms r) n (Got m) l p in
              let sent = got-sent (empty_world g true) c.0 fs c.2 r m (subst (λ ys. Member (Got m) ys) (sym (c.1 r)) here) in
              let b = sender g m.kind in
              let (_, box) = sent-by t g given fold (λ r. take (get 0 ms r) (journal_at js r)) fs c m sent in
              let whole = more-box g (empty_site true b) (take (get 0 ms b) (journal_at js b)) (drop (get 0 ms b) (journal_at js b)) m box in
              never (nobody (subst (λ ys. Member m (site_run g (empty_site true b) ys).outbox) (take-append-drop (get 0 ms b) (journal_at js b)) whole)))
        ]
      where
        among : (xs : List SiteEvent) (k n : ℕ) (x : SiteEvent) → n < k → slice_get xs n ≡ Some x → Member x (take k xs)
        among [] k n x l e = absurd cc
        among (y ∷ xs) zero n x l e = absurd (omega arith)
        among (y ∷ xs) (suc k) zero x l e = let q : y ≡ x = cc in inl (sym q)
        among (y ∷ xs) (suc k) (suc n) x l e = inr (among xs k n x (omega arith) e)

    same-sites : (d : ℕ → Site) (xs ys : List Site) → length xs ≡ length ys → ((r : ℕ) → r < length xs → get (d r) xs r ≡ get (d r) ys r) → xs ≡ ys
    same-sites d [] [] l f = refl
    same-sites d [] (y ∷ ys) l f = absurd (omega arith)
    same-sites d (x ∷ xs) [] l f = absurd (omega arith)
    same-sites d (x ∷ xs) (y ∷ ys) l f =
        let here = f 0 (omega arith) in
        let later = same-sites (λ r. d (suc r)) xs ys (omega arith) (λ r k. f (suc r) (omega arith)) in
        λ i. here i ∷ later i

    same-messages : (js : List (List SiteEvent)) (es fs : List Move) → IsJoint t g js es → IsJoint t g js fs → (m : Message) →
        Member m (world_after g true es).messages → Member m (world_after g true fs).messages
    same-messages js es fs j k m i =
        let (l, box) = sent-by t g given fold (journal_at js) es j m i in
        let b = sender g m.kind in
        ((came-mail t g given fold (journal_at js) fs k).boxes b m (subst (λ (s : Site). Member m s.outbox) (sym (came-site t g given fold (journal_at js) fs k b l)) box)).0

    pub order_leaves_no_trace : RefusalsAreNotTaken g → OrderLeavesNoTrace t g
    order_leaves_no_trace refusals js es fs j k =
        let M = came-mail t g given fold (journal_at js) es j in
        let N = came-mail t g given fold (journal_at js) fs k in
        let size = M.sites in
        record {
          sites = same-sites (empty_site false) (world_after g true es).sites (world_after g true fs).sites (M.sites ∙ sym N.sites)
              (λ r l. let l' : r < g.roles = omega (arith, l, size) in came-site t g given fold (journal_at js) es j r l' ∙ sym (came-site t g given fold (journal_at js) fs k r l'));
          taken = (same-taken refusals js es fs j k, same-taken refusals js fs es k j);
          messages = λ m. (same-messages js es fs j k m, same-messages js fs es k j m);
        }
