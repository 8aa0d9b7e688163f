-- Fair delivery settles.
use Rattle.std.specs.Prelude.{slice_get, ◌⊎◌}
use Rattle.std.proofs.Common.{◌≡◌, ℕ, zero, suc, ◌+◌, ◌-◌, ◌<◌, ◌≤◌, Bool, true, false, List, [], ◌∷◌, ◌++◌, length, Option, Some, None, refl, sym, ap, ◌∙◌, subst, inl, inr, arith}
use Rattle.std.proofs.lemmas.Option.{slice_get_within, same_Some}
use Rattle.aw_list.proofs.Everyday.{get_within as get-within}
use Rattle.aw_term.specs.Choices.{undivided, answer}
use Rattle.aw_term.specs.Rules.{Grammar}
use Rattle.aw_term.specs.WellFormed.{Each}
use Rattle.aw_term.proofs.Eaches.{each_append}
use Rattle.aw_apply.specs.Messages.{Message, Received, New, Repeat, Conflict, NotMine, BadName}
use Rattle.aw_law_sites.specs.Choosing.{answer_to, choose}
use Rattle.aw_law_sites.specs.Homes.{home}
use Rattle.aw_law_sites.specs.Reacting.{receive}
use Rattle.aw_law_sites.specs.Sites.{Reaction}
use Rattle.aw_law_sites.specs.Bounds.{bound_of}
use Rattle.aw_law_sites.specs.Worlds.{World, empty_world, node_of, site_at, Move, Delivers, received_at, deliver_on, count_set, undelivered, step, IsQuiet, MayCome, world_after}
use Rattle.aw_law_worlds.specs.Invariant.{IsDelivered, IsSent}
use Rattle.aw_law_worlds.specs.Laws.{InvariantHolds, Repeats, QuietHolds, QuietAnswers, MessagesAreBounded}
use Rattle.aw_law_worlds.proofs.Counting.{count_within, first_place}
use Rattle.aw_law_worlds.proofs.Quieting.{all-true}
use Rattle.aw_law_worlds.proofs.Settling.{deliver_taken, run_both}
use Rattle.aw_law_nodes.proofs.Following.{Follows, run-follows}
use Rattle.aw_law_nodes.proofs.ListParts.{set-get}
use Rattle.aw_law_nodes.proofs.Runs.{marked}
use Rattle.aw_law_settling.specs.Fair.{deliveries, front, IsFair, Settles, FairDeliverySettles}

-- what is set stays set
abbrev Kept : List Bool → List Bool → Type 0
Kept ds es = (k : ℕ) → slice_get ds k ≡ Some true → slice_get es k ≡ Some true

kept-tail : (d e : Bool) (ds es : List Bool) → Kept (d ∷ ds) (e ∷ es) → Kept ds es
kept-tail d e ds es f k q = f (suc k) q

counts-kept : (ds es : List Bool) → Kept ds es → count_set ds ≤ count_set es
counts-kept [] es f = omega arith
counts-kept (true ∷ ds) [] f = let z : None ≡ Some true = f 0 refl in absurd cc
counts-kept (false ∷ ds) [] f = counts-kept ds [] (λ k q. let z = f (suc k) q in absurd cc)
counts-kept (true ∷ ds) (true ∷ es) f = let i = counts-kept ds es (kept-tail true true ds es f) in omega (arith, i)
counts-kept (true ∷ ds) (false ∷ es) f = let z : Some false ≡ Some true = f 0 refl in absurd cc
counts-kept (false ∷ ds) (true ∷ es) f = let i = counts-kept ds es (kept-tail false true ds es f) in omega (arith, i)
counts-kept (false ∷ ds) (false ∷ es) f = let i = counts-kept ds es (kept-tail false false ds es f) in omega (arith, i)

-- and one more makes more
counts-more : (ds es : List Bool) → Kept ds es → (k : ℕ) → slice_get ds k ≡ Some false → slice_get es k ≡ Some true → count_set ds < count_set es
counts-more [] es f k p q = absurd cc
counts-more (d ∷ ds) [] f k p q = absurd cc
counts-more (true ∷ ds) (e ∷ es) f zero p q = absurd cc
counts-more (false ∷ ds) (false ∷ es) f zero p q = absurd cc
counts-more (false ∷ ds) (true ∷ es) f zero p q = let i = counts-kept ds es (kept-tail false true ds es f) in omega (arith, i)
counts-more (true ∷ ds) (true ∷ es) f (suc k) p q = let i = counts-more ds es (kept-tail true true ds es f) k p q in omega (arith, i)
counts-more (true ∷ ds) (false ∷ es) f (suc k) p q = let z : Some false ≡ Some true = f 0 refl in absurd cc
counts-more (false ∷ ds) (true ∷ es) f (suc k) p q = let i = counts-more ds es (kept-tail false true ds es f) k p q in omega (arith, i)
counts-more (false ∷ ds) (false ∷ es) f (suc k) p q = let i = counts-more ds es (kept-tail false false ds es f) k p q in omega (arith, i)

comes : (g : Grammar) (w : World) (k : ℕ) (m : Message) (o : Option Message) → o ≡ Some m → k < length w.delivered → IsDelivered (deliver_on g w k o).world k
comes g w k m None e l = absurd cc
comes g w k m (Some n) e l = marked w k n.to (receive g (site_at w n.to) n) l

-- a repeat that was delivered before changes nothing
same-repeat : (w : World) (k to : ℕ) (z : Received Reaction) → z ≡ Repeat → IsDelivered w k → (received_at w k to z).world ≡ w
same-repeat w k to Repeat e d = ap (λ ds. record w { delivered = ds }) (set-get w.delivered k true d)
same-repeat w k to (New x) e d = absurd cc
same-repeat w k to (Conflict a b) e d = absurd cc
same-repeat w k to NotMine e d = absurd cc
same-repeat w k to BadName e d = absurd cc

same-world : (g : Grammar) (w : World) (k : ℕ) (o : Option Message) → ((m : Message) → o ≡ Some m → (receive g (site_at w m.to) m ≡ Repeat) × IsDelivered w k) → (deliver_on g w k o).world ≡ w
same-world g w k None f = refl
same-world g w k (Some m) f = let (r, d) = f m refl in same-repeat w k m.to (receive g (site_at w m.to) m) r d

module _ (g : Grammar) (f : ℕ → ℕ) where
  may-come : (n : ℕ) → Each (MayCome g) (deliveries f n)
  may-come zero = tt
  may-come (suc n) = each_append (MayCome g) (deliveries f n) (Delivers (f n) ∷ []) (may-come n) (tt, tt)

  next-front : (w : World) (n : ℕ) → front g w f (suc n) ≡ (step g (front g w f n) (Delivers (f n))).world
  next-front w n = run_both g w (deliveries f n) (Delivers (f n) ∷ [])

  front-taken : (w : World) (n : ℕ) → (front g w f n).taken ≡ w.taken
  front-taken w zero = refl
  front-taken w (suc n) = ap (λ (v : World). v.taken) (next-front w n) ∙ (deliver_taken g (front g w f n) (f n) ∙ front-taken w n)

  front-follows : (w : World) (n d : ℕ) → Follows (front g w f n) (front g w f (n + d))
  front-follows w n zero = let z : n ≡ n + 0 = omega arith in subst (λ m. Follows (front g w f n) (front g w f m)) z (run-follows g (front g w f n) [])
  front-follows w n (suc d) =
      let z : suc (n + d) ≡ n + suc d = omega arith in
      subst (λ m. Follows (front g w f n) (front g w f m)) z (follow (front g w f n) (n + d) (front-follows w n d))
    where
      follow : (u : World) (m : ℕ) → Follows u (front g w f m) → Follows u (front g w f (suc m))
      follow u m F =
          let v = front g w f m in
          subst (Follows u) (sym (next-front w m)) (both u v (step g v (Delivers (f m))).world F (run-follows g v (Delivers (f m) ∷ [])))
        where
          both : (u v x : World) → Follows u v → Follows v x → Follows u x
          both u v x p q = record { sent = λ k m e. q.sent k m (p.sent k m e); delivered = λ k e. q.delivered k (p.delivered k e); boxes = λ a i m e. q.boxes a i m (p.boxes a i m e) }

  follows-to : (w : World) (i j : ℕ) → i ≤ j → Follows (front g w f i) (front g w f j)
  follows-to w i j l = let z : i + (j - i) ≡ j = omega (arith, l) in subst (λ m. Follows (front g w f i) (front g w f m)) z (front-follows w i (j - i))

  module _ (invariant : InvariantHolds g) (bound : MessagesAreBounded g) (repeats : Repeats g) (loads : Bool) (es : List Move) (may : Each (MayCome g) es) where
    abbrev w : World
    w = world_after g loads es

    abbrev at : ℕ → World
    at n = front g w f n

    as-after : (n : ℕ) → world_after g loads (es ++ deliveries f n) ≡ at n
    as-after n = run_both g (empty_world g loads) es (deliveries f n)

    all-may : (n : ℕ) → Each (MayCome g) (es ++ deliveries f n)
    all-may n = each_append (MayCome g) es (deliveries f n) may (may-come n)

    marks : (n : ℕ) → length (at n).delivered ≡ length (at n).messages
    marks n = subst (λ (v : World). length v.delivered ≡ length v.messages) (as-after n) (let (x, I) = invariant loads (es ++ deliveries f n) (all-may n) in I.marks)

    counted : (n : ℕ) → count_set (at n).delivered ≤ bound_of g w.taken
    counted n =
        let c = count_within (at n).delivered in
        let m = marks n in
        let b = subst (λ (v : World). length v.messages ≤ bound_of g v.taken) (as-after n) (bound loads (es ++ deliveries f n) (all-may n)).0 in
        let t : bound_of g (at n).taken ≡ bound_of g w.taken = ap (bound_of g) (front-taken w n) in
        omega (arith, c, m, b, t)

    -- once its number comes, one message more was delivered
    one-more : (i j k : ℕ) → i ≤ j → f j ≡ k → slice_get (at i).delivered k ≡ Some false → count_set (at i).delivered < count_set (at (suc j)).delivered
    one-more i j k l p e =
        let m = marks i in
        let inside = slice_get_within (at i).delivered k false e in
        let (x, sent) = get-within (at i).messages k (omega (arith, m, inside)) in
        let sent' = (follows-to w i j l).sent k x sent in
        let inside' = slice_get_within (at j).messages k x sent' in
        let m' = marks j in
        let d : IsDelivered (step g (at j) (Delivers k)).world k = comes g (at j) k x (slice_get (at j).messages k) sent' (omega (arith, m', inside')) in
        let d' : IsDelivered (at (suc j)) k = subst (λ v. IsDelivered v k) (sym (next-front w j)) (subst (λ n. IsDelivered (step g (at j) (Delivers n)).world k) (sym p) d) in
        counts-more (at i).delivered (at (suc j)).delivered (follows-to w i (suc j) (omega (arith, l))).delivered k e d'

    open-one : (i : ℕ) (o : Option ℕ) → undelivered (at i) ≡ o → IsQuiet (at i) ⊎ ((k : ℕ) × (slice_get (at i).delivered k ≡ Some false))
    open-one i None e = inl e
    open-one i (Some k) e = let (j, p, u) = first_place (at i).delivered 0 k e in inr (j, u)

    gets-quiet : IsFair g w f → (fuel i : ℕ) → bound_of g w.taken ≤ fuel + count_set (at i).delivered → (n : ℕ) × IsQuiet (at n)
    gets-quiet fair zero i l = elim (open-one i (undelivered (at i)) refl) [
      | inl q ↦ (i, q)
      | inr u ↦ (let (k, e) = u in
          let (j, m, p) = fair i k e in
          let more = one-more i j k m p e in
          let most = counted (suc j) in
          absurd (omega (arith, l, more, most)))
    ]
    gets-quiet fair (suc fuel) i l = elim (open-one i (undelivered (at i)) refl) [
      | inl q ↦ (i, q)
      | inr u ↦ (let (k, e) = u in
          let (j, m, p) = fair i k e in
          let more = one-more i j k m p e in
          gets-quiet fair fuel (suc j) (omega (arith, l, more)))
    ]

    quiet-same : (n : ℕ) → IsQuiet (at n) → (k : ℕ) → (step g (at n) (Delivers k)).world ≡ at n
    quiet-same n quiet k = same-world g (at n) k (slice_get (at n).messages k) (λ m e.
        let l = slice_get_within (at n).messages k m e in
        let s = marks n in
        let d = all-true (at n).delivered 0 k quiet (omega (arith, l, s)) in
        let r = subst (λ v. IsSent v m k → (IsDelivered v k → receive g (site_at v m.to) m ≡ Repeat)) (as-after n) (λ e. (repeats loads (es ++ deliveries f n) (all-may n) k m e).0) in
        (r e d, d))

    stays-same : (n d : ℕ) → IsQuiet (at n) → at (n + d) ≡ at n
    stays-same n zero q = let z : n + 0 ≡ n = omega arith in ap at z
    stays-same n (suc d) q =
        let z : n + suc d ≡ suc (n + d) = omega arith in
        ap at z ∙ (next-front w (n + d) ∙ (ap (λ v. (step g v (Delivers (f (n + d)))).world) (stays-same n d q) ∙ quiet-same n q (f (n + d))))

    same-from : (n m : ℕ) → IsQuiet (at n) → n ≤ m → at m ≡ at n
    same-from n m q l = let z : m ≡ n + (m - n) = omega (arith, l) in ap at z ∙ stays-same n (m - n) q

  pub fair_settles : InvariantHolds g → MessagesAreBounded g → Repeats g → QuietHolds g → QuietAnswers g → (loads : Bool) (es : List Move) →
      Each (MayCome g) es → IsFair g (world_after g loads es) f → Settles g (world_after g loads es) f
  fair_settles invariant bound repeats holds answers loads es may fair =
      let v = world_after g loads es in
      let (n, quiet) = gets-quiet invariant bound repeats loads es may fair (bound_of g v.taken) 0 (omega arith) in
      let (c, e, h) = holds loads es may in
      let (d, u, a) = answers loads (es ++ deliveries f n) (all-may invariant bound repeats loads es may n) in
      let same = as-after invariant bound repeats loads es may n in
      let t : (world_after g loads (es ++ deliveries f n)).taken ≡ v.taken = ap (λ (x : World). x.taken) same ∙ front-taken v n in
      let one : d ≡ c = same_Some _ _ (sym u ∙ (ap (undivided g []) t ∙ e)) in
      let there = a (subst IsQuiet (sym same) quiet) in
      record {
        moment = n;
        quiet = quiet;
        stays = λ m l. same-from invariant bound repeats loads es may n m quiet l;
        config = c;
        taken = e;
        answers = λ m l x.
            ap (λ (s : World). answer_to (choose g (site_at s (home g (node_of x))) x)) (same-from invariant bound repeats loads es may n m quiet l
            ∙ sym same) ∙ (there x ∙ ap (λ c. answer g c x) one);
      }

pub fair_delivery_settles : (g : Grammar) → InvariantHolds g → MessagesAreBounded g → Repeats g → QuietHolds g → QuietAnswers g → FairDeliverySettles g
fair_delivery_settles g invariant bound repeats holds answers loads es may f fair = fair_settles g f invariant bound repeats holds answers loads es may fair
