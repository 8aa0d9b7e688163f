-- What stays of the messages and of the past where a site goes back, and what is dropped.
use Rattle.std.specs.Prelude.{slice_get, slice_set, ◌&&◌, not, nat_eq, nat_le, filter}
use Rattle.std.proofs.Common.{◌≡◌, ℕ, zero, suc, ◌<◌, ◌≤◌, Bool, true, false, cond, List, [], ◌∷◌, ◌++◌, map, Option, Some, None, refl, sym, ap, ◌∙◌, subst, arith}
use Rattle.std.proofs.lemmas.Bool.{eqb-true, eq-eqb, leb-true, le-leb}
use Rattle.std.proofs.lemmas.List.{append-nil, map-append}
use Rattle.aw_list.proofs.Members.{never}
use Rattle.aw_term.specs.Trees.{Never}
use Rattle.aw_apply.specs.Messages.{Message}
use Rattle.aw_law_sites.specs.Sites.{Reaction}
use Rattle.aw_law_nodes.specs.Crashes.{Posted, Past, posting, posts_of, with_delivery, is_dropped, back_post, back_posted, back_past}
use Rattle.aw_law_nodes.proofs.ListParts.{filter-append}

-- events of other roles and early ones stay, late ones are dropped
pub drop-other : (r n a k : ℕ) → (a ≡ r → Never) → is_dropped r n a k ≡ false
drop-other r n a k f = go (nat_eq a r) refl
  where
    go : (b : Bool) → nat_eq a r ≡ b → (b && nat_le n k) ≡ false
    go true e = never (f (eqb-true a r e))
    go false e = refl

pub drop-early : (r n a k : ℕ) → k < n → is_dropped r n a k ≡ false
drop-early r n a k l = go (nat_eq a r) (nat_le n k) refl
  where
    go : (b c : Bool) → nat_le n k ≡ c → (b && c) ≡ false
    go true true e = (let z = leb-true n k e in absurd (omega arith))
    go true false e = refl
    go false c e = refl

pub drop-late : (r n k : ℕ) → n ≤ k → is_dropped r n r k ≡ true
drop-late r n k l = go (nat_eq r r) (nat_le n k) (eq-eqb r r refl) (le-leb n k l)
  where
    go : (b c : Bool) → b ≡ true → c ≡ true → (b && c) ≡ true
    go true true p q = refl
    go true false p q = absurd cc
    go false c p q = absurd cc

-- what was sent at an event stays, or is dropped with it
back-fresh : (r n a k : ℕ) (ms : List Message) → is_dropped r n a k ≡ false → back_posted r n (map (posting a k) ms) ≡ map (posting a k) ms
back-fresh r n a k [] e = refl
back-fresh r n a k (m ∷ ms) e = go (is_dropped r n a k) e (back-fresh r n a k ms e)
  where
    go : (b : Bool) → b ≡ false → back_posted r n (map (posting a k) ms) ≡ map (posting a k) ms
        → map (back_post r n) (cond (not b) (posting a k m ∷ filter (λ (p : Posted). not (is_dropped r n p.from p.event)) (map (posting a k) ms))
        (filter (λ (p : Posted). not (is_dropped r n p.from p.event)) (map (posting a k) ms))) ≡ posting a k m ∷ map (posting a k) ms
    go true e i = absurd cc
    go false e i = ap (◌∷◌ (posting a k m)) i

back-dropped : (r n a k : ℕ) (ms : List Message) → is_dropped r n a k ≡ true → back_posted r n (map (posting a k) ms) ≡ []
back-dropped r n a k [] e = refl
back-dropped r n a k (m ∷ ms) e = go (is_dropped r n a k) e (back-dropped r n a k ms e)
  where
    go : (b : Bool) → b ≡ true → back_posted r n (map (posting a k) ms) ≡ []
        → map (back_post r n) (cond (not b) (posting a k m ∷ filter (λ (p : Posted). not (is_dropped r n p.from p.event)) (map (posting a k) ms))
        (filter (λ (p : Posted). not (is_dropped r n p.from p.event)) (map (posting a k) ms))) ≡ []
    go true e i = i
    go false e i = absurd cc

pub back-append : (r n : ℕ) (ps qs : List Posted) → back_posted r n (ps ++ qs) ≡ back_posted r n ps ++ back_posted r n qs
back-append r n ps qs = ap (map (back_post r n)) (filter-append (λ (p : Posted). not (is_dropped r n p.from p.event)) ps qs)
    ∙ map-append (back_post r n) (filter (λ (p : Posted). not (is_dropped r n p.from p.event)) ps)
    (filter (λ (p : Posted). not (is_dropped r n p.from p.event)) qs)

pub back-sent : (r n a k : ℕ) (o : Option Reaction) → is_dropped r n a k ≡ false → back_posted r n (posts_of a k o) ≡ posts_of a k o
back-sent r n a k None e = refl
back-sent r n a k (Some x) e = back-fresh r n a k x.sent e

pub back-none : (r n a k : ℕ) (o : Option Reaction) → is_dropped r n a k ≡ true → back_posted r n (posts_of a k o) ≡ []
back-none r n a k None e = refl
back-none r n a k (Some x) e = back-dropped r n a k x.sent e

-- so does the event in the past
pub past-kept : (r n : ℕ) (e : Past) → is_dropped r n e.role e.before ≡ false → back_past r n (e ∷ []) ≡ e ∷ []
past-kept r n e f = ap (λ b. cond (not b) (e ∷ []) []) f

pub past-dropped : (r n : ℕ) (e : Past) → is_dropped r n e.role e.before ≡ true → back_past r n (e ∷ []) ≡ []
past-dropped r n e f = ap (λ b. cond (not b) (e ∷ []) []) f

-- a message that stays in the list, and one that leaves it
cons-stays : (r n : ℕ) (q : Posted) (ps : List Posted) → is_dropped r n q.from q.event ≡ false → back_posted r n (q ∷ ps) ≡ back_post r n q ∷ back_posted r n ps
cons-stays r n q ps e = ap (λ b. map (back_post r n) (cond (not b) (q ∷ filter (λ (p : Posted). not (is_dropped r n p.from p.event)) ps)
    (filter (λ (p : Posted). not (is_dropped r n p.from p.event)) ps))) e

cons-goes : (r n : ℕ) (q : Posted) (ps : List Posted) → is_dropped r n q.from q.event ≡ true → back_posted r n (q ∷ ps) ≡ back_posted r n ps
cons-goes r n q ps e = ap (λ b. map (back_post r n) (cond (not b) (q ∷ filter (λ (p : Posted). not (is_dropped r n p.from p.event)) ps)
    (filter (λ (p : Posted). not (is_dropped r n p.from p.event)) ps))) e

-- message k is at place j of those that stay, also with one more delivery
abbrev pub IsPlace : ℕ → ℕ → List Posted → ℕ → Posted → ℕ → ℕ → Type 0
IsPlace r n ps k p c j = (slice_get (back_posted r n ps) j ≡ Some (back_post r n p))
    × (back_posted r n (slice_set ps k (with_delivery c p)) ≡ slice_set (back_posted r n ps) j (back_post r n (with_delivery c p)))

pub place : (r n : ℕ) (ps : List Posted) (k : ℕ) (p : Posted) (c : ℕ) → slice_get ps k ≡ Some p → is_dropped r n p.from p.event ≡ false → (j : ℕ) × IsPlace r n ps k p c j
place r n [] k p c e f = absurd cc
place r n (q ∷ ps) zero p c e f =
    let z : q ≡ p = cc in (
      zero,
      subst (λ (q : Posted). IsPlace r n (q ∷ ps) zero p c zero) (sym z) (
        ap (λ qs. slice_get qs 0) (cons-stays r n p ps f),
        cons-stays r n (with_delivery c p) ps f ∙ ap (λ qs. slice_set qs 0 (back_post r n (with_delivery c p))) (sym (cons-stays r n p ps f)),
      ),
    )
place r n (q ∷ ps) (suc k) p c e f = go (is_dropped r n q.from q.event) refl (place r n ps k p c e f)
  where
    go : (b : Bool) → is_dropped r n q.from q.event ≡ b → ((j : ℕ) × IsPlace r n ps k p c j) → (j : ℕ) × IsPlace r n (q ∷ ps) (suc k) p c j
    go true d (j, (x, y)) = (
      j,
      (
        ap (λ qs. slice_get qs j) (cons-goes r n q ps d) ∙ x,
        cons-goes r n q (slice_set ps k (with_delivery c p)) d ∙ (y ∙ ap (λ qs. slice_set qs j (back_post r n (with_delivery c p))) (sym (cons-goes r n q ps d))),
      ),
    )
    go false d (j, (x, y)) = (
      suc j,
      (
        ap (λ qs. slice_get qs (suc j)) (cons-stays r n q ps d) ∙ x,
        cons-stays r n q (slice_set ps k (with_delivery c p)) d ∙ (ap (◌∷◌ (back_post r n q)) y ∙ ap (λ qs. slice_set qs (suc j) (back_post r n (with_delivery c p))) (sym (cons-stays r n q ps d))),
      ),
    )

-- one more delivery stays, or counts as not made
pub noted-stays : (r n c : ℕ) (p : Posted) → is_dropped r n p.message.to c ≡ false → back_post r n (with_delivery c p) ≡ with_delivery c (back_post r n p)
noted-stays r n c p e =
    let z = filter-append (λ k. not (is_dropped r n p.message.to k)) p.deliveries (c ∷ []) in
    let y : filter (λ k. not (is_dropped r n p.message.to k)) (c ∷ []) ≡ c ∷ [] = ap (λ b. cond (not b) (c ∷ []) []) e in
    λ i. record p { deliveries = (z ∙ ap (λ ds. filter (λ k. not (is_dropped r n p.message.to k)) p.deliveries ++ ds) y) i }

pub noted-goes : (r n c : ℕ) (p : Posted) → is_dropped r n p.message.to c ≡ true → back_post r n (with_delivery c p) ≡ back_post r n p
noted-goes r n c p e =
    let z = filter-append (λ k. not (is_dropped r n p.message.to k)) p.deliveries (c ∷ []) in
    let y : filter (λ k. not (is_dropped r n p.message.to k)) (c ∷ []) ≡ [] = ap (λ b. cond (not b) (c ∷ []) []) e in
    λ i. record p { deliveries = (z ∙ (ap (λ ds. filter (λ k. not (is_dropped r n p.message.to k)) p.deliveries ++ ds) y ∙ append-nil _)) i }
