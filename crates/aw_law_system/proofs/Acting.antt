-- What an act does to each node: it stays what its own events make of it, and its safe events stay its first ones.
use Rattle.std.specs.Prelude.{take, drop, ◌⊎◌}
use Rattle.std.proofs.Common.{◌≡◌, ℕ, zero, suc, ◌<◌, ◌≤◌, Bool, false, List, [], ◌∷◌, ◌++◌, map, length, refl, sym, ap, ◌∙◌, subst, inl, inr, arith, append_assoc, length-append}
use Rattle.std.proofs.lemmas.List.{append-nil, take_all, take-take, take-append-le, take-append-drop, length-take-le}
use Rattle.aw_list.proofs.Members.{never}
use Rattle.aw_list.proofs.Everyday.{length-slice_set as length-set}
use Rattle.aw_term.specs.Rules.{Grammar, get, upto}
use Rattle.aw_term.specs.Trees.{Never}
use Rattle.aw_law_sites.specs.SiteEvents.{SiteEvent, site_run}
use Rattle.aw_law_sites.specs.Sites.{Site, empty_site}
use Rattle.aw_law_worlds.proofs.Places.{get-set, get-set_other, same_or_not}
use Rattle.aw_law_nodes.specs.Couriers.{IsPrefix}
use Rattle.aw_law_nodes.specs.Crashes.{Kept, new_kept, back_kept, kept_frame}
use Rattle.aw_law_nodes.specs.Nodes.{Frame}
use Rattle.aw_law_nodes.proofs.KeptNodes.{events-append, kept-frame}
use Rattle.aw_law_nodes.proofs.OwnEvents.{IsOwn, empty-size, start-kept}
use Rattle.aw_law_system.specs.Systems.{Extent, Unwritten, Written, Heard, System, node_at, safe_at, first_system, Act, Asks, Crashes, after_frame}
use Rattle.aw_law_system.specs.Systems.{safe_after, act, acts_on, IsAllowed, AreAllowed, IsWritten}

-- the events that no crash takes
abbrev pub safe_events : System → ℕ → List SiteEvent
safe_events s r = take (safe_at s r) (node_at s r).events

-- lists that begin with others
pub prefix-self : {A : Type 0} (xs : List A) → IsPrefix xs xs
prefix-self xs = ([], sym (append-nil xs))

pub prefix-on : {A : Type 0} (xs ys zs : List A) → IsPrefix xs ys → IsPrefix ys zs → IsPrefix xs zs
prefix-on xs ys zs (us, p) (vs, q) = (us ++ vs, q ∙ (ap (λ ws. ws ++ vs) p ∙ append_assoc xs us vs))

pub prefix-take : {A : Type 0} (n : ℕ) (xs : List A) → IsPrefix (take n xs) xs
prefix-take n xs = (drop n xs, sym (take-append-drop n xs))

-- acts one behind the other
pub acts-append : (g : Grammar) (loads : Bool) (s : System) (as_ bs : List Act) → acts_on g loads s (as_ ++ bs) ≡ acts_on g loads (acts_on g loads s as_) bs
acts-append g loads s [] bs = refl
acts-append g loads s (a ∷ as_) bs = acts-append g loads (act g loads s a) as_ bs

pub allowed-append : (g : Grammar) (loads : Bool) (s : System) (as_ bs : List Act) → AreAllowed g loads s (as_ ++ bs) → AreAllowed g loads s as_ × AreAllowed g loads (acts_on g loads s as_) bs
allowed-append g loads s [] bs h = (tt, h)
allowed-append g loads s (a ∷ as_) bs h = let z = allowed-append g loads (act g loads s a) as_ bs h.1 in ((h.0, z.0), z.1)

-- a role's number of safe events, where a reply was written or not
written-safe : (x : Extent) (r : ℕ) (safe : List ℕ) (n : ℕ) → IsWritten x → r < length safe → get 0 (safe_after x r safe n) r ≡ n
written-safe Unwritten r safe n w l = never w
written-safe Written r safe n w l = get-set 0 safe r n l
written-safe Heard r safe n w l = get-set 0 safe r n l

other-safe : (x : Extent) (r a : ℕ) (safe : List ℕ) (n : ℕ) → (r ≡ a → Never) → get 0 (safe_after x r safe n) a ≡ get 0 safe a
other-safe Unwritten r a safe n f = refl
other-safe Written r a safe n f = get-set_other 0 safe r a n f
other-safe Heard r a safe n f = get-set_other 0 safe r a n f

safe-size : (x : Extent) (r : ℕ) (safe : List ℕ) (n : ℕ) → length (safe_after x r safe n) ≡ length safe
safe-size Unwritten r safe n = refl
safe-size Written r safe n = length-set safe r n
safe-size Heard r safe n = length-set safe r n

-- it is as before, or all
safe-or : (x : Extent) (r : ℕ) (safe : List ℕ) (n : ℕ) → r < length safe → (get 0 (safe_after x r safe n) r ≡ get 0 safe r) ⊎ (get 0 (safe_after x r safe n) r ≡ n)
safe-or Unwritten r safe n l = inl refl
safe-or Written r safe n l = inr (get-set 0 safe r n l)
safe-or Heard r safe n l = inr (get-set 0 safe r n l)

no-safe : (i n r : ℕ) → get 0 (map (λ (k : ℕ). zero) (upto i n)) r ≡ zero
no-safe i zero r = refl
no-safe i (suc n) zero = refl
no-safe i (suc n) (suc r) = no-safe (suc i) n r

zeros-size : (i n : ℕ) → length (map (λ (k : ℕ). zero) (upto i n)) ≡ n
zeros-size i zero = refl
zeros-size i (suc n) = ap suc (zeros-size (suc i) n)

module _ (g : Grammar) (loads : Bool) where
  -- there is a node of each role, it is what its events make of it, and it has all that are safe
  pub record IsSound (s : System) : Type 0 where
    pub nodes : length s.kept ≡ g.roles
    pub marks : length s.safe ≡ g.roles
    pub own : (r : ℕ) → r < g.roles → IsOwn g loads r (node_at s r)
    pub safe : (r : ℕ) → r < g.roles → safe_at s r ≤ length (node_at s r).events

  -- what its safe events make
  abbrev pub safe_site : System → ℕ → Site
  safe_site s r = site_run g (empty_site loads r) (safe_events s r)

  pub sound-first : IsSound (first_system g loads)
  sound-first = record {
    nodes = empty-size loads 0 g.roles;
    marks = zeros-size 0 g.roles;
    own = λ r l. subst (IsOwn g loads r) (sym (start-kept g loads r l)) refl;
    safe = λ r l. let z = no-safe 0 g.roles r in omega (arith, z);
  }

  module _ (s : System) (S : IsSound s) where
    -- ---- a frame
    module _ (r : ℕ) (f : Frame) (x : Extent) (l : r < g.roles) where
      abbrev t : System
      t = act g loads s (Asks r f x)

      abbrev k : Kept
      k = after_frame g (node_at s r) f

      pub asked-here : node_at t r ≡ k
      asked-here = let n = S.nodes in get-set (new_kept false r) s.kept r k (omega (arith, n, l))

      pub asked-there : (a : ℕ) → (r ≡ a → Never) → node_at t a ≡ node_at s a
      asked-there a n = get-set_other (new_kept false a) s.kept r a k n

      pub asked-safe : (a : ℕ) → (r ≡ a → Never) → safe_at t a ≡ safe_at s a
      asked-safe a n = other-safe x r a s.safe (length k.events) n

      -- a reply of which a byte was written makes all events safe
      pub written-all : IsWritten x → safe_at t r ≡ length k.events
      written-all w = let n = S.marks in written-safe x r s.safe (length k.events) w (omega (arith, n, l))

      pub safe-either : (safe_at t r ≡ safe_at s r) ⊎ (safe_at t r ≡ length k.events)
      safe-either = let n = S.marks in safe-or x r s.safe (length k.events) (omega (arith, n, l))

      asked-own : IsOwn g loads r k
      asked-own =
          kept-frame g (node_at s r).site f
          ∙ (ap (λ (u : Site). site_run g u (kept_frame g (node_at s r).site f)) (S.own r l)
          ∙ sym (events-append g (empty_site loads r) (node_at s r).events (kept_frame g (node_at s r).site f)))

      pub asked-more : length (node_at s r).events ≤ length k.events
      asked-more = let z = length-append (node_at s r).events (kept_frame g (node_at s r).site f) in omega (arith, z)

      pub sound-asked : IsSound t
      sound-asked = record {
        nodes = length-set s.kept r k ∙ S.nodes;
        marks = safe-size x r s.safe (length k.events) ∙ S.marks;
        own = λ a m. elim (same_or_not r a) [
          | inl e ↦ subst (λ a. IsOwn g loads a (node_at t a)) e (subst (IsOwn g loads r) (sym asked-here) asked-own)
          | inr n ↦ subst (IsOwn g loads a) (sym (asked-there a n)) (S.own a m)
        ];
        safe = λ a m. elim (same_or_not r a) [
          | inl e ↦ subst (λ a. safe_at t a ≤ length (node_at t a).events) e (subst (λ (u : Kept). safe_at t r ≤ length u.events) (sym asked-here) within)
          | inr n ↦ (let p = asked-safe a n in let q = S.safe a m in subst (λ (u : Kept). safe_at t a ≤ length u.events) (sym (asked-there a n)) (omega (arith, p, q)))
        ];
      }
        where
          within : safe_at t r ≤ length k.events
          within = elim safe-either [ inl e ↦ (let q = S.safe r l in let m = asked-more in omega (arith, e, q, m)) | inr e ↦ omega (arith, e) ]

      -- the safe events at this role
      pub written-events : IsWritten x → safe_events t r ≡ k.events
      written-events w = (λ i. take (written-all w i) (asked-here i).events) ∙ take_all (length k.events) k.events (omega arith)

      extends-here : IsPrefix (safe_events s r) (safe_events t r)
      extends-here = elim safe-either [
        | inl e ↦ (
          [],
          (λ i. take (e i) (asked-here i).events)
              ∙ (take-append-le (safe_at s r) (node_at s r).events (kept_frame g (node_at s r).site f) (S.safe r l) ∙ sym (append-nil (safe_events s r))),
        )
        | inr e ↦ subst (IsPrefix (safe_events s r)) (sym ((λ i. take (e i) (asked-here i).events) ∙ take_all (length k.events) k.events (omega arith)))
            (prefix-on (safe_events s r) (node_at s r).events k.events (prefix-take (safe_at s r) (node_at s r).events) (kept_frame g (node_at s r).site f, refl))
      ]

      asked-extends : (a : ℕ) → a < g.roles → IsPrefix (safe_events s a) (safe_events t a)
      asked-extends a m = elim (same_or_not r a) [
        | inl e ↦ subst (λ a. IsPrefix (safe_events s a) (safe_events t a)) e extends-here
        | inr n ↦ subst (IsPrefix (safe_events s a)) (λ i. take (sym (asked-safe a n) i) (sym (asked-there a n) i).events) (prefix-self (safe_events s a))
      ]

    -- ---- a crash
    module _ (r n : ℕ) (l : r < g.roles) (low : safe_at s r ≤ n) (high : n ≤ length (node_at s r).events) where
      abbrev u : System
      u = act g loads s (Crashes r n)

      pub crashed-here : node_at u r ≡ back_kept g loads r n (node_at s r)
      crashed-here = let z = S.nodes in get-set (new_kept false r) s.kept r (back_kept g loads r n (node_at s r)) (omega (arith, z, l))

      pub crashed-there : (a : ℕ) → (r ≡ a → Never) → node_at u a ≡ node_at s a
      crashed-there a d = get-set_other (new_kept false a) s.kept r a (back_kept g loads r n (node_at s r)) d

      pub sound-crashed : IsSound u
      sound-crashed = record {
        nodes = length-set s.kept r (back_kept g loads r n (node_at s r)) ∙ S.nodes;
        marks = S.marks;
        own = λ a m. elim (same_or_not r a) [
          | inl e ↦ subst (λ a. IsOwn g loads a (node_at u a)) e (subst (IsOwn g loads r) (sym crashed-here) refl)
          | inr d ↦ subst (IsOwn g loads a) (sym (crashed-there a d)) (S.own a m)
        ];
        safe = λ a m. elim (same_or_not r a) [
          | inl e ↦ subst (λ a. safe_at s a ≤ length (node_at u a).events) e
              (subst (λ (v : Kept). safe_at s r ≤ length v.events) (sym crashed-here) (let z = length-take-le n (node_at s r).events high in omega (arith, z, low)))
          | inr d ↦ subst (λ (v : Kept). safe_at s a ≤ length v.events) (sym (crashed-there a d)) (S.safe a m)
        ];
      }

      crashed-extends : (a : ℕ) → a < g.roles → IsPrefix (safe_events s a) (safe_events u a)
      crashed-extends a m = elim (same_or_not r a) [
        | inl e ↦ subst (λ a. IsPrefix (safe_events s a) (safe_events u a)) e
            (subst (IsPrefix (safe_events s r)) (sym (ap (λ (v : Kept). take (safe_at s r) v.events) crashed-here ∙ take-take (safe_at s r) n
            (node_at s r).events low)) (prefix-self (safe_events s r)))
        | inr d ↦ subst (IsPrefix (safe_events s a)) (ap (λ (v : Kept). take (safe_at s a) v.events) (sym (crashed-there a d))) (prefix-self (safe_events s a))
      ]

    -- ---- any act
    pub sound-act : (a : Act) → IsAllowed g s a → IsSound (act g loads s a)
    sound-act (Asks r f x) h = sound-asked r f x h.0
    sound-act (Crashes r n) h = sound-crashed r n h.0 h.1 h.2

    pub act-extends : (a : Act) → IsAllowed g s a → (b : ℕ) → b < g.roles → IsPrefix (safe_events s b) (safe_events (act g loads s a) b)
    act-extends (Asks r f x) h = asked-extends r f x h.0
    act-extends (Crashes r n) h = crashed-extends r n h.0 h.1 h.2

  pub sound-acts : (s : System) → IsSound s → (as_ : List Act) → AreAllowed g loads s as_ → IsSound (acts_on g loads s as_)
  sound-acts s S [] h = S
  sound-acts s S (a ∷ as_) h = sound-acts (act g loads s a) (sound-act s S a h.0) as_ h.1

  pub acts-extend : (s : System) → IsSound s → (as_ : List Act) → AreAllowed g loads s as_ → (b : ℕ) → b < g.roles → IsPrefix (safe_events s b) (safe_events (acts_on g loads s as_) b)
  acts-extend s S [] h b m = prefix-self (safe_events s b)
  acts-extend s S (a ∷ as_) h b m =
      prefix-on (safe_events s b) (safe_events (act g loads s a) b) (safe_events (acts_on g loads s (a ∷ as_)) b)
      (act-extends s S a h.0 b m) (acts-extend (act g loads s a) (sound-act s S a h.0) as_ h.1 b m)
