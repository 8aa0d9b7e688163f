-- Lists of events that begin one another, and files between them.
use Rattle.std.proofs.Common.{◌≡◌, ℕ, List, [], ◌∷◌, ◌++◌, Option, None, Some, ◌⊎◌, inl, inr, refl, sym, ap, ◌∙◌, subst, append-nil, append_assoc}
use Rattle.aw_journal.specs.Events.{Event}
use Rattle.aw_journal.specs.Format.{events_of}
use Rattle.aw_journal.specs.Journal.{Kept}
use Rattle.aw_journal.specs.Opens.{HasEvents}
use Rattle.aw_kept_node.specs.Exits.{Begins, IsBetween, IsOldOrBetween, IsWithOneInHand}
use Rattle.aw_kept_node.specs.KeptSites.{with_event}

pub begins-same : (xs ys : List Event) → ys ≡ xs → Begins xs ys
begins-same xs ys e = ([], e ∙ sym (append-nil xs))

pub begins-more : (xs ys : List Event) (event : Option Event) → Begins xs ys → Begins xs (with_event ys event)
begins-more xs ys None h = h
begins-more xs ys (Some e) h = (h.0 ++ e ∷ [], ap (λ (zs : List Event). zs ++ e ∷ []) h.1 ∙ append_assoc xs h.0 (e ∷ []))

pub begins-with : (ys : List Event) (event : Option Event) → Begins ys (with_event ys event)
begins-with ys event = begins-more ys ys event (begins-same ys ys refl)

pub begins-trans : (xs ys zs : List Event) → Begins xs ys → Begins ys zs → Begins xs zs
begins-trans xs ys zs g h = (g.0 ++ h.0, h.1 ∙ (ap (λ (l : List Event). l ++ h.0) g.1 ∙ append_assoc xs g.0 h.0))

-- the events of a file are these, behind this head, or these with one more
abbrev pub IsOneOf : ℕ → List ℕ → List Event → Option Event → List ℕ → Type 0
IsOneOf role text events event file = HasEvents role text events file ⊎ HasEvents role text (with_event events event) file

-- the same by another name of the head and the events
pub has-as : (j : Kept) (role : ℕ) (text : List ℕ) (seen events : List Event) (file : List ℕ) → j.role ≡ role → j.text ≡ text → seen ≡ events →
    HasEvents j.role j.text seen file → HasEvents role text events file
has-as j role text seen events file same_role same_text same h =
    subst (λ (n : ℕ). HasEvents n text events file) same_role (subst (λ (t : List ℕ). HasEvents j.role t events file) same_text (subst (λ (es : List Event). HasEvents j.role j.text es file) same h))

pub between-one : (role : ℕ) (text : List ℕ) (first last events : List Event) (event : Option Event) (file : List ℕ) → Begins first events →
    Begins (with_event events event) last → IsOneOf role text events event file →
    IsBetween role text first last file
between-one role text first last events event file b t (inl h) = record {
  own = h.no_other_head;
  from = subst (Begins first) (sym h.events_are) b;
  to = subst (λ (xs : List Event). Begins xs last) (sym h.events_are) (begins-trans events (with_event events event) last (begins-with events event) t);
}
between-one role text first last events event file b t (inr h) = record {
  own = h.no_other_head;
  from = subst (Begins first) (sym h.events_are) (begins-more first events event b);
  to = subst (λ (xs : List Event). Begins xs last) (sym h.events_are) t;
}

-- between earlier first events and later last ones
pub between-wider : (role : ℕ) (text : List ℕ) (first last start end : List Event) (file : List ℕ) → Begins start first → Begins last end →
    IsBetween role text first last file → IsBetween role text start end file
between-wider role text first last start end file b t h = record {
  own = h.own;
  from = begins-trans start first (events_of file) b h.from;
  to = begins-trans (events_of file) last end h.to t;
}

pub old-or-more : (was : List ℕ → Type 0) (role : ℕ) (text : List ℕ) (first events : List Event) (event : Option Event) (file : List ℕ) → IsOldOrBetween was role text first events file →
    IsOldOrBetween was role text first (with_event events event) file
old-or-more was role text first events event file (inl h) = inl h
old-or-more was role text first events event file (inr h) = inr (between-wider role text first events first (with_event events event) file (begins-same first first refl) (begins-with events event) h)

pub in-hand : (role : ℕ) (text : List ℕ) (events : List Event) (event : Option Event) (file : List ℕ) → IsOneOf role text events event file → IsWithOneInHand (events_of file) (with_event events event)
in-hand role text events event file (inr h) = inl (sym h.events_are)
in-hand role text events None file (inl h) = inl (sym h.events_are)
in-hand role text events (Some x) file (inl h) = inr (x, ap (λ (xs : List Event). xs ++ x ∷ []) (sym h.events_are))
