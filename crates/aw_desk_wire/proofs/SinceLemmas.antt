-- The sessions of a wire over desks since a moment, one call after the other.
use Rattle.std.proofs.Common.{◌≡◌, ◌≢◌, ℕ, List, [], ◌∷◌, ◌++◌, true, false, Option, None, Some, inl, inr, refl, sym, ap, subst, ◌∙◌, append_assoc, append-nil}
use Rattle.std.specs.Prelude.{is_some, option_map, option_to_list}
use Rattle.std.proofs.lemmas.List.{take-append-drop}
use Rattle.aw_term.proofs.Eaches.{each_append, each_left, each_right}
use Rattle.aw_law_nodes.proofs.HeardBytes.{cancel}
use Rattle.aw_msg.specs.Frames.{Frame}
use Rattle.aw_msg.specs.Streams.{Stream}
use Rattle.aw_out.specs.Edge.{given}
use Rattle.aw_out.specs.Reads.{left_after}
use Rattle.aw_out.specs.Wires.{Session, fresh, after_write, after_fault}
use Rattle.aw_out.specs.declared.edge.Dialed.{Dialed}
use Rattle.aw_out.specs.declared.edge.Dialed.TheVariants.{Opened, Failed}
use Rattle.aw_out.specs.declared.edge.Got.{Got}
use Rattle.aw_out.specs.declared.edge.Got.TheVariants as got
use Rattle.aw_out.specs.declared.edge.Put.{Put}
use Rattle.aw_out.specs.declared.edge.Put.TheVariants as put
use Rattle.aw_desk_wire.specs.Calls.{Calls, has_read, passed_in, no_calls, closed, opened, changed, reader_after}
use Rattle.aw_desk_wire.specs.Honest.{AreHonest, LastIs, WasHonest, IsWritten}
use Rattle.aw_desk_wire.specs.Since.{NoneFailed, with_over, HonestSince}
use Rattle.aw_desk_wire.proofs.HonestLemmas.{ended-last, honest-opened, honest-written}

-- where none failed after a change that lets failures stand, none did before
none-before : (f : Session → Session) → ((x : Session) → (f x).failed ≡ x.failed) → (xs : List Session) (last : Option Session) →
    NoneFailed (xs ++ option_to_list (option_map f last)) → NoneFailed (xs ++ option_to_list last)
none-before f same xs None n = n
none-before f same xs (Some x) n =
    let P : Session → Type 0 = λ (y : Session). y.failed ≡ false in
    each_append P xs (x ∷ []) (each_left P xs (f x ∷ []) n) (sym (same x) ∙ (each_right P xs (f x ∷ []) n).0, tt)

-- a session in which a call failed is among them
one-failed : (xs : List Session) (last : Option Session) → is_some last ≡ true → NoneFailed (xs ++ option_to_list (option_map after_fault last)) → ⊥
one-failed xs None some n = absurd (cc some)
one-failed xs (Some x) some n = let bad = (each_right (λ (y : Session). y.failed ≡ false) xs (after_fault x ∷ []) n).0 in absurd (cc bad)

-- what was read and what is left are what was left before
all-of : (answer : Got) (left : List ℕ) → given answer left ++ left_after answer left ≡ left
all-of (got.Read n) left = take-append-drop n left
all-of got.End left = refl
all-of got.Failed left = refl

module _
    (D : Type 0)
    (answers : D → Frame → List ℕ → D → Type 0)
    (first : List D)
    (passed : List Session)
  where
    -- it is closed
    pub since-closed : (ds : List D) (kept : Stream) (cs : Calls) → HonestSince answers first passed ds kept cs → HonestSince answers first passed ds kept (closed cs)
    since-closed ds kept cs (inl (o, p, e)) = inl (refl, p, e)
    since-closed ds kept cs (inr (xs, o, h)) = inr (xs, o, λ n. let k = h n in record { between = k.between; over = k.over; last = k.last })

    -- a session was opened
    since-opened : (role : ℕ) (ds : List D) (kept new : Stream) (cs : Calls) → new ≡ record { bytes = []; failed = false } → HonestSince answers first
        passed ds kept cs → HonestSince answers first passed ds new (opened role cs)
    since-opened role ds kept new cs e (inl (o, p, same)) =
        inr (
          [],
          p ∙ sym (append-nil passed),
          λ n. subst (λ (zs : List D). WasHonest answers first zs new (with_over [] (opened role cs))) (sym same)
              (honest-opened D answers first role first kept new no_calls e (record { between = first; over = refl; last = refl })),
        )
    since-opened role ds kept new cs e (inr (xs, o, h)) =
        let last = option_to_list cs.last in (
        inr (
          xs ++ last,
          ap (λ (zs : List Session). zs ++ last) o ∙ append_assoc passed xs last,
          λ n. honest-opened D answers first role ds kept new (with_over xs cs) e
              (h (each_left (λ (x : Session). x.failed ≡ false) (xs ++ last) (fresh role true [] ∷ []) n)),
        )
        )

    -- a role was dialed
    pub since-dialed : (result : Dialed) (role : ℕ) (ds : List D) (kept : Stream) (old new : Calls) → (result ≡ Opened → new ≡ opened role old) → (result ≡ Failed → new ≡ closed old) →
        HonestSince answers first passed ds kept old → HonestSince answers first passed ds (reader_after result kept) new
    since-dialed Opened role ds kept old new o f h =
        subst (λ (cs : Calls). HonestSince answers first passed ds (record { bytes = []; failed = false }) cs) (sym (o refl))
        (since-opened role ds kept _ old refl h)
    since-dialed Failed role ds kept old new o f h = subst (λ (cs : Calls). HonestSince answers first passed ds kept cs) (sym (f refl)) (since-closed ds kept old h)

    -- some of what is left in the open session was read
    last-read : (ms ds : List D) (kept : Stream) (answer : Got) (last : Option Session) → LastIs answers ms ds kept last → LastIs answers ms ds kept (option_map (has_read answer) last)
    last-read ms ds kept answer None k = k
    last-read ms ds kept answer (Some x) k = record {
      frames = k.frames;
      replies = k.replies;
      yields = k.yields;
      ended = k.ended;
      asked = k.asked;
      read = k.read ∙ ap (λ (t : List ℕ). x.read ++ t) (sym (all-of answer x.left)) ∙ sym (append_assoc x.read (given answer x.left) (left_after answer x.left));
    }

    pub since-read : (answer : Got) (ds : List D) (kept : Stream) (cs : Calls) → cs.is_open ≡ true → HonestSince answers first passed ds kept cs →
        HonestSince answers first passed ds kept (changed (has_read answer) cs)
    since-read answer ds kept cs is (inl (o, p, e)) = absurd (let no : true ≡ false = sym is ∙ o in cc no)
    since-read answer ds kept cs is (inr (xs, o, h)) =
        inr (xs, o, λ n. let k = h (none-before (has_read answer) (λ x. refl) xs cs.last n) in record { between = k.between; over = k.over; last = last-read k.between ds kept answer cs.last k.last })

    -- bytes were written in the open session
    since-written : (ds es : List D) (kept to : Stream) (bytes : List ℕ) (old new : Calls) → is_some old.last ≡ true → old.is_open ≡ true →
        HonestSince answers first passed ds kept old → IsWritten answers ds es kept to old new bytes →
        HonestSince answers first passed es to new
    since-written ds es kept to bytes old new some is (inl (o, p, e)) w = absurd (let no : true ≡ false = sym is ∙ o in cc no)
    since-written ds es kept to bytes old new some is (inr (xs, o, h)) w =
        inr (
          xs,
          ap (λ (cs : Calls). cs.over) w.told ∙ o,
          λ n.
              let before = none-before (after_write bytes w.replies) (λ x. refl) xs old.last (subst (λ (cs : Calls). NoneFailed (xs ++ option_to_list cs.last)) w.told n) in
              honest-written D answers first ds es kept to bytes (with_over xs old) (with_over xs new) some (h before)
              (record { replies = w.replies; answered = w.answered; told = ap (λ (cs : Calls). with_over xs cs) w.told }),
        )

    -- a write failed in it
    since-failed : (ds es : List D) (kept to : Stream) (old new : Calls) → is_some old.last ≡ true → old.is_open ≡ true → HonestSince answers first
        passed ds kept old → new ≡ changed after_fault old → HonestSince answers first passed es to new
    since-failed ds es kept to old new some is (inl (o, p, e)) w = absurd (let no : true ≡ false = sym is ∙ o in cc no)
    since-failed ds es kept to old new some is (inr (xs, o, h)) w =
        inr (xs, ap (λ (cs : Calls). cs.over) w ∙ o, λ n. absurd (one-failed xs old.last some (subst (λ (cs : Calls). NoneFailed (xs ++ option_to_list cs.last)) w n)))

    -- a write
    pub since-write : (result : Put) (ds es : List D) (kept to : Stream) (bytes : List ℕ) (old new : Calls) → is_some old.last ≡ true →
        old.is_open ≡ true → (result ≢ put.Failed → IsWritten answers ds es kept to old new bytes) →
        (result ≡ put.Failed → new ≡ changed after_fault old) → HonestSince answers first passed ds kept old → HonestSince answers first passed es to new
    since-write (put.Took n) ds es kept to bytes old new some is w f h = since-written ds es kept to bytes old new some is h (w (λ e. absurd (cc e)))
    since-write put.Failed ds es kept to bytes old new some is w f h = since-failed ds es kept to old new some is h (f refl)

    -- said of the same wire
    pub since-at : (ds es : List D) (kept to : Stream) (cs new : Calls) → es ≡ ds → to ≡ kept → new ≡ cs → HonestSince answers first passed ds kept cs → HonestSince answers first passed es to new
    since-at ds es kept to cs new a b c h =
        subst (λ (zs : List D). HonestSince answers first passed zs to new) (sym a)
        (subst (λ (k : Stream). HonestSince answers first passed ds k new) (sym b) (subst (λ (x : Calls). HonestSince answers first passed ds kept x) (sym c) h))

    -- nothing was done since
    pub since-none : (kept : Stream) (cs : Calls) → passed_in cs ≡ passed → HonestSince answers first passed first kept (closed cs)
    since-none kept cs p = inl (refl, p, refl)

    -- these are all sessions since, and no call failed
    pub since-all : (ds : List D) (kept : Stream) (cs : Calls) (xs : List Session) → passed_in cs ≡ passed ++ xs → NoneFailed xs →
        HonestSince answers first passed ds kept cs → AreHonest answers first ds xs
    since-all ds kept cs xs p n (inl (o, q, e)) =
        let none : [] ≡ xs = cancel passed [] xs (append-nil passed ∙ sym q ∙ p) in
        subst (λ (zs : List Session). AreHonest answers first ds zs) none e
    since-all ds kept cs xs p n (inr (ys, o, h)) =
        let last = option_to_list cs.last in
        let same : ys ++ last ≡ xs = cancel passed (ys ++ last) xs (sym (append_assoc passed ys last) ∙ ap (λ (zs : List Session). zs ++ last) (sym o) ∙ p) in
        let k = h (subst (λ (zs : List Session). NoneFailed zs) (sym same) n) in
        subst (λ (zs : List Session). AreHonest answers first ds zs) same (ended-last D answers first k.between ds kept ys cs.last k.over k.last)
