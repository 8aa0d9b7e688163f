-- What goes over a wire in one session, bit by bit.
use Rattle.std.proofs.Common.{◌≡◌, ℕ, ◌≤◌, List, [], ◌∷◌, ◌++◌, take, Bool, true, false, ◌||◌, Option, None, Some, refl, ap, sym, ◌∙◌, append_assoc, append-nil}
use Rattle.aw_out.specs.Causes.{Rose}
use Rattle.aw_out.specs.Wires.{Session, Content, Both, with_last, last_left, after_read, after_write, after_fault, ReadsInSession, WritesInSession}
use Rattle.aw_out.specs.declared.edge.Got.TheVariants.{Read, End, Failed}
use Rattle.aw_out.specs.declared.edge.Put.TheVariants.{Took, Failed as NotTaken}
use Rattle.aw_grammar.proofs.FaultlessRule.{or_true as or-true}
use Rattle.aw_session.specs.Talking.{grown, Grows, Counts, Talks}
use Rattle.aw_session.proofs.Servings.{or-assoc, or-false}

-- two changes that are one
with_last-same : (f g : Session → Session) (xs : List Session) → ((s : Session) → f s ≡ g s) → with_last f xs ≡ with_last g xs
with_last-same f g [] same = refl
with_last-same f g (s ∷ []) same = ap (λ (t : Session). t ∷ []) (same s)
with_last-same f g (s ∷ t ∷ ts) same = ap (λ (us : List Session). s ∷ us) (with_last-same f g (t ∷ ts) same)

-- no change
with_last-none : (xs : List Session) → with_last (λ s. s) xs ≡ xs
with_last-none [] = refl
with_last-none (s ∷ []) = refl
with_last-none (s ∷ t ∷ ts) = ap (λ (us : List Session). s ∷ us) (with_last-none (t ∷ ts))

-- one change and then another
with_last-twice : (f g : Session → Session) (xs : List Session) → with_last g (with_last f xs) ≡ with_last (λ s. g (f s)) xs
with_last-twice f g [] = refl
with_last-twice f g (s ∷ []) = refl
with_last-twice f g (s ∷ t ∷ []) = refl
with_last-twice f g (s ∷ t ∷ u ∷ us) = ap (λ (vs : List Session). s ∷ vs) (with_last-twice f g (t ∷ u ∷ us))

-- nothing was read or written
grown-none : (s : Session) → grown [] [] false s.left s ≡ s
grown-none s =
    ap (λ (r : List ℕ). record s { read = r; written = s.written ++ []; failed = s.failed || false }) (append-nil s.read)
    ∙ ap (λ (w : List ℕ). record s { written = w; failed = s.failed || false }) (append-nil s.written) ∙ ap (λ (f : Bool). record s { failed = f }) (or-false s.failed)

-- some was written
grown-write : (bytes more : List ℕ) (s : Session) → after_write bytes more s ≡ grown [] bytes false (s.left ++ more) s
grown-write bytes more s = let r = append-nil s.read in let f = or-false s.failed in cc

-- some was read
grown-read : (bytes left : List ℕ) (s : Session) → after_read bytes left s ≡ grown bytes [] false left s
grown-read bytes left s = let w = append-nil s.written in let f = or-false s.failed in cc

-- a call failed
grown-fault : (s : Session) → after_fault s ≡ grown [] [] true s.left s
grown-fault s = let r = append-nil s.read in let w = append-nil s.written in let f = or-true s.failed in cc

-- one growth and then another
grown-twice : (r w r' w' left left' : List ℕ) (b b' : Bool) (s : Session) → grown r' w' b' left' (grown r w b left s) ≡ grown (r ++ r') (w ++ w') (b || b') left' s
grown-twice r w r' w' left left' b b' s = let x = append_assoc s.read r r' in let y = append_assoc s.written w w' in let z = or-assoc s.failed b b' in cc

-- a change of a session that is a growth is one of the last of them
grown-last : (f : Session → Session) (r w : List ℕ) (b : Bool) → ((s : Session) → f s ≡ grown r w b (f s).left s) → (xs : List Session) →
    with_last f xs ≡ with_last (grown r w b (last_left (with_last f xs))) xs
grown-last f r w b is [] = refl
grown-last f r w b is (s ∷ []) = ap (λ (t : Session). t ∷ []) (is s)
grown-last f r w b is (s ∷ t ∷ []) = ap (λ (u : Session). s ∷ u ∷ []) (is t)
grown-last f r w b is (s ∷ t ∷ u ∷ us) = ap (λ (vs : List Session). s ∷ vs) (grown-last f r w b is (t ∷ u ∷ us))

-- and so it is told
grows-by : (f : Session → Session) (r w : List ℕ) (b : Bool) → ((s : Session) → f s ≡ grown r w b (f s).left s) → (x y : Content) →
    y.passed ≡ with_last f x.passed → y.coming ≡ x.coming → Grows r w b x y
grows-by f r w b is x y e k = (last_left (with_last f x.passed), e ∙ grown-last f r w b is x.passed, k)

-- nothing happened
grows-none : (c : Option Content) → Both (Grows [] [] false) c c
grows-none None = tt
grows-none (Some c) = grows-by (λ s. s) [] [] false (λ s. sym (grown-none s)) c c (sym (with_last-none c.passed)) refl

-- something happened and then more
grows-then : (r w r' w' : List ℕ) (b b' : Bool) (x y z : Option Content) → Both (Grows r w b) x y → Both (Grows r' w' b') y z → Both (Grows (r ++ r') (w ++ w') (b || b')) x z
grows-then r w r' w' b b' None None None g h = tt
grows-then r w r' w' b b' None None (Some z) g h = absurd h
grows-then r w r' w' b b' None (Some y) z g h = absurd g
grows-then r w r' w' b b' (Some x) None z g h = absurd g
grows-then r w r' w' b b' (Some x) (Some y) None g h = absurd h
grows-then r w r' w' b b' (Some x) (Some y) (Some z) g h = (
  h.0,
  h.1 ∙ ap (with_last (grown r' w' b' h.0)) g.1 ∙ with_last-twice (grown r w b g.0) (grown r' w' b' h.0) x.passed
      ∙ with_last-same (λ s. grown r' w' b' h.0 (grown r w b g.0 s)) (grown (r ++ r') (w ++ w') (b || b') h.0) x.passed (grown-twice r w r' w' g.0 h.0 b b'),
  h.2 ∙ g.2,
)

-- a write
grows-took : (n : ℕ) (bytes : List ℕ) (x y : Option Content) → Both (WritesInSession (Took n) bytes) x y → Both (Grows [] (take n bytes) false) x y
grows-took n bytes None None h = tt
grows-took n bytes None (Some y) h = absurd h
grows-took n bytes (Some x) None h = absurd h
grows-took n bytes (Some x) (Some y) h = grows-by (after_write (take n bytes) h.0) [] (take n bytes) false (grown-write (take n bytes) h.0) x y h.1 h.2

-- a write that failed
grows-not_taken : (bytes : List ℕ) (x y : Option Content) → Both (WritesInSession NotTaken bytes) x y → Both (Grows [] [] true) x y
grows-not_taken bytes None None h = tt
grows-not_taken bytes None (Some y) h = absurd h
grows-not_taken bytes (Some x) None h = absurd h
grows-not_taken bytes (Some x) (Some y) h = grows-by after_fault [] [] true grown-fault x y (ap (λ (c : Content). c.passed) h) (ap (λ (c : Content). c.coming) h)

-- a read
grows-read : (n : ℕ) (buf : List ℕ) (x y : Option Content) → Both (ReadsInSession (Read n) buf) x y → Both (Grows (take n buf) [] false) x y
grows-read n buf None None h = tt
grows-read n buf None (Some y) h = absurd h
grows-read n buf (Some x) None h = absurd h
grows-read n buf (Some x) (Some y) h = grows-by (after_read (take n buf) h.0) (take n buf) [] false (grown-read (take n buf) h.0) x y h.2 h.3

-- a read that failed
grows-not_read : (buf : List ℕ) (x y : Option Content) → Both (ReadsInSession Failed buf) x y → Both (Grows [] [] true) x y
grows-not_read buf None None h = tt
grows-not_read buf None (Some y) h = absurd h
grows-not_read buf (Some x) None h = absurd h
grows-not_read buf (Some x) (Some y) h = grows-by after_fault [] [] true grown-fault x y (ap (λ (c : Content). c.passed) h) (ap (λ (c : Content). c.coming) h)

-- the end
grows-end : (buf : List ℕ) (x y : Option Content) → Both (ReadsInSession End buf) x y → Both (Grows [] [] false) x y
grows-end buf None None h = tt
grows-end buf None (Some y) h = absurd h
grows-end buf (Some x) None h = absurd h
grows-end buf (Some x) (Some y) h = let none = grows-none (Some x) in (none.0, ap (λ (c : Content). c.passed) h.1 ∙ none.1, ap (λ (c : Content). c.coming) h.1)

-- ---- the whole wire

pub talks-none : {W : Type 0} (content : W → Option Content) (is_open : W → Bool) (faults failed_openings : W → ℕ) (a : W) → is_open a ≡ true →
    Talks content is_open faults failed_openings a a [] [] false
talks-none content is_open faults failed_openings a e = record { stays = e; told = grows-none (content a); counts = refl; openings = refl }

pub counts-then : (b : Bool) (x y z : ℕ) → y ≡ x → Counts b y z → Counts b x z
counts-then true x y z e h = rw (← e) h
counts-then false x y z e h = h ∙ e

pub talks-then : {W : Type 0} (content : W → Option Content) (is_open : W → Bool) (faults failed_openings : W → ℕ) (a b c : W) (r w r' w' : List ℕ) (f : Bool) →
    Talks content is_open faults failed_openings a b r w false → Talks content is_open faults failed_openings b c r' w' f →
    Talks content is_open faults failed_openings a c (r ++ r') (w ++ w') f
talks-then content is_open faults failed_openings a b c r w r' w' f g h = record {
  stays = h.stays;
  told = grows-then r w r' w' false f (content a) (content b) (content c) g.told h.told;
  counts = counts-then f (faults a) (faults b) (faults c) g.counts h.counts;
  openings = h.openings ∙ g.openings;
}

pub talks-took : {W : Type 0} (content : W → Option Content) (is_open : W → Bool) (faults failed_openings : W → ℕ) (a b : W) (n : ℕ) (bytes : List ℕ) →
    is_open b ≡ true → Both (WritesInSession (Took n) bytes) (content a) (content b) → faults b ≡ faults a → failed_openings b ≡ failed_openings a →
    Talks content is_open faults failed_openings a b [] (take n bytes) false
talks-took content is_open faults failed_openings a b n bytes o c f k = record { stays = o; told = grows-took n bytes (content a) (content b) c; counts = f; openings = k }

pub talks-not_taken : {W : Type 0} (content : W → Option Content) (is_open : W → Bool) (faults failed_openings : W → ℕ) (a b : W) (bytes : List ℕ) →
    is_open b ≡ true → Both (WritesInSession NotTaken bytes) (content a) (content b) → faults a ≤ faults b → Rose (faults a) (faults b) → failed_openings b ≡ failed_openings a →
    Talks content is_open faults failed_openings a b [] [] true
talks-not_taken content is_open faults failed_openings a b bytes o c f r k = record { stays = o; told = grows-not_taken bytes (content a) (content b) c; counts = (f, r); openings = k }

pub talks-read : {W : Type 0} (content : W → Option Content) (is_open : W → Bool) (faults failed_openings : W → ℕ) (a b : W) (n : ℕ) (buf : List ℕ) →
    is_open b ≡ true → Both (ReadsInSession (Read n) buf) (content a) (content b) → faults b ≡ faults a → failed_openings b ≡ failed_openings a →
    Talks content is_open faults failed_openings a b (take n buf) [] false
talks-read content is_open faults failed_openings a b n buf o c f k = record { stays = o; told = grows-read n buf (content a) (content b) c; counts = f; openings = k }

pub talks-end : {W : Type 0} (content : W → Option Content) (is_open : W → Bool) (faults failed_openings : W → ℕ) (a b : W) (buf : List ℕ) →
    is_open b ≡ true → Both (ReadsInSession End buf) (content a) (content b) → faults b ≡ faults a → failed_openings b ≡ failed_openings a →
    Talks content is_open faults failed_openings a b [] [] false
talks-end content is_open faults failed_openings a b buf o c f k = record { stays = o; told = grows-end buf (content a) (content b) c; counts = f; openings = k }

pub talks-not_read : {W : Type 0} (content : W → Option Content) (is_open : W → Bool) (faults failed_openings : W → ℕ) (a b : W) (buf : List ℕ) →
    is_open b ≡ true → Both (ReadsInSession Failed buf) (content a) (content b) → faults a ≤ faults b → Rose (faults a) (faults b) → failed_openings b ≡ failed_openings a →
    Talks content is_open faults failed_openings a b [] [] true
talks-not_read content is_open faults failed_openings a b buf o c f r k = record { stays = o; told = grows-not_read buf (content a) (content b) c; counts = (f, r); openings = k }
