-- What is read of messages is spelled so, and what is spelled so is read.
use Rattle.std.proofs.Common.{◌≡◌, ℕ, zero, suc, ◌<◌, ◌≤◌, ◌^◌, Bool, true, false, ◌==◌, nat_le, List, [], ◌∷◌, ◌++◌, length, map, Ok, refl, sym, ap, subst, ◌∙◌, arith}
use Rattle.std.specs.Prelude.{◌||◌}
use Rattle.std.specs.List.{flat_map}
use Rattle.std.proofs.lemmas.Bool.{eqb-true, leb-true, le-leb, and_parts, and_from}
use Rattle.std.proofs.lemmas.List.{length-map}
use Rattle.std.proofs.lemmas.List.Folds.{flat_map-map}
use Rattle.std.specs.Int.{w16, w64, to_be_bytes}
use Rattle.aw_term.specs.WellFormed.{Each}
use Rattle.aw_store.specs.declared.equation.Body.{Body}
use Rattle.aw_store.specs.declared.equation.Body.TheVariants.{Same, Con, Num, Text}
use Rattle.aw_store.specs.declared.equation.Equation.{Equation}
use Rattle.aw_store.specs.EquationView.{body_of, equation_of}
use Rattle.aw_codec.specs.Bytes.{AreBytes}
use Rattle.aw_codec.specs.Reading.{byte, number, such_that, both, seen}
use Rattle.aw_codec.specs.Names.{spelled_node, spelled_ref, spelled_refs, is_from_1_to}
use Rattle.aw_codec.specs.Texts.{spelled_text}
use Rattle.aw_codec.proofs.Laws.{Law, Takes, Takes-then, Takes-tag, AreBytes-rest, bind_ok, ok_is, byte_law, number16, number64, such_that_law}
use Rattle.aw_codec.proofs.Laws.{both_law, seen_law, seen_taken, seen_again, restated, counted_law}
use Rattle.aw_codec.proofs.NameLaws.{node_law, reference_law, references_law}
use Rattle.aw_codec.proofs.GroundLaws.{text_law}
use Rattle.aw_msg.specs.declared.message.MsgKind.{MsgKind}
use Rattle.aw_msg.specs.declared.message.MsgKind.TheVariants.{Call, Ask, Tell}
use Rattle.aw_msg.specs.declared.message.Message.{Message}
use Rattle.aw_msg.specs.Spelling.{spelled_body, spelled_equation, spelled_equations, spelled_load, spelled_kind, has_some, is_loaded, version_of}
use Rattle.aw_msg.specs.MessageRanges.{BodySized, BodyInRange, EquationSized, EquationInRange, LoadSized, LoadInRange, KindSized, KindInRange}
use Rattle.aw_msg.specs.MessageView.{plain_kind}
use Rattle.aw_msg.specs.Messages.{spelled_message, MessageSized, MessageInRange, body, equation, equations, load, ask, kind, is_version, message}

-- ---- equations

abbrev BodyTakes : List ℕ → List ℕ → Body → Type 0
BodyTakes bytes rest b = Takes bytes (spelled_body (body_of b)) rest × BodySized (body_of b) × BodyInRange (body_of b)

body_taken : (bytes : List ℕ) (b : Body) (rest : List ℕ) → AreBytes bytes → body bytes ≡ Ok (b, rest) → BodyTakes bytes rest b
unfolding body
body_taken [] b rest fits e = absurd cc
body_taken (zero ∷ bytes) b rest fits e =
    let t = seen_taken Same reference_law bytes b rest (AreBytes-rest 0 bytes fits) e in
    subst (BodyTakes (0 ∷ bytes) rest) t.1 (Takes-tag 0 bytes (spelled_ref t.0) rest t.2, t.3, t.4)
body_taken (suc zero ∷ bytes) b rest fits e =
    let t = seen_taken (λ x. Con x.0 x.1) (both_law number16 references_law) bytes b rest (AreBytes-rest 1 bytes fits) e in
    subst (BodyTakes (1 ∷ bytes) rest) t.1 (Takes-tag 1 bytes (to_be_bytes w16 t.0.0 ++ spelled_refs t.0.1) rest t.2, t.3, (t.4.1.0, t.4.1))
body_taken (suc (suc zero) ∷ bytes) b rest fits e =
    let t = seen_taken Num number64 bytes b rest (AreBytes-rest 2 bytes fits) e in
    subst (BodyTakes (2 ∷ bytes) rest) t.1 (Takes-tag 2 bytes (to_be_bytes w64 t.0) rest t.2, (t.3, tt), (refl, (omega arith, tt)))
body_taken (suc (suc (suc zero)) ∷ bytes) b rest fits e =
    let t = seen_taken Text text_law bytes b rest (AreBytes-rest 3 bytes fits) e in
    subst (BodyTakes (3 ∷ bytes) rest) t.1 (Takes-tag 3 bytes (spelled_text t.0) rest t.2, (t.3, tt), ((refl, t.4), (omega arith, tt)))
body_taken (suc (suc (suc (suc n))) ∷ bytes) b rest fits e = absurd cc

body_again : (b : Body) (rest : List ℕ) → BodySized (body_of b) → BodyInRange (body_of b) → body (spelled_body (body_of b) ++ rest) ≡ Ok (b, rest)
unfolding body
body_again (Same r) rest sized range = seen_again Same reference_law r rest sized range
body_again (Con c parts) rest sized range = seen_again (λ x. Con x.0 x.1) (both_law number16 references_law) (c, parts) rest sized (tt, range.1)
body_again (Num n) rest sized range = seen_again Num number64 n rest sized.0 tt
body_again (Text t) rest sized range = seen_again Text text_law t rest sized.0 range.0.1

body_law : Law body (λ b. spelled_body (body_of b)) (λ b. BodySized (body_of b)) (λ b. BodyInRange (body_of b))
body_law = record { taken = body_taken; again = body_again }

equation_law : Law equation (λ e. spelled_equation (equation_of e)) (λ e. EquationSized (equation_of e)) (λ e. EquationInRange (equation_of e))
unfolding equation
equation_law = seen_law (λ x. record { left = x.0; body = x.1 }) (λ e. (e.left, e.body)) (λ x. refl) (λ y. refl) (both_law reference_law body_law)

-- ---- loads

each_of : {A B : Type 0} (P : B → Type 0) (view : A → B) (xs : List A) → Each (λ x. P (view x)) xs → Each P (map view xs)
each_of P view [] h = tt
each_of P view (x ∷ xs) h = (h.0, each_of P view xs h.1)

each_behind : {A B : Type 0} (P : B → Type 0) (view : A → B) (xs : List A) → Each P (map view xs) → Each (λ x. P (view x)) xs
each_behind P view [] h = tt
each_behind P view (x ∷ xs) h = (h.0, each_behind P view xs h.1)

-- equations behind their number, of which there is one at least
abbrev SomeInRange : List Equation → Type 0
SomeInRange es = (1 ≤ length es) × LoadInRange (map equation_of es)

same_spelling : (es : List Equation) → length es ∷ flat_map (λ e. spelled_equation (equation_of e)) es ≡ spelled_equations (map equation_of es)
same_spelling es =
    ap (λ n. n ∷ flat_map (λ e. spelled_equation (equation_of e)) es) (sym (length-map es equation_of))
    ∙ ap (λ (t : List ℕ). length (map equation_of es) ∷ t) (sym (flat_map-map spelled_equation equation_of es))

to_load : (es : List Equation) → (Unit {0} × (is_from_1_to 64 (length es) ≡ true)) × Each (λ e. EquationInRange (equation_of e)) es → SomeInRange es
to_load es h =
    let p = and_parts (nat_le 1 (length es)) (nat_le (length es) 64) h.0.1 in
    (leb-true 1 (length es) p.0, (subst (λ n. n ≤ 64) (sym (length-map es equation_of)) (leb-true (length es) 64 p.1), each_of EquationInRange equation_of es h.1))

few : (es : List Equation) → SomeInRange es → length es ≤ 64
few es h = subst (λ n. n ≤ 64) (length-map es equation_of) h.1.0

from_load : (es : List Equation) → SomeInRange es → (Unit {0} × (is_from_1_to 64 (length es) ≡ true)) × Each (λ e. EquationInRange (equation_of e)) es
from_load es h =
    ((tt, and_from (nat_le 1 (length es)) (nat_le (length es) 64) (le-leb 1 (length es) h.0) (le-leb (length es) 64 (few es h))), each_behind EquationInRange equation_of es h.1.1)

below : (n : ℕ) → n ≤ 64 → n < 2 ^ 8
below n e = omega arith

equations_law : Law equations (λ es. spelled_equations (map equation_of es)) (λ es. LoadSized (map equation_of es)) SomeInRange
unfolding equations
equations_law = restated (λ es. spelled_equations (map equation_of es)) (λ es. LoadSized (map equation_of es)) SomeInRange same_spelling
    (λ es sized range. (each_of EquationSized equation_of es sized.1, to_load es range))
    (λ es sized range. ((below (length es) (few es range), each_behind EquationSized equation_of es sized), from_load es range))
    (counted_law (such_that_law (is_from_1_to 64) byte_law) equation_law)

abbrev LoadTakes : Bool → List ℕ → List ℕ → List Equation → Type 0
LoadTakes loaded bytes rest es = Takes bytes (spelled_load (map equation_of es)) rest × LoadSized (map equation_of es) × (LoadInRange (map equation_of es) × (has_some (map equation_of es) ≡ loaded))

none_at_least : 1 ≤ 0 → ⊥
none_at_least h = omega arith

some_taken : (bytes : List ℕ) (es : List Equation) (rest : List ℕ) → Takes bytes (spelled_equations (map equation_of es)) rest
    × LoadSized (map equation_of es) × SomeInRange es → LoadTakes true bytes rest es
some_taken bytes [] rest t = absurd (none_at_least t.2.0)
some_taken bytes (e ∷ es) rest t = (t.0, t.1, (t.2.1, refl))

load_taken : (loaded : Bool) (bytes : List ℕ) (es : List Equation) (rest : List ℕ) → AreBytes bytes → load loaded bytes ≡ Ok (es, rest) → LoadTakes loaded bytes rest es
unfolding load
load_taken false bytes es rest fits e =
    subst (λ (x : List Equation × List ℕ). LoadTakes false bytes x.1 x.0) (ok_is ([], bytes) (es, rest) e) (record { parts = refl; rest_bytes = fits }, tt, ((omega arith, tt), refl))
load_taken true bytes es rest fits e = some_taken bytes es rest (equations_law.taken bytes es rest fits e)

load_again : (loaded : Bool) (es : List Equation) (rest : List ℕ) → LoadSized (map equation_of es) → LoadInRange (map equation_of es) × (has_some (map equation_of es) ≡ loaded)
    → load loaded (spelled_load (map equation_of es) ++ rest) ≡ Ok (es, rest)
unfolding load
load_again false [] rest sized range = refl
load_again false (e ∷ es) rest sized range = absurd cc
load_again true [] rest sized range = absurd cc
load_again true (e ∷ es) rest sized range = equations_law.again (e ∷ es) rest sized (at_least es, range.0)
  where
    at_least : (es : List Equation) → 1 ≤ suc (length es)
    at_least es = omega arith

load_law : (loaded : Bool) → Law (load loaded) (λ es. spelled_load (map equation_of es)) (λ es. LoadSized (map equation_of es))
    (λ es. LoadInRange (map equation_of es) × (has_some (map equation_of es) ≡ loaded))
load_law loaded = record { taken = load_taken loaded; again = load_again loaded }

-- ---- kinds

abbrev IsOfKind : Bool → MsgKind → Type 0
IsOfKind loaded k = KindInRange (plain_kind k) × (is_loaded (plain_kind k) ≡ loaded)

abbrev KindTakes : Bool → List ℕ → List ℕ → MsgKind → Type 0
KindTakes loaded bytes rest k = Takes bytes (spelled_kind (plain_kind k)) rest × KindSized (plain_kind k) × IsOfKind loaded k

ask_taken : (loaded : Bool) (bytes : List ℕ) (k : MsgKind) (rest : List ℕ) → AreBytes bytes → ask loaded bytes ≡ Ok (k, rest) → KindTakes loaded (1 ∷ bytes) rest k
unfolding ask
ask_taken false bytes k rest fits e =
    let t = seen_taken (λ x. Ask x.0 x.1) (both_law reference_law number16) bytes k rest fits e in
    subst (KindTakes false (1 ∷ bytes) rest) t.1 (Takes-tag 1 bytes (spelled_ref t.0.0 ++ to_be_bytes w16 t.0.1) rest t.2, t.3, (t.4.0, refl))
ask_taken true bytes k rest fits e = absurd cc

kind_taken : (loaded : Bool) (bytes : List ℕ) (k : MsgKind) (rest : List ℕ) → AreBytes bytes → kind loaded bytes ≡ Ok (k, rest) → KindTakes loaded bytes rest k
unfolding kind
kind_taken loaded [] k rest fits e = absurd cc
kind_taken loaded (zero ∷ bytes) k rest fits e =
    let t = seen_taken (λ x. Call x.0 x.1.0 x.1.1) (both_law node_law (both_law references_law (load_law loaded))) bytes k rest (AreBytes-rest 0 bytes fits) e in
    subst (KindTakes loaded (0 ∷ bytes) rest) t.1
    (Takes-tag 0 bytes (spelled_node t.0.0 ++ (spelled_refs t.0.1.0 ++ spelled_load (map equation_of t.0.1.1))) rest t.2, t.3, ((t.4.0, (t.4.1.0, t.4.1.1.0)), t.4.1.1.1))
kind_taken loaded (suc zero ∷ bytes) k rest fits e = ask_taken loaded bytes k rest (AreBytes-rest 1 bytes fits) e
kind_taken loaded (suc (suc zero) ∷ bytes) k rest fits e =
    let t = seen_taken (λ x. Tell x.0 x.1) (both_law equation_law (load_law loaded)) bytes k rest (AreBytes-rest 2 bytes fits) e in
    subst (KindTakes loaded (2 ∷ bytes) rest) t.1
    (Takes-tag 2 bytes (spelled_equation (equation_of t.0.0) ++ spelled_load (map equation_of t.0.1)) rest t.2, t.3, ((t.4.0, t.4.1.0), t.4.1.1))
kind_taken loaded (suc (suc (suc n)) ∷ bytes) k rest fits e = absurd cc

kind_again : (loaded : Bool) (k : MsgKind) (rest : List ℕ) → KindSized (plain_kind k) → IsOfKind loaded k → kind loaded (spelled_kind (plain_kind k) ++ rest) ≡ Ok (k, rest)
unfolding kind ask
kind_again loaded (Call n inherited es) rest sized range =
    seen_again (λ x. Call x.0 x.1.0 x.1.1) (both_law node_law (both_law references_law (load_law loaded))) (n, (inherited, es)) rest sized (range.0.0, (range.0.1.0, (range.0.1.1, range.1)))
kind_again false (Ask r from) rest sized range = seen_again (λ x. Ask x.0 x.1) (both_law reference_law number16) (r, from) rest sized (range.0, tt)
kind_again true (Ask r from) rest sized range = absurd cc
kind_again loaded (Tell e es) rest sized range = seen_again (λ x. Tell x.0 x.1) (both_law equation_law (load_law loaded)) (e, es) rest sized (range.0.0, (range.0.1, range.1))

kind_law : (loaded : Bool) → Law (kind loaded) (λ k. spelled_kind (plain_kind k)) (λ k. KindSized (plain_kind k)) (IsOfKind loaded)
kind_law loaded = record { taken = kind_taken loaded; again = kind_again loaded }

-- ---- messages

-- behind the version
inner_law : (loaded : Bool) → Law (seen (λ m. record { to = m.0; kind = m.1 }) (both (number w16) (kind loaded)))
    (λ m. to_be_bytes w16 m.to ++ spelled_kind (plain_kind m.kind)) MessageSized (λ m. Unit {0} × IsOfKind loaded m.kind)
inner_law loaded = seen_law (λ m. record { to = m.0; kind = m.1 }) (λ m. (m.to, m.kind)) (λ x. refl) (λ y. refl) (both_law number16 (kind_law loaded))

version_law : Law (such_that is_version byte) (λ v. v ∷ []) (λ v. v < 2 ^ 8) (λ v. Unit {0} × (is_version v ≡ true))
version_law = such_that_law is_version byte_law

-- a version tells whether there is a load
version_is : (v : ℕ) → is_version v ≡ true → v ≡ version_of (v == 2)
version_is v e = by (v == 1) (v == 2) v e (eqb-true v 1) (eqb-true v 2)
  where
    by : (one two : Bool) (v : ℕ) → (one || two) ≡ true → (one ≡ true → v ≡ 1) → (two ≡ true → v ≡ 2) → v ≡ version_of two
    by one true v e f g = g refl
    by true false v e f g = f refl
    by false false v e f g = absurd cc

message_taken : (bytes : List ℕ) (m : Message) (rest : List ℕ) → AreBytes bytes → message bytes ≡ Ok (m, rest) → Takes bytes (spelled_message m) rest × MessageSized m × MessageInRange m
unfolding message
message_taken bytes m rest fits e =
    let a = bind_ok (such_that is_version byte bytes) (λ version. seen (λ n. record { to = n.0; kind = n.1 }) (both (number w16) (kind (version.0 == 2))) version.1) (m, rest) e in
    let version = version_law.taken bytes a.0.0 a.0.1 fits a.1 in
    let t = (inner_law (a.0.0 == 2)).taken a.0.1 m rest version.0.rest_bytes a.2 in
    let is : a.0.0 ≡ version_of (is_loaded (plain_kind m.kind)) = version_is a.0.0 version.2.1 ∙ ap version_of (sym t.2.1.1) in (
      Takes-then bytes (version_of (is_loaded (plain_kind m.kind)) ∷ []) a.0.1 (to_be_bytes w16 m.to ++ spelled_kind (plain_kind m.kind)) rest
          (subst (λ v. Takes bytes (v ∷ []) a.0.1) is version.0) t.0,
      t.1,
      t.2.1.0,
    )

behind_version : (loaded : Bool) (m : Message) (rest : List ℕ) → MessageSized m → IsOfKind loaded m.kind →
    message (version_of loaded ∷ ((to_be_bytes w16 m.to ++ spelled_kind (plain_kind m.kind)) ++ rest)) ≡ Ok (m, rest)
unfolding message
behind_version false m rest sized range = (inner_law false).again m rest sized (tt, range)
behind_version true m rest sized range = (inner_law true).again m rest sized (tt, range)

message_again : (m : Message) (rest : List ℕ) → MessageSized m → MessageInRange m → message (spelled_message m ++ rest) ≡ Ok (m, rest)
message_again m rest sized range = behind_version (is_loaded (plain_kind m.kind)) m rest sized (range, refl)

pub message_law : Law message spelled_message MessageSized MessageInRange
message_law = record { taken = message_taken; again = message_again }
