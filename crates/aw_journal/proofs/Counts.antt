-- How long spellings are.
use Rattle.aw_term.specs.Choices as Q
use Rattle.std.proofs.Common.{◌≡◌, ℕ, ◌+◌, ◌<◌, ◌≤◌, List, [], ◌++◌, length, get_or, take, map, refl, sym, ap, ◌∙◌, arith, ◌*◌, ◌∷◌}
use Rattle.std.specs.List.{flat_map}
use Rattle.std.proofs.lemmas.List.{length-append, take_all}
use Rattle.std.proofs.lemmas.List.Folds.{flat_map-map}
use Rattle.aw_term.specs.Trees.{count}
use Rattle.aw_term.specs.Views.{ground_of}
use Rattle.aw_term.specs.declared.ground.Ground as grounds
use Rattle.aw_term.proofs.ViewLemmas.{ground_con}
use Rattle.aw_codec.specs.Grounds.{spelled_ground, spelled_grounds}
use Rattle.aw_codec.proofs.GroundLaws.{parts_join}
use Rattle.aw_codec.proofs.Adding.{one_more}
use Rattle.aw_msg.specs.Frames.{Push, Choose}
use Rattle.aw_msg.proofs.Lengths.{payload_short}
use Rattle.aw_journal.specs.Events.{Event, Took, Got, payload_of, EventInRange}
use Rattle.aw_journal.specs.Lengths.{capped}
use Rattle.std.specs.Int.{w16, to_be_bytes}
use Rattle.std.proofs.lemmas.List.Concat.{flat_map-cons}
use Rattle.aw_term.specs.Names.{Step, Node, Slot, Result, Part, Ref}
use Rattle.aw_term.specs.Rules.{Ground}
use Rattle.aw_store.specs.Equations.{Equation}
use Rattle.aw_apply.specs.Made.{Call}
use Rattle.aw_apply.specs.Messages.{Calls, Asks, Tells, Message}
use Rattle.aw_codec.specs.Names.{spelled_step, spelled_node, spelled_slot, spelled_ref, spelled_refs}
use Rattle.aw_codec.specs.Texts.{spelled_text}
use Rattle.aw_codec.specs.Choices.{spelled_choice}
use Rattle.aw_msg.specs.Spelling.{spelled_body, spelled_equation, spelled_load, spelled_kind, spelled_message}

steps_length : (steps : List Step) → length (flat_map spelled_step steps) ≡ 3 * length steps
steps_length [] = refl
steps_length (s ∷ ss) = ap length (flat_map-cons spelled_step s ss) ∙ omega (arith, length-append (spelled_step s) (flat_map spelled_step ss), steps_length ss)

pub node_length : (n : Node) → length (spelled_node n) ≡ 11 + 3 * length n.steps
node_length n = omega (arith, steps_length n.steps)

slot_length : (s : Slot) → length (spelled_slot s) ≡ 3
slot_length (Result j) = refl
slot_length (Part k) = refl

pub ref_length : (r : Ref) → length (spelled_ref r) ≡ length (spelled_node r.node) + 3
ref_length r = omega (arith, length-append (spelled_node r.node) (spelled_slot r.slot), slot_length r.slot)

pub text_length : (t : List ℕ) → length (spelled_text t) ≡ 2 + length t
text_length t = omega arith

pub equation_length : (e : Equation) → length (spelled_equation e) ≡ length (spelled_ref e.left) + length (spelled_body e.body)
equation_length e = length-append (spelled_ref e.left) (spelled_body e.body)

pub load_length : (load : List Equation) → 0 < length load → length (spelled_load load) ≡ 1 + length (flat_map spelled_equation load)
load_length [] some = absurd (omega arith)
load_length (e ∷ es) some = omega arith

pub message_length : (m : Message) → length (spelled_message m) ≡ 3 + length (spelled_kind m.kind)
message_length m = omega arith

-- one more of a list is counted
pub counted_more : {A : Type 0} (spelled : A → List ℕ) (k : ℕ) (xs : List A) (i : ℕ) (x : A) (count one new : ℕ) → i < length xs → x ≡ get_or xs i x →
    count ≡ capped (k + length (flat_map spelled (take i xs))) → one ≡ capped (length (spelled x))
    → new ≡ capped (count + one) → new ≡ capped (k + length (flat_map spelled (take (i + 1) xs)))
counted_more spelled k xs i x count one new lt is so_far here added =
    let next : flat_map spelled (take i xs) ++ spelled x ≡ flat_map spelled (take (i + 1) xs) = one_more spelled xs i x []
    (flat_map spelled (take i xs)) (flat_map spelled (take i xs) ++ spelled x) lt is refl refl in
    sums count one new k (length (flat_map spelled (take i xs))) (length (spelled x)) (length (flat_map spelled (take (i + 1) xs)))
    (sym (length-append (flat_map spelled (take i xs)) (spelled x)) ∙ ap length next) so_far here added
  where
    sums : (count one new k a b c : ℕ) → a + b ≡ c → count ≡ capped (k + a) → one ≡ capped b → new ≡ capped (count + one) → new ≡ capped (k + c)
    sums count one new k a b c sum so_far here added = omega arith

-- all of a list are counted
pub counted_all : {A B : Type 0} (spelled : B → List ℕ) (view : A → B) (xs : List A) (i count : ℕ) → length xs ≤ i →
    count ≡ capped (0 + length (flat_map (λ x. spelled (view x)) (take i xs))) → count ≡ capped (length (flat_map spelled (map view xs)))
counted_all spelled view xs i count le so_far =
    none count (length (flat_map (λ x. spelled (view x)) (take i xs))) so_far
    ∙ ap (λ ys. capped (length (flat_map (λ x. spelled (view x)) ys))) (take_all i xs le) ∙ ap (λ (l : List ℕ). capped (length l)) (sym (flat_map-map spelled view xs))
  where
    none : (count n : ℕ) → count ≡ capped (0 + n) → count ≡ capped n
    none count n e = omega arith

-- a constructor with its parts
pub con_length : (c : ℕ) (parts : List grounds.Ground) → length (spelled_ground (ground_of (grounds.Con c parts))) ≡ 4 + length (flat_map spelled_ground (map ground_of parts))
con_length c parts =
    ap (λ t. length (spelled_ground t)) (ground_con c parts) ∙ omega (arith, ap length (parts_join (map ground_of parts)))

pub con_counted : (g : grounds.Ground) (c : ℕ) (parts qs : List grounds.Ground) (n new : ℕ) → g ≡ grounds.Con c parts → qs ≡ parts →
    n ≡ capped (length (flat_map spelled_ground (map ground_of qs))) → new ≡ capped (n + 4) → new ≡ capped (length (spelled_ground (ground_of g)))
con_counted g c parts qs n new is same here added =
    sums n new (length (flat_map spelled_ground (map ground_of parts))) (length (spelled_ground (ground_of g)))
    (here ∙ ap (λ ps. capped (length (flat_map spelled_ground (map ground_of ps)))) same) added
    (ap (λ t. length (spelled_ground (ground_of t))) is ∙ con_length c parts)
  where
    sums : (n new a b : ℕ) → n ≡ capped a → new ≡ capped (n + 4) → b ≡ 4 + a → new ≡ capped b
    sums n new a b here added is = omega arith

pub develop_length : (n : Node) (rule : ℕ) (args : List Ground) → length (spelled_choice (Q.Develop n rule args)) ≡ 4 + length (spelled_node n) + length (flat_map spelled_ground args)
develop_length n rule args = omega (arith, length-append (spelled_node n) (to_be_bytes w16 rule ++ spelled_grounds args))

pub call_length : (c : Call) (load : List Equation) → length (spelled_kind (Calls c load)) ≡ 1 + length (spelled_node c.node) + length (spelled_refs c.inherited) + length (spelled_load load)
call_length c load = omega (arith, length-append (spelled_node c.node) (spelled_refs c.inherited ++ spelled_load load), length-append (spelled_refs c.inherited) (spelled_load load))

pub ask_length : (r : Ref) (from : ℕ) → length (spelled_kind (Asks r from)) ≡ length (spelled_ref r) + 3
ask_length r from = omega (arith, length-append (spelled_ref r) (to_be_bytes w16 from))

pub tell_length : (e : Equation) (load : List Equation) → length (spelled_kind (Tells e load)) ≡ 1 + length (spelled_equation e) + length (spelled_load load)
tell_length e load = omega (arith, length-append (spelled_equation e) (spelled_load load))

-- a payload is short
pub event_short : (event : Event) → EventInRange event → length (payload_of event) ≤ 1048577
event_short (Took c) range = omega (arith, payload_short (Choose c) range)
event_short (Got m) range = omega (arith, payload_short (Push m) range)
