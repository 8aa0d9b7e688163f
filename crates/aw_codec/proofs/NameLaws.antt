-- What is read of names is spelled so, and what is spelled so is read.
use Rattle.std.proofs.Common.{◌≡◌, ℕ, zero, suc, ◌<◌, ◌≤◌, ◌^◌, true, List, [], ◌∷◌, ◌++◌, length, nat_le, Ok, refl, subst, arith}
use Rattle.std.proofs.lemmas.Bool.{and_parts, and_from, leb-true, le-leb}
use Rattle.std.specs.List.{flat_map}
use Rattle.std.specs.Int.{w16, to_be_bytes}
use Rattle.aw_term.specs.Names.{Step, Slot, Result, Part}
use Rattle.aw_term.specs.WellFormed.{Each}
use Rattle.aw_term.specs.Limits.{most_children, most_results, most_node_parts, most_references}
use Rattle.aw_codec.specs.Bytes.{AreBytes}
use Rattle.aw_codec.specs.Reading.{number, such_that}
use Rattle.aw_codec.specs.Names.{spelled_step, spelled_node, spelled_slot, spelled_ref, spelled_refs, is_from_1_to, is_at_most, step, trail, node, slot, reference, references}
use Rattle.aw_codec.specs.Ranges.{From1To, StepSized, StepInRange, NodeSized, NodeInRange, SlotSized, SlotInRange, RefSized, RefInRange, RefsSized, RefsInRange}
use Rattle.aw_codec.proofs.Laws.{Law, Takes, Takes-tag, AreBytes-rest, byte_law, number16, number64, such_that_law, both_law, seen_law, seen_taken, seen_again, restated, counted_law}

from_holds : (most n : ℕ) → is_from_1_to most n ≡ true → From1To most n
from_holds most n e = let (low, high) = and_parts (nat_le 1 n) (nat_le n most) e in (leb-true 1 n low, leb-true n most high)

from_tests : (most n : ℕ) → From1To most n → is_from_1_to most n ≡ true
from_tests most n h = and_from (nat_le 1 n) (nat_le n most) (le-leb 1 n h.0) (le-leb n most h.1)

pub step_law : Law step spelled_step StepSized StepInRange
unfolding step
step_law = restated spelled_step StepSized StepInRange (λ s. refl) (λ s sized range. (sized, from_holds most_children s.child range.1.1))
    (λ s sized range. (sized, (tt, (tt, from_tests most_children s.child range))))
    (seen_law (λ s. record { rule = s.0; child = s.1 }) (λ s. (s.rule, s.child)) (λ x. refl) (λ y. refl) (both_law number16 (such_that_law (is_from_1_to most_children) byte_law)))

abbrev TrailSized : List Step → Type 0
TrailSized ss = Each StepSized ss

abbrev TrailInRange : List Step → Type 0
TrailInRange ss = (length ss ≤ 250) × Each StepInRange ss

abbrev spelled_trail : List Step → List ℕ
spelled_trail ss = length ss ∷ flat_map spelled_step ss

trail_law : Law trail spelled_trail TrailSized TrailInRange
unfolding trail
trail_law = restated spelled_trail TrailSized TrailInRange (λ ss. refl) (λ ss sized range. (sized.1, (leb-true (length ss) 250 range.0.1, range.1)))
    (λ ss sized range. ((omega (arith, range.0), sized), ((tt, le-leb (length ss) 250 range.0), range.1)))
    (counted_law (such_that_law (is_at_most 250) byte_law) step_law)

pub node_law : Law node spelled_node NodeSized NodeInRange
unfolding node
node_law = restated spelled_node NodeSized NodeInRange (λ n. refl) (λ n sized range. ((sized.0, sized.1.0, sized.1.1), range.1.1)) (λ n sized range. ((sized.0, (sized.1, sized.2)), (tt, (tt, range))))
    (seen_law (λ n. record { start = n.0; case = n.1.0; steps = n.1.1 }) (λ n. (n.start, (n.case, n.steps))) (λ x. refl) (λ y. refl) (both_law number16 (both_law number64 trail_law)))

abbrev NumberSized : ℕ → Type 0
NumberSized n = n < 2 ^ 16

slot_number_law : (most : ℕ) → Law (such_that (is_from_1_to most) (number w16)) (to_be_bytes w16) NumberSized (From1To most)
slot_number_law most = restated (to_be_bytes w16) NumberSized (From1To most) (λ n. refl) (λ n sized range. (sized, from_holds most n range.1))
    (λ n sized range. (sized, (tt, from_tests most n range))) (such_that_law (is_from_1_to most) number16)

abbrev SlotTakes : List ℕ → List ℕ → Slot → Type 0
SlotTakes bytes rest x = Takes bytes (spelled_slot x) rest × SlotSized x × SlotInRange x

slot_taken : (bytes : List ℕ) (x : Slot) (rest : List ℕ) → AreBytes bytes → slot bytes ≡ Ok (x, rest) → SlotTakes bytes rest x
unfolding slot
slot_taken [] x rest fits e = absurd cc
slot_taken (zero ∷ bytes) x rest fits e =
    let t = seen_taken Result (slot_number_law most_results) bytes x rest (AreBytes-rest 0 bytes fits) e in
    subst (SlotTakes (0 ∷ bytes) rest) t.1 (Takes-tag 0 bytes (to_be_bytes w16 t.0) rest t.2, t.3, t.4)
slot_taken (suc zero ∷ bytes) x rest fits e =
    let t = seen_taken Part (slot_number_law most_node_parts) bytes x rest (AreBytes-rest 1 bytes fits) e in
    subst (SlotTakes (1 ∷ bytes) rest) t.1 (Takes-tag 1 bytes (to_be_bytes w16 t.0) rest t.2, t.3, t.4)
slot_taken (suc (suc b) ∷ bytes) x rest fits e = absurd cc

slot_again : (x : Slot) (rest : List ℕ) → SlotSized x → SlotInRange x → slot (spelled_slot x ++ rest) ≡ Ok (x, rest)
unfolding slot
slot_again (Result j) rest sized range = seen_again Result (slot_number_law most_results) j rest sized range
slot_again (Part k) rest sized range = seen_again Part (slot_number_law most_node_parts) k rest sized range

slot_law : Law slot spelled_slot SlotSized SlotInRange
slot_law = record { taken = slot_taken; again = slot_again }

pub reference_law : Law reference spelled_ref RefSized RefInRange
unfolding reference
reference_law = seen_law (λ r. record { node = r.0; slot = r.1 }) (λ r. (r.node, r.slot)) (λ x. refl) (λ y. refl) (both_law node_law slot_law)

pub references_law : Law references spelled_refs RefsSized RefsInRange
unfolding references
references_law = restated spelled_refs RefsSized RefsInRange (λ rs. refl) (λ rs sized range. (sized.1, (leb-true (length rs) most_references range.0.1, range.1)))
    (λ rs sized range. ((omega (arith, range.0), sized), ((tt, le-leb (length rs) most_references range.0), range.1)))
    (counted_law (such_that_law (is_at_most most_references) byte_law) reference_law)
