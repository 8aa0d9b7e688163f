-- Names, texts, arguments and choices: what was read, or cannot be read, stays so where more bytes follow.
use Rattle.std.proofs.Common.{◌≡◌, ℕ, zero, suc, List, [], ◌∷◌, refl}
use Rattle.std.specs.Int.{w16, w64}
use Rattle.aw_spelling.specs.Spelling.{is_content_byte}
use Rattle.aw_term.specs.Trees.{Head, Con, Num, Text, Made, join}
use Rattle.aw_term.specs.Names.{Slot, Result as ResultSlot, Part}
use Rattle.aw_term.specs.Rules.{Ground}
use Rattle.aw_term.specs.Choices.{Choice, Start, Develop}
use Rattle.aw_term.specs.Limits.{most_children, most_results, most_node_parts, most_references, most_parts, most_arguments, most_levels, most_symbols}
use Rattle.aw_codec.specs.Reading.{Reader, byte, number, such_that, both, seen}
use Rattle.aw_codec.specs.Names.{is_at_most, is_from_1_to, step, trail, node, slot, reference, references}
use Rattle.aw_codec.specs.Texts.{text}
use Rattle.aw_codec.specs.Grounds.{head, in_turn, no_term, with_parts, ground, arguments}
use Rattle.aw_codec.specs.Choices.{choice}
use Rattle.aw_codec.proofs.Extending.{Extends, next, next_extends, via, nothing, nothing_extends, given_extends, by_tag, by_tag_extends, byte_extends}
use Rattle.aw_codec.proofs.Extending.{number_extends, such_that_extends, seen_extends, both_extends, counted_extends}

pub at_most_extends : (most : ℕ) → Extends (such_that (is_at_most most) byte)
at_most_extends most = such_that_extends (is_at_most most) byte_extends

-- ---- names

step_extends : Extends step
unfolding step
step_extends = seen_extends _ (both_extends (number_extends w16) (such_that_extends (is_from_1_to most_children) byte_extends))

trail_extends : Extends trail
unfolding trail
trail_extends = counted_extends (at_most_extends 250) step_extends

pub node_extends : Extends node
unfolding node
node_extends = seen_extends _ (both_extends (number_extends w16) (both_extends (number_extends w64) trail_extends))

slot_number_extends : (most : ℕ) → Extends (such_that (is_from_1_to most) (number w16))
slot_number_extends most = such_that_extends (is_from_1_to most) (number_extends w16)

abbrev behind_slot : ℕ → Reader Slot
behind_slot = by_tag (seen ResultSlot (such_that (is_from_1_to most_results) (number w16))) (seen Part (such_that (is_from_1_to most_node_parts) (number w16))) nothing nothing

slot_is : (bytes : List ℕ) → slot bytes ≡ next byte behind_slot bytes
unfolding slot
slot_is [] = refl
slot_is (zero ∷ bytes) = refl
slot_is (suc zero ∷ bytes) = refl
slot_is (suc (suc zero) ∷ bytes) = refl
slot_is (suc (suc (suc zero)) ∷ bytes) = refl
slot_is (suc (suc (suc (suc b))) ∷ bytes) = refl

slot_extends : Extends slot
slot_extends = via slot_is (by_tag_extends (seen_extends ResultSlot (slot_number_extends most_results)) (seen_extends Part (slot_number_extends most_node_parts)) nothing_extends nothing_extends)

pub reference_extends : Extends reference
unfolding reference
reference_extends = seen_extends _ (both_extends node_extends slot_extends)

pub references_extends : Extends references
unfolding references
references_extends = counted_extends (at_most_extends most_references) reference_extends

-- ---- texts and arguments

pub text_extends : Extends text
unfolding text
text_extends = counted_extends (such_that_extends (is_at_most 1024) (number_extends w16)) (such_that_extends is_content_byte byte_extends)

abbrev behind_head : ℕ → Reader (Head × ℕ)
behind_head = by_tag nothing (seen (λ x. (Con x.0, x.1)) (both (number w16) (such_that (is_at_most most_parts) byte))) (seen (λ n. (Num n, 0)) (number w64)) (seen (λ t. (Text t, 0)) text)

head_is : (bytes : List ℕ) → head bytes ≡ next byte behind_head bytes
unfolding head
head_is [] = refl
head_is (zero ∷ bytes) = refl
head_is (suc zero ∷ bytes) = refl
head_is (suc (suc zero) ∷ bytes) = refl
head_is (suc (suc (suc zero)) ∷ bytes) = refl
head_is (suc (suc (suc (suc b))) ∷ bytes) = refl

head_extends : Extends head
head_extends = via head_is (by_tag_extends nothing_extends (seen_extends _ (both_extends (number_extends w16) (at_most_extends most_parts)))
    (seen_extends _ (number_extends w64)) (seen_extends _ text_extends))

in_turn_extends : {A : Type 0} {item : ℕ → Reader (A × ℕ)} → ((allowed : ℕ) → Extends (item allowed)) → (n allowed : ℕ) → Extends (in_turn item n allowed)
in_turn_extends h zero allowed = via (λ bytes. refl) (given_extends ([], allowed))
in_turn_extends h (suc n) allowed = via (λ bytes. refl) (next_extends (h allowed) (λ x. seen_extends (λ xs. (x.0 ∷ xs.0, xs.1)) (in_turn_extends h n x.1)))

with_parts_extends : {item : ℕ → Reader (Ground × ℕ)} → ((allowed : ℕ) → Extends (item allowed)) → (h : Head × ℕ) (allowed : ℕ) → Extends (with_parts item h allowed)
with_parts_extends k h allowed = via (λ bytes. refl) (seen_extends (λ ts. (Made h.0 (join ts.0), ts.1)) (in_turn_extends k h.1 allowed))

no_term_is : (bytes : List ℕ) → no_term {A = Ground × ℕ} bytes ≡ next byte (λ b. nothing) bytes
no_term_is [] = refl
no_term_is (b ∷ bytes) = refl

no_term_extends : Extends (no_term {A = Ground × ℕ})
no_term_extends = via no_term_is (next_extends byte_extends (λ b. nothing_extends))

ground_extends : (levels allowed : ℕ) → Extends (ground levels allowed)
unfolding ground
ground_extends zero allowed = via (λ bytes. refl) no_term_extends
ground_extends (suc levels) zero = via (λ bytes. refl) no_term_extends
ground_extends (suc levels) (suc allowed) = via (λ bytes. refl) (next_extends head_extends (λ h. with_parts_extends (ground_extends levels) h allowed))

arguments_extends : Extends arguments
unfolding arguments
arguments_extends = via (λ bytes. refl) (next_extends (at_most_extends most_arguments) (λ n. seen_extends (λ ts. ts.0) (in_turn_extends (ground_extends most_levels) n most_symbols)))

-- ---- choices

abbrev behind_choice : ℕ → Reader Choice
behind_choice = by_tag (seen (λ c. Start c.0 c.1) (both (number w16) (number w64))) (seen (λ c. Develop c.0 c.1.0 c.1.1) (both node (both (number w16) arguments))) nothing nothing

choice_is : (bytes : List ℕ) → choice bytes ≡ next byte behind_choice bytes
unfolding choice
choice_is [] = refl
choice_is (zero ∷ bytes) = refl
choice_is (suc zero ∷ bytes) = refl
choice_is (suc (suc zero) ∷ bytes) = refl
choice_is (suc (suc (suc zero)) ∷ bytes) = refl
choice_is (suc (suc (suc (suc b))) ∷ bytes) = refl

pub choice_extends : Extends choice
choice_extends = via choice_is (by_tag_extends (seen_extends _ (both_extends (number_extends w16) (number_extends w64)))
    (seen_extends _ (both_extends node_extends (both_extends (number_extends w16) arguments_extends))) nothing_extends nothing_extends)
