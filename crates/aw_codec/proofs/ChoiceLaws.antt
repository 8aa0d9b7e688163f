-- What is read of choices is spelled so, and what is spelled so is read.
use Rattle.std.proofs.Common.{◌≡◌, ℕ, zero, suc, List, [], ◌∷◌, ◌++◌, Ok, subst}
use Rattle.std.specs.Int.{w16, w64, to_be_bytes}
use Rattle.aw_term.specs.Choices.{Choice, Start, Develop}
use Rattle.aw_codec.specs.Bytes.{AreBytes}
use Rattle.aw_codec.specs.Names.{spelled_node}
use Rattle.aw_codec.specs.Grounds.{spelled_grounds}
use Rattle.aw_codec.specs.Choices.{spelled_choice, choice}
use Rattle.aw_codec.specs.Ranges.{ChoiceSized, ChoiceInRange}
use Rattle.aw_codec.proofs.Laws.{Law, Takes, Takes-tag, AreBytes-rest, number16, number64, both_law, seen_taken, seen_again}
use Rattle.aw_codec.proofs.NameLaws.{node_law}
use Rattle.aw_codec.proofs.GroundLaws.{arguments_law}

abbrev ChoiceTakes : List ℕ → List ℕ → Choice → Type 0
ChoiceTakes bytes rest c = Takes bytes (spelled_choice c) rest × ChoiceSized c × ChoiceInRange c

choice_taken : (bytes : List ℕ) (c : Choice) (rest : List ℕ) → AreBytes bytes → choice bytes ≡ Ok (c, rest) → ChoiceTakes bytes rest c
unfolding choice
choice_taken [] c rest fits e = absurd cc
choice_taken (zero ∷ bytes) c rest fits e =
    let t = seen_taken (λ x. Start x.0 x.1) (both_law number16 number64) bytes c rest (AreBytes-rest 0 bytes fits) e in
    subst (ChoiceTakes (0 ∷ bytes) rest) t.1 (Takes-tag 0 bytes (to_be_bytes w16 t.0.0 ++ to_be_bytes w64 t.0.1) rest t.2, t.3, tt)
choice_taken (suc zero ∷ bytes) c rest fits e =
    let t = seen_taken (λ x. Develop x.0 x.1.0 x.1.1) (both_law node_law (both_law number16 arguments_law)) bytes c rest (AreBytes-rest 1 bytes fits) e in
    subst (ChoiceTakes (1 ∷ bytes) rest) t.1
    (Takes-tag 1 bytes (spelled_node t.0.0 ++ (to_be_bytes w16 t.0.1.0 ++ spelled_grounds t.0.1.1)) rest t.2, (t.3.0, t.3.1.0, t.3.1.1), (t.4.0, t.4.1.1))
choice_taken (suc (suc b) ∷ bytes) c rest fits e = absurd cc

choice_again : (c : Choice) (rest : List ℕ) → ChoiceSized c → ChoiceInRange c → choice (spelled_choice c ++ rest) ≡ Ok (c, rest)
unfolding choice
choice_again (Start sort case) rest sized range = seen_again (λ x. Start x.0 x.1) (both_law number16 number64) (sort, case) rest sized (tt, tt)
choice_again (Develop n rule args) rest sized range =
    seen_again (λ x. Develop x.0 x.1.0 x.1.1) (both_law node_law (both_law number16 arguments_law)) (n, (rule, args)) rest (sized.0, (sized.1, sized.2)) (range.0, (tt, range.1))

pub choice_law : Law choice spelled_choice ChoiceSized ChoiceInRange
choice_law = record { taken = choice_taken; again = choice_again }
