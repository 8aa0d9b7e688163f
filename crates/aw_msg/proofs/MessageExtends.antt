-- Messages: what was read, or cannot be read, stays so where more bytes follow.
use Rattle.std.proofs.Common.{◌≡◌, ℕ, zero, suc, Bool, true, false, ◌==◌, List, [], ◌∷◌, refl}
use Rattle.std.specs.Int.{w16, w64}
use Rattle.aw_store.specs.declared.equation.Body.{Body}
use Rattle.aw_store.specs.declared.equation.Body.TheVariants.{Same, Con, Num, Text}
use Rattle.aw_codec.specs.Reading.{Reader, byte, number, both, seen}
use Rattle.aw_codec.specs.Names.{is_from_1_to, node, reference, references}
use Rattle.aw_codec.specs.Texts.{text}
use Rattle.aw_codec.proofs.Extending.{Extends, next, next_extends, via, nothing, nothing_extends, by_tag, by_tag_extends, byte_extends, number_extends}
use Rattle.aw_codec.proofs.Extending.{such_that_extends, seen_extends, both_extends, counted_extends, given_extends}
use Rattle.aw_codec.proofs.ReadersExtend.{node_extends, reference_extends, references_extends, text_extends}
use Rattle.aw_msg.specs.declared.message.MsgKind.{MsgKind}
use Rattle.aw_msg.specs.declared.message.MsgKind.TheVariants.{Call, Ask, Tell}
use Rattle.aw_msg.specs.Messages.{body, equation, equations, load, ask, kind, is_version, message}

abbrev behind_body : ℕ → Reader Body
behind_body = by_tag (seen Same reference) (seen (λ x. Con x.0 x.1) (both (number w16) references)) (seen Num (number w64)) (seen Text text)

body_is : (bytes : List ℕ) → body bytes ≡ next byte behind_body bytes
unfolding body
body_is [] = refl
body_is (zero ∷ bytes) = refl
body_is (suc zero ∷ bytes) = refl
body_is (suc (suc zero) ∷ bytes) = refl
body_is (suc (suc (suc zero)) ∷ bytes) = refl
body_is (suc (suc (suc (suc b))) ∷ bytes) = refl

body_extends : Extends body
body_extends = via body_is (by_tag_extends (seen_extends Same reference_extends)
    (seen_extends _ (both_extends (number_extends w16) references_extends)) (seen_extends Num (number_extends w64)) (seen_extends Text text_extends))

equation_extends : Extends equation
unfolding equation
equation_extends = seen_extends _ (both_extends reference_extends body_extends)

equations_extends : Extends equations
unfolding equations
equations_extends = counted_extends (such_that_extends (is_from_1_to 64) byte_extends) equation_extends

load_extends : (loaded : Bool) → Extends (load loaded)
unfolding load
load_extends false = via (λ bytes. refl) (given_extends [])
load_extends true = via (λ bytes. refl) equations_extends

ask_extends : (loaded : Bool) → Extends (ask loaded)
unfolding ask
ask_extends false = via (λ bytes. refl) (seen_extends (λ x. Ask x.0 x.1) (both_extends reference_extends (number_extends w16)))
ask_extends true = via (λ bytes. refl) nothing_extends

abbrev behind_kind : Bool → ℕ → Reader MsgKind
behind_kind loaded = by_tag (seen (λ x. Call x.0 x.1.0 x.1.1) (both node (both references (load loaded)))) (ask loaded) (seen (λ x. Tell x.0 x.1) (both equation (load loaded))) nothing

kind_is : (loaded : Bool) (bytes : List ℕ) → kind loaded bytes ≡ next byte (behind_kind loaded) bytes
unfolding kind
kind_is loaded [] = refl
kind_is loaded (zero ∷ bytes) = refl
kind_is loaded (suc zero ∷ bytes) = refl
kind_is loaded (suc (suc zero) ∷ bytes) = refl
kind_is loaded (suc (suc (suc zero)) ∷ bytes) = refl
kind_is loaded (suc (suc (suc (suc b))) ∷ bytes) = refl

kind_extends : (loaded : Bool) → Extends (kind loaded)
kind_extends loaded = via (kind_is loaded)
    (by_tag_extends (seen_extends _ (both_extends node_extends (both_extends references_extends (load_extends loaded)))) (ask_extends loaded)
    (seen_extends _ (both_extends equation_extends (load_extends loaded))) nothing_extends)

pub message_extends : Extends message
unfolding message
message_extends =
    via (λ bytes. refl)
    (next_extends (such_that_extends is_version byte_extends) (λ version. seen_extends (λ m. record { to = m.0; kind = m.1 }) (both_extends (number_extends w16) (kind_extends (version == 2)))))
