-- What a head opens, from the front of its text.
use Rattle.std.proofs.Common.{◌≡◌, ℕ, ◌≤◌, ◌<◌, true, List, length, refl, sym, ◌∙◌, subst}
use Rattle.std.specs.Prelude.{◌≢◌, Ok, Err}
use Rattle.aw_front.specs.declared.front.Opened.{Opened}
use Rattle.aw_front.specs.declared.front.Front.TheVariants.{Ready}
use Rattle.aw_front.specs.Fronts.{IsFrontOf}
use Rattle.aw_grammar.specs.Declarations.{Declarations}
use Rattle.aw_book_read.specs.declared.heads.HeadFault.TheVariants.{OtherText, NoRole}
use Rattle.aw_book_read.specs.Heads.{OpensHead}

-- the text is what would be written, and the role is declared
pub ready_head : (role : ℕ) (text : List ℕ) (o : Opened) → IsFrontOf text true (Ready o) → o.text ≡ text → role < length o.accepted.grammar.roles → OpensHead role text (Ok o)
ready_head role text o (s, opens, ready) same few =
    (s, record { opens = opens; same = sym same ∙ ready.text refl; declared = subst (λ (d : Declarations). role < length d.roles) (sym ready.declared) few }, ready)

-- the text is another
pub other_head : (role : ℕ) (text : List ℕ) (o : Opened) → IsFrontOf text true (Ready o) → o.text ≢ text → OpensHead role text (Err OtherText)
other_head role text o (s, opens, ready) other = (s, opens, λ e. other (ready.text refl ∙ sym e))

-- no such role is declared
pub no_role_head : (role : ℕ) (text : List ℕ) (o : Opened) → IsFrontOf text true (Ready o) → o.text ≡ text → length o.accepted.grammar.roles ≤ role → OpensHead role text (Err NoRole)
no_role_head role text o (s, opens, ready) same le =
    (s, opens, sym same ∙ ready.text refl, subst (λ (d : Declarations). length d.roles ≤ role) (sym ready.declared) le)
