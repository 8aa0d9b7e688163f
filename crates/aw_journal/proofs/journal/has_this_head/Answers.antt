use Rattle.std.specs.Prelude.{◌≡◌, ℕ, ◌+◌, List, ◌∷◌, ◌++◌, length, take}
use Rattle.std.proofs.Common.{◌∙◌, ap, sym, subst, arith}
use Rattle.aw_journal.specs.Format.{head}
use Rattle.aw_journal.proofs.Reading.{front_by_head, head_by_front}
use Rattle.aw_journal.proofs.journal.has_this_head.Goals as goal

pub returns-clause-own : goal.returns-clause-own
returns-clause-own g c file h =
    let role = c.args.role in
    let text = c.args.text.now in
    let front = c.deref.result.now in
    let head_is : c.deref-2.result.now ≡ 1 ∷ head role text = c.deref-2.ensures.value ∙ c.in_ok-head.ensures in
    let count : c.len.result + 1 ≡ length (1 ∷ head role text) + 1 = omega (arith, c.len.ensures, c.in_ok-head.head.ok.0, ap length c.in_ok-head.ensures) in
    let front_is : front ≡ take (length (1 ∷ head role text) + 1) file = subst (λ (k : ℕ). front ≡ take k file) count
    (subst (λ (l : List ℕ). l ≡ take (c.len.result + 1) file) (sym c.deref.ensures.value) (c.in_ok-ask.ensures.asked file h)) in
    let begins : List ℕ → Type 0 = λ l. (byte : ℕ) × (rest : List ℕ) × (front ≡ l ++ byte ∷ rest) in (
      λ yes. head_by_front role text file front front_is (subst begins head_is (c.goes_on.ensures.0 yes)),
      λ has. c.goes_on.ensures.1
          (subst begins (sym head_is) (front_by_head role text file front front_is has)),
    )
