-- Tests one after another.
use Rattle.std.proofs.Common.{◌≡◌, ℕ, ◌+◌, ◌≤◌, ◌<◌, ◌⊎◌, inl, inr, ⊎_elim, Bool, true, false, cond, ◌&&◌, ◌||◌, max, Option, Some, None, sym, ap, ◌∙◌, subst, arith}
use Rattle.aw_grammar.specs.declared.fault.DeclKind.{DeclKind}
use Rattle.aw_grammar.proofs.SizeLemmas.{Leaves}

pub skip_test : (test : Bool) (kind : DeclKind) (told later : Option DeclKind) → test ≡ false → told ≡ later → told ≡ cond test (Some kind) later
skip_test test kind told later fails e = e ∙ sym (ap (λ b. cond b (Some kind) later) fails)

pub stop_test : (test : Bool) (kind : DeclKind) (later : Option DeclKind) → test ≡ true → Some kind ≡ cond test (Some kind) later
stop_test test kind later holds = sym (ap (λ b. cond b (Some kind) later) holds)

pub and_first : (p q r : Bool) → p ≡ false → false ≡ (p && (q && r))
and_first p q r h = sym (ap (λ b. b && (q && r)) h)

pub and_second : (p q r : Bool) → p ≡ true → q ≡ false → false ≡ (p && (q && r))
and_second p q r h k = sym (ap (λ b. b && (q && r)) h ∙ ap (λ b. b && r) k)

pub and_last : (p q r answer : Bool) → p ≡ true → q ≡ true → answer ≡ r → answer ≡ (p && (q && r))
and_last p q r answer h k e = e ∙ sym (ap (λ b. b && (q && r)) h ∙ ap (λ b. b && r) k)

pub or_first : (p q : Bool) → p ≡ true → true ≡ (p || q)
or_first p q h = sym (ap (λ b. b || q) h)

pub or_last : (p q answer : Bool) → p ≡ false → answer ≡ q → answer ≡ (p || q)
or_last p q answer h e = e ∙ sym (ap (λ b. b || q) h)

-- the room after patterns, arguments and results
pub room_first : (dp da dr sp sa sr deep symbols : ℕ) → deep ≡ max dp (max da dr) → symbols ≡ sp + (sa + sr) → (32 < dp) ⊎ (256 < sp) → (32 < deep) ⊎ (256 < symbols)
room_first dp da dr sp sa sr deep symbols d s fails = ⊎_elim (λ h. inl (omega arith)) (λ h. inr (omega arith)) fails

pub room_second : (dp da dr sp sa sr deep symbols left : ℕ) → deep ≡ max dp (max da dr) → symbols ≡ sp + (sa + sr) → left + sp ≡ 256 → (32 < da) ⊎ (left < sa) → (32 < deep) ⊎ (256 < symbols)
room_second dp da dr sp sa sr deep symbols left d s l fails = ⊎_elim (λ h. inl (omega arith)) (λ h. inr (omega arith)) fails

pub room_last : (dp da dr sp sa sr deep symbols left rest : ℕ) (result : Option ℕ) → deep ≡ max dp (max da dr) → symbols ≡ sp + (sa + sr) → dp ≤ 32 →
    left + sp ≡ 256 → da ≤ 32 → rest + sa ≡ left → Leaves 32 rest dr sr result → Leaves 32 256 deep symbols result
room_last dp da dr sp sa sr deep symbols left rest None d s p l a m (inl h) = inl (omega arith)
room_last dp da dr sp sa sr deep symbols left rest None d s p l a m (inr h) = inr (omega arith)
room_last dp da dr sp sa sr deep symbols left rest (Some n) d s p l a m h = (omega (arith, h.0), omega (arith, h.1))

pub none_leaves : (deep symbols : ℕ) (result : Option ℕ) → result ≡ None → (32 < deep) ⊎ (256 < symbols) → Leaves 32 256 deep symbols result
none_leaves deep symbols result e fails = subst (λ r. Leaves 32 256 deep symbols r) (sym e) fails
