-- What is told of a grammar is one thing: there is one least circle over a relation or none, and one text where it is accepted.
use Rattle.std.proofs.Common.{◌≡◌, ℕ, ◌<◌, ◌≤◌, Bool, true, false, List, Option, None, Some, slice_get, refl, sym, ap, ◌∙◌, subst, inl, inr, arith}
use Rattle.std.specs.Prelude.{◌⊎◌}
use Rattle.std.proofs.lemmas.Bool.{cases_order}
use Rattle.std.proofs.Math.Path.{fun_ext}
use Rattle.aw_list.proofs.Members.{never, member_got}
use Rattle.aw_list.proofs.Everyday.{same-test}
use Rattle.aw_term.specs.Trees.{Never}
use Rattle.aw_term.specs.Rules as P
use Rattle.aw_term.specs.Artifacts.{Words}
use Rattle.aw_iograph.specs.declared.occ.Occ.{Occ}
use Rattle.aw_iograph.specs.Occurrences.{IsUpTo}
use Rattle.aw_iograph.specs.Dependence.{Relation, IO, LeastOnCircle, HasNoCircle}
use Rattle.aw_accept.specs.declared.refused.Fault.{Fault}
use Rattle.aw_accept.specs.Circular.{LeastFault, LeastFaultOver}
use Rattle.aw_check_text.specs.Told.{IsDependence, TellsAccepted, accepted_text}

abbrev occ : ℕ → Bool → ℕ → Occ
occ c r n = record { child = c; result = r; number = n }

abbrev fault : ℕ → Occ → Fault
fault r o = record { rule = r; occ = o }

-- two tests that tell the dependences are one
one-test : (g : P.Grammar) (a b : ℕ → ℕ → ℕ → Bool) → IsDependence g a → IsDependence g b → a ≡ b
one-test g a b tells_a tells_b =
    fun_ext (λ s. fun_ext (λ i. fun_ext (λ j. same-test (a s i j) (b s i j) (λ e. (tells_b s i j).1 ((tells_a s i j).0 e)) (λ e. (tells_a s i j).1 ((tells_b s i j).0 e)))))

pub one-text : (w : Words) (g : P.Grammar) (a b : List ℕ) → TellsAccepted w g a → TellsAccepted w g b → a ≡ b
one-text w g a b tells_a tells_b =
    tells_a.2 ∙ ap (λ (depends : ℕ → ℕ → ℕ → Bool). accepted_text depends w g) (one-test g tells_a.0 tells_b.0 tells_a.1 tells_b.1) ∙ sym tells_b.2

made : (c c' : ℕ) (r r' : Bool) (n n' : ℕ) → c ≡ c' → r ≡ r' → n ≡ n' → occ c r n ≡ occ c' r' n'
made c c' r r' n n' child side number = cc

-- of one child
beside : (c c' : ℕ) (r r' : Bool) (n n' : ℕ) → c ≡ c' → ((r ≡ false) × (r' ≡ true)) ⊎ ((r ≡ r') × (n ≤ n')) → ((r' ≡ false) × (r ≡ true)) ⊎ ((r' ≡ r) × (n' ≤ n)) → occ c r n ≡ occ c' r' n'
beside c c' r r' n n' child (inl there) (inl back) = let e : r ≡ false = there.0 in let f : r ≡ true = back.1 in absurd (cc (e, f))
beside c c' r r' n n' child (inl there) (inr back) = let e : r ≡ false = there.0 in let f : r' ≡ true = there.1 in let h : r' ≡ r = back.0 in absurd (cc (e, f, h))
beside c c' r r' n n' child (inr there) (inl back) = let e : r' ≡ false = back.0 in let f : r ≡ true = back.1 in let h : r ≡ r' = there.0 in absurd (cc (e, f, h))
beside c c' r r' n n' child (inr there) (inr back) = let e : n ≤ n' = there.1 in let f : n' ≤ n = back.1 in made c c' r r' n n' child there.0 (omega arith)

-- an occurrence that comes up to another, and that one up to it, is that one
one-occ : (o u : Occ) → IsUpTo o u → IsUpTo u o → o ≡ u
one-occ o u (inl there) (inl back) = absurd (omega (arith, there, back))
one-occ o u (inl there) (inr back) = let e : u.child ≡ o.child = back.0 in absurd (omega (arith, there, e))
one-occ o u (inr there) (inl back) = let e : o.child ≡ u.child = there.0 in absurd (omega (arith, back, e))
one-occ o u (inr there) (inr back) = beside o.child u.child o.result u.result o.number u.number there.0 there.1 back.1

-- over a relation two least circles are one, and where there is none there is none
pub fault-none : (g : P.Grammar) (rel : Relation) (fault : Fault) → HasNoCircle g rel → LeastFaultOver g rel (Some fault) → Never
fault-none g rel fault none found =
    let (r, got, least) = found.0 in none r (member_got g.rules fault.rule r got) fault.occ least.0

not-below : (g : P.Grammar) (rel : Relation) (a b : Fault) → LeastFaultOver g rel (Some a) → LeastFaultOver g rel (Some b) → a.rule < b.rule → Never
not-below g rel a b found_a found_b lt = let (r, got, least) = found_a.0 in found_b.1 a.rule lt r got a.occ least.0

fault-made : (r q : ℕ) (o u : Occ) → r ≡ q → o ≡ u → fault r o ≡ fault q u
fault-made r q o u rule place = cc

same-rule : (g : P.Grammar) (rel : Relation) (a b : Fault) → LeastFaultOver g rel (Some a) → LeastFaultOver g rel (Some b) → a.rule ≡ b.rule → a ≡ b
same-rule g rel a b found_a found_b is =
    let (r, got, least) = found_a.0 in
    let (q, got_q, least_q) = found_b.0 in
    let same : q ≡ r = cc (sym got_q ∙ ap (slice_get g.rules) (sym is) ∙ got) in
    let least_b : LeastOnCircle rel r (Some b.occ) = subst (λ (x : P.Rule). LeastOnCircle rel x (Some b.occ)) same least_q in
    fault-made a.rule b.rule a.occ b.occ is (one-occ a.occ b.occ (least.1 b.occ least_b.0) (least_b.1 a.occ least.0))

pub one-fault : (g : P.Grammar) (rel : Relation) (a b : Fault) → LeastFaultOver g rel (Some a) → LeastFaultOver g rel (Some b) → a ≡ b
one-fault g rel a b found_a found_b =
    elim (cases_order a.rule b.rule) [
      | inl is ↦ same-rule g rel a b found_a found_b is
      | inr other ↦ elim other [ inl lt ↦ never (not-below g rel a b found_a found_b lt) | inr gt ↦ never (not-below g rel b a found_b found_a gt) ]
    ]

pub one-found-over : (g : P.Grammar) (rel : Relation) (a b : Option Fault) → LeastFaultOver g rel a → LeastFaultOver g rel b → a ≡ b
one-found-over g rel None None found_a found_b = refl
one-found-over g rel None (Some b) found_a found_b = never (fault-none g rel b found_a found_b)
one-found-over g rel (Some a) None found_a found_b = never (fault-none g rel a found_b found_a)
one-found-over g rel (Some a) (Some b) found_a found_b = ap Some (one-fault g rel a b found_a found_b)

-- and so over the dependence relation
pub one-found : (g : P.Grammar) (a b : Option Fault) → LeastFault g a → LeastFault g b → a ≡ b
one-found g = one-found-over g (IO g)
