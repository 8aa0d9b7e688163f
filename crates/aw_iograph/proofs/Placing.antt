-- Each occurrence of a rule has its place.
use Rattle.std.proofs.Common.{◌≡◌, ℕ, zero, suc, ◌+◌, ◌*◌, ◌-◌, ◌<◌, ◌≤◌, Bool, true, false, List, [], ◌∷◌, ◌++◌, map, length, replicate, Some, None}
use Rattle.std.proofs.Common.{slice_get, refl, sym, ap, ◌∙◌, subst, inl, inr, arith}
use Rattle.std.specs.Prelude.{if◌then◌else◌}
use Rattle.std.proofs.lemmas.Option.{same_Some, slice_get_within}
use Rattle.aw_list.specs.Members.{Member}
use Rattle.aw_list.proofs.Members.{never, member_split, member_unmap}
use Rattle.aw_term.specs.Trees.{Never}
use Rattle.aw_term.specs.Rules.{Term, Child, Rule, get, upto}
use Rattle.aw_term.specs.WellFormed.{leaves}
use Rattle.aw_term.proofs.Gets.{member_upto, get_member}
use Rattle.aw_iograph.specs.declared.occ.Occ.{Occ}
use Rattle.aw_iograph.specs.Occurrences.{inherited, given, pattern_entries, child_entries, entries, term_at, IsPlace, place_of}
use Rattle.aw_iograph.specs.Small.{HasFew}
use Rattle.aw_iograph.proofs.TextFlows.{Stands, argument, outcome, stands}

pattern_place : (ps : List Term) (n : ℕ) (o : Occ) → 0 < n → n + length ps ≤ 9 → Member (Some o) (pattern_entries n ps) → IsPlace o
pattern_place [] n o pos few m = never m
pattern_place (p ∷ ps) n o pos few m = elim (member_split (Some o) (map (λ v. Some (inherited 0 n)) (leaves p)) (pattern_entries (suc n) ps) m) [
  | inl a ↦ (let (v, w, e) = member_unmap (λ v. Some (inherited 0 n)) (Some o) (leaves p) a in
      let small : n ≤ 8 = omega arith in let none : 0 ≤ 8 = omega arith in
      subst IsPlace (sym (same_Some o (inherited 0 n) e)) (record { child = none; counted = pos; number = small }))
  | inr b ↦ (let next : suc n + length ps ≤ 9 = omega arith in let above : 0 < suc n = omega arith in pattern_place ps (suc n) o above next b)
]

no_copy : (n : ℕ) (o : Occ) → Member (Some o) (replicate n None) → Never
no_copy zero o m = m
no_copy (suc n) o (inl e) = absurd cc
no_copy (suc n) o (inr m) = no_copy n o m

child_place : (cs : List Child) (n : ℕ) (o : Occ) → n + length cs ≤ 9 → ((k : ℕ) (c : Child) → slice_get cs k ≡ Some c → c.outs ≤ 8) → Member (Some o) (child_entries n cs) → IsPlace o
child_place [] n o few outs m = never m
child_place (c ∷ cs) n o few outs m = elim (member_split (Some o) (map (λ l. Some (given n l)) (upto 1 c.outs)) (child_entries (suc n) cs) m) [
  | inl a ↦ (let (l, w, e) = member_unmap (λ l. Some (given n l)) (Some o) (upto 1 c.outs) a in
      let (i, lt, at) = member_upto l 1 c.outs w in
      let most : c.outs ≤ 8 = outs 0 c refl in
      let small : n ≤ 8 = omega arith in let pos : 0 < l = omega arith in let number : l ≤ 8 = omega arith in
      subst IsPlace (sym (same_Some o (given n l) e)) (record { child = small; counted = pos; number = number }))
  | inr b ↦ (let next : suc n + length cs ≤ 9 = omega arith in child_place cs (suc n) o next (λ k d e. outs (suc k) d e) b)
]

pub entry_place : (r : Rule) (v : ℕ) (o : Occ) → HasFew r → get None (entries r) v ≡ Some o → IsPlace o
entry_place r v o few e = elim (member_split (Some o) (pattern_entries 1 r.patterns) (replicate r.params None ++ child_entries 1 r.children) (get_member (entries r) v o e)) [
  | inl a ↦ pattern_place r.patterns 1 o (omega arith) (omega (arith, few.patterns)) a
  | inr b ↦ elim (member_split (Some o) (replicate r.params None) (child_entries 1 r.children) b) [
    | inl p ↦ never (no_copy r.params o p)
    | inr q ↦ child_place r.children 1 o (omega (arith, few.children)) few.outs q
  ]
]

pattern_value : (ps : List Term) (n : ℕ) (o : Occ) → Member (Some o) (pattern_entries n ps) → o.result ≡ false
pattern_value [] n o m = never m
pattern_value (p ∷ ps) n o m = elim (member_split (Some o) (map (λ v. Some (inherited 0 n)) (leaves p)) (pattern_entries (suc n) ps) m) [
  | inl a ↦ (let (v, w, e) = member_unmap (λ v. Some (inherited 0 n)) (Some o) (leaves p) a in ap (λ (x : Occ). x.result) (same_Some o (inherited 0 n) e))
  | inr b ↦ pattern_value ps (suc n) o b
]

child_value : (cs : List Child) (n : ℕ) (o : Occ) → 0 < n → Member (Some o) (child_entries n cs) → 0 < o.child
child_value [] n o pos m = never m
child_value (c ∷ cs) n o pos m = elim (member_split (Some o) (map (λ l. Some (given n l)) (upto 1 c.outs)) (child_entries (suc n) cs) m) [
  | inl a ↦ (let (l, w, e) = member_unmap (λ l. Some (given n l)) (Some o) (upto 1 c.outs) a in subst (λ (x : Occ). 0 < x.child) (sym (same_Some o (given n l) e)) pos)
  | inr b ↦ (let above : 0 < suc n = omega arith in child_value cs (suc n) o above b)
]

-- a variable that enters at a result enters at one of a child
pub entry_child : (r : Rule) (v : ℕ) (o : Occ) → get None (entries r) v ≡ Some o → o.result ≡ true → 0 < o.child
entry_child r v o e given' = elim (member_split (Some o) (pattern_entries 1 r.patterns) (replicate r.params None ++ child_entries 1 r.children) (get_member (entries r) v o e)) [
  | inl a ↦ (let not_so : true ≡ false = sym given' ∙ pattern_value r.patterns 1 o a in absurd cc)
  | inr b ↦ elim (member_split (Some o) (replicate r.params None) (child_entries 1 r.children) b) [
    | inl p ↦ never (no_copy r.params o p)
    | inr q ↦ child_value r.children 1 o (omega arith) q
  ]
]

standing_place : (r : Rule) (t : Term) (u : Occ) → HasFew r → Stands r t u → IsPlace u
standing_place r t u few (argument k i c g h) =
    let a : k < length r.children = slice_get_within r.children k c g in let b : i < length c.args = slice_get_within c.args i t h in
    record { child = omega (arith, few.children); counted = omega arith; number = omega (arith, few.args k c g) }
standing_place r t u few (outcome j h) =
    let b : j < length r.results = slice_get_within r.results j t h in
    record { child = omega arith; counted = omega arith; number = omega (arith, few.results) }

pub term_place : (r : Rule) (t : Term) (u : Occ) → HasFew r → term_at r u ≡ Some t → IsPlace u
term_place r t u few e = standing_place r t u few (stands r t u e)

half_below : (b : Bool) → (if b then 8 else 0) ≤ 8
half_below true = omega arith
half_below false = omega arith

pub place_below : (o : Occ) → IsPlace o → place_of o < 144
place_below o p = let h : (if o.result then 8 else 0) ≤ 8 = half_below o.result in
    let a = p.child in let b = p.counted in let c = p.number in omega arith

same_parts : (k l : ℕ) (b c : Bool) (i j : ℕ) → 0 < i → i ≤ 8 → 0 < j → j ≤ 8 → k * 16 + ((if b then 8 else 0) + (i - 1)) ≡ l * 16 + ((if c then 8 else 0) + (j - 1)) → (k ≡ l) × (b ≡ c) × (i ≡ j)
same_parts k l true true i j a p b q e = (omega arith, refl, omega arith)
same_parts k l false false i j a p b q e = (omega arith, refl, omega arith)
same_parts k l true false i j a p b q e = absurd (omega arith)
same_parts k l false true i j a p b q e = absurd (omega arith)

-- two occurrences of one place are one
pub place_one : (o u : Occ) → IsPlace o → IsPlace u → place_of o ≡ place_of u → o ≡ u
place_one o u p q e =
    let (a, b, c) = same_parts o.child u.child o.result u.result o.number u.number p.counted p.number q.counted q.number e in
    ap (λ (k : ℕ). record { child = k; result = o.result; number = o.number }) a
    ∙ ap (λ (x : Bool). record { child = u.child; result = x; number = o.number }) b
    ∙ ap (λ (n : ℕ). record { child = u.child; result = u.result; number = n }) c

pub number_place : (b : Bool) (i : ℕ) → 0 < i → i ≤ 8 → IsPlace (record { child = 0; result = b; number = i })
number_place b i pos few = record { child = omega arith; counted = pos; number = few }
