-- Following equations from slot to slot.
use Rattle.std.proofs.Common.{◌≡◌, ℕ, zero, suc, ◌+◌, ◌-◌, ◌<◌, List, length, Option, Some, None, refl, ap, sym, ◌∙◌, subst, arith}
use Rattle.std.specs.Prelude.{slice_get}
use Rattle.std.proofs.lemmas.Option.{same_Some}
use Rattle.aw_list.proofs.Everyday.{get_within as name_at}
use Rattle.aw_term.specs.Trees.{Head}
use Rattle.aw_term.specs.Names.{Ref}
use Rattle.aw_store.specs.Equations.{Body, Same, Is, Map, find}
use Rattle.aw_store.specs.Chase.{Found, Missing, Round, chase_on, chase_in, chase}
use Rattle.aw_store.specs.ChaseView.{IsChasedTo, IsLookAt}
use Rattle.aw_store.specs.declared.facts.Chase.TheVariants as answer
use Rattle.aw_store.specs.declared.follow.Look.TheVariants as look

-- what a look has seen
seen_missing : (names : List Ref) (b : Option Body) → IsLookAt names b look.Missing → b ≡ None
seen_missing names None w = refl
seen_missing names (Some (Same r)) w = elim w [ ]
seen_missing names (Some (Is h parts)) w = elim w [ ]

seen_found : (names : List Ref) (b : Option Body) → IsLookAt names b look.Found → (h : Head) × (parts : List Ref) × (b ≡ Some (Is h parts))
seen_found names None w = elim w [ ]
seen_found names (Some (Same r)) w = elim w [ ]
seen_found names (Some (Is h parts)) w = (h, parts, refl)

seen_on : (names : List Ref) (b : Option Body) (next : ℕ) → IsLookAt names b (look.On next) → (r : Ref) × (b ≡ Some (Same r)) × (slice_get names next ≡ Some r)
seen_on names None next w = elim w [ ]
seen_on names (Some (Same r)) next w = (r, refl, w)
seen_on names (Some (Is h parts)) next w = elim w [ ]

pub chase_in-none : (n : ℕ) (k : Map) (r : Ref) → find k r ≡ None → chase_in n k r ≡ Missing r
chase_in-none zero k r e = ap (chase_on (λ s. Round) r) e
chase_in-none (suc n) k r e = ap (chase_on (chase_in n k) r) e

pub chase_in-is : (n : ℕ) (k : Map) (r : Ref) (h : Head) (parts : List Ref) → find k r ≡ Some (Is h parts) → chase_in n k r ≡ Found h parts
chase_in-is zero k r h parts e = ap (chase_on (λ s. Round) r) e
chase_in-is (suc n) k r h parts e = ap (chase_on (chase_in n k) r) e

-- So many equations were followed; the rest of the chase is the chase from the start.
pub record Chasing (names : List Ref) (k : Map) (slot i at : ℕ) : Type 0 where
  pub name : Ref
  pub named : slice_get names at ≡ Some name
  pub rest : (r : Ref) → slice_get names slot ≡ Some r → chase_in (length k - i) k name ≡ chase k r

pub chasing_start : (names : List Ref) (k : Map) (slot : ℕ) → slot < length names → Chasing names k slot 0 slot
chasing_start names k slot l =
    let (x, e) = name_at names slot l in
    record { name = x; named = e; rest = λ r f. ap (λ n. chase_in n k x) (let z : length k - 0 ≡ length k = omega arith in z) ∙ ap (chase k) (same_Some x r (sym e ∙ f)) }

pub chasing_on : (names : List Ref) (k : Map) (slot i at next : ℕ) (c : Chasing names k slot i at) → i < length k → IsLookAt names (find k c.name) (look.On next) → Chasing names k slot (i + 1) next
chasing_on names k slot i at next c l w =
    let (r', e, n) = seen_on names (find k c.name) next w in
    let more : length k - i ≡ suc (length k - (i + 1)) = omega arith in
    record {
      name = r';
      named = n;
      rest = λ r f. sym (ap (λ m. chase_in m k c.name) more ∙ ap (chase_on (chase_in (length k - (i + 1)) k) c.name) e) ∙ c.rest r f;
    }

pub chased_missing : (names : List Ref) (k : Map) (slot i at : ℕ) (c : Chasing names k slot i at) → IsLookAt names (find k c.name) look.Missing →
    (r : Ref) → slice_get names slot ≡ Some r → IsChasedTo k names slot (chase k r) (answer.Missing at)
chased_missing names k slot i at c w r f =
    subst (λ x. IsChasedTo k names slot x (answer.Missing at)) (sym (chase_in-none _ k c.name (seen_missing names _ w)) ∙ c.rest r f) c.named

pub chased_found : (names : List Ref) (k : Map) (slot i at : ℕ) (c : Chasing names k slot i at) → IsLookAt names (find k c.name) look.Found →
    (r : Ref) → slice_get names slot ≡ Some r → IsChasedTo k names slot (chase k r) (answer.Found at)
chased_found names k slot i at c w r f =
    let (h, parts, e) = seen_found names (find k c.name) w in
    subst (λ x. IsChasedTo k names slot x (answer.Found at)) (sym (chase_in-is _ k c.name h parts e) ∙ c.rest r f) (c.name, c.named, e)
