-- Rows that are joined over the steps of a rule.
use Rattle.std.proofs.Common.{◌≡◌, ℕ, zero, suc, ◌+◌, ◌*◌, ◌-◌, ◌/◌, ◌%◌, ◌<◌, ◌≤◌, Bool, true, false, List, [], ◌∷◌, map, length, get_or, Option, Some}
use Rattle.std.proofs.Common.{slice_get, refl, sym, ap, ◌∙◌, subst, inl, inr, arith}
use Rattle.std.specs.Prelude.{◌||◌}
use Rattle.std.proofs.lemmas.List.{length-map}
use Rattle.std.proofs.lemmas.Option.{same_Some, slice_get_within}
use Rattle.aw_list.specs.Members.{Member}
use Rattle.aw_list.proofs.Members.{member_map, member_unmap, got_map}
use Rattle.aw_term.specs.Views.{term_of}
use Rattle.aw_term.specs.declared.term.Expr.{Expr}
use Rattle.aw_grammar.specs.declared.rule.Child.{Child}
use Rattle.aw_grammar.specs.declared.rule.Rule.{Rule}
use Rattle.aw_grammar.specs.declared.rule.Sort.{Sort}
use Rattle.aw_grammar.specs.GrammarView.{rule_of}
use Rattle.aw_iograph.specs.declared.rows.Arc.{Arc}
use Rattle.aw_iograph.specs.declared.occ.Occ.{Occ}
use Rattle.aw_iograph.specs.declared.occ.Flow.{Flow}
use Rattle.aw_iograph.specs.declared.io.Io.{Io}
use Rattle.aw_iograph.specs.Graphs.{Plus}
use Rattle.aw_iograph.specs.Occurrences.{inherited, term_flows, IsPlace, place_of}
use Rattle.aw_iograph.specs.Pairs.{Has}
use Rattle.aw_iograph.specs.Arcs.{arc_of, call_arc, IsFlow, IsCallOf, IsMarkedCall, IsCall, IsOfChild, IsOfChildren, IsStep, IsGraphBy}
use Rattle.aw_iograph.specs.Rows.{IsOwn, ArrowOf, AreLed, IsJoined, Joins, HasEachWalk, HasOnlyWalks, bit_of, bit_value}
use Rattle.aw_iograph.proofs.StepArcs.{IsEarly, early_none, early_split, early_left, early_right, child_split, child_left, child_right}
use Rattle.aw_iograph.proofs.Joining.{IsAmong, joins_none, joins_both, joins_as, joins_next, joins_all, all_led}
use Rattle.aw_iograph.proofs.RuleGraphs.{walk_arcs, arcs_walk, circle_place, end_place}

pub got_at : {A : Type 0} (xs ys : List A) (n : ℕ) (d : A) → xs ≡ ys → n < length xs → slice_get ys n ≡ Some (get_or xs n d)
got_at {A = A} xs ys n d same lt = ap (λ zs. slice_get zs n) (sym same) ∙ here xs n lt
  where
    here : (zs : List A) (m : ℕ) → m < length zs → slice_get zs m ≡ Some (get_or zs m d)
    here [] m less = absurd (omega arith)
    here (z ∷ zs) zero less = refl
    here (z ∷ zs) (suc m) less = let below : m < length zs = omega arith in here zs m below

-- whether one or the other, where the first is known
pub or_true : (two one : Bool) → two ≡ true → two ≡ (two || one)
or_true true one e = refl
or_true false one e = absurd cc

pub or_false : (two one : Bool) → two ≡ false → one ≡ (two || one)
or_false true one e = absurd cc
or_false false one e = refl

-- an arc of a child is one of all children
pub child_in : (es : List (Option Occ)) (io : Io) (cs : List Child) (n : ℕ) (c : Child) → slice_get cs n ≡ Some c → (x : Arc) → IsOfChild es io (n + 1) c x → IsOfChildren es io cs (length cs) x
child_in es io cs n c here x q = let at : n + 1 ≡ suc n = omega arith in (n, c, slice_get_within cs n c here, here, subst (λ m. IsOfChild es io m c x) at q)

-- one more flow
pub joins_flow : (flows : List Flow) (n : ℕ) (f : Flow) (arc : Arc) (a b c : List ℕ) (x y z : List Bool) (one two both : Bool) →
    slice_get flows n ≡ Some f → arc ≡ arc_of f → both ≡ (two || one) → Joins (IsAmong (map arc_of flows) n) a b x y one → Joins (λ e. e ≡ arc) b c y
    z two → Joins (IsAmong (map arc_of flows) (n + 1)) a c x z both
joins_flow flows n f arc a b c x y z one two both here same e first then =
    joins_next (map arc_of flows) n arc a b c x y z one two both (got_map arc_of flows n f here ∙ ap Some (sym same)) e first then

-- all flows
pub joins_flows : (flows : List Flow) (n : ℕ) (a b : List ℕ) (x y : List Bool) (again : Bool) → length flows ≤ n →
    Joins (IsAmong (map arc_of flows) n) a b x y again → Joins (IsFlow flows) a b x y again
joins_flows flows n a b x y again le all =
    joins_as (λ e. Member e (map arc_of flows)) (IsFlow flows) a b x y again (λ e m. member_unmap arc_of e flows m)
    (λ e (f, m, same). subst (λ (w : Arc). Member w (map arc_of flows)) (sym same) (member_map arc_of f flows m))
    (joins_all (map arc_of flows) n a b x y again (subst (λ k. k ≤ n) (sym (length-map flows arc_of)) le) all)

-- the arc of a pair that is marked
pub joins_call : (marked : Bool) (k i l : ℕ) (arc : Arc) (a b : List ℕ) (x y : List Bool) (again : Bool) → marked ≡ true → arc ≡ call_arc k i l →
    Joins (λ e. e ≡ arc) a b x y again → Joins (IsMarkedCall marked k i l) a b x y again
joins_call marked k i l arc a b x y again on same all = joins_as (λ e. e ≡ arc) (IsMarkedCall marked k i l) a b x y again (λ e one. (on, one ∙ same)) (λ e q. q.1 ∙ sym same) all

-- before the first pair there is none
pub joins_no_pair : (io : Io) (s k : ℕ) (a : List ℕ) (x : List Bool) → Joins (IsEarly io s k 0) a a x x false
joins_no_pair io s k a x = joins_none (IsEarly io s k 0) a x (early_none io s k)

-- one more pair
pub joins_pair : (io : Io) (s k n : ℕ) (a b c : List ℕ) (x y z : List Bool) (one two both : Bool) → both ≡ (two || one) → Joins (IsEarly io s k n) a b
    x y one → Joins (IsCallOf io s k (n / 8 + 1) (n % 8 + 1)) b c y z two → Joins (IsEarly io s k (n + 1)) a c x z both
joins_pair io s k n a b c x y z one two both e first then =
    joins_both (IsEarly io s k n) (IsCallOf io s k (n / 8 + 1) (n % 8 + 1)) (IsEarly io s k (n + 1)) a b c x y z one two both e first then
    (early_split io s k n) (early_left io s k n) (early_right io s k n)

-- the relation has a pair just where it is marked
module _ (io : Io) (s : ℕ) (marks : List Bool) (here : (n : ℕ) → n < 64 → slice_get marks n ≡ slice_get io.marks.items (s * 64 + n)) where
  pub marked_has : (n : ℕ) (m : Bool) → n < 64 → slice_get marks n ≡ Some m → m ≡ true → Has io s (n / 8 + 1) (n % 8 + 1)
  marked_has n m lt got on =
      let at : s * 64 + n ≡ s * 64 + ((n / 8 + 1 - 1) * 8 + (n % 8 + 1 - 1)) = omega arith in record {
        inherited = record { counted = omega arith; few = omega arith };
        result = record { counted = omega arith; few = omega arith };
        marked = subst (λ p. slice_get io.marks.items p ≡ Some true) at (sym (here n lt) ∙ got ∙ ap Some on);
      }

  pub has_marked : (n : ℕ) (m : Bool) → n < 64 → slice_get marks n ≡ Some m → Has io s (n / 8 + 1) (n % 8 + 1) → m ≡ true
  has_marked n m lt got has =
      let at : s * 64 + ((n / 8 + 1 - 1) * 8 + (n % 8 + 1 - 1)) ≡ s * 64 + n = omega arith in
      same_Some m true (sym got ∙ here n lt ∙ subst (λ p. slice_get io.marks.items p ≡ Some true) at has.marked)

  -- one more pair
  pub joins_marked : (k n : ℕ) (m : Bool) (a b c : List ℕ) (x y z : List Bool) (one two both : Bool) → n < 64 → slice_get marks n ≡ Some m → both ≡ (two || one) →
      Joins (IsEarly io s k n) a b x y one → Joins (IsMarkedCall m k (n / 8 + 1) (n % 8 + 1)) b c y z two → Joins (IsEarly io s k (n + 1)) a c x z both
  joins_marked k n m a b c x y z one two both lt got e first then =
      joins_pair io s k n a b c x y z one two both e first
      (joins_as (IsMarkedCall m k (n / 8 + 1) (n % 8 + 1)) (IsCallOf io s k (n / 8 + 1) (n % 8 + 1)) b c y z two
      (λ w q. (marked_has n m lt got q.0, q.1)) (λ w q. (has_marked n m lt got q.0, q.1)) then)

  -- all pairs
  pub joins_marks : (k n : ℕ) (a b : List ℕ) (x y : List Bool) (again : Bool) → length marks ≤ n → Joins (IsEarly io s k n) a b x y again → Joins (IsCall io s k) a b x y again
  joins_marks k n a b x y again le all = joins_as (IsEarly io s k n) (IsCall io s k) a b x y again (λ e (i, l, p, q). (i, l, q)) early all
    where
      early : (e : Arc) → IsCall io s k e → IsEarly io s k n e
      early e (i, l, q) =
          let a' = q.0.inherited.few in let b' = q.0.result.few in
          let lt : (i - 1) * 8 + (l - 1) < 64 = omega arith in
          let in' : (i - 1) * 8 + (l - 1) < length marks = slice_get_within marks ((i - 1) * 8 + (l - 1)) true (here ((i - 1) * 8 + (l - 1)) lt ∙ q.0.marked) in
          (i, l, record { inherited = q.0.inherited; result = q.0.result; before = omega arith }, q)

-- one child
pub joins_child : (es : List (Option Occ)) (io : Io) (k : ℕ) (child : Child) (flows : List Flow) (a b c : List ℕ) (x y z : List Bool)
    (one two both : Bool) → flows ≡ term_flows es k false 1 (map term_of child.args) → both ≡ (two || one) →
    Joins (IsFlow flows) a b x y one → Joins (IsCall io child.sort k) b c y z two → Joins (IsOfChild es io k child) a c x z both
joins_child es io k child flows a b c x y z one two both same e first then =
    joins_both (IsFlow flows) (IsCall io child.sort k) (IsOfChild es io k child) a b c x y z one two both e first then
    (λ w r. elim r [ inl p ↦ inl (subst (λ (fs : List Flow). IsFlow fs w) (sym same) p) | inr q ↦ inr q ])
    (λ w p. inl (subst (λ (fs : List Flow). IsFlow fs w) same p))
    (λ w q. inr q)

-- before the first child there is none
pub joins_no_child : (es : List (Option Occ)) (io : Io) (cs : List Child) (a : List ℕ) (x : List Bool) → Joins (IsOfChildren es io cs 0) a a x x false
joins_no_child es io cs a x = joins_none (IsOfChildren es io cs 0) a x (λ e (k, c, lt, got, q). omega arith)

-- one more child
pub joins_children : (es : List (Option Occ)) (io : Io) (cs : List Child) (n : ℕ) (child : Child) (a b c : List ℕ) (x y z : List Bool)
    (one two both : Bool) → slice_get cs n ≡ Some child → both ≡ (two || one) →
    Joins (IsOfChildren es io cs n) a b x y one → Joins (IsOfChild es io (n + 1) child) b c y z two → Joins (IsOfChildren es io cs (n + 1)) a c x z both
joins_children es io cs n child a b c x y z one two both here e first then =
    joins_both (IsOfChildren es io cs n) (IsOfChild es io (n + 1) child) (IsOfChildren es io cs (n + 1)) a b c x y z one two both e first then
    (child_split es io cs n child here) (child_left es io cs n) (child_right es io cs n child here)

-- the children, and then the results
pub joins_steps : (es : List (Option Occ)) (io : Io) (cs : List Child) (results : List Expr) (flows : List Flow) (a b c : List ℕ) (x y z : List Bool)
    (one two both : Bool) → flows ≡ term_flows es 0 true 1 (map term_of results) → both ≡ (two || one) →
    Joins (IsOfChildren es io cs (length cs)) a b x y one → Joins (IsFlow flows) b c y z two → Joins (IsStep es io cs results) a c x z both
joins_steps es io cs results flows a b c x y z one two both same e first then =
    joins_both (IsOfChildren es io cs (length cs)) (IsFlow flows) (IsStep es io cs results) a b c x y z one two both e first then
    (λ w r. elim r [ inl p ↦ inl p | inr q ↦ inr (subst (λ (fs : List Flow). IsFlow fs w) (sym same) q) ])
    (λ w p. inl p)
    (λ w q. inr (subst (λ (fs : List Flow). IsFlow fs w) same q))

-- an inherited value has its bit, and a bit its inherited value
pub value_own : (k i : ℕ) → IsPlace (inherited k i) → IsOwn (place_of (inherited k i)) (bit_of k i)
value_own k i p = let a = p.child in let b = p.counted in let c = p.number in (omega arith, omega arith)

pub bit_place : (n : ℕ) → n < 72 → IsPlace (bit_value n)
bit_place n lt = record { child = omega arith; counted = omega arith; number = omega arith }

pub bit_same : (n : ℕ) → n ≡ bit_of (n / 8) (n % 8 + 1)
bit_same n = omega arith

-- rows that are joined over the steps of a rule have each walk from an inherited value
pub rows_there : (sorts : List Sort) (r : Rule) (io : Io) (P : Arc → Type 0) (rows : List ℕ) → IsGraphBy (rule_of sorts r) (Has io) P →
    ((a : Arc) → P a → IsJoined rows a) → HasEachWalk (rule_of sorts r) (Has io) rows
rows_there sorts r io P rows g joined k i u w =
    let p = circle_place (rule_of sorts r) (Has io) P g w in
    (p, end_place (rule_of sorts r) (Has io) P g w, all_led P rows joined (bit_of k i) (inl (value_own k i p)) (walk_arcs (rule_of sorts r) (Has io) P g w))

-- and rows that are led over them have no other
pub rows_only : (sorts : List Sort) (r : Rule) (io : Io) (P : Arc → Type 0) (rows : List ℕ) → IsGraphBy (rule_of sorts r) (Has io) P → AreLed P rows → HasOnlyWalks (rule_of sorts r) (Has io) rows
rows_only sorts r io P rows g led k i u p q on =
    arcs_walk (rule_of sorts r) (Has io) P g (inherited k i) u p q (subst (λ m. Plus (ArrowOf P) m (place_of u)) (sym (value_own k i p).1) (led (place_of u) (bit_of k i) on))
