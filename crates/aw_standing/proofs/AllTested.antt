-- One rule after the other of a record is tested.
use Rattle.std.proofs.Common.{◌≡◌, ℕ, ◌+◌, ◌<◌, ◌≤◌, inl, inr, Bool, List, length, map, Some, slice_get, refl, sym, ap, ◌∙◌, subst, arith}
use Rattle.std.specs.Prelude.{count_by}
use Rattle.std.proofs.lemmas.Option.{slice_get_within}
use Rattle.aw_term.specs.Names.{Ref}
use Rattle.aw_term.specs.Rules.{Grammar}
use Rattle.aw_store.specs.Equations.{Map}
use Rattle.aw_node_list.specs.declared.held.Held.{Held}
use Rattle.aw_node_list.specs.HeldView.{state_of}
use Rattle.aw_work.specs.declared.block.Triple.{Triple}
use Rattle.aw_standing.specs.declared.record.Mark.{Mark}
use Rattle.aw_standing.specs.declared.record.Record.{Record}
use Rattle.aw_standing.specs.Records.{IsFit, IsOf, IsTold, mark_rule, open_rules}
use Rattle.aw_standing.specs.Due.{due_of, due_marks}
use Rattle.aw_standing.specs.Tested.{IsTested, IsFresh, AreTested}
use Rattle.aw_standing.proofs.DueLemmas.{marks_stand, positive_at}
use Rattle.aw_standing.proofs.KeptLemmas.{Stood, get-stand_at, rules-stand_at, length-stand_at, fit_set}

-- the first i marks of a record say how their rules stand, and the others wait for nothing
pub record TestedTo (g : Grammar) (k : Map) (names : List Ref) (n i : ℕ) (old new : Record) (ts us : List Triple) : Type 0 where
  pub fit : IsFit g names new
  pub told : (h : Held) → IsOf g names h old → (j : ℕ) (m : Mark) → j < i → slice_get new.marks.items j ≡ Some m → IsTold g k names h m
  pub rest : (j : ℕ) (m : Mark) → i ≤ j → slice_get new.marks.items j ≡ Some m → (p : Triple → Bool) → count_by p (due_of n m.rule m.stands) ≡ 0
  pub rules : map mark_rule new.marks.items ≡ map mark_rule old.marks.items
  pub slots : new.slots ≡ old.slots
  pub sort : new.sort ≡ old.sort
  pub deep : new.deep ≡ old.deep
  pub waiting : (p : Triple → Bool) → count_by p us ≡ count_by p (due_marks n new.marks.items) + count_by p ts
  pub count : length new.marks.items ≡ length old.marks.items

module _ (g : Grammar) (k : Map) (names : List Ref) (n : ℕ) (old : Record) (ts : List Triple) where
  pub tested_none : IsFit g names old → IsFresh old → TestedTo g k names n 0 old old ts ts
  tested_none f fresh = record {
    fit = f;
    told = λ h o j m l e. absurd (omega (arith, l));
    rest = λ j m l e p. omega (arith, positive_at p n old.marks.items j m e, ap (count_by p) (fresh n));
    rules = refl;
    slots = refl;
    sort = refl;
    deep = refl;
    waiting = λ p. omega (arith, ap (count_by p) (fresh n));
    count = refl;
  }

  of_old : (h : Held) (x : Record) → map mark_rule x.marks.items ≡ map mark_rule old.marks.items → x.slots ≡ old.slots → x.sort ≡ old.sort → x.deep ≡ old.deep → IsOf g names h old → IsOf g names h x
  of_old h x rules slots sort deep o = record {
    sort = o.sort ∙ sym sort;
    slots = ap (λ v. map (slice_get names) v.items) slots ∙ o.slots;
    deep = deep ∙ o.deep;
    rules = rules ∙ o.rules ∙ ap (λ s. open_rules g s (state_of h.done)) (sym sort);
  }

  pub tested_more : (i : ℕ) (x y : Record) (us vs : List Triple) (m : Mark) → slice_get x.marks.items i ≡ Some m → IsTested g k names n i m x y us vs →
      TestedTo g k names n i old x ts us → TestedTo g k names n (i + 1) old y ts vs
  tested_more i x y us vs m mark test t = record {
    fit = fit_set g names n i m test.stands x y us vs mark test.live test.set t.fit;
    told = λ h o j z l e. told_by h o j z l (stood j z e);
    rest = λ j z l e. rest_by j z l (stood j z e);
    rules = ap (map mark_rule) test.set.marks ∙ rules-stand_at test.stands i x.marks.items ∙ t.rules;
    slots = test.set.slots ∙ t.slots;
    sort = test.set.sort ∙ t.sort;
    deep = test.set.deep ∙ t.deep;
    waiting = λ p.
        omega (arith, test.set.waiting p, t.waiting p, marks_stand p n test.stands i x.marks.items m mark, t.rest i m (omega arith) mark p, ap (λ l. count_by p (due_marks n l)) test.set.marks);
    count = ap length test.set.marks ∙ length-stand_at test.stands i x.marks.items ∙ t.count;
  }
    where
      stood : (j : ℕ) (z : Mark) → slice_get y.marks.items j ≡ Some z → Stood test.stands i x.marks.items m j z
      stood j z e = get-stand_at test.stands i x.marks.items m j z mark (ap (λ l. slice_get l j) (sym test.set.marks) ∙ e)

      told_by : (h : Held) → IsOf g names h old → (j : ℕ) (z : Mark) → j < i + 1 → Stood test.stands i x.marks.items m j z → IsTold g k names h z
      told_by h o j z l (inl (a, b)) = subst (IsTold g k names h) (sym b) (test.told h (of_old h x t.rules t.slots t.sort t.deep o))
      told_by h o j z l (inr (d, e)) = t.told h o j z (omega (arith, l, d)) e

      rest_by : (j : ℕ) (z : Mark) → i + 1 ≤ j → Stood test.stands i x.marks.items m j z → (p : Triple → Bool) → count_by p (due_of n z.rule z.stands) ≡ 0
      rest_by j z l (inl (a, b)) p = absurd (omega (arith, l, a))
      rest_by j z l (inr (d, e)) p = t.rest j z (omega (arith, l)) e p

  pub tested_all : (i : ℕ) (y : Record) (us : List Triple) → length y.marks.items ≤ i → TestedTo g k names n i old y ts us → AreTested g k names n old y ts us
  tested_all i y us l t = record {
    told = λ h o j m e. t.told h o j m (omega (arith, l, slice_get_within y.marks.items j m e)) e;
    rules = t.rules;
    slots = t.slots;
    sort = t.sort;
    deep = t.deep;
    waiting = t.waiting;
  }
