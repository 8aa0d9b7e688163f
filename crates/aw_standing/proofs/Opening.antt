-- What is kept where a node comes, and where one was developed.
use Rattle.std.proofs.Common.{◌≡◌, ◌≢◌, ℕ, zero, suc, ◌<◌, ◌≤◌, ◌⊎◌, inl, inr, List, [], ◌∷◌, ◌++◌, length, map, Some, slice_get, refl, sym, ap, ◌∙◌, subst, arith, length-append}
use Rattle.std.specs.Prelude.{count_by, insert, nat_eq, not, ◌&&◌, All}
use Rattle.std.proofs.lemmas.List.Edits.{length-insert}
use Rattle.aw_term.specs.Names.{Ref}
use Rattle.aw_term.specs.Rules.{Grammar}
use Rattle.aw_choice.specs.declared.choice.Choice.{Choice}
use Rattle.aw_choice.specs.declared.choice.Choice.TheVariants.{Start, Develop}
use Rattle.aw_store.specs.Equations.{Map}
use Rattle.aw_term.specs.WellFormed.{takes_of}
use Rattle.aw_node_list.specs.declared.held.Held.{Held}
use Rattle.aw_node_list.specs.HeldView.{state_of}
use Rattle.aw_node_list.specs.InOrder.{done_at}
use Rattle.aw_work.specs.declared.block.Triple.{Triple}
use Rattle.aw_work.specs.Triples.{others_than}
use Rattle.aw_store.proofs.NameLemmas.{slice_get-last as get-last}
use Rattle.aw_standing.specs.declared.record.Mark.{Mark}
use Rattle.aw_standing.specs.declared.record.Record.{Record}
use Rattle.aw_standing.specs.Records.{AreRising, IsFit, IsOf, AreTold, WaitsAtEnd, open_rules, mark_rule}
use Rattle.aw_standing.specs.Due.{due_marks, due_record}
use Rattle.aw_standing.specs.Tested.{AreTested}
use Rattle.aw_standing.specs.KeptStates.{AreFit, AreKept}
use Rattle.aw_node_list.proofs.Numbers.{inserted_one, apart_inserted}
use Rattle.aw_standing.proofs.Places.{IsSetAt, StoodBefore, get-push, inserted_both}
use Rattle.aw_standing.proofs.DueLemmas.{due_more, due_inserted, same_others}
use Rattle.aw_standing.proofs.WaitEnds.{told_ends}
use Rattle.aw_standing.proofs.KeptLemmas.{WasWritten, written}

module _ (g : Grammar) (k : Map) (names : List Ref) (at : ℕ) (ns : List ℕ) (xs : List Record) (ts us : List Triple) (x y : Record)
    (test : AreTested g k names (length xs) x y ts us) (fit : IsFit g names y) where
  -- a number below is that of a record before
  before : (m : ℕ) (z : Record) → m < length xs → slice_get (xs ++ y ∷ []) m ≡ Some z → slice_get xs m ≡ Some z
  before m z l e = sym (get-push xs y m l) ∙ e

  new_is : (m : ℕ) (z : Record) → m ≡ length xs → slice_get (xs ++ y ∷ []) m ≡ Some z → z ≡ y
  new_is m z s e = let a : slice_get (xs ++ y ∷ []) (length xs) ≡ Some z = ap (slice_get (xs ++ y ∷ [])) (sym s) ∙ e in let b = get-last xs y in cc

  pub fits_opened : at ≤ length ns → AreFit g names ns xs ts → AreFit g names (insert ns at (length xs)) (xs ++ y ∷ []) us
  fits_opened within f = record {
    counted = omega (arith, f.counted, length-append xs (y ∷ []), length-insert ns at (length xs) within);
    apart = apart_inserted ns at (length xs) f.apart (λ j e. absurd (omega (arith, f.known j (length xs) e)));
    known = λ i m e. known_by m (inserted_one ns at (length xs) i m e);
    fit = λ i m z e w. fit_by m z w (inserted_one ns at (length xs) i m e);
    waiting = λ p.
        omega (
          arith,
          test.waiting p,
          f.waiting p,
          due_inserted p ns (xs ++ y ∷ []) at (length xs),
          due_more p ns xs (xs ++ y ∷ []) (λ i m e. get-push xs y m (f.known i m e)),
          ap (λ o. count_by p (due_record (length xs) o)) (get-last xs y),
        );
  }
    where
      known_by : (m : ℕ) → (m ≡ length xs) ⊎ ((j : ℕ) × (slice_get ns j ≡ Some m)) → m < length (xs ++ y ∷ [])
      known_by m (inl s) = omega (arith, s, length-append xs (y ∷ []))
      known_by m (inr (j, e)) = omega (arith, f.known j m e, length-append xs (y ∷ []))

      fit_by : (m : ℕ) (z : Record) → slice_get (xs ++ y ∷ []) m ≡ Some z → (m ≡ length xs) ⊎ ((j : ℕ) × (slice_get ns j ≡ Some m)) → IsFit g names z
      fit_by m z w (inl s) = subst (IsFit g names) (sym (new_is m z s w)) fit
      fit_by m z w (inr (j, e)) = f.fit j m z e (before m z (f.known j m e) w)

  of_tested : (h : Held) → IsOf g names h x → IsOf g names h y
  of_tested h o = record {
    sort = o.sort ∙ sym test.sort;
    slots = ap (λ v. map (slice_get names) v.items) test.slots ∙ o.slots;
    deep = test.deep ∙ o.deep;
    rules = test.rules ∙ o.rules ∙ ap (λ s. open_rules g s (state_of h.done)) (sym test.sort);
  }

  pub kept_opened : (hs : List Held) (late : List Ref) (h : Held) → at ≤ length ns → IsOf g names h x → AreKept g hs k names late ns xs ts →
      AreKept g (insert hs at h) k names late (insert ns at (length xs)) (xs ++ y ∷ []) us
  kept_opened hs late h within o f = record {
    fits = fits_opened within f.fits;
    beside = omega (arith, length-insert ns at (length xs) within, length-insert hs at h (omega (arith, within, f.beside)), f.beside);
    of_node = λ i m q z e u w. of_by m q z w (inserted_both ns hs at (length xs) h i m q f.beside e u);
    told = λ i m q z e u w. told_by m q z w (inserted_both ns hs at (length xs) h i m q f.beside e u);
    ends = λ i m j q z v e u w a. ends_by m j q z v w a (inserted_both ns hs at (length xs) h i m q f.beside e u);
  }
    where
      of_by : (m : ℕ) (q : Held) (z : Record) → slice_get (xs ++ y ∷ []) m ≡ Some z → StoodBefore ns hs (length xs) h m q → IsOf g names q z
      of_by m q z w (inl (s, t)) = subst (λ v. IsOf g names v z) (sym t) (subst (IsOf g names h) (sym (new_is m z s w)) (of_tested h o))
      of_by m q z w (inr (j, e, u)) = f.of_node j m q z e u (before m z (f.fits.known j m e) w)

      told_by : (m : ℕ) (q : Held) (z : Record) → slice_get (xs ++ y ∷ []) m ≡ Some z → StoodBefore ns hs (length xs) h m q → AreTold g k names late q z.marks.items
      told_by m q z w (inl (s, t)) =
          subst (λ v. AreTold g k names late v z.marks.items) (sym t)
          (subst (λ (v : Record). AreTold g k names late h v.marks.items) (sym (new_is m z s w)) (λ j v a b. test.told h o j v a))
      told_by m q z w (inr (j, e, u)) = f.told j m q z e u (before m z (f.fits.known j m e) w)

      ends_by : (m j : ℕ) (q : Held) (z : Record) (v : Mark) → slice_get (xs ++ y ∷ []) m ≡ Some z → slice_get z.marks.items j ≡ Some v → StoodBefore ns hs (length xs) h m q → WaitsAtEnd g k names q v
      ends_by m j q z v w a (inl (s, t)) =
          let is = new_is m z s w in
          subst (λ b. WaitsAtEnd g k names b v) (sym t) (told_ends g k names h v (test.told h o j v (ap (λ (r : Record). slice_get r.marks.items j) (sym is) ∙ a)))
      ends_by m j q z v w a (inr (i, e, u)) = f.ends i m j q z v e u (before m z (f.fits.known i m e) w) a

-- the same by the values that the program has
module _ (g : Grammar) (k : Map) (names : List Ref) (at n : ℕ) (ns : List ℕ) (xs ys : List Record) (ts us : List Triple) (x y : Record)
    (last : n ≡ length xs) (records : ys ≡ xs ++ y ∷ []) (test : AreTested g k names n x y ts us) (fit : IsFit g names y) (within : at ≤ length ns) where
  test_last : AreTested g k names (length xs) x y ts us
  test_last = subst (λ z. AreTested g k names z x y ts us) last test

  pub fits_open : AreFit g names ns xs ts → AreFit g names (insert ns at (length ns)) ys us
  fits_open f =
      subst (λ z. AreFit g names (insert ns at z) ys us) f.counted
      (subst (λ z. AreFit g names (insert ns at (length xs)) z us) (sym records) (fits_opened g k names at ns xs ts us x y test_last fit within f))

  pub kept_open : (hs : List Held) (late : List Ref) (h : Held) → IsOf g names h x → AreKept g hs k names late ns xs ts →
      AreKept g (insert hs at h) k names late (insert ns at (length ns)) ys us
  kept_open hs late h o f =
      subst (λ z. AreKept g (insert hs at h) k names late (insert ns at z) ys us) f.fits.counted
      (subst (λ z. AreKept g (insert hs at h) k names late (insert ns at (length xs)) z us) (sym records)
      (kept_opened g k names at ns xs ts us x y test_last fit hs late h within o f))

-- a node in a list in which one was developed
abbrev pub WasDone : Choice → ℕ → List Held → ℕ → Held → Type 0
WasDone c at hs i h = ((i ≡ at) × (was : Held) × (slice_get hs i ≡ Some was) × (h ≡ record was { done = Some c })) ⊎ ((i ≢ at) × (slice_get hs i ≡ Some h))

done_on : (c : Choice) (at : ℕ) (hs : List Held) (k : Held) (i : ℕ) (h : Held) → WasDone c at hs i h → WasDone c (suc at) (k ∷ hs) (suc i) h
done_on c at hs k i h (inl (s, was, e, f)) = inl (ap suc s, was, e, f)
done_on c at hs k i h (inr (d, e)) = inr ((λ s. d (omega (arith, s))), e)

get-done_at : (c : Choice) (at : ℕ) (hs : List Held) (i : ℕ) (h : Held) → slice_get (done_at c at hs) i ≡ Some h → WasDone c at hs i h
get-done_at c at [] i h e = absurd cc
get-done_at c zero (k ∷ hs) zero h e = inl (refl, k, refl, cc)
get-done_at c zero (k ∷ hs) (suc i) h e = inr ((λ s. absurd (omega (arith, s))), e)
get-done_at c (suc at) (k ∷ hs) zero h e = inr ((λ s. absurd (omega (arith, s))), e)
get-done_at c (suc at) (k ∷ hs) (suc i) h e = done_on c at hs k i h (get-done_at c at hs i h e)

length-done_at : (c : Choice) (at : ℕ) (hs : List Held) → length (done_at c at hs) ≡ length hs
length-done_at c at [] = refl
length-done_at c zero (k ∷ hs) = refl
length-done_at c (suc at) (k ∷ hs) = ap suc (length-done_at c at hs)

module _ (g : Grammar) (names : List Ref) (at n : ℕ) (ns : List ℕ) (xs ys : List Record) (ts : List Triple) (x y : Record)
    (here : slice_get ns at ≡ Some n) (old : slice_get xs n ≡ Some x) (set : IsSetAt xs ys n y)
    (marks : y.marks.items ≡ []) (slots : y.slots ≡ x.slots) (sort : y.sort ≡ x.sort) (deep : y.deep ≡ x.deep) where
  fit_closed : IsFit g names x → IsFit g names y
  fit_closed f = record {
    live = subst (λ v. All (λ s. s < length names) v.items) (sym slots) f.live;
    takes = ap (λ v. length v.items) slots ∙ f.takes ∙ ap (λ s. takes_of (slice_get g.sorts s)) (sym sort);
    rules = λ j m e. absurd (no_mark j m e);
    rising = subst (λ l. AreRising (map mark_rule l)) (sym marks) (λ i j a b l e d. absurd cc);
    stand = λ j m e. absurd (no_mark j m e);
  }
    where
      no_mark : (j : ℕ) (m : Mark) → slice_get y.marks.items j ≡ Some m → ⊥
      no_mark j m e = let a : slice_get y.marks.items j ≡ slice_get [] j = ap (λ l. slice_get l j) marks in absurd cc

  pub fits_closed : AreFit g names ns xs ts → AreFit g names ns ys (others_than n ts)
  fits_closed f = record {
    counted = omega (arith, f.counted, set.length);
    apart = f.apart;
    known = λ i m e. omega (arith, f.known i m e, set.length);
    fit = λ i m z e w. fit_by i m z e (written xs ys n y set m z w);
    waiting = λ p. same_others p n ts ns xs ys (f.waiting (λ t. not (nat_eq t.node n) && p t)) set.others
        (ap (λ o. count_by p (due_record n o)) set.here ∙ ap (λ l. count_by p (due_marks n l)) marks);
  }
    where
      fit_by : (i m : ℕ) (z : Record) → slice_get ns i ≡ Some m → WasWritten n y xs m z → IsFit g names z
      fit_by i m z e (inl (s, t)) = subst (IsFit g names) (sym t) (fit_closed (f.fit at n x here old))
      fit_by i m z e (inr (d, w)) = f.fit i m z e w

  pub kept_closed : (hs : List Held) (k : Map) (late : List Ref) (c : Choice) → AreKept g hs k names late ns xs ts → AreKept g (done_at c at hs) k names late ns ys (others_than n ts)
  kept_closed hs k late c f = record {
    fits = fits_closed f.fits;
    beside = f.beside ∙ sym (length-done_at c at hs);
    of_node = λ i m h z e u w. of_by i m h z e (get-done_at c at hs i h u) (written xs ys n y set m z w);
    told = λ i m h z e u w. told_by i m h z e (get-done_at c at hs i h u) (written xs ys n y set m z w);
    ends = λ i m j h z v e u w a. ends_by i m j h z v e (get-done_at c at hs i h u) (written xs ys n y set m z w) a;
  }
    where
      none_open : (c : Choice) (s : ℕ) → [] ≡ open_rules g s (state_of (Some c))
      none_open (Start sort case) s = refl
      none_open (Develop node rule args) s = refl

      number_here : (i m : ℕ) → slice_get ns i ≡ Some m → i ≡ at → m ≡ n
      number_here i m e s = let a : slice_get ns at ≡ Some m = ap (slice_get ns) (sym s) ∙ e in cc

      place_here : (i m : ℕ) → slice_get ns i ≡ Some m → m ≡ n → i ≡ at
      place_here i m e s = f.fits.apart i at n (e ∙ ap Some s) here

      of_by : (i m : ℕ) (h : Held) (z : Record) → slice_get ns i ≡ Some m → WasDone c at hs i h → WasWritten n y xs m z → IsOf g names h z
      of_by i m h z e (inr (d, u)) (inl (s, t)) = absurd (d (place_here i m e s))
      of_by i m h z e (inl (s, _, _, _)) (inr (d, w)) = absurd (d (number_here i m e s))
      of_by i m h z e (inr (_, u)) (inr (_, w)) = f.of_node i m h z e u w
      of_by i m h z e (inl (_, was, u, done)) (inl (s, t)) =
          subst (λ v. IsOf g names v z) (sym done) (subst (IsOf g names (record was { done = Some c })) (sym t) (of_done (f.of_node i n was x (e ∙ ap Some s) u old)))
        where
          of_done : IsOf g names was x → IsOf g names (record was { done = Some c }) y
          of_done o = record {
            sort = o.sort ∙ sym sort;
            slots = ap (λ v. map (slice_get names) v.items) slots ∙ o.slots;
            deep = deep ∙ o.deep;
            rules = ap (map mark_rule) marks ∙ none_open c y.sort;
          }

      told_by : (i m : ℕ) (h : Held) (z : Record) → slice_get ns i ≡ Some m → WasDone c at hs i h → WasWritten n y xs m z → AreTold g k names late h z.marks.items
      told_by i m h z e (inr (d, u)) (inl (s, t)) = absurd (d (place_here i m e s))
      told_by i m h z e (inl (s, _, _, _)) (inr (d, w)) = absurd (d (number_here i m e s))
      told_by i m h z e (inr (_, u)) (inr (_, w)) = f.told i m h z e u w
      told_by i m h z e (inl (_, was, u, done)) (inl (s, t)) = λ j v a b.
          let l : z.marks.items ≡ [] = ap (λ (q : Record). q.marks.items) t ∙ marks in
          let gone : slice_get z.marks.items j ≡ slice_get [] j = ap (λ q. slice_get q j) l in
          absurd cc

      ends_by : (i m j : ℕ) (h : Held) (z : Record) (v : Mark) → slice_get ns i ≡ Some m → WasDone c at hs i h → WasWritten n y xs m z → slice_get z.marks.items j ≡ Some v → WaitsAtEnd g k names h v
      ends_by i m j h z v e (inr (d, u)) (inl (s, t)) a = absurd (d (place_here i m e s))
      ends_by i m j h z v e (inl (s, _, _, _)) (inr (d, w)) a = absurd (d (number_here i m e s))
      ends_by i m j h z v e (inr (_, u)) (inr (_, w)) a = f.ends i m j h z v e u w a
      ends_by i m j h z v e (inl (_, was, u, done)) (inl (s, t)) a =
          let l : z.marks.items ≡ [] = ap (λ (q : Record). q.marks.items) t ∙ marks in
          let gone : slice_get z.marks.items j ≡ slice_get [] j = ap (λ q. slice_get q j) l in
          absurd cc
