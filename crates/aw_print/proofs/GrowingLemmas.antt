-- Printing in parts.
use Rattle.std.proofs.Common.{◌≡◌, ℕ, ◌+◌, ◌<◌, List, [], ◌++◌, length, refl, sym, ap, ◌∙◌, subst, arith, append_assoc, append-nil, length-append}
use Rattle.std.specs.Prelude.{Result, Ok, Err, OnOk, OnErr}
use Rattle.aw_out.specs.Report.{Bounded, printed, PrintsFront, Prints}
use Rattle.aw_out.specs.declared.error.PrintFault.{PrintFault}
use Rattle.aw_out.specs.declared.error.PrintFault.TheVariants.{TooLarge, NoMemory}
use Rattle.aw_out.proofs.Printing.{printed-append, printed-nil, PrintsFront-first, PrintsFront-second}
use Rattle.aw_print.specs.Drafts.{Draft, Whole, Front, so_far, then}
use Rattle.aw_print.specs.Growing.{Begins, Printing, Underway, Stopped, PutsTo, Puts, Ended, printing}
use Rattle.aw_print.proofs.DraftLemmas.{then-assoc, nothing-then, Begins-self, Begins-more, so_far-then, then-Begins, Grows, grows-to}

-- nothing was printed yet
pub starts : (all : ℕ → Draft) (p : Printing) → Underway all p p all
starts all p = record {
  taken = [];
  out = [];
  report = sym (printed-nil p.report);
  gathered = sym (append-nil p.gathered);
  rest = λ n. (n, subst (λ d. Begins d (all n)) (sym (nothing-then (all n))) (Begins-self (all n)));
}

-- more was printed
pub goes_on : (all left more : ℕ → Draft) (old mid new : Printing) → Underway all old mid left → Underway left mid new more → Underway all old new more
goes_on all left more old mid new a b = record {
  taken = a.taken ++ b.taken;
  out = a.out ++ b.out;
  report = b.report ∙ ap (λ r. printed r b.taken) a.report ∙ printed-append old.report a.taken b.taken;
  gathered =
      append_assoc a.taken b.taken new.gathered ∙ ap (λ t. a.taken ++ t) b.gathered
      ∙ sym (append_assoc a.taken mid.gathered b.out) ∙ ap (λ t. t ++ b.out) a.gathered ∙ append_assoc old.gathered a.out b.out;
  rest = λ n.
      let (m, p) = b.rest n in
      let (l, q) = a.rest m in
      (l, Begins-more _ _ _ (subst (λ d. Begins d (then (Whole a.out) (left m))) (sym (then-assoc (Whole a.out) (Whole b.out) (more n))) (then-Begins (Whole a.out) (Whole a.out) _ _ refl p)) q);
}

-- what was printed so far is the front of a draft
fronts : (all left : ℕ → Draft) (old new : Printing) (u : Underway all old new left) (n : ℕ) → (m : ℕ) × (rest : List ℕ) × (so_far (all m) ≡ u.out ++ (so_far (left n) ++ rest))
fronts all left old new u n = let (m, p) = u.rest n in let (rest, e) = go (left n) (all m) p in (m, rest, e)
  where
    go : (d e : Draft) → Begins (then (Whole u.out) d) e → (rest : List ℕ) × (so_far e ≡ u.out ++ (so_far d ++ rest))
    go (Whole d) (Whole e) p = ([], p ∙ ap (λ t. u.out ++ t) (sym (append-nil d)))
    go (Whole d) (Front e) p = elim p [ ]
    go (Front d) e p = (p.0, p.1 ∙ append_assoc u.out d p.0)

-- printing stopped in what was left
pub stops_later : (all left : ℕ → Draft) (old mid : Printing) (new : Bounded) (fault : PrintFault) → Underway all old mid left → Stopped left mid new fault → Stopped all old new fault
stops_later all left old mid new fault u s = record {
  too_large = λ e.
      let (n, l) = s.too_large e in
      let (m, rest, f) = fronts all left old mid u n in
      let limit : mid.report.limit ≡ old.report.limit = ap (λ (r : Bounded). r.limit) u.report in
      let text : mid.report.text ≡ old.report.text ++ u.taken = ap (λ (r : Bounded). r.text) u.report in
      let long = simp length-append at (ap length u.gathered) in
      let all_long = simp length-append at (ap length f) in
      (m, simp length-append (omega (arith, simp length-append at l, limit, simp length-append at (ap length text), long, all_long)));
  front =
      let n = s.front.0 in
      let (m, rest, f) = fronts all left old mid u n in
      let made : old.gathered ++ so_far (all m) ≡ (u.taken ++ (mid.gathered ++ so_far (left n))) ++ rest = whole_text old.gathered u.out u.taken
      mid.gathered (so_far (left n)) rest (so_far (all m)) f u.gathered in (
        m,
        subst (λ t. PrintsFront t old.report new) (sym made)
            (PrintsFront-first (u.taken ++ (mid.gathered ++ so_far (left n))) rest old.report new
            (taken_front old.report mid.report new u.taken (mid.gathered ++ so_far (left n)) u.report s.front.1)),
      );
}
  where
    whole_text : (og out taken g l rest am : List ℕ) → am ≡ out ++ (l ++ rest) → taken ++ g ≡ og ++ out → og ++ am ≡ (taken ++ (g ++ l)) ++ rest
    whole_text og out taken g l rest am f e =
        ap (λ t. og ++ t) f ∙ sym (append_assoc og out (l ++ rest)) ∙ ap (λ t. t ++ (l ++ rest)) (sym e) ∙ append_assoc taken g (l ++ rest)
        ∙ ap (λ t. taken ++ t) (sym (append_assoc g l rest)) ∙ sym (append_assoc taken (g ++ l) rest)

    taken_front : (old mid new : Bounded) (taken text : List ℕ) → mid ≡ printed old taken → PrintsFront text mid new → PrintsFront (taken ++ text) old new
    taken_front old mid new taken text e p = PrintsFront-second taken text old new (subst (λ r. PrintsFront text r new) e p)

-- bytes are gathered
pub adds : (b t u : List ℕ) (r : Bounded) (left : ℕ → Draft) → u ≡ t ++ b → Underway (λ n. then (Whole b) (left n)) (printing t r) (printing u r) left
adds b t u r left e = record {
  taken = [];
  out = b;
  report = sym (printed-nil r);
  gathered = e;
  rest = λ n. (n, Begins-self (then (Whole b) (left n)));
}

-- the first of two was printed
pub first_of : (one left : ℕ → Draft) (old new : Printing) → Grows one → Grows left → Underway one old new (λ n. Whole []) → Underway (λ n. then (one n) (left n)) old new left
first_of one left old new go gl u = record {
  taken = u.taken;
  out = u.out;
  report = u.report;
  gathered = u.gathered;
  rest = λ n.
      let (m, p) = u.rest 0 in (
        m + n,
        then-Begins (Whole u.out) (one (m + n)) (left n) (left (m + n))
            (Begins-more (Whole u.out) (one m) (one (m + n)) (subst (λ d. Begins d (one m)) (ap Whole (append-nil u.out)) p) (grows-to one go m (m + n) (omega arith)))
            (grows-to left gl n (m + n) (omega arith)),
      );
}

-- printing stopped in the first of two
pub first_stops : (one left : ℕ → Draft) (old : Printing) (new : Bounded) (fault : PrintFault) → Stopped one old new fault → Stopped (λ n. then (one n) (left n)) old new fault
first_stops one left old new fault s = record {
  too_large = λ e.
      let (n, l) = s.too_large e in
      let (rest, f) = so_far-then (one n) (left n) in
      (n, simp length-append (omega (arith, simp length-append at l, simp length-append at (ap length f))));
  front =
      let n = s.front.0 in
      let (rest, f) = so_far-then (one n) (left n) in (
        n,
        subst (λ t. PrintsFront t old.report new) (append_assoc old.gathered (so_far (one n)) rest ∙ ap (λ t. old.gathered ++ t) (sym f))
            (PrintsFront-first (old.gathered ++ so_far (one n)) rest old.report new s.front.1),
      );
}

-- memory was missing before anything more was added to the report
pub no_memory : (all : ℕ → Draft) (p : Printing) (new : Bounded) (fault : PrintFault) → new ≡ p.report → fault ≡ NoMemory → Stopped all p new fault
no_memory all p new fault e f = record {
  too_large = λ h. absurd cc;
  front = (0, (0, omega arith, e ∙ sym (printed-nil p.report)));
}

-- what was gathered went to the report
pub flushed : (left : ℕ → Draft) (t u taken : List ℕ) (r s : Bounded) → s ≡ printed r taken → taken ++ u ≡ t → Underway left (printing t r) (printing u s) left
flushed left t u taken r s e f = record {
  taken = taken;
  out = [];
  report = e;
  gathered = f ∙ sym (append-nil t);
  rest = λ n. (n, subst (λ d. Begins d (left n)) (sym (nothing-then (left n))) (Begins-self (left n)));
}

-- what was gathered was not taken
pub not_flushed : (left : ℕ → Draft) (t : List ℕ) (r s : Bounded) (fault : PrintFault) → s ≡ r → (fault ≡ TooLarge → r.limit < length r.text + length t) → Stopped left (printing t r) s fault
not_flushed left t r s fault e f = record {
  too_large = λ h. (0, simp length-append (omega (arith, f h)));
  front = (0, (0, omega arith, e ∙ sym (printed-nil r)));
}

-- what was gathered went to the report, or was not taken
pub gathers : (all left : ℕ → Draft) (old mid : Printing) (t : List ℕ) (s : Bounded) (result : Result Unit PrintFault) → Underway all old mid left →
    OnOk result ((taken : List ℕ) × (s ≡ printed mid.report taken) × (taken ++ t ≡ mid.gathered)) → OnErr result (s ≡ mid.report) →
    (result ≡ Err TooLarge → mid.report.limit < length mid.report.text + length mid.gathered) → PutsTo all old (printing t s) left result
gathers all left old mid t s (Ok done) u ok err long = let (taken, e, f) = ok in goes_on all left left old mid (printing t s) u (flushed left mid.gathered t taken mid.report s e f)
gathers all left old mid t s (Err fault) u ok err long = stops_later all left old mid s fault u (not_flushed left mid.gathered mid.report s fault err (λ e. long (ap Err e)))

-- the rest is printed behind what was printed
pub then_puts : (all left more : ℕ → Draft) (old mid new : Printing) (result : Result Unit PrintFault) → Underway all old mid left → PutsTo left mid new more result → PutsTo all old new more result
then_puts all left more old mid new (Ok done) u p = goes_on all left more old mid new u p
then_puts all left more old mid new (Err fault) u p = stops_later all left old mid new.report fault u p

-- the first of two is printed, or not
pub first_puts : (one left : ℕ → Draft) (old new : Printing) (result : Result Unit PrintFault) → Grows one → Grows left → Puts one old new result →
    PutsTo (λ n. then (one n) (left n)) old new left result
first_puts one left old new (Ok done) go gl u = first_of one left old new go gl u
first_puts one left old new (Err fault) go gl s = first_stops one left old new.report fault s

-- drafts that are the same at each depth
pub alike : (f g left : ℕ → Draft) (old new : Printing) (r : Result Unit PrintFault) → ((n : ℕ) → f n ≡ g n) → PutsTo f old new left r → PutsTo g old new left r
alike f g left old new r h p = let e : f ≡ g = λ i n. h n i in subst (λ d. PutsTo d old new left r) e p

-- an error is handed on
pub hands_on : (all left : ℕ → Draft) (old new : Printing) (fault : PrintFault) (r : Result Unit PrintFault) → r ≡ Err fault → Stopped all old new.report fault → PutsTo all old new left r
hands_on all left old new fault r e s = subst (PutsTo all old new left) (sym e) s

-- memory was missing behind what was printed
pub out_of_memory : (all left : ℕ → Draft) (old mid : Printing) (new : Bounded) → new ≡ mid.report → Underway all old mid left → Stopped all old new NoMemory
out_of_memory all left old mid new e u = stops_later all left old mid new NoMemory u (no_memory left mid new NoMemory e refl)

pub whole_is : (a : List ℕ) (d : Draft) → Begins (Whole a) d → d ≡ Whole a
whole_is a (Whole b) p = ap Whole p
whole_is a (Front b) p = elim p [ ]

-- what was gathered last is printed
pub finish : (all : ℕ → Draft) (r0 r1 r2 : Bounded) (t : List ℕ) (result : Result Unit PrintFault) → Underway all (printing [] r0) (printing t r1)
    (λ n. Whole []) → Prints t r1 r2 result → Ended all r0 r2 result
finish all r0 r1 r2 t (Ok done) u p =
    let (m, b) = u.rest 0 in
    (m, u.out, whole_is _ (all m) b ∙ ap Whole (append-nil u.out), p.ok ∙ ap (λ r. printed r t) u.report ∙ printed-append r0 u.taken t ∙ ap (printed r0) u.gathered)
finish all r0 r1 r2 t (Err fault) u p = stops_later all (λ n. Whole []) (printing [] r0) (printing t r1) r2 fault u (record {
  too_large = λ e. (0, simp append-nil (p.too_large (ap Err e)));
  front = (0, subst (λ x. PrintsFront x r1 r2) (sym (append-nil t)) p.front);
})
