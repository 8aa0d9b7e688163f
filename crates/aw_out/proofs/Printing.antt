-- Texts that are printed in parts.
use Rattle.std.proofs.Common.{◌≡◌, ℕ, ◌+◌, List, [], ◌++◌, length, take, Ok, Err, sym, ◌∙◌, ap, append_assoc, append-nil, length-append, arith}
use Rattle.std.proofs.Math.Seq.{take-append-add}
use Rattle.std.proofs.lemmas.List.{take-append-le}
use Rattle.std.specs.declared.result.Result.{Result}
use Rattle.aw_out.specs.declared.error.PrintFault.{PrintFault}
use Rattle.aw_out.specs.Report.{Bounded, printed, PrintsFront, Prints}

-- the one text and then the other is both
pub printed-append : (report : Bounded) (a b : List ℕ) → printed (printed report a) b ≡ printed report (a ++ b)
printed-append report a b = ap (λ (t : List ℕ). record report { text = t }) (append_assoc report.text a b)

-- printing nothing
pub printed-nil : (report : Bounded) → printed report [] ≡ report
printed-nil report = ap (λ (t : List ℕ). record report { text = t }) (append-nil report.text)

-- the front of the one text is the front of both
pub PrintsFront-first : (a b : List ℕ) (old new : Bounded) → PrintsFront a old new → PrintsFront (a ++ b) old new
PrintsFront-first a b old new front = (
  front.0,
  simp length-append (omega (arith, front.1)),
  rw (take-append-le front.0 a b front.1) (front.2),
)

-- the one text and then the front of the other
pub PrintsFront-second : (a b : List ℕ) (old new : Bounded) → PrintsFront b (printed old a) new → PrintsFront (a ++ b) old new
PrintsFront-second a b old new front = (
  length a + front.0,
  simp length-append (omega (arith, front.1)),
  rw take-append-add (front.2 ∙ printed-append old a (take front.0 b)),
)

-- The one text was printed, and then the other is.
pub Prints-second : (a b : List ℕ) (old mid new : Bounded) (result : Result Unit PrintFault) → Prints a old mid (Ok tt) → Prints b mid new result → Prints (a ++ b) old new result
Prints-second a b old mid new (Ok done) first second = let next = rw (first.ok) at second in record {
  ok = next.ok ∙ printed-append old a b;
  too_large = λ e. absurd (cc e);
  front = tt;
}
Prints-second a b old mid new (Err fault) first second = let next = rw (first.ok) at second in record {
  ok = tt;
  too_large = λ e. simp length-append (omega (arith, simp length-append at (next.too_large e)));
  front = PrintsFront-second a b old new next.front;
}

-- A call stopped within the one text, and the other one is not printed.
pub Prints-stopped : (a b : List ℕ) (old new : Bounded) (fault : PrintFault) → Prints a old new (Err fault) → Prints (a ++ b) old new (Err fault)
Prints-stopped a b old new fault stopped = record {
  ok = tt;
  too_large = λ e. simp length-append (omega (arith, stopped.too_large e));
  front = PrintsFront-first a b old new stopped.front;
}

-- nothing is printed
pub Prints-nothing : (report : Bounded) → Prints [] report report (Ok tt)
Prints-nothing report = record {
  ok = sym (printed-nil report);
  too_large = λ e. absurd (cc e);
  front = tt;
}
