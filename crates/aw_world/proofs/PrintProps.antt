-- What a call has printed is a fact of the report before it and behind it.
use Rattle.std.proofs.Common.{◌≡◌, ℕ, ◌≤◌, arith, List, ◌++◌, length, take, ap, sym, ◌∙◌, Ok, Err}
use Rattle.std.specs.Prelude.{Result}
use Rattle.std.specs.Coded.{le_prop}
use Rattle.std.proofs.Math.Nat.{ℕ_set}
use Rattle.std.proofs.Props.{props}
use Rattle.std.proofs.lemmas.List.{length-append, length-take}
use mathlib.Core.HLevel.{is_prop→PathP, Unit-prop, Π_prop}
use mathlib.Core.List.{is_set}
use Rattle.aw_out.specs.declared.error.PrintFault.{PrintFault}
use Rattle.aw_out.specs.Report.{Bounded, printed, PrintsFront, Prints}

text_set : IsSet (List ℕ)
text_set = is_set ℕ_set

bounded_set : IsSet Bounded
bounded_set = hlevel (props, text_set)

length_taken : (n : ℕ) (text : List ℕ) → n ≤ length text → length (take n text) ≡ n
length_taken n text l = let h = length-take n text in omega (arith, l, h)

-- as much was printed as the report is longer
same_front : (text : List ℕ) (old new : Bounded) (a b : PrintsFront text old new) → a.0 ≡ b.0
same_front text old new a b =
    let e : old.text ++ take a.0 text ≡ old.text ++ take b.0 text = ap (λ (r : Bounded). r.text) (sym a.2 ∙ b.2) in
    let n = length-append old.text (take a.0 text) in
    let m = length-append old.text (take b.0 text) in
    let p = length_taken a.0 text a.1 in
    let q = length_taken b.0 text b.1 in
    let l = ap length e in
    omega (arith, n, m, p, q, l)

front_prop : (text : List ℕ) (old new : Bounded) → IsProp (PrintsFront text old new)
front_prop text old new = λ a b.
    let e = same_front text old new a b in
    λ i. (
      e i,
      is_prop→PathP (λ j. e j ≤ length text) (λ j. le_prop) a.1 b.1 i,
      is_prop→PathP (λ j. new ≡ printed old (take (e j) text))
          (λ j. bounded_set new (printed old (take (e j) text))) a.2 b.2 i,
    )

pub prints_prop : (text : List ℕ) (old new : Bounded) (r : Result Unit PrintFault) → IsProp (Prints text old new r)
prints_prop text old new (Ok u) = λ a b i. record {
  ok = bounded_set new (printed old text) a.ok b.ok i;
  too_large = Π_prop (λ e. le_prop) a.too_large b.too_large i;
  front = Unit-prop a.front b.front i;
}
prints_prop text old new (Err fault) = λ a b i. record {
  ok = Unit-prop a.ok b.ok i;
  too_large = Π_prop (λ e. le_prop) a.too_large b.too_large i;
  front = front_prop text old new a.front b.front i;
}
