use Rattle.std.proofs.Common.{◌≡◌, ℕ, List, false, sym, ◌∙◌, subst, rules, arith}
use Rattle.std.proofs.lemmas.Bool.{false≢true}
use Rattle.std.proofs.lemmas.List.{take_all}
use Rattle.aw_list.specs.Members.{Member}
use Rattle.aw_book_drive.specs.Indexes.{IsAt}
use Rattle.aw_book_drive.proofs.Noting.{none-more}
use Rattle.aw_book_drive.proofs.index.find_among.Goals as goal

pub loop-place-preserved : goal.loop-place-preserved
loop-place-preserved c =
    let miss : c.is_at.result ≡ false = search rules in
    none-more (λ k. IsAt c.args.messages.now c.args.m.now k) c.args.numbers.now c.loop-place.place 0 c.loop-place-test.true c.loop-place.invariant
    (λ here. false≢true (sym miss ∙ c.is_at.ensures.1 here))

pub returns-clause-none : goal.returns-clause-none
returns-clause-none c = λ e k m p.
    c.loop-place.invariant k (subst (λ (xs : List ℕ). Member k xs) (sym (take_all c.loop-place.place c.args.numbers.now (omega (arith, c.loop-place-test.false)))) m) p
