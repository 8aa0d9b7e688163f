use Rattle.std.specs.Prelude.{◌≡◌, ℕ, ◌+◌, ◌-◌, List, length, take, drop}
use Rattle.std.proofs.Common.{◌∙◌, ap, arith, length-drop}
use Rattle.std.proofs.lemmas.List.{length-take-le}
use Rattle.aw_journal.specs.Standing.{has_record}
use Rattle.aw_journal.proofs.Reading.{piece_held}
use Rattle.aw_journal.proofs.Searches.{found_held}
use Rattle.aw_journal.proofs.searching.one_held.Goals as goal

pub returns-clause-found : goal.returns-clause-found
returns-clause-found c file h =
    let r = c.args.reader.now in
    let from = c.args.place - r.start in
    let n = r.held - from in
    let piece = take n (drop from c.deref.result.now) in
    let is : piece ≡ take n (drop c.args.place file) =
    ap (λ (l : List ℕ). take n (drop from l)) c.deref.ensures.value
    ∙ piece_held r.ahead.items file r.held r.start from n c.args.place h.same (omega (arith, c.requires.held, c.requires.start)) (omega (arith, c.requires.start)) in
    let long : n ≡ length piece = omega (
      arith,
      length-take-le n (drop from c.deref.result.now)
          (omega (arith, length-drop from c.deref.result.now, ap length c.deref.ensures.value, c.requires.room.fits)),
    ) in
    let found = found_held file piece c.args.place n c.memchr.result is long c.memchr.ensures in
    (rw c.in_ok-at.was at found).1

pub returns-in_err-at-clause-found : goal.returns-in_err-at-clause-found
returns-in_err-at-clause-found c file h =
    let r = c.args.reader.now in
    let from = c.args.place - r.start in
    let n = r.held - from in
    let piece = take n (drop from c.deref.result.now) in
    let is : piece ≡ take n (drop c.args.place file) =
    ap (λ (l : List ℕ). take n (drop from l)) c.deref.ensures.value
    ∙ piece_held r.ahead.items file r.held r.start from n c.args.place h.same (omega (arith, c.requires.held, c.requires.start)) (omega (arith, c.requires.start)) in
    let long : n ≡ length piece = omega (
      arith,
      length-take-le n (drop from c.deref.result.now)
          (omega (arith, length-drop from c.deref.result.now, ap length c.deref.ensures.value, c.requires.room.fits)),
    ) in
    let found = found_held file piece c.args.place n c.memchr.result is long c.memchr.ensures in
    let none = rw c.in_err-at.was at found in
    let there : c.args.place + n ≡ r.start + r.held = omega (arith, c.requires.held, c.requires.start) in
    rw c.from_residual.ensures (none ∙ ap (λ (k : ℕ). has_record (drop k file)) there)
