use Rattle.std.specs.Prelude.{◌≡◌, ℕ, ◌+◌, ◌-◌, ◌≤◌, List, ◌++◌, take, drop, length}
use Rattle.std.proofs.Common.{◌∙◌, ap, arith, length-append, length-drop}
use Rattle.std.proofs.lemmas.List.{length-take-le}
use Rattle.aw_list.proofs.Everyday.{extended}
use Rattle.aw_journal.proofs.Reading.{piece_held, taken_more}
use Rattle.aw_journal.proofs.reads.take_held.Goals as goal

pub returns-clause-same : goal.returns-clause-same
returns-clause-same c file same is =
    let r = c.args.reader.now in
    let asked = r.asked.items in
    let at = c.args.at in
    let n = c.min-n.result in
    let from = at + c.len.result - r.start in
    let piece = take (from + n - from) (drop from c.deref.result.now) in
    let long_asked : c.len.result ≡ length asked = omega (arith, c.len.ensures, r.asked.ok.0) in
    let fits : from + n ≤ r.held = omega (arith, c.min-n.ensures, c.requires.held, c.requires.start, long_asked) in
    let count : from + n - from ≡ n = omega arith in
    let piece_is : piece ≡ take n (drop (at + length asked) file) =
    ap (λ (k : ℕ). take k (drop from c.deref.result.now)) count ∙ ap (λ (l : List ℕ). take n (drop from l)) c.deref.ensures.value
    ∙ piece_held r.ahead.items file r.held r.start from n (at + length asked) same fits (omega (arith, c.requires.start, long_asked)) in
    let long : length piece ≡ n = ap (λ (k : ℕ). length (take k (drop from c.deref.result.now))) count
    ∙ length-take-le n (drop from c.deref.result.now) (omega (
      arith,
      length-drop from c.deref.result.now,
      ap length c.deref.ensures.value,
      fits,
      c.requires.room.fits,
    )) in
    let all = taken_more file asked piece at (length asked) n is piece_is in
    let length_is : length asked + n ≡ length (asked ++ piece) = omega (arith, length-append asked piece, long) in
    extended c.extend_from_slice.result c.extend_from_slice.new.self.items (asked ++ piece) asked (λ (l : List ℕ). l ≡ take (length l) (drop at file)) c.extend_from_slice.ensures.items
    (all ∙ ap (λ (k : ℕ). take k (drop at file)) length_is)
