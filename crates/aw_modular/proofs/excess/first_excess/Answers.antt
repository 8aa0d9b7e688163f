use Rattle.std.proofs.Common.{◌<◌, arith, sym, ◌∙◌}
use Rattle.std.proofs.lemmas.Bool.{false≢true}
use Rattle.aw_iograph.specs.Pairs.{mark_of}
use Rattle.aw_modular.specs.Exceeding.{IsLoose}
use Rattle.aw_modular.proofs.Excesses.{here_least, not_here, loose_numbers, loose_within}
use Rattle.aw_modular.proofs.excess.first_excess.Goals as goal

pub loop-place-init : goal.loop-place-init
loop-place-init c t loose lt = absurd (omega (arith, lt))

pub loop-place-preserved : goal.loop-place-preserved
loop-place-preserved c =
    let P = IsLoose c.args.part.now c.args.all.now c.args.found.now in
    let pair = c.pair_at-pair in
    not_here P (loose_numbers c.args.part.now c.args.all.now c.args.found.now) c.loop-place.place c.loop-place.invariant pair.result pair.ensures.place pair.ensures.inherited pair.ensures.result
    (λ loose. absurd (false≢true (sym c.if-is_loose.false ∙ c.is_loose.ensures.1 loose)))

pub returns-then-is_loose : goal.returns-then-is_loose
returns-then-is_loose c =
    let P = IsLoose c.args.part.now c.args.all.now c.args.found.now in
    let pair = c.pair_at-pair in
    here_least P (loose_numbers c.args.part.now c.args.all.now c.args.found.now) c.loop-place.place c.loop-place.invariant pair.result
    pair.ensures.place pair.ensures.inherited pair.ensures.result (c.is_loose.ensures.0 c.if-is_loose.true)

pub returns : goal.returns
returns c t loose =
    let lt = loose_within c.args.part.now c.args.all.now c.args.found.now t loose in
    let within : mark_of t.sort t.i t.j < c.loop-place.place = omega (arith, lt, c.requires, c.len-place-end.ensures, c.loop-place-test.false) in
    c.loop-place.invariant t loose within
