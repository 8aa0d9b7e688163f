use Rattle.std.proofs.Common.{◌≡◌, ◌-◌, ◌++◌, ◌∷◌, [], ◌∙◌, sym, ap, map, Ok, arith}
use Rattle.std.proofs.lemmas.Result.{err_from_is_err_and}
use Rattle.std.proofs.lemmas.List.{map_push}
use Rattle.aw_term.specs.Trees.{Made, Con, join}
use Rattle.aw_term.specs.Views.{ground_of}
use Rattle.aw_term.proofs.ViewLemmas.{ground_con}
use Rattle.aw_codec.specs.Reading.{◌>>=◌}
use Rattle.aw_codec.specs.Grounds.{in_turn, head, with_parts, ground}
use Rattle.aw_codec.specs.GroundHead.{head_of}
use Rattle.aw_codec.proofs.Turns.{goes_on, ends, is_done, fails_then, without_levels, without_symbols, ground_step}
use Rattle.aw_codec.proofs.grounds.+reading.Goals as goal
use Rattle.aw_codec.proofs.grounds.+reading.Goals.{ground_at-then-levels-eq0-via-then-levels-eq0, ground_at-then-levels-eq0-via-else-levels-eq0+then-allowed-eq0}

pub ground_at-returns-then-levels-eq0 : goal.ground_at-returns-then-levels-eq0
ground_at-returns-then-levels-eq0 t c =
    elim c.then-levels-eq0.branch [
      | ground_at-then-levels-eq0-via-then-levels-eq0 w ↦ without_levels c.no_term.result c.args.levels c.args.allowed c.args.bytes.now (omega arith) c.no_term.ensures
      | ground_at-then-levels-eq0-via-else-levels-eq0+then-allowed-eq0 w ↦ without_symbols c.no_term.result c.args.levels c.args.allowed c.args.bytes.now (omega arith) c.no_term.ensures
    ]

pub ground_at-returns-in_err-head : goal.ground_at-returns-in_err-head
ground_at-returns-in_err-head t c =
    let p = err_from_is_err_and c.from_residual.result c.from_residual.ensures.1 in
    rw (p.1, p.2, ground_step c.args.levels (c.args.levels - 1) c.args.allowed (c.args.allowed - 1) c.args.bytes.now (omega arith) (omega arith))
    (fails_then c.in_err-head.field-0.0 (head c.args.bytes.now) (λ h. with_parts (ground (c.args.levels - 1)) h.0 (c.args.allowed - 1) h.1) c.in_err-head.ensures)

pub ground_at-returns : goal.ground_at-returns
ground_at-returns t c =
    rw (ground_step c.args.levels (c.args.levels - 1) c.args.allowed (c.args.allowed - 1) c.args.bytes.now (omega arith) (omega arith), c.in_ok-head.ensures) c.with_parts.ensures

pub grounds_at-returns-in_err-ground : goal.grounds_at-returns-in_err-ground
grounds_at-returns-in_err-ground t c =
    let p = err_from_is_err_and c.from_residual.result c.from_residual.ensures.1 in
    rw (p.1, p.2) (ends c.in_err-ground.field-0.0 (ground c.args.levels) (map ground_of c.loop.grounds.items) c.args.count c.loop.counter c.loop.left
    c.loop.rest.now (in_turn (ground c.args.levels) c.args.count c.args.allowed c.args.bytes.now) c.loop-test.true c.in_err-ground.ensures c.loop.invariant)

pub grounds_at-loop-preserved : goal.grounds_at-loop-preserved
grounds_at-loop-preserved t c =
    let n = c.in_ok-ground.ground in
    let e : map ground_of c.push.new.self.items ≡ map ground_of c.loop.grounds.items ++ ground_of n ∷ [] = rw c.in_ok-push.ensures.items (map_push _ c.loop.grounds.items n) in
    rw e (goes_on (ground c.args.levels) (map ground_of c.loop.grounds.items) c.args.count c.loop.counter c.loop.left c.loop.rest.now (ground_of n)
    c.in_ok-ground.less c.in_ok-ground.behind.now (in_turn (ground c.args.levels) c.args.count c.args.allowed c.args.bytes.now) c.loop-test.true
    c.in_ok-ground.ensures c.loop.invariant)

pub grounds_at-returns : goal.grounds_at-returns
grounds_at-returns t c = rw c.from_vec.ensures (is_done (ground c.args.levels) (map ground_of c.loop.grounds.items) c.args.count c.loop.counter
    c.loop.left c.loop.rest.now (in_turn (ground c.args.levels) c.args.count c.args.allowed c.args.bytes.now) c.loop-test.false c.loop.invariant)

pub with_parts-returns-in_ok-parts-in-Con : goal.with_parts-returns-in_ok-parts-in-Con
with_parts-returns-in_ok-parts-in-Con t c =
    let parts = c.in_ok-parts-in-Con.parts in
    ap (λ h. with_parts (ground c.args.levels) (head_of h) c.args.allowed c.args.bytes.now) c.in-Con.is
    ∙ ap (λ r. r >>= λ ts. Ok ((Made (Con c.in-Con.con) (join ts.0.0), ts.0.1), ts.1)) c.in_ok-parts-in-Con.ensures
    ∙ ap (λ u. Ok ((u, c.in_ok-parts-in-Con.left), c.in_ok-parts-in-Con.rest.now)) (sym (ground_con c.in-Con.con parts))
