use Rattle.std.proofs.Common.{◌-◌, ◌∙◌, refl, subst, arith}
use Rattle.aw_grammar.specs.declared.grammar.Grammar.{Grammar}
use Rattle.aw_grammar.proofs.Emptying.{some_symbols}
use Rattle.aw_sched.specs.ArgumentFronts.{IsFront}
use Rattle.aw_sched.specs.ByteArguments.{TakesArgument, TakesArguments}
use Rattle.aw_sched.proofs.ReadArguments.{at_close, none_yet, one_more, with_parts_read}
use Rattle.aw_sched.proofs.known.ArgumentReader.+argument.Goals as goal

pub argument-returns-in-Whole-clause-reads : goal.argument-returns-in-Whole-clause-reads
argument-returns-in-Whole-clause-reads t c =
    let self = c.args.self.now in
    let after = c.front.new.self in
    let front = c.in_ok-argument.ensures in
    subst (λ f. IsFront self.grammar.now.cons self.rest.now f after.rest.now) c.in-Whole.is front.front c.args.depth self.room after.room front.depth front.room

pub argument-returns-in_ok-arguments-in-Parts-clause-reads :
    goal.argument-returns-in_ok-arguments-in-Parts-clause-reads
argument-returns-in_ok-arguments-in-Parts-clause-reads t c =
    let self = c.args.self.now in
    let inside = c.front.new.self in
    let after = c.arguments.new.self in
    let found = c.arguments.new.found in
    let front = c.in_ok-argument.ensures in
    let opened = subst (λ f. IsFront self.grammar.now.cons self.rest.now f inside.rest.now) c.in-Parts.is front.front in
    with_parts_read self.grammar.now.cons c.args.depth self.room (c.args.depth - 1) inside.room after.room c.in-Parts.con c.in-Parts.arity found
    self.rest.now inside.rest.now after.rest.now c.with_parts.result
    (omega (arith, front.depth)) front.room opened.0
    (subst (λ (g : Grammar). TakesArguments g.cons 41 (c.args.depth - 1) inside.room inside.rest.now found after.room after.rest.now) front.grammar c.in_ok-arguments-in-Parts.ensures.reads)
    c.with_parts.ensures

pub arguments-reading-init : goal.arguments-reading-init
arguments-reading-init t c =
    let self = c.args.self.now in
    record { grammar = refl; read = none_yet self.grammar.now.cons c.args.depth self.room self.rest.now c.args.found.now c.requires.none }

pub arguments-reading-smaller : goal.arguments-reading-smaller
arguments-reading-smaller t c =
    let next = c.in_ok-argument.ensures.reads in
    omega (arith, next.symbols, some_symbols next.term)

pub arguments-reading-preserved : goal.arguments-reading-preserved
arguments-reading-preserved t c =
    let self = c.args.self.now in
    let now = c.reading.self in
    let after = c.argument.new.self in
    let x = c.in_ok-argument.argument in
    let found = c.in_ok-is_closed in
    record {
      grammar = c.argument.ensures.grammar ∙ c.reading.invariant.grammar;
      read = one_more self.grammar.now.cons c.args.depth self.room self.rest.now c.reading.found c.push.new.self x now.room after.room now.rest.now
          after.rest.now found.rest.now c.reading.invariant.read
          (subst (λ (g : Grammar). TakesArgument g.cons c.args.depth now.room now.rest.now x after.room after.rest.now) c.reading.invariant.grammar c.in_ok-argument.ensures.reads)
          (found.ensures.goes_on c.if-is_closed.false) c.in_ok-push.ensures.ok;
    }

pub arguments-returns-then-is_closed-clause-reads : goal.arguments-returns-then-is_closed-clause-reads
arguments-returns-then-is_closed-clause-reads t c =
    let self = c.args.self.now in
    let now = c.reading.self in
    let after = c.argument.new.self in
    let x = c.in_ok-argument.argument in
    let found = c.in_ok-is_closed in
    at_close self.grammar.now.cons c.args.close c.args.depth self.room self.rest.now c.reading.found c.push.new.self x now.room after.room
    now.rest.now after.rest.now found.rest.now c.reading.invariant.read
    (subst (λ (g : Grammar). TakesArgument g.cons c.args.depth now.room now.rest.now x after.room after.rest.now) c.reading.invariant.grammar c.in_ok-argument.ensures.reads)
    (found.ensures.closed c.if-is_closed.true) c.in_ok-push.ensures.ok
