use Rattle.std.proofs.Common.{refl, sym, ap, ◌∙◌, arith, length}
use Rattle.aw_grammar.specs.declared.grammar.Grammar as declared
use Rattle.aw_grammar.specs.GrammarOf.{grammar_of}
use Rattle.aw_session.proofs.Refusals.{err-passed}
use Rattle.aw_courier.specs.declared.carrying.CarryFault.TheVariants as fault
use Rattle.aw_courier.proofs.MailLemmas.{few_roles, still-roles}
use Rattle.aw_courier.proofs.RoundLemmas.{carrying-none, carrying-more, carrying-quiet, carrying-broken, carrying-never, round-at}
use Rattle.aw_courier.proofs.carrying.carry_rounds.Goals as goal

pub returns-in_err-mails-clause-err : goal.returns-in_err-mails-clause-err
returns-in_err-mails-clause-err g c =
    err-passed _ fault.NoMemory _ c.from_residual.ensures.1 (carrying-never (grammar_of c.args.g.now.grammar) g.W.Wire.content g.W.Wire.faults c.args.rounds c.args.wire.now fault.NoMemory refl)

pub rounds-init : goal.rounds-init
rounds-init g c =
    let same = sym (c.len-roles.ensures ∙ ap (λ (d : declared.Grammar). length d.roles) c.grammar.ensures.value) in
    record {
      roles = c.in_ok-mails.ensures.size;
      carrying = carrying-none (grammar_of c.args.g.now.grammar) g.W.Wire.content g.W.Wire.faults g.W.Wire.failed_openings c.args.wire.now
          c.in_ok-mails.mails (c.in_ok-mails.ensures.shows (grammar_of c.args.g.now.grammar) same);
    }

pub overflow_cast-roles : goal.overflow_cast-roles
overflow_cast-roles g c =
    let same = c.len-roles.ensures ∙ ap (λ (d : declared.Grammar). length d.roles) c.grammar.ensures.value in
    let few = few_roles c.args.g.now.grammar in
    omega (arith, same, few)

pub round-requires-clause-few : goal.round-requires-clause-few
round-requires-clause-few g c =
    let same = c.len-roles.ensures ∙ ap (λ (d : declared.Grammar). length d.roles) c.grammar.ensures.value in
    let few = few_roles c.args.g.now.grammar in
    omega (arith, same, few)

pub returns-in_err-round-clause-err : goal.returns-in_err-round-clause-err
returns-in_err-round-clause-err g c =
    let G = grammar_of c.args.g.now.grammar in
    let same = sym (c.len-roles.ensures ∙ ap (λ (d : declared.Grammar). length d.roles) c.grammar.ensures.value) in
    let h = c.rounds.invariant.carrying in
    err-passed _ _ _ c.from_residual-in_err-round.ensures.1
    (carrying-broken G g.W.Wire.content g.W.Wire.faults g.W.Wire.failed_openings c.rounds.made c.args.rounds c.args.wire.now c.rounds.wire
    c.round.new.wire c.rounds.mails _ h (c.in_err-round.ensures.err G _ same h.shows) c.rounds-test.true)

pub returns-then-not-branch-clause-ok : goal.returns-then-not-branch-clause-ok
returns-then-not-branch-clause-ok g c =
    let G = grammar_of c.args.g.now.grammar in
    let same = sym (c.len-roles.ensures ∙ ap (λ (d : declared.Grammar). length d.roles) c.grammar.ensures.value) in
    let h = c.rounds.invariant.carrying in
    carrying-quiet G g.W.Wire.content g.W.Wire.faults g.W.Wire.failed_openings c.rounds.made c.args.rounds c.args.wire.now c.rounds.wire c.round.new.wire c.rounds.mails c.round.new.mails h
    (round-at G g.W.Wire.content g.W.Wire.faults g.W.Wire.failed_openings _ _ _ _ _ _ _ _ (sym same) c.if-not-branch.true (c.in_ok-round.ensures.ok G _ same h.shows)) c.rounds-test.true

pub rounds-preserved : goal.rounds-preserved
rounds-preserved g c =
    let G = grammar_of c.args.g.now.grammar in
    let same = sym (c.len-roles.ensures ∙ ap (λ (d : declared.Grammar). length d.roles) c.grammar.ensures.value) in
    let h = c.rounds.invariant.carrying in
    record {
      roles = still-roles _ c.rounds.mails c.round.new.mails c.rounds.invariant.roles c.in_ok-round.ensures.size;
      carrying = carrying-more G g.W.Wire.content g.W.Wire.faults g.W.Wire.failed_openings c.rounds.made _ c.args.wire.now c.rounds.wire c.round.new.wire c.rounds.mails c.round.new.mails h
          (round-at G g.W.Wire.content g.W.Wire.faults g.W.Wire.failed_openings _ _ _ _ _ _ _ _ (sym same) c.if-not-branch.false (c.in_ok-round.ensures.ok G _ same h.shows)) (omega arith);
    }
