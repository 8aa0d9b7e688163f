use Rattle.std.proofs.Common.{◌≡◌, sym, map, subst, arith}
use Rattle.std.specs.Prelude.{Err, Ok}
use Rattle.aw_term.specs.Views.{ground_of}
use Rattle.aw_grammar.specs.Written.{written_of}
use Rattle.aw_grammar.specs.GrammarOf.{words_of}
use Rattle.aw_sched.specs.ArgumentRoots.{FindsRoot}
use Rattle.aw_sched.specs.Grounds.{Finds, known_ground}
use Rattle.aw_sched.proofs.KnownGrounds.{error_is, no_root, root_known, root_symbols, root_unknown}
use Rattle.aw_sched.proofs.ground.+ground.Goals as goal

pub ground-returns-in_err-argument : goal.ground-returns-in_err-argument
ground-returns-in_err-argument t c =
    let cons = (words_of c.args.g.now).cons in
    let e = c.in_err-argument.field-0.0 in
    let failed : c.from_residual.result ≡ Err e = error_is c.from_residual.result e c.from_residual.ensures.1 in
    subst (λ r. Finds ground_of (known_ground cons (written_of c.args.term)) r) (sym failed) (no_root cons (written_of c.args.term) e c.in_err-argument.ensures)

pub ground-add_grounds-requires : goal.ground-add_grounds-requires
ground-add_grounds-requires t c =
    let cons = (words_of c.args.g.now).cons in
    let root = subst (λ r. FindsRoot cons (written_of c.args.term) (Ok r)) c.in-Parts.is c.in_ok-argument.ensures in
    (omega (arith, c.decreases, root_symbols cons (written_of c.args.term) c.in-Parts.con (map written_of c.in-Parts.parts) root.0), root.1)

pub ground-returns-in_err-add_grounds-in-Parts : goal.ground-returns-in_err-add_grounds-in-Parts
ground-returns-in_err-add_grounds-in-Parts t c =
    let cons = (words_of c.args.g.now).cons in
    let root = subst (λ r. FindsRoot cons (written_of c.args.term) (Ok r)) c.in-Parts.is c.in_ok-argument.ensures in
    let e = c.in_err-add_grounds-in-Parts.field-0.0 in
    let failed : c.from_residual-in_err-add_grounds-in-Parts.result ≡ Err e = error_is c.from_residual-in_err-add_grounds-in-Parts.result e c.from_residual-in_err-add_grounds-in-Parts.ensures.1 in
    subst (λ r. Finds ground_of (known_ground cons (written_of c.args.term)) r) (sym failed)
    (root_unknown cons (written_of c.args.term) c.in-Parts.con (map written_of c.in-Parts.parts) root.0 {X = Unit {0}}
    (λ _. map ground_of c.add_grounds.new.found) e c.in_err-add_grounds-in-Parts.ensures)

pub ground-returns-in_ok-add_grounds-in-Parts : goal.ground-returns-in_ok-add_grounds-in-Parts
ground-returns-in_ok-add_grounds-in-Parts t c =
    let cons = (words_of c.args.g.now).cons in
    let root = subst (λ r. FindsRoot cons (written_of c.args.term) (Ok r)) c.in-Parts.is c.in_ok-argument.ensures in
    root_known cons (written_of c.args.term) c.in-Parts.con (map written_of c.in-Parts.parts) root.0 c.add_grounds.new.found c.in_ok-add_grounds-in-Parts.ensures
