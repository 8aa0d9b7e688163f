use Rattle.std.proofs.Common.{arith, subst, sym, ◌+◌}
use Rattle.aw_check_text.specs.Telling.{TellsFirst}
use Rattle.aw_grammar.specs.GrammarOf.{grammar_of, words_of}
use Rattle.aw_check_text.proofs.Findings.{tells_more, tells_all}
use Rattle.aw_check_text.proofs.roles.roles_text.Goals as goal

pub loop-role-preserved : goal.loop-role-preserved
loop-role-preserved c =
    subst (TellsFirst c.args.f.now.offers c.args.declared.now (words_of c.args.g.now) (grammar_of c.args.g.now) (c.loop-role.role + 1) c.push_role.new.text) (sym c.both-joined.ensures)
    (tells_more c.args.f.now.offers c.args.declared.now (words_of c.args.g.now) (grammar_of c.args.g.now) c.loop-role.role c.loop-role.text
    c.push_role.new.text c.loop-role.joined c.in_ok-yes.yes c.loop-role.invariant c.in_ok-yes.ensures)

pub returns : goal.returns
returns c =
    tells_all c.args.f.now.offers c.args.declared.now (words_of c.args.g.now) (grammar_of c.args.g.now) c.loop-role.role c.loop-role.text
    c.push_joined.new.text c.loop-role.joined (omega arith) c.in_ok-push_joined.ensures c.loop-role.invariant
