use Rattle.std.proofs.Common.{◌≡◌, ◌*◌, ◌%◌, ◌^◌, ◌<◌, ◌∷◌, bit_and, sym, subst, w64, arith, rules}
use Rattle.std.specs.Int.{bit_not}
use Rattle.aw_grammar.specs.GrammarOf.{grammar_of}
use Rattle.aw_msg.specs.MessageView.{message_of}
use Rattle.aw_store.specs.EquationView.{equation_of}
use Rattle.aw_law_sites.specs.Telling.{tell}
use Rattle.aw_site.proofs.SentLists.{roles_of, told_next, told_all, push_map, left_less, first_role}
use Rattle.aw_site.proofs.sender.Sender.push_told.Goals as goal

pub telling-smaller : goal.telling-smaller
telling-smaller g c =
    let rest = c.telling.rest in
    let less = left_less c.telling.rest (omega arith) (search rules) in
    subst (λ k. bit_and rest (bit_not w64 (1 * 2 ^ k % 2 ^ 64)) < rest) (sym c.first_of-role.ensures.first) less

pub telling-preserved : goal.telling-preserved
telling-preserved g c =
    let rest = c.telling.rest in
    let roles = first_role c.telling.rest (omega arith) (search rules) in
    let first = subst (λ k. roles_of rest ≡ k ∷ roles_of (bit_and rest (bit_not w64 (1 * 2 ^ k % 2 ^ 64)))) (sym c.first_of-role.ensures.first) roles in
    λ s sends.
    let gr = grammar_of c.args.self.now.grammar.now in
    let e = equation_of c.args.e.now in
    told_next (tell gr s e) _ _ _ c.first_of-role.result _ _ first
    (push_map (message_of gr) _ _ _ (tell gr s e c.first_of-role.result) c.in_ok-push.ensures.items (c.in_ok-tell.ensures s sends)) (c.telling.invariant s sends)

pub returns : goal.returns
returns g c = λ s sends.
    told_all (tell (grammar_of c.args.self.now.grammar.now) s (equation_of c.args.e.now)) _ _ c.telling.rest c.telling-test.false (c.telling.invariant s sends)
