use Rattle.std.proofs.Common.{arith, ap, length}
use Rattle.aw_grammar.specs.GrammarOf.{grammar_of, words_of}
use Rattle.aw_base.specs.declared.node_reader.Front.{Front}
use Rattle.aw_base.proofs.ReadFronts.{first_front}
use Rattle.aw_base.proofs.node_reader.ReadName.begin.Goals as goal

pub returns-clause-read : goal.returns-clause-read
returns-clause-read c =
    let front : Front = record { end = c.part_end-end.result; sort = c.in-Some.sort } in
    rw (c.clear-2.ensures.items, c.in_ok-push.ensures.items, c.clear.ensures.items)
    (first_front (words_of c.args.g.now) (grammar_of c.args.g.now) c.args.self.now.text.items c.in-Some.case front (rw (← c.deref-2.ensures.value) c.in-Some.ensures))

pub returns-clause-stands : goal.returns-clause-stands
returns-clause-stands c =
    rw (c.clear-2.ensures.items, c.in_ok-push.ensures.items, c.clear.ensures.items)
    (record { named = rw (← c.deref-2.ensures.value) c.in-Some.ensures; all = omega arith; within = omega (arith, ap length c.deref.ensures.value) })
