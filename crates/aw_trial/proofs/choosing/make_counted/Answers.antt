use Rattle.std.proofs.Common.{◌≡◌, ℕ, suc, ◌+◌, Bool, true, false, refl, ap, ◌∙◌, arith}
use Rattle.std.specs.Int.{from_bool}
use Rattle.aw_grammar.specs.GrammarOf.{grammar_of}
use Rattle.aw_trial.specs.Turns.{one_if, replies_taken}
use Rattle.aw_trial.specs.declared.tally.Tally.{Tally}
use Rattle.aw_trial.proofs.choosing.make_counted.Goals as goal

one_of : (b : Bool) → from_bool b ≡ one_if b
one_of true = refl
one_of false = refl

counted : (t : Tally) (n k m : ℕ) → n ≡ suc t.choices → k ≡ m → record t { choices = n; taken = t.taken + k } ≡ record t { choices = suc t.choices; taken = t.taken + m }
counted t n k m en ek = λ i. record t { choices = en i; taken = t.taken + ek i }

pub returns-clause-does : goal.returns-clause-does
returns-clause-does g c v es S =
    let T = c.in_ok-reply.ensures.steps v S in
    record {
      world = T.world;
      tally = counted c.args.tally.now _ _ _ (omega arith) (c.from.ensures ∙ (ap from_bool (c.is_taken.ensures ∙ ap replies_taken T.reply) ∙ one_of _));
    }
