use Rattle.std.proofs.Common.{◌≡◌, ℕ, List, subst, eq-eqb, rules}
use Rattle.aw_msg.specs.declared.message.Message.{Message}
use Rattle.aw_term.specs.Trees.{Never}
use Rattle.aw_book_drive.specs.Causes.{IsAlikeAt}
use Rattle.aw_book_drive.proofs.causes.cause_of_message.Goals as goal

pub returns-in-None : goal.returns-in-None
returns-in-None g c = λ v moves d.
    let here : c.args.message.now.to ≡ c.args.role = search rules in (
      eq-eqb c.args.message.now.to c.args.role here,
      subst (λ (ms : List Message). (k : ℕ) → IsAlikeAt ms c.args.message.now k → Never) c.messages.ensures (c.find_alike.ensures.none c.in-None.is),
    )
