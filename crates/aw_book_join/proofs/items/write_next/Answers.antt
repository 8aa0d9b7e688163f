use Rattle.std.proofs.Common.{ℕ, List, subst}
use Rattle.aw_book_join.specs.Handing.{Hands}
use Rattle.aw_book_join.proofs.items.write_next.Goals as goal

pub returns-clause-hands : goal.returns-clause-hands
returns-clause-hands g c =
    subst (λ (t : List ℕ). Hands (g.K.Sink.written c.args.out.now) (g.K.Sink.written c.write_if_long.new.out) t c.write_if_long.new.text c.write_if_long.result)
    c.in_ok-push_item_of.ensures.text c.write_if_long.ensures.hands
