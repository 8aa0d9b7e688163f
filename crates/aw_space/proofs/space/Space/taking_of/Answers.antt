use Rattle.std.proofs.Common.{◌∙◌}
use Rattle.aw_space.proofs.space.Space.taking_of.Goals as goal

pub returns-in-Ok-clause-all : goal.returns-in-Ok-clause-all
returns-in-Ok-clause-all g c = record {
  told = c.in-Ok.ensures.told;
  ready = c.in_ok-own.ensures.ready;
  sure = c.in_ok-own.ensures.sure;
  one_more = c.in-Ok.ensures.place;
}

pub returns-in-Ok-clause-still : goal.returns-in-Ok-clause-still
returns-in-Ok-clause-still g c =
    let s = c.ready_own.ensures.still in
    record { grammar = s.grammar; role = s.role; nodes = s.nodes; choices = c.copies_of.ensures.items ∙ s.choices; equations = s.equations; names = s.names }

pub returns-in-Err-clause-still : goal.returns-in-Err-clause-still
returns-in-Err-clause-still g c =
    let s = c.ready_own.ensures.still in
    record { grammar = s.grammar; role = s.role; nodes = s.nodes; choices = c.copies_of.ensures.items ∙ s.choices; equations = s.equations; names = s.names }
