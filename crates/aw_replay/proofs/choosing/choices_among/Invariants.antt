use Rattle.std.proofs.Common.{◌≡◌, take}
use Rattle.aw_replay.specs.Choosing.{choices_among}
use Rattle.aw_replay.proofs.choosing.choices_among.Given as goal

abbrev pub invariant-loop-event : goal.invariant-loop-event
invariant-loop-event l = l.choices ≡ choices_among (take l.event-index l.events)
