use Rattle.std.proofs.Common.{rules, ◌≡◌, nat_eq, true, false}
use Rattle.std.specs.Prelude.{nat_le}
use Rattle.std.proofs.lemmas.Result.{on_ok_weaker}
use Rattle.aw_world.specs.WorldView.{plain_of}
use Rattle.aw_trial.proofs.Steps.{same_thing, turn_starts, turn_chooses, turn_delivers}
use Rattle.aw_trial.proofs.turning.turn_on.Goals as goal

pub returns-then-what-eq0-clause-does : goal.returns-then-what-eq0-clause-does
returns-then-what-eq0-clause-does g c =
    let first : nat_eq c.args.what 0 ≡ true = search rules in
    on_ok_weaker c.start_case.result (λ does. same_thing g.W.Workspace c.args.world.now c.start_case.new.world c.args.tally.now c.start_case.new.tally
    _ _ (turn_starts (plain_of c.args.world.now) c.args.what first) does) c.start_case.ensures.does

pub returns-then-what-le3-clause-does : goal.returns-then-what-le3-clause-does
returns-then-what-le3-clause-does g c =
    let first : nat_eq c.args.what 0 ≡ false = search rules in
    let next : nat_le c.args.what 3 ≡ true = search rules in
    on_ok_weaker c.choose_some.result (λ does. same_thing g.W.Workspace c.args.world.now c.choose_some.new.world c.args.tally.now
    c.choose_some.new.tally _ _ (turn_chooses (plain_of c.args.world.now) c.args.what first next) does) c.choose_some.ensures.does

pub returns-else-what-le3-clause-does : goal.returns-else-what-le3-clause-does
returns-else-what-le3-clause-does g c =
    let first : nat_eq c.args.what 0 ≡ false = search rules in
    let next : nat_le c.args.what 3 ≡ false = search rules in
    on_ok_weaker c.deliver_some.result (λ does. same_thing g.W.Workspace c.args.world.now c.deliver_some.new.world c.args.tally.now
    c.deliver_some.new.tally _ _ (turn_delivers (plain_of c.args.world.now) c.args.what first next) does) c.deliver_some.ensures.does
