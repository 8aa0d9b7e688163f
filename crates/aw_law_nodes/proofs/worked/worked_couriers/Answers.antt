use Rattle.std.proofs.Common.{[], ◌∷◌, refl, arith}
use Rattle.aw_law_nodes.specs.Worked.{CourierIsQuiet}
use Rattle.aw_law_nodes.proofs.worked.worked_couriers.Goals as goal

is_quiet : CourierIsQuiet
is_quiet = (
  record {
    each = (refl, tt);
    one = refl;
    turns = (
      refl,
      ((omega arith, omega arith), ((omega arith, omega arith), (tt, tt))),
      (refl, ((omega arith, omega arith), ((omega arith, omega arith), (tt, tt))), (refl, (tt, tt), (refl, (tt, tt), tt))),
    );
    moving = (omega arith, tt);
    still = refl;
  },
  (([], refl), (([], refl), (([], refl), (([], refl), tt)))),
)

pub returns-clause-quiet : goal.returns-clause-quiet
returns-clause-quiet c = is_quiet

pub returns-clause-spent : goal.returns-clause-spent
returns-clause-spent c =
    let t = is_quiet.0.turns in
    record { each = (refl, tt); turns = (t.0, t.1, (t.2.0, t.2.1, tt)); moving = (omega arith, tt) }

pub returns-clause-breaks_off : goal.returns-clause-breaks_off
returns-clause-breaks_off c = record { each = tt; begun = (1 ∷ [], refl); turns = tt; moving = tt; broken = (([], refl), tt) }

pub returns-clause-late : goal.returns-clause-late
returns-clause-late c = (is_quiet.0, (([], refl), (([], refl), (([], refl), (([], refl), tt)))), (refl, (refl, (refl, (refl, tt)))), refl)

pub returns-clause-bound : goal.returns-clause-bound
returns-clause-bound c = (
  record {
    each = (refl, (refl, tt));
    one = refl;
    turns = (refl, (tt, tt), (refl, ((omega arith, omega arith), (tt, tt)), (refl, ((omega arith, omega arith), (tt, tt)), (refl, (tt, tt), (refl, (tt, tt), (refl, (tt, tt), tt))))));
    moving = (omega arith, (omega arith, tt));
    still = refl;
  },
  (([], refl), (([], refl), (([], refl), (([], refl), (([], refl), (([], refl), tt)))))),
  refl,
  refl,
)
