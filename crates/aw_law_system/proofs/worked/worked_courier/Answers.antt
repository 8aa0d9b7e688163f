use Rattle.std.proofs.Common.{refl, inl, inr, arith}
use Rattle.aw_law_system.proofs.worked.worked_courier.Goals as goal

pub returns-clause-quiet : goal.returns-clause-quiet
returns-clause-quiet c = (
  record {
    each = (refl, tt);
    one = refl;
    turns = (
      refl,
      ((omega arith, omega arith), ((omega arith, omega arith), (tt, tt))),
      (refl, ((omega arith, omega arith), ((omega arith, omega arith), (tt, tt))), (refl, (tt, tt), (refl, (tt, tt), tt))),
    );
    moving = (omega arith, tt);
    still = refl;
  },
  (
    (omega arith, tt),
    (
      (omega arith, tt),
      (
        (omega arith, tt),
        (
          (omega arith, tt),
          (
            (omega arith, inl refl),
            (
              (omega arith, tt),
              (
                (omega arith, omega arith, omega arith),
                (
                  (omega arith, inl refl),
                  (
                    (omega arith, inr (inl refl)),
                    (
                      (omega arith, omega arith, omega arith),
                      (
                        (omega arith, tt),
                        (
                          (omega arith, tt),
                          (
                            (omega arith, omega arith, omega arith),
                            (
                              (omega arith, inl refl),
                              (
                                (omega arith, tt),
                                (
                                  (omega arith, omega arith, omega arith),
                                  ((omega arith, omega arith, omega arith), tt),
                                ),
                              ),
                            ),
                          ),
                        ),
                      ),
                    ),
                  ),
                ),
              ),
            ),
          ),
        ),
      ),
    ),
  ),
  refl,
  refl,
  ((λ e. absurd cc), (tt, ((λ e. absurd cc), ((λ e. absurd cc), (tt, (tt, tt)))))),
  refl,
)

pub returns-clause-late : goal.returns-clause-late
returns-clause-late c = (refl, refl)
