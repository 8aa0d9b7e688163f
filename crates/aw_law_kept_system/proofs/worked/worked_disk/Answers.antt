use Rattle.std.proofs.Common.{◌≡◌, true, false, [], ◌∷◌, ◌++◌, refl, sym, ap, ◌∙◌, subst, arith}
use Rattle.aw_term.specs.Choices.{Start}
use Rattle.aw_journal.specs.Events.{Took}
use Rattle.aw_journal.specs.Format.{events_of, has_head}
use Rattle.aw_kept_node.specs.KeptSites.{KeptSite}
use Rattle.aw_law_kept_system.proofs.worked.worked_disk.Goals as goal

pub returns-clause-may_go : goal.returns-clause-may_go
returns-clause-may_go c = (
  (
    (
      record {
        declared = omega arith;
        rules = refl;
        starts = refl;
        tells = refl;
        safe = record {
          passed = omega arith;
          left = λ c q. record {
            own = λ z. let no : false ≡ true = subst (λ c. has_head c ≡ true) q z.0 in cc no;
            from = (events_of c, refl);
            to = ([], sym (ap (λ c. events_of c ++ []) q));
          };
        };
        answered = refl;
        many = refl;
      },
      record { since = refl; begins = (_, refl); opened = tt },
    ),
    tt,
  ),
  refl,
)

pub returns-clause-nothing : goal.returns-clause-nothing
returns-clause-nothing c = λ last t reply h.
    let (more, p) = ((h.1.safe refl).left [] refl).from in
    let q : [] ≡ Took (Start 0 1) ∷ more = p ∙ ap (λ (k : KeptSite). k.events ++ more) h.1.replied.1 in
    absurd cc
