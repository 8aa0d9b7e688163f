use Rattle.std.proofs.Common.{◌∙◌, ap, sym, map, is_some}
use Rattle.std.specs.Prelude.{◌||◌}
use Rattle.std.specs.Option.{option_copied}
use Rattle.aw_store.specs.Equations.{find}
use Rattle.aw_store.specs.EquationView.{equation_of}
use Rattle.aw_site.specs.Walks.{listed}
use Rattle.aw_site.proofs.Walking.{seen_found}
use Rattle.aw_site.proofs.sender.is_seen.Goals as goal

pub returns-then-is_first : goal.returns-then-is_first
returns-then-is_first c =
    c.if-is_first.true
    ∙ sym (seen_found c.args.r.now c.args.load.now (listed (option_copied c.args.first))
    ∙ ap (λ b. b || is_some (find (map equation_of c.args.load.now) c.args.r.now)) (sym c.is_first.ensures ∙ c.if-is_first.true))

pub returns-else-is_first : goal.returns-else-is_first
returns-else-is_first c =
    c.is_behind.ensures
    ∙ sym (seen_found c.args.r.now c.args.load.now (listed (option_copied c.args.first))
    ∙ ap (λ b. b || is_some (find (map equation_of c.args.load.now) c.args.r.now)) (sym c.is_first.ensures ∙ c.if-is_first.false))
