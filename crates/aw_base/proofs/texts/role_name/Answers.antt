use Rattle.std.proofs.Common.{◌∙◌, sym, ap, []}
use Rattle.std.specs.Prelude.{unwrap_or}
use Rattle.aw_base.proofs.NamesAt.{name_at}
use Rattle.aw_base.proofs.texts.role_name.Goals as goal

pub returns-in-Some : goal.returns-in-Some
returns-in-Some c = c.as_slice.ensures ∙ sym (name_at c.args.g.now.roles c.args.role ∙ ap (λ o. unwrap_or o []) (sym c.in-Some.ensures.value))

pub returns-in-None : goal.returns-in-None
returns-in-None c = sym (name_at c.args.g.now.roles c.args.role ∙ ap (λ o. unwrap_or o []) (sym c.in-None.ensures.value))
