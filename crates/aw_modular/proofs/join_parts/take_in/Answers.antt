use Rattle.std.proofs.Common.{◌++◌, sym, ap, ◌∙◌}
use Rattle.std.proofs.lemmas.Bool.{false≢true}
use Rattle.aw_modular.proofs.join_parts.take_in.Goals as goal

pub returns-then-not-is_same : goal.returns-then-not-is_same
returns-then-not-is_same c = (c.taken_apart-came.ensures.shared, λ e. absurd (false≢true (sym c.if-not-is_same.true ∙ c.is_same.ensures.1 e)))

pub returns : goal.returns
returns c = (sym c.taken_apart-came.ensures.shared ∙ c.is_same.ensures.0 c.if-not-is_same.false, c.in_ok-append.ensures ∙ ap (λ rs. c.args.rules.now ++ rs) c.taken_apart-came.ensures.rules)
