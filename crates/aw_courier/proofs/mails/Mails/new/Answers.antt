use Rattle.std.proofs.Common.{◌≡◌, ℕ, ap, ◌∙◌, arith, length, replicate}
use Rattle.aw_courier.proofs.MailLemmas.{shows-new}
use Rattle.aw_courier.proofs.mails.Mails.new.Goals as goal

pub returns-clause-shows : goal.returns-clause-shows
returns-clause-shows c p e =
    let many : length c.filling.queues.items ≡ c.args.roles = omega (arith, c.filling.invariant.many, c.filling-test.false, c.len.ensures) in
    shows-new p c.filling.queues.items c.filling.places.items c.args.roles e many c.filling.invariant.empty (c.filling.invariant.places ∙ ap (λ (n : ℕ). replicate {A = ℕ} n 0) many)
