use Rattle.std.proofs.Common.{◌∙◌, sym, arith, refl, nat_eq}
use Rattle.std.specs.Cmp.Lexicographic.{pointwise}
use Rattle.aw_name.specs.Digest.{digest_of}
use Rattle.aw_name.specs.Front.{front_of}
use Rattle.aw_name.specs.Same.{step_eq}
use Rattle.aw_name.proofs.Leads.{short_same, rows_same, numbers_differ}
use Rattle.aw_name.proofs.node.TrailPartialEq.eq.Goals as goal

pub returns-then-is_short : goal.returns-then-is_short
returns-then-is_short c =
    let mine = c.front.ensures in
    let theirs = c.front-2.ensures in
    c.if-is_short.true
    ∙ short_same c.args.self.now c.args.other.now mine.small theirs.small mine.short theirs.short (sym mine.value ∙ c.if-front.true ∙ theirs.value)
    (c.is_short.ensures.short c.if-is_short.true)

pub returns-else-front : goal.returns-else-front
returns-else-front c =
    let xs = c.args.self.now in
    let ys = c.args.other.now in
    numbers_differ front_of xs ys c.front.result c.front-2.result (pointwise step_eq xs ys) c.front.ensures.value c.front-2.ensures.value c.if-front.false refl

pub returns-then-digest : goal.returns-then-digest
returns-then-digest c =
    let mine = c.front.ensures in
    let theirs = c.front-2.ensures in
    let long = c.is_short.ensures.long c.if-is_short.false in
    c.eq.ensures ∙ (λ i. pointwise nat_eq (c.rest.ensures i) (c.rest-then-digest.ensures i))
    ∙ rows_same c.args.self.now c.args.other.now mine.small theirs.small mine.short theirs.short (sym mine.value ∙ c.if-front.true ∙ theirs.value)
    (omega (arith, long))

pub returns-else-digest : goal.returns-else-digest
returns-else-digest c =
    numbers_differ digest_of c.args.self.now c.args.other.now c.digest.result c.digest-else-is_short.result
    (pointwise step_eq c.args.self.now c.args.other.now) c.digest.ensures c.digest-else-is_short.ensures c.if-digest.false refl
