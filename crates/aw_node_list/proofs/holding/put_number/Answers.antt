use Rattle.std.proofs.Common.{◌≡◌, length, sym, subst, arith}
use Rattle.std.specs.Prelude.{insert}
use Rattle.aw_node_list.specs.Picked.{AreKnown, AreApart}
use Rattle.aw_node_list.proofs.PickedLemmas.{put_items, put_known, put_apart}
use Rattle.aw_node_list.proofs.holding.put_number.Goals as goal

pub returns-clause-items : goal.returns-clause-items
returns-clause-items c =
    let ns = c.args.order.now.items in
    let hs = c.args.nodes.now.items in
    let last : c.len-number.result ≡ length hs = omega (arith, c.len-number.ensures, c.args.nodes.now.ok) in
    rw (c.insert.ensures.items, c.in-Ok.ensures.items) (put_items ns hs c.args.place c.len-number.result c.args.new c.requires.known last c.requires.place)

pub returns-clause-known : goal.returns-clause-known
returns-clause-known c =
    let ns = c.args.order.now.items in
    let hs = c.args.nodes.now.items in
    let last : c.len-number.result ≡ length hs = omega (arith, c.len-number.ensures, c.args.nodes.now.ok) in
    subst (λ ms. AreKnown ms c.push.new.self.items) (sym c.insert.ensures.items)
    (subst (AreKnown (insert ns c.args.place c.len-number.result)) (sym c.in-Ok.ensures.items) (put_known ns hs c.args.place c.len-number.result c.args.new c.requires.known last))

pub returns-clause-apart : goal.returns-clause-apart
returns-clause-apart c =
    let ns = c.args.order.now.items in
    let hs = c.args.nodes.now.items in
    let last : c.len-number.result ≡ length hs = omega (arith, c.len-number.ensures, c.args.nodes.now.ok) in
    subst AreApart (sym c.insert.ensures.items) (put_apart ns hs c.args.place c.len-number.result c.args.new c.requires.known last c.requires.apart)
