use Rattle.std.proofs.Common.{Some, length, map, ap, sym, ◌∙◌, arith}
use Rattle.aw_choice.specs.ChoiceView.{item_of}
use Rattle.aw_law_nodes.specs.Nodes as N
use Rattle.aw_node.proofs.SiteReplies.{at_some, at_none}
use Rattle.aw_node.proofs.sites.item_at.Goals as goal

pub returns-in_ok-copy_item-clause-reply : goal.returns-in_ok-copy_item-clause-reply
returns-in_ok-copy_item-clause-reply c = λ g.
    at_some item_of N.Shows (length (map item_of c.args.items.now)) c.args.items.now c.args.place c.in_ok-copy_item.field-0 (c.at.ensures ∙ ap Some (sym c.in_ok-copy_item.ensures))

pub returns-else-place-count-clause-reply : goal.returns-else-place-count-clause-reply
returns-else-place-count-clause-reply c = λ g.
    at_none item_of N.Shows c.args.items.now c.args.place c.len-count.result c.len-count.ensures (omega (arith, c.if-place-count.false, c.len-count.ensures))
