use Rattle.std.proofs.Common.{◌≡◌, ◌+◌, ◌++◌, ◌∙◌, suc, take, refl, ap, sym, arith}
use Rattle.aw_grammar.specs.GrammarOf.{grammar_of}
use Rattle.aw_node_list.specs.HeldView.{held_of, all_of, state_of}
use Rattle.aw_law_sites.specs.Worklists.{open_items, site_worklist}
use Rattle.aw_space.proofs.Listing.{site_taken}
use Rattle.aw_space.proofs.space.Space.list.Goals as goal

pub loop-at-preserved : goal.loop-at-preserved
loop-at-preserved g c =
    let old = c.args.self.now in
    let hs = old.held.items in
    let h = c.at.result.now in
    let gr = grammar_of old.accepted.now.grammar in
    let k = g.F.Facts.map old.facts in
    let at = c.loop-at.at in
    let there = c.at.ensures in
    let one : suc at ≡ at + 1 = omega arith in
    c.in_ok-push_items.ensures gr old.held h (record { place = at; numbered = c.number_at-number.ensures; there = there }) refl old.stands
    ∙ ap (λ xs. xs ++ open_items gr (state_of h.done) k (held_of gr h)) c.loop-at.invariant
    ∙ sym (site_taken gr k hs at h there)
    ∙ ap (λ n. site_worklist gr k (all_of gr (take n hs))) one
