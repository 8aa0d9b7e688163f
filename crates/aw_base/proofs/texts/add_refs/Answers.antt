use Rattle.std.proofs.Common.{◌≡◌, ◌++◌, ◌-◌, codes, drop, flat_map, length, map, subst, take}
use Rattle.std.specs.Prelude.{OnOk}
use Rattle.aw_term.specs.Artifacts.{ref_text, listed}
use Rattle.aw_grammar.specs.GrammarOf.{words_of}
use Rattle.aw_base.proofs.TextLemmas.{listed_split, added_twice, all_behind}
use Rattle.aw_base.proofs.texts.add_refs.Goals as goal

pub returns-in_ok-add_ref-in-len1-up-clause-ok : goal.returns-in_ok-add_ref-in-len1-up-clause-ok
returns-in_ok-add_ref-in-len1-up-clause-ok c =
    let rs = c.args.refs.now in
    let f = ref_text (words_of c.args.names.now.grammar.now) in
    let behind_first = take (length rs - 1) (drop 1 rs) in
    added_twice c.add_following.result _ c.add_ref.new.text c.args.text.now (f c.first-item.result) _ (listed (map f rs)) c.in_ok-add_ref-in-len1-up.ensures.ok
    (listed_split f rs c.first-item.result _ c.in-len1-up.len_at_least c.first-item.is (all_behind rs))
    (subst (λ g. OnOk c.add_following.result (c.add_following.new.text ≡ c.add_ref.new.text ++ flat_map (λ r. codes ", " ++ ref_text (words_of g) r)
    behind_first)) c.add_ref.ensures.grammar c.add_following.ensures.ok)
