use Rattle.std.proofs.Common.{◌∙◌, ◌≡◌, ◌++◌, ◌-◌, codes, drop, flat_map, length, map, subst, take}
use Rattle.std.specs.Prelude.{OnOk}
use Rattle.aw_grammar.specs.GrammarOf.{words_of}
use Rattle.aw_base.proofs.TextLemmas.{all_behind}
use Rattle.aw_store.specs.EquationView.{equation_of}
use Rattle.aw_law_sites.specs.Transcripts.{equation_text, load_text}
use Rattle.aw_msg_print.proofs.SentLines.{load_split, added_thrice}
use Rattle.aw_msg_print.proofs.sent.push_load.Goals as goal

pub returns-in_ok-push_equation-in-len1-up : goal.returns-in_ok-push_equation-in-len1-up
returns-in_ok-push_equation-in-len1-up c =
    let w = words_of c.args.names.now.grammar.now in
    let es = c.args.es.now in
    let x = c.first-item.result in
    record {
      text = added_thrice c.push_following.result c.args.text.now (codes " with ") (equation_text w (equation_of x)) _ c.push_array.new.self
          c.push_equation.new.text c.push_following.new.text (load_text w (map equation_of es))
          c.in_ok-push_array-in-len1-up.ensures.ok c.in_ok-push_equation-in-len1-up.ensures.text
          (load_split w es x _ c.in-len1-up.len_at_least c.first-item.is (all_behind es))
          (subst (λ g. OnOk c.push_following.result (c.push_following.new.text ≡ c.push_equation.new.text ++ flat_map
          (λ e. codes "; " ++ equation_text (words_of g) (equation_of e)) (take (length es - 1) (drop 1 es)))) c.push_equation.ensures.grammar
          c.push_following.ensures.text);
      grammar = c.push_following.ensures.grammar ∙ c.push_equation.ensures.grammar;
    }
