use Rattle.std.proofs.Common.{◌≡◌, ℕ, ◌<◌, List, length, subst, ◌∙◌}
use Rattle.std.specs.Prelude.{IfOk}
use Rattle.aw_grammar.specs.GrammarOf.{grammar_of}
use Rattle.aw_replay.proofs.Told.{may_come, told}
use Rattle.aw_replay.proofs.running.run_united.Goals as goal

pub replay_between_sites-requires : goal.replay_between_sites-requires
replay_between_sites-requires c =
    may_come c.args.accepted.now c.args.one.now c.requires.words c.requires.grammar c.args.events.now c.as_slice.result.now
    (c.as_slice.ensures ∙ c.in_ok-choices.ensures) c.requires.events (c.united_laws.ensures.choices (grammar_of c.args.accepted.now.grammar))

pub returns-clause-output : goal.returns-clause-output
returns-clause-output c =
    let same = told c.args.accepted.now c.args.one.now c.requires.words c.requires.grammar c.args.events.now c.as_slice.result.now
    (c.as_slice.ensures ∙ c.in_ok-choices.ensures) c.requires.events c.undivided_laws.ensures in
    subst (λ (text : List ℕ). IfOk c.replay_between_sites.result (λ report. report.text ≡ text)) same c.replay_between_sites.ensures.output

pub returns-clause-too_large : goal.returns-clause-too_large
returns-clause-too_large c large =
    let same = told c.args.accepted.now c.args.one.now c.requires.words c.requires.grammar c.args.events.now c.as_slice.result.now
    (c.as_slice.ensures ∙ c.in_ok-choices.ensures) c.requires.events c.undivided_laws.ensures in
    subst (λ (text : List ℕ). 67108864 < length text) same (c.replay_between_sites.ensures.too_large large)
