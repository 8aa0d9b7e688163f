use Rattle.std.proofs.Common.{◌≡◌, ◌∙◌, ◌+◌, ◌<◌, ◌≤◌, sym, ap, subst, arith, drop, length, length-drop, append-nil, Ok, List, ℕ}
use Rattle.std.proofs.lemmas.List.{drop-drop}
use Rattle.aw_lex.specs.declared.token.Token.{Token}
use Rattle.aw_lex.specs.declared.front.Front.{Front}
use Rattle.aw_lex.specs.Tokens.{tokens_from, front_of, with_token}
use Rattle.aw_lex.proofs.TokenSteps.{behind, blank_step, token_step, behind_one, none_left}
use Rattle.aw_lex.proofs.Slices.{tokens_are_slices}
use Rattle.aw_lex.proofs.token.read_tokens.Goals as goal

-- the front of what is left
front_left : (line rest : List ℕ) (at : ℕ) (f : Front) → rest ≡ drop at line → f ≡ front_of rest → front_of (drop at line) ≡ f
front_left line rest at f e h = ap front_of (sym e) ∙ sym h

some_left : (line : List ℕ) (at : ℕ) → at < length line → 0 < length (drop at line)
some_left line at h = omega (arith, length-drop at line)

pub loop-at-preserved-in-Blank : goal.loop-at-preserved-in-Blank
loop-at-preserved-in-Blank c =
    let l = c.loop-at in
    let line = c.args.line.now in
    let front = front_left line c.split_at.result.1.now l.at _ c.split_at.ensures.back c.in-Blank.ensures.value in
    let step = blank_step l.at (drop l.at line) (some_left line l.at c.loop-at-test.true) front in
    record {
      within = omega arith;
      rest = ap (λ bs. behind l.found (tokens_from (l.at + 1) 0 bs)) (sym (drop-drop 1 l.at line)) ∙ ap (behind l.found) (sym step) ∙ l.invariant.rest;
    }

pub loop-at-preserved : goal.loop-at-preserved
loop-at-preserved c =
    let l = c.loop-at in
    let line = c.args.line.now in
    let kind = c.in-Token.kind in
    let len = c.in-Token.len in
    let left = tokens_from (l.at + len) 0 (drop (l.at + len) line) in
    let token : Token = record { kind = kind; start = l.at; end = l.at + len } in
    let back = c.split_at.ensures.back in
    let fits = c.in-Token.ensures.fits in
    let within : len ≤ length (drop l.at line) = subst (λ bs. len ≤ length bs) back fits.1 in
    let step = token_step l.at len kind (drop l.at line) fits.0 within (front_left line c.split_at.result.1.now l.at _ back c.in-Token.ensures.value) in
    record {
      within = omega (arith, within, length-drop l.at line);
      rest = ap (λ found. behind found left) c.in_ok-push-in-Token.ensures.ok ∙ sym (behind_one l.found token left)
          ∙ ap (λ bs. behind l.found (with_token token (tokens_from (l.at + len) 0 bs))) (sym (drop-drop len l.at line))
          ∙ ap (behind l.found) (sym step) ∙ l.invariant.rest;
    }

pub returns-clause-slices : goal.returns-clause-slices
returns-clause-slices c =
    let l = c.loop-at in
    let line = c.args.line.now in
    let none = none_left l.at (drop l.at line) (omega (arith, length-drop l.at line)) in
    tokens_are_slices line l.found (sym l.invariant.rest ∙ ap (behind l.found) none ∙ ap Ok (append-nil l.found))
