-- Stacks and rows of a reader of terms, seen through their views.
use Rattle.std.specs.Prelude.{◌≡◌, ℕ, List, [], ◌∷◌, ◌++◌, map, reverse, true, cond, nat_eq, Option, option_map}
use Rattle.std.proofs.Common.{sym, ap, ◌∙◌}
use Rattle.std.proofs.lemmas.List.{reverse-append}
use Rattle.aw_grammar.specs.declared.raw.RawTerm.{RawTerm}
use Rattle.aw_grammar.specs.declared.raw.RawTerm as raw
use Rattle.aw_grammar.specs.Written.{Apply, side_by_side, written_of}
use Rattle.aw_grammar.proofs.WrittenLemmas.{written_apply}
use Rattle.aw_term_reader.specs.declared.reader.Opened.{Opened}
use Rattle.aw_term_reader.specs.Terms as T
use Rattle.aw_term_reader.specs.Reader.{opened_of}

-- what was opened last is the innermost
pub opened_last : (os : List Opened) (o : Opened) → map opened_of (reverse (os ++ o ∷ [])) ≡ opened_of o ∷ map opened_of (reverse os)
opened_last os o = ap (map opened_of) (reverse-append os (o ∷ []))

-- the innermost constructor is closed
pub closes_last : (close mark : ℕ) (all os : List Opened) (o : Opened) (terms : List RawTerm) (expected : T.Expected) (after : T.Reading) → all ≡ os ++ o ∷ [] → nat_eq mark 41 ≡ true →
    after ≡ T.with_term (record { opened = map opened_of (reverse os); terms = map written_of o.before; expected = expected }) (written_of (raw.Apply o.name terms)) →
    T.closed close (map opened_of (reverse all)) (map written_of terms) mark ≡ T.On after
closes_last close mark all os o terms expected after e h f =
    let stack : map opened_of (reverse all) ≡ opened_of o ∷ map opened_of (reverse os) = ap (λ xs. map opened_of (reverse xs)) e ∙ opened_last os o in
    let before : T.Reading = record { opened = map opened_of (reverse os); terms = map written_of o.before; expected = expected } in
    ap (λ xs. T.closed close xs (map written_of terms) mark) stack
    ∙ ap (λ b. cond b (T.On (T.with_term before (Apply o.name (side_by_side (map written_of terms))))) T.Misplaced) h
    ∙ ap (λ t. T.On (T.with_term before t)) (sym (written_apply o.name terms))
    ∙ ap T.On (sym f)

-- names that were read before, and those that are left
abbrev pub behind : List (List ℕ) → Option (List (List ℕ)) → Option (List (List ℕ))
behind names rest = option_map (λ more. names ++ more) rest
