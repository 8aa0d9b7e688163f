-- The test of a pair tells whether the relation has it.
use Rattle.std.proofs.Common.{◌≡◌, ◌↔◌, ℕ, ◌<◌, ◌≤◌, Bool, true, ◌&&◌, IsTrue, Option, None, Some, nat_lt, nat_le, slice_get, ap, ◌∙◌, List, Ok, Err, IfOk}
use Rattle.std.specs.declared.result.Result.{Result}
use Rattle.std.proofs.Math.Logic.{∥∥₁_map}
use Rattle.std.proofs.lemmas.Bool.{and_parts, and_from, ltb-true, leb-true, lt-ltb, le-leb}
use Rattle.aw_grammar.specs.declared.grammar.Grammar.{Grammar}
use Rattle.aw_grammar.specs.GrammarOf.{grammar_of, words_of}
use Rattle.aw_iograph.specs.declared.io.Io.{Io}
use Rattle.aw_iograph.specs.Pairs.{Has, IsNumber, mark_of}
use Rattle.aw_accept.specs.Circular.{IsRelation}
use Rattle.aw_check_text.specs.Told.{TellsAccepted, accepted_text}
use Rattle.aw_check_text.specs.PairTests.{is_number, is_set, has_pair}

number-of : (i : ℕ) → is_number i ≡ true → IsNumber i
number-of i e = let tests = and_parts (nat_lt 0 i) (nat_le i 8) e in record { counted = ltb-true 0 i tests.0; few = leb-true i 8 tests.1 }

number-test : (i : ℕ) → 0 < i → i ≤ 8 → is_number i ≡ true
number-test i counted few = and_from _ _ (lt-ltb 0 i counted) (le-leb i 8 few)

set-of : (mark : Option Bool) → is_set mark ≡ true → mark ≡ Some true
set-of None e = absurd (cc (e))
set-of (Some mark) e = ap Some e

pub pair-test : (io : Io) (s i j : ℕ) → IsTrue (has_pair io s i j) ↔ Has io s i j
pair-test io s i j = (
  (λ e.
      let first = and_parts (is_number i) (is_number j && is_set (slice_get io.marks.items (mark_of s i j))) e in
      let next = and_parts (is_number j) (is_set (slice_get io.marks.items (mark_of s i j))) first.1 in
      record { inherited = number-of i first.0; result = number-of j next.0; marked = set-of _ next.1 }),
  (λ has.
      and_from _ _ (number-test i has.inherited.counted has.inherited.few) (and_from _ _ (number-test j has.result.counted has.result.few) (ap is_set has.marked))),
)

-- the text of a relation that is that of the grammar tells it
pub tells : {E : Type 0} (result : Result (List ℕ) E) (g : Grammar) (io : Io) (h : Grammar) (jo : Io) → IsRelation g io → h ≡ g → jo ≡ io →
    IfOk result (λ text. text ≡ accepted_text (has_pair jo) (words_of h) (grammar_of h)) → IfOk result (λ text. TellsAccepted (words_of g) (grammar_of g) text)
tells (Ok text) g io h jo same is is_io e = (
  has_pair io,
  (λ s i j. ((λ test. (same s i j).0 ((pair-test io s i j).0 test)), (λ walk. (pair-test io s i j).1 ((same s i j).1 walk)))),
  e ∙ ap (λ (k : Grammar). accepted_text (has_pair jo) (words_of k) (grammar_of k)) is ∙ ap (λ (k : Io). accepted_text (has_pair k) (words_of g) (grammar_of g)) is_io,
)
tells (Err error) g io h jo same is is_io e = tt

-- and where it is known to be so, that much is known of the text
pub tells_some : {E : Type 0} (result : Result (List ℕ) E) (g : Grammar) (io : Io) (h : Grammar) (jo : Io) → ∥ IsRelation g io ∥₁ → h ≡ g → jo ≡ io →
    IfOk result (λ text. text ≡ accepted_text (has_pair jo) (words_of h) (grammar_of h)) →
    IfOk result (λ text. ∥ TellsAccepted (words_of g) (grammar_of g) text ∥₁)
tells_some {E} (Ok text) g io h jo same is is_io e = ∥∥₁_map same (λ known. tells {E = E} (Ok text) g io h jo known is is_io e)
tells_some (Err error) g io h jo same is is_io e = tt
