-- What a printer keeps between two lines.
use Rattle.std.proofs.Common.{◌≡◌, ℕ, List, [], ◌∷◌, ◌++◌, Some, Ok, Err, refl, sym, ap, ◌∙◌, subst, append-nil}
use Rattle.std.specs.Prelude.{Option, Result, slice_get, take}
use Rattle.aw_term.specs.Names.{Ref}
use Rattle.aw_grammar.specs.declared.grammar.Grammar.{Grammar}
use Rattle.aw_store.specs.Equations.{Map}
use Rattle.aw_out.specs.Report.{Bounded, printed}
use Rattle.aw_out.specs.declared.error.PrintFault.{PrintFault}
use Rattle.aw_print.specs.declared.stack.Printer.{Printer}
use Rattle.aw_print.specs.declared.stack.Span.{Span}
use Rattle.aw_print.specs.Drafts.{Draft, so_far}
use Rattle.aw_print.specs.Growing.{Ended, HasGrown, made, printing}
use Rattle.aw_print.specs.Ends.{AreEnds}
use Rattle.aw_print.specs.Stacks.{Table, Holds, Origin, Desk, origin, desk, IsAtRest, IsReady, IsNew}
use Rattle.aw_print.proofs.StackLemmas.{kept_on}
use Rattle.aw_print.proofs.EndsLemmas.{none_kept}
use Rattle.aw_print.proofs.PieceLemmas.{made_flushed}

-- no piece is left, also when there are more bytes
rest_more : (o : Origin) (old new : Desk) (t : List ℕ) → new.pieces ≡ old.pieces → new.table ≡ old.table → made new.printing ≡ made old.printing ++ t → IsAtRest o old → IsAtRest o new
rest_more o old new t p s e rest = (
  p ∙ rest.0,
  record {
    texts = λ x h. kept_on o (made old.printing) (made new.printing) t x e (rest.1.texts x (subst (λ (y : Table). Holds y.spans x) s h));
    ends = subst (λ (y : Table). AreEnds o.equations o.names y.ends) (sym s) rest.1.ends;
  },
)

-- what was gathered last went to the report
pub rest_flushed : (o : Origin) (text : List ℕ) (mid new : Bounded) (printer : Printer) → new ≡ printed mid text → IsAtRest o (desk text mid printer) → IsAtRest o (desk [] new printer)
rest_flushed o text mid new printer e rest =
    rest_more o (desk text mid printer) (desk [] new printer) [] refl refl
    (made_flushed text [] text mid new e (append-nil text) ∙ sym (append-nil (made (printing text mid)))) rest

-- a printer is ready also when its report has grown
pub ready_on : (g : Grammar) (k : Map) (names : List Ref) (old new : Bounded) (printer : Printer) → HasGrown old new → IsReady g k names old printer → IsReady g k names new printer
ready_on g k names old new printer (t, e) ready =
    rest_more (origin g k names) (desk [] old printer) (desk [] new printer) t refl refl
    (append-nil new.text ∙ ap (λ (r : Bounded). r.text) e ∙ ap (λ x. x ++ t) (sym (append-nil old.text))) ready

got_none : (xs : List (Option Span)) (i : ℕ) (x : Span) → xs ≡ [] → slice_get xs i ≡ Some (Some x) → ⊥
got_none [] i x e h = cc h
got_none (y ∷ ys) i x e h = cc e

-- a new printer is ready for each store and report
pub ready_new : (g : Grammar) (k : Map) (names : List Ref) (report : Bounded) (printer : Printer) → IsNew printer → IsReady g k names report printer
ready_new g k names report printer new = (
  new.pieces,
  record {
    texts = λ x h. absurd (got_none printer.spans.items h.0 x new.spans h.1);
    ends = none_kept k names printer.ends new.ends;
  },
)

-- a report that a line was printed into has grown
pub ended_grows : (all : ℕ → Draft) (old new : Bounded) (result : Result Unit PrintFault) → Ended all old new result → HasGrown old new
ended_grows all old new (Ok done) (m, t, is, e) = (t, e)
ended_grows all old new (Err fault) s = let (m, front) = s.front in let (n, l, e) = front in (take n (so_far (all m)), e)

-- the same error is handed on
pub ended_as : (all : ℕ → Draft) (old new : Bounded) (one other : Result Unit PrintFault) (fault : PrintFault) → one ≡ Err fault → other ≡ Err fault → Ended all old new one → Ended all old new other
ended_as all old new one other fault e f ended = subst (Ended all old new) (e ∙ sym f) ended
