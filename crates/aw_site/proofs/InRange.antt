-- A message of the program with valid and short names is in the range of those that have a spelling.
use Rattle.aw_grammar.specs.declared.grammar.Grammar as program
use Rattle.std.proofs.Common.{◌≡◌, ℕ, true, List, [], ◌∷◌, ◌++◌, length, map, Option, None, Some, refl, ap, ◌∙◌}
use Rattle.std.specs.Prelude.{nat_le, slice_get}
use Rattle.std.proofs.lemmas.Bool.{and_parts, and_from, eqb-true, leb-true}
use Rattle.aw_term.specs.Names.{Ref}
use Rattle.aw_term.specs.Rules.{Grammar, sort_of}
use Rattle.aw_term.specs.WellFormed.{Each, head_fits, takes_of}
use Rattle.aw_base.specs.ChoiceFits.{ref_ok}
use Rattle.aw_store.specs.EquationView.{equation_of}
use Rattle.aw_store.specs.Equations.{Body, Same, Is, Equation}
use Rattle.aw_apply.specs.Made.{Call}
use Rattle.aw_msg.specs.declared.message.Message.{Message}
use Rattle.aw_msg.specs.declared.message.MsgKind.{MsgKind}
use Rattle.aw_msg.specs.declared.message.MsgKind.TheVariants as msg
use Rattle.aw_msg.specs.MessageView.{kind_with, sort_or_zero, message_of, plain_kind, plain_message}
use Rattle.aw_msg.specs.Messages.{MessageInRange}
use Rattle.aw_msg.proofs.ValidMessages.{IsValidRef, IsValidBody, IsValidEquation, IsValidLoad, IsValidCall, IsValidKind}
use Rattle.aw_law_sites.specs.ValidNames.{refs_ok, body_ok, equation_ok, equations_ok, takes_as, call_ok}
use Rattle.aw_site.specs.Sendable.{load_ok, may_send, is_short, short_refs, short_body, short_equation, short_equations, short_kind, all_short, all_sendable}
use Rattle.aw_site.proofs.ValidInRange.{message_is_in_range}
use Rattle.aw_grammar.specs.GrammarOf.{grammar_of}

module _ (g : Grammar) where
  valid_ref : (r : Ref) → is_short r.node ≡ true → ref_ok g r ≡ true → IsValidRef g r
  valid_ref r short ok = (leb-true (length r.node.steps) 250 short, ok)

  valid_refs : (rs : List Ref) → short_refs rs ≡ true → refs_ok g rs ≡ true → Each (IsValidRef g) rs
  valid_refs [] short ok = tt
  valid_refs (r ∷ rs) short ok =
      let (a, b) = and_parts (is_short r.node) _ short in
      let (x, y) = and_parts (ref_ok g r) _ ok in
      (valid_ref r a x, valid_refs rs b y)

  valid_body : (b : Body) → short_body b ≡ true → body_ok g b ≡ true → IsValidBody g b
  valid_body (Same r) short ok = valid_ref r short ok
  valid_body (Is h rs) short ok = let (x, y) = and_parts (head_fits g.arities h (length rs)) _ ok in (x, valid_refs rs short y)

  valid_equation : (e : Equation) → short_equation e ≡ true → equation_ok g e ≡ true → IsValidEquation g e
  valid_equation e short ok =
      let (a, b) = and_parts (is_short e.left.node) _ short in
      let (x, y) = and_parts (ref_ok g e.left) _ ok in
      (valid_ref e.left a x, valid_body e.body b y)

  valid_equations : (es : List Equation) → short_equations es ≡ true → equations_ok g es ≡ true → Each (IsValidEquation g) es
  valid_equations [] short ok = tt
  valid_equations (e ∷ es) short ok =
      let (a, b) = and_parts (short_equation e) _ short in
      let (x, y) = and_parts (equation_ok g e) _ ok in
      (valid_equation e a x, valid_equations es b y)

  valid_load : (es : List Equation) → short_equations es ≡ true → load_ok g es ≡ true → IsValidLoad g es
  valid_load es short ok = let (x, y) = and_parts (nat_le (length es) 64) _ ok in (leb-true (length es) 64 x, valid_equations es short y)

  call_cases : (c : Call) (o : Option ℕ) → sort_of g c.node ≡ o → is_short c.node ≡ true → short_refs c.inherited ≡ true →
      takes_as g o c.inherited ≡ true → refs_ok g c.inherited ≡ true → IsValidCall g c
  call_cases c None e short refs takes ok = absurd cc
  call_cases c (Some s) e short refs takes ok = record {
    short = leb-true (length c.node.steps) 250 short;
    sort = s;
    has_sort = e;
    count = eqb-true (length c.inherited) (takes_of (slice_get g.sorts s)) takes;
    references = valid_refs c.inherited refs ok;
  }

  valid_call : (c : Call) → is_short c.node ≡ true → short_refs c.inherited ≡ true → call_ok g c ≡ true → IsValidCall g c
  valid_call c short refs ok = let (x, y) = and_parts (takes_as g (sort_of g c.node) c.inherited) _ ok in call_cases c (sort_of g c.node) refl short refs x y

  valid_kind : (k : MsgKind) → short_kind (plain_kind k) ≡ true → may_send g (kind_with (sort_or_zero g) k) ≡ true → IsValidKind g (plain_kind k)
  valid_kind (msg.Call n rs load) short ok =
      let c : Call = record { node = n; sort = 0; inherited = rs } in
      let (a, more) = and_parts (is_short n) _ short in
      let (b, d) = and_parts (short_refs rs) _ more in
      let (x, y) = and_parts (call_ok g c) _ ok in
      (valid_call c a b x, valid_load (map equation_of load) d y)
  valid_kind (msg.Ask r from) short ok = valid_ref r short ok
  valid_kind (msg.Tell e load) short ok =
      let (a, b) = and_parts (short_equation (equation_of e)) _ short in
      let (x, y) = and_parts (equation_ok g (equation_of e)) _ ok in
      (valid_equation (equation_of e) a x, valid_load (map equation_of load) b y)

-- each of an outbox
pub all_in_range : (g : program.Grammar) (ms : List Message) → all_sendable (grammar_of g) (map (message_of (grammar_of g)) ms) ≡ true → all_short ms ≡ true → Each MessageInRange ms
all_in_range g [] ok short = tt
all_in_range g (m ∷ ms) ok short =
    let (x, y) = and_parts (may_send (grammar_of g) (message_of (grammar_of g) m).kind) _ ok in
    let (a, b) = and_parts (short_kind (plain_kind m.kind)) _ short in
    (message_is_in_range g (plain_message m) (valid_kind (grammar_of g) m.kind a x), all_in_range g ms y b)

-- more that is short, behind what is short
pub short_append : (ms ns : List Message) → all_short ms ≡ true → all_short ns ≡ true → all_short (ms ++ ns) ≡ true
short_append [] ns a b = b
short_append (m ∷ ms) ns a b = let (x, y) = and_parts (short_kind (plain_kind m.kind)) _ a in and_from _ _ x (short_append ms ns y b)

-- an outbox that stays
pub short_same : (ms ns : List Message) → ns ≡ ms → all_short ms ≡ true → all_short ns ≡ true
short_same ms ns e a = ap all_short e ∙ a

-- an outbox to which is added what is short
pub short_more : (ms ns sent whole : List Message) → ns ≡ ms → whole ≡ ns ++ sent → all_short sent ≡ true → all_short ms ≡ true → all_short whole ≡ true
short_more ms ns sent whole e f b a = ap all_short f ∙ short_append ns sent (short_same ms ns e a) b
