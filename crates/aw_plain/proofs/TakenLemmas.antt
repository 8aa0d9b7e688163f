-- What a choice keeps: that rows are filled, that they are reached, and so that they are acyclic.
use Rattle.std.proofs.Common.{◌≡◌, ℕ, zero, suc, arith, Bool, true, false, cond, List, [], ◌∷◌, ◌++◌, length, map, Option, Some, None, slice_get, sym, ap, ◌∙◌, refl, subst}
use Rattle.std.specs.Prelude.{Result, Ok, Err, IfOk, OnErr}
use Rattle.std.proofs.Math.Logic.{∥∥₁_map, ∥∥₁_map₂}
use Rattle.std.proofs.lemmas.List.{length-map}
use Rattle.std.proofs.lemmas.Result.{IfOk-weaker}
use Rattle.aw_list.proofs.Members.{never}
use Rattle.aw_term.specs.Trees.{bind}
use Rattle.aw_term.specs.Names.{Node, Ref, node_eq, node_lt}
use Rattle.aw_term.specs.Rules.{Ground, Value, Child, Rule, Sort, Grammar}
use Rattle.aw_term.specs.Configs.{State, Done, Row, Config, child_rows, insert_row, insert_rows, row_of, done_row, row_put, rounds, develop, fill}
use Rattle.aw_term.specs.Choices.{Choice, Start, Develop, Outcome, Refused, Starts, Takes, outcome, start_row, taken, or_same, answer, after}
use Rattle.aw_term.specs.Artifacts.{Words}
use Rattle.aw_term.specs.WellFormed.{Each, takes_of, SortFits, ChildFits, RuleFits, IsWellFormed}
use Rattle.aw_choice.specs.declared.choice.Answer.{Answer}
use Rattle.aw_choice.specs.declared.choice.Answer.TheVariants.{Waits, Circle}
use Rattle.aw_choice.specs.ChoiceView.{answer_of}
use Rattle.aw_base.specs.NodeNames.{is_start}
use Rattle.aw_base.specs.ChoiceFits.{choice_ok}
use Rattle.aw_grammar.specs.declared.grammar.Grammar as declared
use Rattle.aw_grammar.specs.GrammarOf.{grammar_of}
use Rattle.aw_grammar.proofs.Fits.{each_at}
use Rattle.aw_iograph.specs.Dependence.{IO, HasNoCircle}
use Rattle.aw_iograph.proofs.Relations.{io_closed}
use Rattle.aw_accept.proofs.OneMore.{undivided_more}
use Rattle.aw_accept.specs.Acyclic.{IsAcyclic, IsTree}
use Rattle.aw_accept.specs.Missing.{IsMissing}
use Rattle.aw_accept.specs.Sorts.{HaveTheirSorts, IsAtStart}
use Rattle.aw_accept.proofs.GuardAnswers.{waits_for_missing, tells_no_circle}
use Rattle.aw_accept.proofs.SortsOfRows.{taken-sorts}
use Rattle.aw_accept.proofs.Fitting.{given_of}
use Rattle.aw_accept.proofs.UndividedRuns.{undivided-acyclic, decode_on}
use Rattle.aw_plain_rows.specs.declared.row.Row as rows
use Rattle.aw_plain_rows.specs.RowView.{config_of}
use Rattle.aw_plain.specs.Filled.{IsFilled, AreFilled}
use Rattle.aw_plain.specs.Ordered.{IsOrdered}
use Rattle.aw_plain.specs.Cases.{AreApart}
use Rattle.aw_plain.specs.Reached.{IsReached}

each_map : {A B : Type 0} (P : A → Type 0) (Q : B → Type 0) (f : A → B) (xs : List A) → ((x : A) → P x → Q (f x)) → Each P xs → Each Q (map f xs)
each_map P Q f [] step each = tt
each_map P Q f (x ∷ xs) step each = (step x each.0, each_map P Q f xs step each.1)

each_rounds : {A : Type 0} (P : A → Type 0) (f : A → A) (m : ℕ) (xs : List A) → ((x : A) → P x → P (f x)) → Each P xs → Each P (rounds m (map f) xs)
each_rounds P f zero xs step each = each
each_rounds P f (suc m) xs step each = each_rounds P f m (map f xs) step (each_map P P f xs step each)

insert_cases : (P : Row → Type 0) (b : Bool) (r q : Row) (qs zs : Config) → P r → Each P (q ∷ qs) → Each P zs → Each P (cond b (r ∷ q ∷ qs) (q ∷ zs))
insert_cases P true r q qs zs here each later = (here, each)
insert_cases P false r q qs zs here each later = (each.0, later)

each_insert : (P : Row → Type 0) (r : Row) (c : Config) → P r → Each P c → Each P (insert_row r c)
each_insert P r [] here each = (here, tt)
each_insert P r (q ∷ qs) here each = insert_cases P (node_lt r.node q.node) r q qs (insert_row r qs) here each (each_insert P r qs here each.1)

each_inserts : (P : Row → Type 0) (rs : List Row) (c : Config) → Each P rs → Each P c → Each P (insert_rows rs c)
each_inserts P [] c new each = each
each_inserts P (r ∷ rs) c new each = each_inserts P rs (insert_row r c) new.1 (each_insert P r c new.0 each)

filled_put : (g : Grammar) (f : Ref → Value) (q : Row) → IsFilled g q → IsFilled g (row_put f q)
filled_put g f q filled = length-map q.inherited (bind f) ∙ filled

filled_cases : (g : Grammar) (b : Bool) (s : State) (q : Row) → IsFilled g q → IsFilled g (cond b (record q { state = s }) q)
filled_cases g true s q filled = filled
filled_cases g false s q filled = filled

filled_children : (g : Grammar) (v : ℕ) (n : Node) (r : ℕ) (e : List Value) (k : ℕ) (cs : List Child) → Each (ChildFits g v) cs → Each (IsFilled g) (child_rows n r e k cs)
filled_children g v n r e k [] fits = tt
filled_children g v n r e k (c ∷ cs) fits = (length-map c.args (fill e) ∙ fits.0.takes, filled_children g v n r e (suc k) cs fits.1)

start_takes : (roles : ℕ) (sorts : List Sort) (s : ℕ) → Each (SortFits roles) sorts → is_start (slice_get sorts s) ≡ true → 0 ≡ takes_of (slice_get sorts s)
start_takes roles [] s fits e = absurd cc
start_takes roles (x ∷ xs) zero fits e = sym (fits.0.start e)
start_takes roles (x ∷ xs) (suc s) fits e = start_takes roles xs s fits.1 e

module _ (w : Words) (g : Grammar) (fits : IsWellFormed w g) (c : Config) (filled : AreFilled g c) where
  filled_developed : (n : Node) (r : ℕ) (rule : Rule) (bound : List Value) (args : List Ground) → slice_get g.rules r ≡ Some rule → AreFilled g (develop n r rule bound args c)
  filled_developed n r rule bound args e =
      each_rounds (IsFilled g) _ (length rule.results) _ (λ q. filled_put g _ q)
      (each_inserts (IsFilled g) _ _ (filled_children g _ n r _ 1 rule.children (each_at (RuleFits g) g.rules r rule fits.rules e).children)
      (each_map (IsFilled g) (IsFilled g) (done_row n (Done r args)) c (λ q. filled_cases g (node_eq n q.node) (Done r args) q) filled))

  filled_taken : (x : Choice) (o : Outcome Value Ref) → outcome g c x ≡ o → choice_ok g x ≡ true → AreFilled g (or_same c (taken g c x o))
  filled_taken x (Refused a) e ok = filled
  filled_taken (Start s k) Starts e ok = each_insert (IsFilled g) (start_row g s k) c (start_takes g.roles g.sorts s fits.sorts ok) filled
  filled_taken (Start s k) (Takes rule bound) e ok = filled
  filled_taken (Develop n r args) Starts e ok = filled
  filled_taken (Develop n r args) (Takes rule bound) e ok = filled_developed n r rule bound args (decode_on g c (row_of n c) n r args rule bound refl e).rule_is

  -- a choice leaves rows filled
  pub filled_after : (x : Choice) → choice_ok g x ≡ true → AreFilled g (after g c x)
  filled_after x ok = filled_taken x (outcome g c x) refl ok

reached_taken : (g : Grammar) (c : Config) (x : Choice) (o : Option Config) → taken g c x (outcome g c x) ≡ o → IsReached g c → IsReached g (or_same c o)
reached_taken g c x None e w = w
reached_taken g c x (Some d) e w = (w.0 ++ x ∷ [], undivided_more g [] w.0 x c w.1 ∙ e)

-- what a choice leads to is reached
pub reached_after : (g : Grammar) (c : Config) (x : Choice) → IsReached g c → IsReached g (after g c x)
reached_after g c x w = reached_taken g c x (taken g c x (outcome g c x)) refl w

-- what is reached on a grammar without circles is a tree of tasks and acyclic
good_reached : (w : Words) (g : Grammar) (c : Config) → ∥ IsWellFormed w g ∥₁ → ∥ HasNoCircle g (IO g) ∥₁ → ∥ IsReached g c ∥₁ → ∥ (IsTree g c × IsAcyclic (IO g) c) ∥₁
good_reached w g c formed accepted reached =
    let start = λ (f : IsWellFormed w g) (a : HasNoCircle g (IO g)) (r : IsReached g c). undivided-acyclic g (given_of w g f) (IO g) (io_closed g) a r.0 c r.1 in
    ∥∥₁_map₂ (∥∥₁_map₂ formed accepted start) reached (λ f r. f r)

pub tree_reached : (w : Words) (g : Grammar) (c : Config) → ∥ IsWellFormed w g ∥₁ → ∥ HasNoCircle g (IO g) ∥₁ → ∥ IsReached g c ∥₁ → ∥ IsTree g c ∥₁
tree_reached w g c formed accepted reached = ∥∥₁_map (good_reached w g c formed accepted reached) (λ good. good.0)

pub acyclic_reached : (w : Words) (g : Grammar) (c : Config) → ∥ IsWellFormed w g ∥₁ → ∥ HasNoCircle g (IO g) ∥₁ → ∥ IsReached g c ∥₁ → ∥ IsAcyclic (IO g) c ∥₁
acyclic_reached w g c formed accepted reached = ∥∥₁_map (good_reached w g c formed accepted reached) (λ good. good.1)

-- a choice that fits the grammar starts at a start sort
start_sort : (o : Option Sort) → is_start o ≡ true → (t : Sort) × (o ≡ Some t) × (t.start ≡ true)
start_sort None e = absurd cc
start_sort (Some t) e = (t, refl, e)

pub starts_there : (g : Grammar) (x : Choice) → choice_ok g x ≡ true → IsAtStart g x
starts_there g (Start s k) e = start_sort (slice_get g.sorts s) e
starts_there g (Develop n r args) e = tt

sorts_taken : (g : Grammar) (c : Config) (x : Choice) (o : Option Config) → HaveTheirSorts g c → choice_ok g x ≡ true → taken g c x (outcome g c x) ≡ o → HaveTheirSorts g (or_same c o)
sorts_taken g c x None own ok e = own
sorts_taken g c x (Some d) own ok e = taken-sorts g c x (outcome g c x) d (starts_there g x ok) own refl e

-- a choice leaves rows with their sorts
pub sorts_after : (g : Grammar) (c : Config) (x : Choice) → HaveTheirSorts g c → choice_ok g x ≡ true → HaveTheirSorts g (after g c x)
sorts_after g c x own ok = sorts_taken g c x (taken g c x (outcome g c x)) own ok refl

-- what is said of one grammar is said of an equal one
pub answer_on : {E : Type 0} (result : Result Answer E) (h k : declared.Grammar) (old : List rows.Row) (x : Choice) → h ≡ k → IfOk result (λ a. answer_of a ≡ answer (grammar_of h) (config_of old) x)
    → IfOk result (λ a. answer_of a ≡ answer (grammar_of k) (config_of old) x)
answer_on result h k old x e = subst (λ (g : declared.Grammar). IfOk result (λ a. answer_of a ≡ answer (grammar_of g) (config_of old) x)) e

pub rows_on : {A E : Type 0} (result : Result A E) (h k : declared.Grammar) (old new : List rows.Row) (x : Choice) → h ≡ k → IfOk result (λ a. config_of new ≡ after (grammar_of h) (config_of old) x)
    → IfOk result (λ a. config_of new ≡ after (grammar_of k) (config_of old) x)
rows_on result h k old new x e = subst (λ (g : declared.Grammar). IfOk result (λ a. config_of new ≡ after (grammar_of g) (config_of old) x)) e

-- what an answer of the program waits for
pub waits_missing : {E : Type 0} (result : Result Answer E) (g : Grammar) (c : Config) (x : Choice) → ∥ IsTree g c ∥₁ → ∥ IsAcyclic (IO g) c ∥₁ → IfOk result (λ a. answer_of a ≡ answer g c x)
    → IfOk result (λ a. (r : Ref) → a ≡ Waits r → ∥ IsMissing g c r ∥₁)
waits_missing result g c x tree acyclic =
    IfOk-weaker result _ _ (λ a is r e. ∥∥₁_map₂ tree acyclic (λ t y. waits_for_missing g c x r t y.whole (sym is ∙ ap answer_of e)))

-- no answer of the program is a circle
pub never_circle : {E : Type 0} (result : Result Answer E) (g : Grammar) (c : Config) (x : Choice) → IfOk result (λ a. answer_of a ≡ answer g c x) → IfOk result (λ a. (r : Ref) → a ≡ Circle r → ⊥)
never_circle result g c x = IfOk-weaker result _ _ (λ a is r e. never (tells_no_circle g c x r (sym is ∙ ap answer_of e)))

-- what holds of no rows
pub filled_none : (g : Grammar) (rs : List rows.Row) → rs ≡ [] → ∥ AreFilled g (config_of rs) ∥₁
filled_none g rs e = subst (λ xs. ∥ AreFilled g (config_of xs) ∥₁) (sym e) ∣ tt ∣₁

pub reached_none : (g : Grammar) (rs : List rows.Row) → rs ≡ [] → ∥ IsReached g (config_of rs) ∥₁
reached_none g rs e = subst (λ xs. ∥ IsReached g (config_of xs) ∥₁) (sym e) ∣ ([], refl) ∣₁

pub ordered_none : (rs : List rows.Row) → rs ≡ [] → IsOrdered (config_of rs)
ordered_none rs e = subst (λ xs. IsOrdered (config_of xs)) (sym e) (λ k d low l. absurd (omega (arith, l)))

pub apart_none : (rs : List rows.Row) → rs ≡ [] → AreApart (config_of rs)
apart_none rs e = subst (λ xs. AreApart (config_of xs)) (sym e) (λ q m. never m)

pub sorts_none : (g : Grammar) (rs : List rows.Row) → rs ≡ [] → HaveTheirSorts g (config_of rs)
sorts_none g rs e = subst (λ xs. HaveTheirSorts g (config_of xs)) (sym e) (λ q m. never m)

-- what holds before a call and after the choice holds after the call, which fails without effect
pub kept : {A E : Type 0} (P : Config → Type 0) (r : Result A E) (old new : List rows.Row) (next : Config) → IfOk r (λ a. config_of new ≡ next) →
    OnErr r (new ≡ old) → P (config_of old) → P next → P (config_of new)
kept P (Ok a) old new next e n before after = subst P (sym e) after
kept P (Err x) old new next e n before after = subst (λ rs. P (config_of rs)) (sym n) before
