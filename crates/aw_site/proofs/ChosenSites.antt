-- A plain site after a choice: its space after the choice, and what it then asks for and sends.
use Rattle.std.proofs.Common.{◌≡◌, ℕ, Bool, true, false, cond, List, [], ◌∷◌, ◌++◌, map, Option, Some, None, slice_get, nat_eq, length, refl, ap, sym, ◌∙◌, subst}
use Rattle.std.specs.Prelude.{is_some, unwrap_or}
use Rattle.std.proofs.lemmas.Bool.{and_parts, eqb-true}
use Rattle.std.proofs.lemmas.List.{append-nil}
use Rattle.aw_term.specs.Names.{Node, Ref, root, node_eq}
use Rattle.aw_term.specs.Rules.{Ground, Rule, Grammar, sort_of}
use Rattle.aw_term.specs.WellFormed.{Each}
use Rattle.aw_term.specs.Matching.{Matched, Yes, Waits, Differs, Circle}
use Rattle.aw_term.specs.Configs.{State, Pending, Done}
use Rattle.aw_term.specs.Choices.{Choice, Start, Develop, Outcome, Refused, Starts, Takes, TooDeep, Arguments, NotItsRule, after_guard, deep, answer_of}
use Rattle.aw_term.specs.Held.{Held, held_of}
use Rattle.aw_name.specs.SameNodes.{node_is}
use Rattle.aw_store.specs.Equations.{Map}
use Rattle.aw_store.specs.EquationView.{equation_of}
use Rattle.aw_apply.specs.declared.making.Made.{Made as ProgramMade}
use Rattle.aw_choice.specs.declared.choice.Choice.{Choice as ProgramChoice}
use Rattle.aw_space.specs.Outcomes.{IsMade}
use Rattle.aw_space.specs.SpaceView.{space_of}
use Rattle.aw_apply.specs.Guard.{guard_all}
use Rattle.aw_apply.specs.Made.{Call}
use Rattle.aw_apply.specs.MadeView.{as_child}
use Rattle.aw_apply.proofs.MadeCalls.{made-sorts}
use Rattle.aw_base.specs.ChoiceFits.{choice_ok}
use Rattle.aw_node_list.specs.declared.held.Held as program
use Rattle.aw_node_list.specs.HeldView as view
use Rattle.aw_node_list.specs.HeldView.{all_of, sort_or}
use Rattle.aw_law_sites.specs.Joint.{by_rule, by_state, by_held, by_root, outcome_in}
use Rattle.aw_msg.specs.MessageView.{sort_or_zero}
use Rattle.aw_law_sites.specs.Asking.{asked_too}
use Rattle.aw_law_sites.specs.Choosing.{Chosen, No, Did, answer_to, outcome, choose_on, choose}
use Rattle.aw_law_sites.specs.SiteEvents.{after_choice}
use Rattle.aw_law_sites.specs.Sites.{Site}
use Rattle.aw_space.specs.Spaces as S
use Rattle.aw_space.specs.Spaces.{making, space_on}
use Rattle.aw_apply.specs.Messages.{Message}
use Rattle.aw_msg.specs.MessageView.{message_of}
use Rattle.aw_site.specs.declared.plan.Plan.{Plan}
use Rattle.aw_site.specs.Answers.{sent_by}
use Rattle.aw_site.specs.Chosen.{worked, reaction_of}
use Rattle.aw_site.specs.Doing.{doing, IsPlanned}
use Rattle.aw_site.specs.Plans.{wanted_of, asks_for, made_mentions, told}
use Rattle.aw_site.specs.Shown.{space_in}
use Rattle.aw_site.specs.Views.{child_call}
use Rattle.aw_site.proofs.Noting.{asked_none}

-- ---- the answer

-- a choice of a rule never starts a case
after_never : (n : Node) (rule : Rule) (m : Matched Ref Ref) → after_guard n rule m ≡ Starts → ⊥
after_never n rule (Yes xs) e = cases (deep n rule) e
  where
    cases : (b : Bool) → cond {A = Outcome Ref Ref} b (Refused TooDeep) (Takes rule xs) ≡ Starts → ⊥
    cases true p = cc
    cases false p = cc
after_never n rule (Waits r) e = cc
after_never n rule (Differs p) e = cc
after_never n rule (Circle r) e = cc

rule_never : (o : Option Rule) (k : Map) (n : Node) (args : List Ground) (h : Held) → by_rule o k n args h ≡ Starts → ⊥
rule_never None k n args h e = cc
rule_never (Some rule) k n args h e = cases (nat_eq rule.sort h.sort) (nat_eq (length args) rule.params) e
  where
    cases : (a b : Bool) → cond a (cond b (after_guard n rule (guard_all k 1 rule.patterns h.inherited)) (Refused Arguments)) (Refused NotItsRule) ≡ Starts → ⊥
    cases true true p = after_never n rule (guard_all k 1 rule.patterns h.inherited) p
    cases true false p = cc
    cases false b p = cc

state_never : (s : State) (g : Grammar) (k : Map) (n : Node) (r : ℕ) (args : List Ground) (h : Held) → by_state s g k n r args h ≡ Starts → ⊥
state_never (Done x a) g k n r args h e = cc
state_never Pending g k n r args h e = rule_never (slice_get g.rules r) k n args h e

held_never : (o : Option Held) (g : Grammar) (k : Map) (n : Node) (r : ℕ) (args : List Ground) → by_held o g k n r args ≡ Starts → ⊥
held_never None g k n r args e = cc
held_never (Some h) g k n r args e = state_never h.state g k n r args h e

start_cases : (g : Grammar) (s : Site) (st k : ℕ) (o : Option Held) → answer_to (choose_on g s (Start st k) (by_root o)) ≡ answer_of (by_root o)
start_cases g s st k None = refl
start_cases g s st k (Some h) = refl

rule_cases : (g : Grammar) (s : Site) (n : Node) (r : ℕ) (args : List Ground) (x : Outcome Ref Ref) → (x ≡ Starts → ⊥) → answer_to (choose_on g s (Develop n r args) x) ≡ answer_of x
rule_cases g s n r args (Refused a) never = refl
rule_cases g s n r args Starts never = absurd (never refl)
rule_cases g s n r args (Takes rule bound) never = refl

-- the answer is that of the outcome
pub answered : (g : Grammar) (s : Site) (c : Choice) → answer_to (choose g s c) ≡ answer_of (outcome g s c)
answered g s (Start st k) = start_cases g s st k (held_of (root st k) s.held)
answered g s (Develop n r args) = rule_cases g s n r args (outcome g s (Develop n r args)) (held_never (held_of n s.held) g s.equations n r args)

-- ---- what is done and sent

-- what a choice that leads to this asks for
abbrev pub asks_after : Grammar → Site → Choice → Outcome Ref Ref → List Ref
asks_after g s c x = wanted_of g (worked g s c x) (made_mentions g (worked g s c x) (making c x).equations (making c x).calls)

-- what it sends
abbrev pub sends_after : Grammar → Site → Choice → Outcome Ref Ref → List Message
sends_after g s c x = told g (worked g s c x) (making c x).equations (making c x).calls ++ asks_for g (worked g s c x) (asks_after g s c x)

still : (s : Site) → s ≡ record s { asked = asked_too s.asked []; outbox = s.outbox ++ [] }
still s = λ i. record s { asked = asked_none s.asked i; outbox = sym (append-nil s.outbox) i }

still_doing : (s t : Site) → s ≡ t → record { site = s; sent = [] } ≡ doing t [] []
still_doing s t e = (λ i. record { site = (e ∙ still t) i; sent = [] })

pub done_on : (g : Grammar) (s : Site) (c : Choice) (x : Outcome Ref Ref) → reaction_of s (choose_on g s c x) ≡ doing (worked g s c x) (asks_after g s c x) (sends_after g s c x)
done_on g s (Start t k) (Refused a) = still_doing s s refl
done_on g s (Start t k) Starts = still_doing (worked g s (Start t k) Starts) (worked g s (Start t k) Starts) refl
done_on g s (Start t k) (Takes rule bound) = still_doing s s refl
done_on g s (Develop n r args) (Refused a) = still_doing s s refl
done_on g s (Develop n r args) Starts = still_doing s s refl
done_on g s (Develop n r args) (Takes rule bound) = refl

-- a site is as its reaction says, and sent what that says
pub site_reacted : (s : Site) (x : Chosen) → (reaction_of s x).site ≡ after_choice s x
site_reacted s (No a) = refl
site_reacted s (Did x) = refl

pub sent_reacted : (s : Site) (x : Chosen) → (reaction_of s x).sent ≡ sent_by x
sent_reacted s (No a) = refl
sent_reacted s (Did x) = refl

-- the new equations stand behind the others
pub made_behind : (g : Grammar) (role : ℕ) (sp : S.Space) (c : Choice) (x : Outcome Ref Ref) → (space_on g role sp c x).equations ≡ sp.equations ++ (making c x).equations
made_behind g role sp (Start t k) (Refused a) = sym (append-nil sp.equations)
made_behind g role sp (Start t k) Starts = sym (append-nil sp.equations)
made_behind g role sp (Start t k) (Takes rule bound) = sym (append-nil sp.equations)
made_behind g role sp (Develop n r args) (Refused a) = sym (append-nil sp.equations)
made_behind g role sp (Develop n r args) Starts = sym (append-nil sp.equations)
made_behind g role sp (Develop n r args) (Takes rule bound) = refl

-- ---- the children of a choice have their sorts

-- each call has the sort that the grammar gives its node
abbrev pub HaveSorts : Grammar → List Call → Type 0
HaveSorts g cs = Each (λ (c : Call). sort_of g c.node ≡ Some c.sort) cs

pub children_calls : (g : Grammar) (cs : List Call) → HaveSorts g cs → map (child_call g) (map as_child cs) ≡ cs
children_calls g [] h = refl
children_calls g (c ∷ cs) h =
    let s : sort_or_zero g c.node ≡ c.sort = ap (λ o. unwrap_or o 0) h.0 in
    let rest = children_calls g cs h.1 in
    λ i. record { node = c.node; sort = s i; inherited = c.inherited } ∷ rest i

found_cases : (g : Grammar) (n : Node) (b : Bool) (k : program.Held) (o : Option Held) (h : Held) → cond b (Some (view.held_of g k)) o ≡ Some h →
    (b ≡ true → n ≡ k.node) → (o ≡ Some h → h.sort ≡ sort_or (sort_of g n)) → h.sort ≡ sort_or (sort_of g n)
found_cases g n true k o h e same f = let s : view.held_of g k ≡ h = cc in sym (ap (λ (h : Held). h.sort) s) ∙ ap (λ m. sort_or (sort_of g m)) (sym (same refl))
found_cases g n false k o h e same f = f e

-- a held node has the sort of its name
held_sort : (g : Grammar) (n : Node) (hs : List program.Held) (h : Held) → held_of n (all_of g hs) ≡ Some h → h.sort ≡ sort_or (sort_of g n)
held_sort g n [] h e = absurd cc
held_sort g n (k ∷ hs) h e = found_cases g n (node_eq n k.node) k (held_of n (all_of g hs)) h e (node_is n k.node) (held_sort g n hs h)

guard_takes : (n : Node) (rule rule' : Rule) (m : Matched Ref Ref) (bound : List Ref) → after_guard n rule m ≡ Takes rule' bound → rule ≡ rule'
guard_takes n rule rule' (Yes xs) bound e = cases (deep n rule) e
  where
    cases : (b : Bool) → cond {A = Outcome Ref Ref} b (Refused TooDeep) (Takes rule xs) ≡ Takes rule' bound → rule ≡ rule'
    cases true p = absurd cc
    cases false p = cc
guard_takes n rule rule' (Waits r) bound e = absurd cc
guard_takes n rule rule' (Differs p) bound e = absurd cc
guard_takes n rule rule' (Circle r) bound e = absurd cc

rule_takes : (o : Option Rule) (k : Map) (n : Node) (args : List Ground) (h : Held) (rule : Rule) (bound : List Ref) → by_rule o k n args h ≡ Takes rule bound → (o ≡ Some rule) × (rule.sort ≡ h.sort)
rule_takes None k n args h rule bound e = absurd cc
rule_takes (Some ru) k n args h rule bound e = cases (nat_eq ru.sort h.sort) (nat_eq (length args) ru.params) refl e
  where
    cases : (a b : Bool) → nat_eq ru.sort h.sort ≡ a → cond a (cond b (after_guard n ru (guard_all k 1 ru.patterns h.inherited)) (Refused Arguments)) (Refused NotItsRule) ≡ Takes rule bound
        → (Some ru ≡ Some rule) × (rule.sort ≡ h.sort)
    cases true true q p =
        let same = guard_takes n ru rule (guard_all k 1 ru.patterns h.inherited) bound p in
        (ap Some same, ap (λ (r : Rule). r.sort) (sym same) ∙ eqb-true ru.sort h.sort q)
    cases true false q p = absurd cc
    cases false b q p = absurd cc

state_takes : (s : State) (g : Grammar) (k : Map) (n : Node) (r : ℕ) (args : List Ground) (h : Held) (rule : Rule) (bound : List Ref) → by_state s g k n r args h ≡ Takes rule bound
    → (slice_get g.rules r ≡ Some rule) × (rule.sort ≡ h.sort)
state_takes (Done x a) g k n r args h rule bound e = absurd cc
state_takes Pending g k n r args h rule bound e = rule_takes (slice_get g.rules r) k n args h rule bound e

valid_sort : (o : Option ℕ) → is_some o ≡ true → o ≡ Some (sort_or o)
valid_sort None e = absurd cc
valid_sort (Some s) e = refl

held_takes : (o : Option Held) (g : Grammar) (k : Map) (n : Node) (r : ℕ) (args : List Ground) (rule : Rule) (bound : List Ref) →
    ((h : Held) → o ≡ Some h → h.sort ≡ sort_or (sort_of g n)) → is_some (sort_of g n) ≡ true
    → by_held o g k n r args ≡ Takes rule bound → (slice_get g.rules r ≡ Some rule) × (sort_of g n ≡ Some rule.sort)
held_takes None g k n r args rule bound sorts valid e = absurd cc
held_takes (Some h) g k n r args rule bound sorts valid e =
    let (a, b) = state_takes h.state g k n r args h rule bound e in
    (a, valid_sort (sort_of g n) valid ∙ ap Some (sym (b ∙ sorts h refl)))

-- the children of a choice that may be asked
pub making_sorts : (g : Grammar) (hs : List program.Held) (k : Map) (c : Choice) (x : Outcome Ref Ref) → choice_ok g c ≡ true → outcome_in (all_of g hs) k g c ≡ x → HaveSorts g (making c x).calls
making_sorts g hs k (Start t l) (Refused a) ok e = tt
making_sorts g hs k (Start t l) Starts ok e = tt
making_sorts g hs k (Start t l) (Takes rule bound) ok e = tt
making_sorts g hs k (Develop n r args) (Refused a) ok e = tt
making_sorts g hs k (Develop n r args) Starts ok e = tt
making_sorts g hs k (Develop n r args) (Takes rule bound) ok e =
    let (valid, rest) = and_parts (is_some (sort_of g n)) _ ok in
    let (a, b) = held_takes (held_of n (all_of g hs)) g k n r args rule bound (λ h. held_sort g n hs h) valid e in
    made-sorts n r rule args bound g b a

-- what was foreseen and made over a space of the program is what the plain site comes to
module _ (g : Grammar) (s : Site) (c : Choice) (hs : List program.Held) (cs : List ProgramChoice) (k : Map) (m : ProgramMade)
    (holds : space_in s ≡ space_of g hs cs k) (ok : choice_ok g c ≡ true) (foretold : IsMade m c (outcome_in (all_of g hs) k g c)) where
  same_outcome : outcome g s c ≡ outcome_in (all_of g hs) k g c
  same_outcome = ap (λ (sp : S.Space). S.outcome g sp c) holds

  is_made : IsMade m c (outcome g s c)
  is_made = subst (IsMade m c) (sym same_outcome) foretold

  pub equations_made : map equation_of m.equations ≡ (making c (outcome g s c)).equations
  equations_made = is_made.equations

  pub calls_made : map (child_call g) m.children ≡ (making c (outcome g s c)).calls
  calls_made = ap (map (child_call g)) is_made.children ∙ children_calls g _ (making_sorts g hs k c (outcome g s c) ok (sym same_outcome))

  pub equations_behind : (worked g s c (outcome g s c)).equations ≡ k ++ map equation_of m.equations
  equations_behind = made_behind g s.role (space_in s) c (outcome g s c) ∙ (λ i. (holds i).equations ++ sym is_made.equations i)

  -- the plan for what was made
  pub plan_prepared : (other : Grammar) (p : Plan) → other ≡ g
      → p.wanted.items ≡ wanted_of other (worked g s c (outcome g s c)) (made_mentions other (worked g s c (outcome g s c)) (map equation_of m.equations) (map (child_call other) m.children))
      → map (message_of other) p.sent.items ≡ told other (worked g s c (outcome g s c)) (map equation_of m.equations)
      (map (child_call other) m.children) ++ asks_for other (worked g s c (outcome g s c)) p.wanted.items
      → IsPlanned g (worked g s c (outcome g s c)) (reaction_of s (choose g s c)) p
  plan_prepared other p e w v =
      let t = worked g s c (outcome g s c) in
      let w' = subst (λ (y : Grammar). p.wanted.items ≡ wanted_of y t (made_mentions y t (map equation_of m.equations) (map (child_call y) m.children))) e w in
      let v' = subst (λ (y : Grammar). map (message_of y) p.sent.items ≡ told y t (map equation_of m.equations) (map (child_call y) m.children) ++ asks_for y t p.wanted.items) e v in
      let wanted = w' ∙ (λ i. wanted_of g t (made_mentions g t (equations_made i) (calls_made i))) in
      let sent = v' ∙ (λ i. told g t (equations_made i) (calls_made i) ++ asks_for g t (wanted i)) in
      done_on g s c (outcome g s c) ∙ (λ i. doing t (sym wanted i) (sym sent i))
