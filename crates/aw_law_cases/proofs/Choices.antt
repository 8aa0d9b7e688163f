-- A choice of some cases leads to the same where only these are kept, and one of another case changes nothing of them.
use Rattle.std.specs.Prelude.{filter, nat_eq, slice_get}
use Rattle.std.proofs.Common.{◌≡◌, ℕ, Bool, true, false, cond, List, [], ◌∷◌, ◌++◌, map, length, Option, Some, None, refl, sym, ap, ◌∙◌, subst, inl, inr, append-nil}
use Rattle.aw_list.specs.Members.{Member}
use Rattle.aw_list.proofs.Members.{never, member_split, member_unmap}
use Rattle.aw_term.specs.Choices.{Choice, Start, Develop, NotItsRule, Arguments, Outcome, Refused, Starts, Takes, after_guard}
use Rattle.aw_term.specs.Configs.{State, Pending, Done}
use Rattle.aw_term.specs.Held.{Held, held_of, insert_all, mark}
use Rattle.aw_term.specs.Names.{Node, Ref, root}
use Rattle.aw_term.specs.Rules.{Ground, Rule, Grammar}
use Rattle.aw_store.specs.Equations.{Equation, Map, mentions}
use Rattle.aw_apply.specs.Made.{Call, Making, made}
use Rattle.aw_apply.specs.Messages.{Message}
use Rattle.aw_law_sites.specs.Asking.{all_mentions, all_inherited, ask_message, asking, is_wanted}
use Rattle.aw_law_sites.specs.Choosing.{Chosen, No, Did, choose, choose_on, develop_site, joint_of, outcome, start_site}
use Rattle.aw_law_sites.specs.InOrder.{in_order}
use Rattle.aw_law_sites.specs.Joint.{by_held, by_root, by_rule, by_state, root_held}
use Rattle.aw_law_sites.specs.SiteEvents.{after_choice}
use Rattle.aw_law_sites.specs.Sites.{Site, Reaction, silently}
use Rattle.aw_law_sites.specs.Telling.{calls_in, calls_out, tells}
use Rattle.aw_law_sites.proofs.AnyOrders.{Member-insert_all, Member-insert_held, held_of-found, takes}
use Rattle.aw_law_worlds.proofs.SentLemmas.{in_case}
use Rattle.aw_law_nodes.proofs.ListParts.{filter-append, filter-all, filter-none}
use Rattle.aw_law_cases.specs.Cases.{Cases, of_node, of_equation, of_held, of_choice, of_message, keep_site, AllOn, AreParted, AreOn, IsParted, IsOneSided}
use Rattle.aw_law_cases.proofs.Keeping.{kept, guards-kept, bound-on, held-kept}
use Rattle.aw_law_cases.proofs.Making.{CallsOn, both-refs, made-on}
use Rattle.aw_law_cases.proofs.Sending.{keep_reaction, all-kept, all-other, asking-kept, asking-other, calls-kept, calls-on, insert-kept, insert-other}
use Rattle.aw_law_cases.proofs.Sending.{mark-kept, mark-other, marked-node, marked-refs, tells-kept, tells-on, up-all-inserted, up-inserted, up-marked}

module _ (C : Cases) (g : Grammar) where
  pub mentions-on : (b : Bool) (es : List Equation) → AreOn C b es → AllOn C b (all_mentions es)
  mentions-on b [] on = λ r m. never m
  mentions-on b (e ∷ es) on = both-refs C b (mentions e.body) (all_mentions es) (on e (inl refl)).1 (mentions-on b es (λ d m. on d (inr m)))

  inherited-on : (b : Bool) (hs : List Held) → ((h : Held) → Member h hs → AllOn C b h.inherited) → AllOn C b (all_inherited hs)
  inherited-on b [] on = λ r m. never m
  inherited-on b (h ∷ hs) on = both-refs C b h.inherited (all_inherited hs) (on h (inl refl)) (inherited-on b hs (λ k m. on k (inr m)))

  own-on : (b : Bool) (role : ℕ) (cs : List Call) → CallsOn C b cs → (h : Held) → Member h (calls_in g role cs) → (of_held C h ≡ b) × AllOn C b h.inherited
  own-on b role cs on h m = let (d, i, e, p) = in_case g role cs h m in subst (λ (h : Held). (of_held C h ≡ b) × AllOn C b h.inherited) (sym p) (on d i)

  -- outcomes
  rule-by : (k : Map) → AreParted C k → (n : Node) (args : List Ground) (h : Held) → AllOn C true h.inherited → (o : Option Rule) → by_rule o (kept C k) n args h ≡ by_rule o k n args h
  rule-by k p n args h on None = refl
  rule-by k p n args h on (Some rule) =
      ap (λ m. cond (nat_eq rule.sort h.sort) (cond (nat_eq (length args) rule.params) (after_guard n rule m) (Refused Arguments))
      (Refused NotItsRule)) (guards-kept C k p 1 rule.patterns h.inherited on)

  state-by : (k : Map) → AreParted C k → (n : Node) (r : ℕ) (args : List Ground) (h : Held) → AllOn C true h.inherited → (s : State) → by_state s g (kept C k) n r args h ≡ by_state s g k n r args h
  state-by k p n r args h on (Done q a) = refl
  state-by k p n r args h on Pending = rule-by k p n args h on (slice_get g.rules r)

  held-by : (s : Site) → IsParted C s → (n : Node) (r : ℕ) (args : List Ground) → of_node C n ≡ true → (o : Option Held) → held_of n s.held ≡ o →
      by_held o g (kept C s.equations) n r args ≡ by_held o g s.equations n r args
  held-by s P n r args i None e = refl
  held-by s P n r args i (Some h) e =
      let (m, p) = held_of-found n s.held h e in
      state-by s.equations P.equations n r args h (λ u j. P.held h m u j ∙ (ap (of_node C) p ∙ i)) h.state

  outcome-kept : (s : Site) → IsParted C s → (c : Choice) → of_choice C c ≡ true → outcome g (keep_site C s) c ≡ outcome g s c
  outcome-kept s P (Start st k) i = ap by_root (held-kept C s.held (root st k) i)
  outcome-kept s P (Develop n r args) i = ap (λ o. by_held o g (kept C s.equations) n r args) (held-kept C s.held n i) ∙ held-by s P n r args i (held_of n s.held) refl

  bound-side : (s : Site) → IsParted C s → (n : Node) (r : ℕ) (args : List Ground) (rule : Rule) (bound : List Ref) → outcome g s (Develop n r args) ≡ Takes rule bound → AllOn C (of_node C n) bound
  bound-side s P n r args rule bound e =
      let T = takes g (joint_of s) n r args rule bound e in
      bound-on C s.equations P.equations (of_node C n) 1 rule.patterns T.held.inherited bound (λ u m. P.held T.held T.is_held u m ∙ ap (of_node C) T.node) T.yes

  -- what a taken rule makes of a site
  abbrev built : Site → Choice → Node → ℕ → List Ground → Making → Site
  built s c n r args m = record s { held = insert_all (calls_in g s.role m.calls) (map (mark n (Done r args)) s.held); choices = s.choices ++ c ∷ []; equations = s.equations ++ m.equations }

  one-choice : (cs : List Choice) (c : Choice) → of_choice C c ≡ true → filter (of_choice C) cs ++ c ∷ [] ≡ filter (of_choice C) (cs ++ c ∷ [])
  one-choice cs c i = sym (filter-append (of_choice C) cs (c ∷ []) ∙ ap (λ b. filter (of_choice C) cs ++ cond b (c ∷ []) []) i)

  no-choice : (cs : List Choice) (c : Choice) → of_choice C c ≡ false → filter (of_choice C) (cs ++ c ∷ []) ≡ filter (of_choice C) cs
  no-choice cs c i = filter-append (of_choice C) cs (c ∷ []) ∙ (ap (λ b. filter (of_choice C) cs ++ cond b (c ∷ []) []) i ∙ append-nil (filter (of_choice C) cs))

  module _ (s : Site) (P : IsParted C s) (n : Node) (r : ℕ) (args : List Ground) (m : Making) where
    abbrev c : Choice
    c = Develop n r args

    abbrev after : Site
    after = built s c n r args m

    abbrev own : List Held
    own = calls_in g s.role m.calls

    abbrev asked : List Ref
    asked = all_mentions m.equations ++ all_inherited own

    module _ (b : Bool) (here : of_node C n ≡ b) (calls : CallsOn C b m.calls) (made : AreOn C b m.equations) where
      asked-on : AllOn C b asked
      asked-on = both-refs C b (all_mentions m.equations) (all_inherited own) (mentions-on b m.equations made) (inherited-on b own (λ h i. (own-on b s.role m.calls calls h i).1))

      built-parted : IsParted C after
      built-parted = record {
        equations = λ e i. elim (member_split e s.equations m.equations i) [ inl j ↦ P.equations e j | inr j ↦ (let (x, y) = made e j in λ u k. y u k ∙ sym x) ];
        held = λ h i. elim (Member-insert_all h own (map (mark n (Done r args)) s.held) i) [
          | inl j ↦ (let (x, y) = own-on b s.role m.calls calls h j in λ u k. y u k ∙ sym x)
          | inr j ↦ (let (k, l, p) = member_unmap (mark n (Done r args)) h s.held j in
              let node : h.node ≡ k.node = ap (λ (h : Held). h.node) p ∙ marked-node C n (Done r args) k in
              let refs : h.inherited ≡ k.inherited = ap (λ (h : Held). h.inherited) p ∙ marked-refs C n (Done r args) k in
              λ u q. P.held k l u (subst (λ rs. Member u rs) refs q) ∙ ap (of_node C) (sym node))
        ];
        ordered = up-all-inserted C own (map (mark n (Done r args)) s.held) (up-marked C n (Done r args) s.held P.ordered);
      }

      sent-on : (x : Message) → Member x (calls_out g after m.calls ++ tells g after m.equations) → (of_message C x ≡ b) × IsOneSided C x.kind
      sent-on x i = elim (member_split x (calls_out g after m.calls) (tells g after m.equations) i) [
        | inl j ↦ calls-on C g after built-parted.equations b m.calls calls x j
        | inr j ↦ tells-on C g after built-parted.equations b m.equations made x j
      ]

    develop-kept : of_node C n ≡ true → CallsOn C true m.calls → AreOn C true m.equations → develop_site g (keep_site C s) c n r args m ≡ keep_reaction C (develop_site g s c n r args m)
    develop-kept here calls made =
        let own_on : (h : Held) → Member h own → of_held C h ≡ true = λ h i. (own-on true s.role m.calls calls h i).0 in
        let held = ap (insert_all own) (sym (mark-kept C n (Done r args) s.held)) ∙ sym (all-kept C own (map (mark n (Done r args)) s.held) own_on (up-marked C n (Done r args) s.held P.ordered)) in
        let choices = one-choice s.choices c here in
        let equations : filter (of_equation C) s.equations ++ m.equations ≡ filter (of_equation C) (s.equations ++ m.equations) =
        sym (filter-append (of_equation C) s.equations m.equations ∙ ap (λ xs. filter (of_equation C) s.equations ++ xs) (filter-all (of_equation C) m.equations (λ e i. (made e i).0))) in
        let same : built (keep_site C s) c n r args m ≡ keep_site C after = λ i. record (keep_site C s) { held = held i; choices = choices i; equations = equations i } in
        let Q = built-parted true here calls made in
        let a = calls-kept C g after Q.equations m.calls calls in
        let t = tells-kept C g after Q.equations m.equations made in
        let first = calls_out g after m.calls ++ tells g after m.equations in
        ap (λ v. asking g v (calls_out g v m.calls ++ tells g v m.equations) asked) same
        ∙ (ap (λ ms. asking g (keep_site C after) ms asked) (λ i. a i ++ t i)
        ∙ asking-kept C g after first first asked (filter-all (of_message C) first (λ x i. (sent-on true here calls made x i).0)) (asked-on true here calls made))

    develop-other : of_node C n ≡ false → CallsOn C false m.calls → AreOn C false m.equations → keep_reaction C (develop_site g s c n r args m) ≡ silently (keep_site C s)
    develop-other here calls made =
        let own_on : (h : Held) → Member h own → of_held C h ≡ false = λ h i. (own-on false s.role m.calls calls h i).0 in
        let held = all-other C own (map (mark n (Done r args)) s.held) own_on ∙ mark-other C n (Done r args) s.held here in
        let choices = no-choice s.choices c here in
        let equations : filter (of_equation C) (s.equations ++ m.equations) ≡ filter (of_equation C) s.equations =
        filter-append (of_equation C) s.equations m.equations
        ∙ (ap (λ xs. filter (of_equation C) s.equations ++ xs) (filter-none (of_equation C) m.equations (λ e i. (made e i).0))
        ∙ append-nil (filter (of_equation C) s.equations)) in
        let same : keep_site C after ≡ keep_site C s = λ i. record (keep_site C s) { held = held i; choices = choices i; equations = equations i } in
        let first = calls_out g after m.calls ++ tells g after m.equations in
        asking-other C g after first asked (filter-none (of_message C) first (λ x i. (sent-on false here calls made x i).0)) (asked-on false here calls made) ∙ ap silently same

  -- choices
  abbrev pub keep_chosen : Chosen → Chosen
  keep_chosen (No a) = No a
  keep_chosen (Did x) = Did (keep_reaction C x)

  start-kept : (s : Site) → IsParted C s → (st k : ℕ) → of_node C (root st k) ≡ true → silently (start_site (keep_site C s) st k) ≡ keep_reaction C (silently (start_site s st k))
  start-kept s P st k i =
      let held = sym (insert-kept C (root_held st k) s.held i P.ordered) in
      let choices = one-choice s.choices (Start st k) i in
      λ j. silently (record (keep_site C s) { held = held j; choices = choices j })

  start-other : (s : Site) (st k : ℕ) → of_node C (root st k) ≡ false → keep_site C (start_site s st k) ≡ keep_site C s
  start-other s st k i =
      let held = insert-other C (root_held st k) s.held i in
      let choices = no-choice s.choices (Start st k) i in
      λ j. record (keep_site C s) { held = held j; choices = choices j }

  choose-by : (s : Site) → IsParted C s → (c : Choice) → of_choice C c ≡ true → (o : Outcome Ref Ref) → outcome g s c ≡ o → choose_on g (keep_site C s) c o ≡ keep_chosen (choose_on g s c o)
  choose-by s P c i (Refused a) e = refl
  choose-by s P (Start st k) i Starts e = ap Did (start-kept s P st k i)
  choose-by s P (Develop n r args) i Starts e = refl
  choose-by s P (Start st k) i (Takes rule bound) e = refl
  choose-by s P (Develop n r args) i (Takes rule bound) e =
      let (calls, eqs) = made-on C n r rule args bound (bound-side s P n r args rule bound e) in
      ap Did (develop-kept s P n r args (made n r rule args bound) i (subst (λ b. CallsOn C b (made n r rule args bound).calls) i calls)
      (subst (λ b. AreOn C b (made n r rule args bound).equations) i eqs))

  pub choose-kept : (s : Site) → IsParted C s → (c : Choice) → of_choice C c ≡ true → choose g (keep_site C s) c ≡ keep_chosen (choose g s c)
  choose-kept s P c i = ap (choose_on g (keep_site C s) c) (outcome-kept s P c i) ∙ choose-by s P c i (outcome g s c) refl

  -- what a choice of another case leaves
  abbrev pub IsUnseen : Site → Reaction → Type 0
  IsUnseen s x = keep_reaction C x ≡ silently (keep_site C s)

  unseen-by : (s : Site) → IsParted C s → (c : Choice) → of_choice C c ≡ false → (o : Outcome Ref Ref) → outcome g s c ≡ o → (x : Reaction) → choose_on g s c o ≡ Did x → IsUnseen s x
  unseen-by s P c i (Refused a) e x q = absurd cc
  unseen-by s P (Start st k) i Starts e x q = let p : silently (start_site s st k) ≡ x = cc in subst (IsUnseen s) p (ap silently (start-other s st k i))
  unseen-by s P (Develop n r args) i Starts e x q = absurd cc
  unseen-by s P (Start st k) i (Takes rule bound) e x q = absurd cc
  unseen-by s P (Develop n r args) i (Takes rule bound) e x q =
      let (calls, eqs) = made-on C n r rule args bound (bound-side s P n r args rule bound e) in
      let p : develop_site g s (Develop n r args) n r args (made n r rule args bound) ≡ x = cc in
      subst (IsUnseen s) p (develop-other s P n r args (made n r rule args bound) i (subst (λ b. CallsOn C b (made n r rule args bound).calls) i
      calls) (subst (λ b. AreOn C b (made n r rule args bound).equations) i eqs))

  pub choose-unseen : (s : Site) → IsParted C s → (c : Choice) → of_choice C c ≡ false → (x : Reaction) → choose g s c ≡ Did x → IsUnseen s x
  choose-unseen s P c i x e = unseen-by s P c i (outcome g s c) refl x e

  -- a choice leaves a site parted
  parted-by : (s : Site) → IsParted C s → (c : Choice) → (o : Outcome Ref Ref) → outcome g s c ≡ o → IsParted C (after_choice s (choose_on g s c o))
  parted-by s P c (Refused a) e = P
  parted-by s P (Start st k) Starts e = record {
    equations = P.equations;
    held = λ h i. elim (Member-insert_held h (root_held st k) s.held i) [ inl p ↦ subst (λ (h : Held). AllOn C (of_held C h) h.inherited) (sym p) (λ u m. never m) | inr j ↦ P.held h j ];
    ordered = up-inserted C (root_held st k) s.held P.ordered;
  }
  parted-by s P (Develop n r args) Starts e = P
  parted-by s P (Start st k) (Takes rule bound) e = P
  parted-by s P (Develop n r args) (Takes rule bound) e =
      let (calls, eqs) = made-on C n r rule args bound (bound-side s P n r args rule bound e) in
      let Q = built-parted s P n r args (made n r rule args bound) (of_node C n) refl calls eqs in
      record { equations = Q.equations; held = Q.held; ordered = Q.ordered }

  pub choose-parted : (s : Site) → IsParted C s → (c : Choice) → IsParted C (after_choice s (choose g s c))
  choose-parted s P c = parted-by s P c (outcome g s c) refl

  -- what a choice sends is of one side
  asking-sided : (v : Site) (first : List Message) (rs : List Ref) → ((x : Message) → Member x first → IsOneSided C x.kind) → (x : Message) → Member x (asking g v first rs).sent → IsOneSided C x.kind
  asking-sided v first rs f x i =
      let wanted = filter (is_wanted g v) (in_order rs) in
      elim (member_split x first (map (ask_message g v.role) wanted) i) [
        | inl j ↦ f x j
        | inr j ↦ (let (r, k, p) = member_unmap (ask_message g v.role) x wanted j in subst (λ (x : Message). IsOneSided C x.kind) (sym p) tt)
      ]

  sided-by : (s : Site) → IsParted C s → (c : Choice) → (o : Outcome Ref Ref) → outcome g s c ≡ o → (x : Reaction) → choose_on g s c o ≡ Did x → (m : Message) → Member m x.sent → IsOneSided C m.kind
  sided-by s P c (Refused a) e x q = absurd cc
  sided-by s P (Start st k) Starts e x q = let p : silently (start_site s st k) ≡ x = cc in subst (λ (x : Reaction). (m : Message) → Member m x.sent → IsOneSided C m.kind) p (λ m i. never i)
  sided-by s P (Develop n r args) Starts e x q = absurd cc
  sided-by s P (Start st k) (Takes rule bound) e x q = absurd cc
  sided-by s P (Develop n r args) (Takes rule bound) e x q =
      let m = made n r rule args bound in
      let (calls, eqs) = made-on C n r rule args bound (bound-side s P n r args rule bound e) in
      let p : develop_site g s (Develop n r args) n r args m ≡ x = cc in
      let v = built s (Develop n r args) n r args m in
      subst (λ (x : Reaction). (m : Message) → Member m x.sent → IsOneSided C m.kind) p
      (asking-sided v (calls_out g v m.calls ++ tells g v m.equations) (all_mentions m.equations ++ all_inherited (calls_in g s.role m.calls))
      (λ y i. (sent-on s P n r args m (of_node C n) refl calls eqs y i).1))

  pub choose-sided : (s : Site) → IsParted C s → (c : Choice) → (x : Reaction) → choose g s c ≡ Did x → (m : Message) → Member m x.sent → IsOneSided C m.kind
  choose-sided s P c x e = sided-by s P c (outcome g s c) refl x e
