-- What is kept is the worklist, and what waits for a slot is what the worklist shows as waiting for its reference.
use Rattle.std.proofs.Common.{◌≡◌, ◌≢◌, ℕ, zero, suc, ◌+◌, ◌<◌, ◌≤◌, ◌⊎◌, inl, inr, Bool, true, false, cond, List, [], ◌∷◌, length, map, Option, Some}
use Rattle.std.proofs.Common.{None, slice_get, get_or, refl, sym, ap, ◌∙◌, arith}
use Rattle.std.specs.Prelude.{nat_eq, nat_lt, option_map}
use Rattle.std.proofs.lemmas.List.Sums.{sum_by-append, sum_by-cons}
use Rattle.std.proofs.lemmas.Bool.{ltb-true}
use Rattle.std.proofs.lemmas.Bool.Decides.{eqb_tells}
use Rattle.std.proofs.lemmas.Option.{slice_get_cases}
use Rattle.aw_term.specs.Names.{Node, Ref}
use Rattle.aw_term.specs.Rules.{Rule, Grammar, sort_of}
use Rattle.aw_term.specs.Configs.{State, Pending, Done}
use Rattle.aw_term.specs.Artifacts.{Item}
use Rattle.aw_term.specs.Matching.{Matched, Yes, Waits, Differs, Circle}
use Rattle.aw_term.specs.Choices.{WaitsFor, Mismatch, CircleAt, TooDeep, Refused, Takes, after_guard, deep}
use Rattle.aw_term.specs.Runs.{refusal_of}
use Rattle.aw_term.proofs.RefTests.{ref_eq-true, ref_eq-self}
use Rattle.aw_store.specs.Refs.{ref_eq}
use Rattle.aw_store.specs.Equations.{Map}
use Rattle.aw_store.specs.NamedRefs.{IsNamedOnce}
use Rattle.aw_apply.specs.Guard.{guard_all}
use Rattle.aw_apply.specs.Named.{as_named}
use Rattle.aw_node_list.specs.declared.held.Held.{Held}
use Rattle.aw_node_list.specs.HeldView.{held_of, all_of, state_of, sort_or}
use Rattle.aw_law_sites.specs.Worklists.{site_item, site_items, open_items, site_worklist}
use Rattle.aw_work.specs.declared.block.Triple.{Triple}
use Rattle.aw_work.specs.Triples.{waiting_at}
use Rattle.aw_choice.specs.ChoiceView.{place_of}
use Rattle.aw_choice.specs.declared.choice.Standing.{Standing}
use Rattle.aw_standing.specs.declared.record.Stands.{Stands}
use Rattle.aw_standing.specs.declared.record.Stands.TheVariants as stands
use Rattle.aw_standing.specs.declared.record.Mark.{Mark}
use Rattle.aw_standing.specs.declared.record.Record.{Record}
use Rattle.aw_standing.specs.Standings.{kept_refusal, waits_for_one, is_one_of}
use Rattle.aw_standing.specs.Records.{IsOf, IsTold, mark_rule, rules_of, open_rules, has_live}
use Rattle.aw_standing.specs.Due.{due_of, due_marks, due_record, due}
use Rattle.aw_standing.specs.KeptStates.{AreKept}
use Rattle.aw_standing.specs.Items.{said_refusal, kept_item, SayOf, StandsAt, waits_on, waiting_on}
use Rattle.aw_standing.proofs.Rising.{rule_among, mark_behind}

-- a refusal that is kept is said by the references of its slots
pub said : (names : List Ref) (n : Node) (rule : Rule) (s : Stands) (m : Matched Ref Ref) → kept_refusal names s ≡ refusal_of (after_guard n rule (as_named m)) →
    said_refusal names s ≡ refusal_of (after_guard n rule m)
said names n rule s (Yes xs) e = by s (deep n rule) e
  where
    by : (s : Stands) (b : Bool) → kept_refusal names s ≡ refusal_of (cond b (Refused TooDeep) (Takes rule (map Some xs))) →
        said_refusal names s ≡ refusal_of (cond b (Refused TooDeep) (Takes rule xs))
    by stands.Ready true e = absurd cc
    by stands.Ready false e = refl
    by stands.TooDeep true e = refl
    by stands.TooDeep false e = absurd cc
    by (stands.Waits slot) true e = absurd cc
    by (stands.Waits slot) false e = absurd cc
    by (stands.Circle slot) true e = absurd cc
    by (stands.Circle slot) false e = absurd cc
    by (stands.Differs place) true e = absurd cc
    by (stands.Differs place) false e = absurd cc
said names n rule stands.Ready (Waits r) e = absurd cc
said names n rule stands.TooDeep (Waits r) e = absurd cc
said names n rule (stands.Waits slot) (Waits r) e = let here : slice_get names slot ≡ Some r = cc in ap (option_map WaitsFor) here
said names n rule (stands.Circle slot) (Waits r) e = absurd cc
said names n rule (stands.Differs place) (Waits r) e = absurd cc
said names n rule stands.Ready (Circle r) e = absurd cc
said names n rule stands.TooDeep (Circle r) e = absurd cc
said names n rule (stands.Waits slot) (Circle r) e = absurd cc
said names n rule (stands.Circle slot) (Circle r) e = let here : slice_get names slot ≡ Some r = cc in ap (option_map CircleAt) here
said names n rule (stands.Differs place) (Circle r) e = absurd cc
said names n rule stands.Ready (Differs p) e = absurd cc
said names n rule stands.TooDeep (Differs p) e = absurd cc
said names n rule (stands.Waits slot) (Differs p) e = absurd cc
said names n rule (stands.Circle slot) (Differs p) e = absurd cc
said names n rule (stands.Differs place) (Differs p) e = let here : place_of place ≡ p = cc in ap (λ z. Some (Mismatch z)) here

module _ (g : Grammar) (k : Map) (names : List Ref) (h : Held) where
  items_from : (i : ℕ) (rules : List Rule) (ms : List Mark) → ((m : ℕ) → slice_get rules m ≡ slice_get g.rules (m + i)) → map mark_rule ms ≡ rules_of (sort_or (sort_of g h.node)) i rules →
      ((j : ℕ) (m : Mark) → slice_get ms j ≡ Some m → IsTold g k names h m) → map (kept_item names h.node) ms ≡ site_items k (held_of g h) i rules
  items_from i [] [] at e told = refl
  items_from i [] (m ∷ ms) at e told = absurd cc
  items_from i (rule ∷ rules) ms at e told = by (λ zs. items_from (suc i) rules zs next) (nat_eq rule.sort (sort_or (sort_of g h.node))) ms e told
    where
      next : (m : ℕ) → slice_get rules m ≡ slice_get g.rules (m + suc i)
      next m = at (suc m) ∙ ap (slice_get g.rules) (omega arith)

      by : ((zs : List Mark) → map mark_rule zs ≡ rules_of (sort_or (sort_of g h.node)) (suc i) rules → ((j : ℕ) (m : Mark) → slice_get zs j ≡ Some m → IsTold g k names h m) →
          map (kept_item names h.node) zs ≡ site_items k (held_of g h) (suc i) rules) →
          (b : Bool) (ms : List Mark) → map mark_rule ms ≡ cond b (i ∷ rules_of (sort_or (sort_of g h.node)) (suc i) rules) (rules_of (sort_or (sort_of g h.node)) (suc i) rules) →
          ((j : ℕ) (m : Mark) → slice_get ms j ≡ Some m → IsTold g k names h m) →
          map (kept_item names h.node) ms ≡ cond b (site_item k (held_of g h) i rule ∷ site_items k (held_of g h) (suc i) rules) (site_items k (held_of g h) (suc i) rules)
      by go false ms e told = go ms e told
      by go true [] e told = absurd cc
      by go true (m ∷ ms) e told =
          let number : m.rule ≡ i = cc in
          let rest : map mark_rule ms ≡ rules_of (sort_or (sort_of g h.node)) (suc i) rules = cc in
          let here : slice_get g.rules m.rule ≡ Some rule = ap (slice_get g.rules) number ∙ ap (slice_get g.rules) (omega arith) ∙ sym (at 0) in
          let refusal = said names h.node rule m.stands (guard_all k 1 rule.patterns h.inherited) (told 0 m refl rule here) in
          let later = go ms rest (λ j z f. told (suc j) z f) in
          λ q. record { node = h.node; rule = number q; refusal = refusal q } ∷ later q

  -- the marks of a node are its items in the worklist
  pub items_kept : (x : Record) → IsOf g names h x → ((j : ℕ) (m : Mark) → slice_get x.marks.items j ≡ Some m → IsTold g k names h m) →
      map (kept_item names h.node) x.marks.items ≡ open_items g (state_of h.done) k (held_of g h)
  items_kept x o told = by (state_of h.done) (o.rules ∙ ap (λ s. open_rules g s (state_of h.done)) (sym o.sort))
    where
      by : (s : State) → map mark_rule x.marks.items ≡ open_rules g (sort_or (sort_of g h.node)) s → map (kept_item names h.node) x.marks.items ≡ open_items g s k (held_of g h)
      by Pending e = items_from 0 g.rules x.marks.items (λ m. ap (slice_get g.rules) (omega arith)) e told
      by (Done rule args) e = none x.marks.items e
        where
          none : (ms : List Mark) → map mark_rule ms ≡ [] → map (kept_item names h.node) ms ≡ []
          none [] e = refl
          none (m ∷ ms) e = absurd cc

-- where nothing is late, no rule waits for what is late
pub none_late : (names : List Ref) (s : Stands) → waits_for_one names [] s ≡ false
none_late names stands.Ready = refl
none_late names (stands.Differs place) = refl
none_late names (stands.Circle c) = refl
none_late names stands.TooDeep = refl
none_late names (stands.Waits c) = by (slice_get names c)
  where
    by : (o : Option Ref) → is_one_of [] o ≡ false
    by None = refl
    by (Some q) = refl

-- the items of the node at a place
pub items_at : (g : Grammar) (k : Map) (names : List Ref) (hs : List Held) (ns : List ℕ) (xs : List Record) (ts : List Triple) (at n : ℕ) (h : Held) (x : Record) → AreKept g hs k names [] ns xs ts →
    slice_get ns at ≡ Some n → slice_get hs at ≡ Some h → slice_get xs n ≡ Some x → map (kept_item names h.node) x.marks.items ≡ open_items g (state_of h.done) k (held_of g h)
items_at g k names hs ns xs ts at n h x f e u v = items_kept g k names h x (f.of_node at n h x e u v) (λ j m w. f.told at n h x e u v j m w (none_late names m.stands))

-- what the mark of a rule says is how the rule stands at the node at a place
pub stands_said : (g : Grammar) (k : Map) (names : List Ref) (hs : List Held) (ns : List ℕ) (xs : List Record) (ts : List Triple) (at n : ℕ) (h : Held) (x : Record) (number : ℕ)
    (s : Standing) → AreKept g hs k names [] ns xs ts →
    slice_get ns at ≡ Some n → slice_get hs at ≡ Some h → slice_get xs n ≡ Some x → SayOf names x.marks.items number s → StandsAt g k h number s
stands_said g k names hs ns xs ts at n h x number s f e u v says rule here sort idle =
    let o = f.of_node at n h x e u v in
    let listing : map mark_rule x.marks.items ≡ rules_of x.sort 0 g.rules = o.rules ∙ ap (λ d. open_rules g x.sort (state_of d)) idle in
    let (j, listed) = rule_among x.sort 0 g.rules number rule here (sort ∙ o.sort) in
    let (m, mark, of_rule) = mark_behind x.marks.items j (number + 0) (ap (λ l. slice_get l j) listing ∙ listed) in
    let same : m.rule ≡ number = omega (arith, of_rule) in
    let there : slice_get g.rules m.rule ≡ Some rule = ap (slice_get g.rules) same ∙ here in
    says (f.fits.fit at n x e v).rising j m mark same
    ∙ said names h.node rule m.stands (guard_all k 1 rule.patterns h.inherited) (f.told at n h x e u v j m mark (none_late names m.stands) rule there)

-- which slots wait, and which items
module _ (names : List Ref) (once : IsNamedOnce names) (slot : ℕ) (r : Ref) (named : slice_get names slot ≡ Some r) where
  named_live : (ns : List Ref) (c : ℕ) → c < length ns → slice_get ns c ≡ None → ⊥
  named_live [] c l e = omega (arith, l)
  named_live (n ∷ ns) zero l e = absurd cc
  named_live (n ∷ ns) (suc c) l e = named_live ns c (omega (arith, l)) e

  slot_waits : (n rule c : ℕ) (o : Option Ref) → slice_get names c ≡ o → nat_lt c (length names) ≡ true →
      waiting_at slot (due_of n rule (stands.Waits c)) ≡ cond (waits_on r (option_map WaitsFor o)) 1 0
  slot_waits n rule c None e l = absurd (named_live names c (ltb-true c (length names) l) e)
  slot_waits n rule c (Some q) e l = by (eqb_tells c slot) (ref_eq q r) refl
    where
      by : ((nat_eq c slot ≡ true) × (c ≡ slot)) ⊎ ((nat_eq c slot ≡ false) × (c ≢ slot)) → (b : Bool) → ref_eq q r ≡ b → waiting_at slot (due_of n rule (stands.Waits c)) ≡ cond (ref_eq q r) 1 0
      by (inl (t, same)) b f =
          let here : slice_get names slot ≡ Some q = ap (slice_get names) (sym same) ∙ e in
          let is : r ≡ q = cc in
          ap (λ z. 0 + cond z 1 0) t ∙ ap (λ z. cond z 1 0) (sym (ap (λ z. ref_eq q z) is ∙ ref_eq-self q))
      by (inr (t, other)) true f = absurd (other (once c slot r (e ∙ ap Some (ref_eq-true q r f)) named))
      by (inr (t, other)) false f = ap (λ z. 0 + cond z 1 0) t ∙ ap (λ z. cond z 1 0) (sym f)

  mark_waits : (n rule : ℕ) (s : Stands) → has_live (length names) s ≡ true → waiting_at slot (due_of n rule s) ≡ cond (waits_on r (said_refusal names s)) 1 0
  mark_waits n rule stands.Ready l = refl
  mark_waits n rule (stands.Differs place) l = refl
  mark_waits n rule stands.TooDeep l = refl
  mark_waits n rule (stands.Circle c) l = by (slice_get names c)
    where
      by : (o : Option Ref) → waiting_at slot (due_of n rule (stands.Circle c)) ≡ cond (waits_on r (option_map CircleAt o)) 1 0
      by None = refl
      by (Some q) = refl
  mark_waits n rule (stands.Waits c) l = slot_waits n rule c (slice_get names c) refl l

  marks_wait : (n : ℕ) (nd : Node) (ms : List Mark) → ((j : ℕ) (m : Mark) → slice_get ms j ≡ Some m → has_live (length names) m.stands ≡ true) →
      waiting_at slot (due_marks n ms) ≡ waiting_on r (map (kept_item names nd) ms)
  marks_wait n nd [] live = refl
  marks_wait n nd (m ∷ ms) live =
      omega (
        arith,
        mark_waits n m.rule m.stands (live 0 m refl),
        marks_wait n nd ms (λ j z e. live (suc j) z e),
        sum_by-append (λ t. cond (nat_eq t.slot slot) 1 0) (due_of n m.rule m.stands) (due_marks n ms),
        sum_by-cons (λ (i : Item). cond (waits_on r i.refusal) 1 0) (kept_item names nd m) (map (kept_item names nd) ms),
      )

  -- what is kept of a node with this number shows its items
  abbrev ShowsItems : Grammar → Map → List Record → ℕ → Held → Type 0
  ShowsItems g k xs n h = (x : Record) × (slice_get xs n ≡ Some x) × ((j : ℕ) (m : Mark) → slice_get x.marks.items j ≡ Some m → has_live (length names) m.stands ≡ true)
      × (map (kept_item names h.node) x.marks.items ≡ open_items g (state_of h.done) k (held_of g h))

  all_wait : (g : Grammar) (k : Map) (xs : List Record) (ns : List ℕ) (hs : List Held) → length ns ≡ length hs →
      ((i n : ℕ) (h : Held) → slice_get ns i ≡ Some n → slice_get hs i ≡ Some h → ShowsItems g k xs n h) → waiting_at slot (due xs ns) ≡ waiting_on r (site_worklist g k (all_of g hs))
  all_wait g k xs [] [] l shows = refl
  all_wait g k xs [] (h ∷ hs) l shows = absurd (omega (arith, l))
  all_wait g k xs (n ∷ ns) [] l shows = absurd (omega (arith, l))
  all_wait g k xs (n ∷ ns) (h ∷ hs) l shows =
      let (x, here, live, items) = shows 0 n h refl refl in
      omega (
        arith,
        ap (λ o. waiting_at slot (due_record n o)) here,
        marks_wait n h.node x.marks.items live,
        ap (waiting_on r) items,
        all_wait g k xs ns hs (omega (arith, l)) (λ i m q e f. shows (suc i) m q e f),
        sum_by-append (λ t. cond (nat_eq t.slot slot) 1 0) (due_record n (slice_get xs n)) (due xs ns),
        sum_by-append (λ (i : Item). cond (waits_on r i.refusal) 1 0) (open_items g (state_of h.done) k (held_of g h)) (site_worklist g k (all_of g hs)),
      )

  -- as many pairs wait for the slot of a reference as items of the worklist wait for the reference
  pub pairs_wait : (g : Grammar) (k : Map) (hs : List Held) (ns : List ℕ) (xs : List Record) (ts : List Triple) → AreKept g hs k names [] ns xs ts →
      waiting_at slot ts ≡ waiting_on r (site_worklist g k (all_of g hs))
  pairs_wait g k hs ns xs ts f =
      f.fits.waiting (λ t. nat_eq t.slot slot)
      ∙ all_wait g k xs ns hs f.beside (λ i n h e u. shows i n h e u (slice_get_cases xs n))
    where
      shows : (i n : ℕ) (h : Held) → slice_get ns i ≡ Some n → slice_get hs i ≡ Some h →
          (slice_get xs n ≡ slice_get xs n) × (((x : Record) × (n < length xs) × (slice_get xs n ≡ Some x) × (get_or xs n x ≡ x)) ⊎ ((length xs ≤ n) × (slice_get xs n ≡ None))) → ShowsItems g k xs n h
      shows i n h e u (_, inl (x, _, v, _)) = (x, v, (f.fits.fit i n x e v).stand, items_kept g k names h x (f.of_node i n h x e u v) (λ j m w. f.told i n h x e u v j m w (none_late names m.stands)))
      shows i n h e u (_, inr (past, none)) = absurd (omega (arith, past, f.fits.known i n e))

-- there is something at a place within
pub past_known : (xs : List Record) (n : ℕ) → n < length xs → slice_get xs n ≡ None → ⊥
past_known [] n l e = omega (arith, l)
past_known (x ∷ xs) zero l e = absurd cc
past_known (x ∷ xs) (suc n) l e = past_known xs n (omega (arith, l)) e
