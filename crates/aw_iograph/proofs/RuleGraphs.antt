-- The arcs of a rule are its steps.
use Rattle.std.proofs.Common.{◌≡◌, ℕ, zero, suc, ◌+◌, ◌<◌, ◌≤◌, true, false, List, map, length, Option, Some, slice_get, refl, sym, ap, ◌∙◌, subst, inl, inr, arith}
use Rattle.std.proofs.lemmas.Option.{slice_get_within}
use Rattle.aw_list.specs.Members.{Member}
use Rattle.aw_list.proofs.Members.{member_left, member_right, member_split, got_map, got_unmap}
use Rattle.aw_term.specs.Rules as P
use Rattle.aw_term.specs.Views.{term_of}
use Rattle.aw_grammar.specs.declared.rule.Rule.{Rule}
use Rattle.aw_grammar.specs.declared.rule.Sort.{Sort}
use Rattle.aw_grammar.specs.GrammarView.{rule_of, child_of}
use Rattle.aw_iograph.specs.declared.rows.Arc.{Arc}
use Rattle.aw_iograph.specs.declared.occ.Occ.{Occ}
use Rattle.aw_iograph.specs.declared.occ.Flow.{Flow}
use Rattle.aw_iograph.specs.declared.io.Io.{Io}
use Rattle.aw_iograph.specs.Graphs.{Plus, step, more}
use Rattle.aw_iograph.specs.Occurrences.{inherited, given, entries, term_flows, child_flows, text_flows, IsPlace, place_of}
use Rattle.aw_iograph.specs.Dependence.{Edge, text, call}
use Rattle.aw_iograph.specs.Pairs.{Has}
use Rattle.aw_iograph.specs.Small.{HasFew}
use Rattle.aw_iograph.specs.Arcs.{arc_of, call_arc, IsStep, ArePlaced, IsGraphBy}
use Rattle.aw_iograph.specs.Rows.{ArrowOf}
use Rattle.aw_iograph.proofs.TextFlows.{child_there, child_only, flows_all, flows_only}
use Rattle.aw_iograph.proofs.Placing.{entry_place, term_place, place_below, place_one}

pub child_got : (r : P.Rule) (k : ℕ) (c : P.Child) → P.child_at r.children k ≡ Some c → (j : ℕ) × (k ≡ suc j) × (slice_get r.children j ≡ Some c)
child_got r zero c e = absurd cc
child_got r (suc j) c e = (j, refl, e)

edge_places : (r : P.Rule) (io : Io) (o u : Occ) → HasFew r → Edge r (Has io) o u → IsPlace o × IsPlace u
edge_places r io o u few (text v t e f x) = (entry_place r v o few e, term_place r t u few f)
edge_places r io o u few (call k i l c e h) =
    let (j, at, got) = child_got r k c e in let lt : j < length r.children = slice_get_within r.children j c got in
    let small : k ≤ 8 = omega (arith, few.children) in
    (record { child = small; counted = h.inherited.counted; number = h.inherited.few }, record { child = small; counted = h.result.counted; number = h.result.few })

-- the steps of a rule are the arcs of its children and to its results
pub steps_of : (sorts : List Sort) (r : Rule) (io : Io) → HasFew (rule_of sorts r) → IsGraphBy (rule_of sorts r) (Has io) (IsStep (entries (rule_of sorts r)) io r.children r.results)
steps_of sorts r io few = record { there = there; only = only; places = λ o u e. edge_places (rule_of sorts r) io o u few e }
  where
    es : List (Option Occ)
    es = entries (rule_of sorts r)

    last : List Flow
    last = term_flows es 0 true 1 (rule_of sorts r).results

    flow_there : (f : Flow) → Member f (text_flows (rule_of sorts r)) → IsStep es io r.children r.results (arc_of f)
    flow_there f m = elim (member_split f (child_flows es 1 (rule_of sorts r).children) last m) [
      | inl a ↦ (let (k, c, got, w) = child_only es (rule_of sorts r).children 1 f a in
          let (d, here, same) = got_unmap (child_of sorts) r.children k c got in let at : 1 + k ≡ suc k = omega arith in
          let flow : Member f (term_flows es (suc k) false 1 (map term_of d.args)) =
          subst (λ n. Member f (term_flows es n false 1 (map term_of d.args))) at
          (subst (λ (x : P.Child). Member f (term_flows es (1 + k) false 1 x.args)) same w) in
          inl (k, d, slice_get_within r.children k d here, here, inl (f, flow, refl)))
      | inr b ↦ inr (f, b, refl)
    ]

    there : (o u : Occ) → Edge (rule_of sorts r) (Has io) o u → IsStep es io r.children r.results (arc_of (record { from = o; to = u }))
    there o u (text v t e f x) = flow_there (record { from = o; to = u }) (flows_all (rule_of sorts r) o u v t e f x)
    there o u (call k i l c e h) =
        let (j, at, got) = child_got (rule_of sorts r) k c e in
        let (d, here, same) = got_unmap (child_of sorts) r.children j c got in
        subst (λ (n : ℕ). IsStep es io r.children r.results (call_arc n i l)) (sym at)
        (inl (j, d, slice_get_within r.children j d here, here, inr (i, l, (subst (λ (x : P.Child). Has io x.sort i l) same h, refl))))

    flow_only : (a : Arc) (f : Flow) → Member f (text_flows (rule_of sorts r)) → a ≡ arc_of f → (o : Occ) × (u : Occ) × IsPlace o × IsPlace u
        × Edge (rule_of sorts r) (Has io) o u × (a ≡ arc_of (record { from = o; to = u }))
    flow_only a f m e =
        let (v, t, g, h, x) = flows_only (rule_of sorts r) f m in
        (f.from, f.to, entry_place (rule_of sorts r) v f.from few g, term_place (rule_of sorts r) t f.to few h, text v t g h x, e)

    only : (a : Arc) → IsStep es io r.children r.results a → (o : Occ) × (u : Occ) × IsPlace o × IsPlace u × Edge (rule_of sorts r) (Has io) o u × (a ≡ arc_of (record { from = o; to = u }))
    only a (inl (k, c, lt, got, inl (f, m, e))) =
        let at : suc k ≡ 1 + k = omega arith in
        flow_only a f
        (member_left f (child_flows es 1 (rule_of sorts r).children) last
        (child_there es f (rule_of sorts r).children 1 k (child_of sorts c) (got_map (child_of sorts) r.children k c got) (subst (λ n. Member f (term_flows es n false 1 (map term_of c.args))) at m)))
        e
    only a (inl (k, c, lt, got, inr (i, l, q))) =
        let edge : Edge (rule_of sorts r) (Has io) (inherited (suc k) i) (given (suc k) l) = call (suc k) i l (child_of sorts c) (got_map (child_of sorts) r.children k c got) q.0 in
        let (from, to) = edge_places (rule_of sorts r) io (inherited (suc k) i) (given (suc k) l) few edge in
        (inherited (suc k) i, given (suc k) l, from, to, edge, q.1)
    only a (inr (f, m, e)) = flow_only a f (member_right f (child_flows es 1 (rule_of sorts r).children) last m) e

-- the same where the entries are given by an equation
pub steps_from : (sorts : List Sort) (r : Rule) (io : Io) (es : List (Option Occ)) → HasFew (rule_of sorts r) → es ≡ entries (rule_of sorts r) →
    IsGraphBy (rule_of sorts r) (Has io) (IsStep es io r.children r.results)
steps_from sorts r io es few e = subst (λ (x : List (Option Occ)). IsGraphBy (rule_of sorts r) (Has io) (IsStep x io r.children r.results)) (sym e) (steps_of sorts r io few)

pub graph_within : (r : P.Rule) (rel : ℕ → ℕ → ℕ → Type 0) (kind : Arc → Type 0) → IsGraphBy r rel kind → ArePlaced kind
graph_within r rel kind g a m =
    let (o, u, p, q, e, same) = g.only a m in
    (subst (λ (x : Arc). x.from < 144) (sym same) (place_below o p), subst (λ (x : Arc). x.to < 144) (sym same) (place_below u q))

-- a walk of the rule is one over its arcs
pub walk_arcs : (r : P.Rule) (rel : ℕ → ℕ → ℕ → Type 0) (kind : Arc → Type 0) → IsGraphBy r rel kind → {o u : Occ} → Plus (Edge r rel) o u → Plus (ArrowOf kind) (place_of o) (place_of u)
walk_arcs r rel kind g (step e) = step (g.there _ _ e)
walk_arcs r rel kind g (more e w) = more (g.there _ _ e) (walk_arcs r rel kind g w)

back_step : (r : P.Rule) (rel : ℕ → ℕ → ℕ → Type 0) (kind : Arc → Type 0) → IsGraphBy r rel kind → {a b : ℕ} → (o : Occ) → IsPlace o →
    a ≡ place_of o → ArrowOf kind a b → (u : Occ) × IsPlace u × (b ≡ place_of u) × Edge r rel o u
back_step r rel kind g {a = a} {b = b} o p at m =
    let (x, u, px, pu, e, same) = g.only (record { from = a; to = b }) m in
    let from : a ≡ place_of x = ap (λ (y : Arc). y.from) same in
    let one : x ≡ o = place_one x o px p (sym from ∙ at) in
    (u, pu, ap (λ (y : Arc). y.to) same, subst (λ (y : Occ). Edge r rel y u) one e)

back_walk : (r : P.Rule) (rel : ℕ → ℕ → ℕ → Type 0) (kind : Arc → Type 0) → IsGraphBy r rel kind → {a b : ℕ} → (o : Occ) → IsPlace o →
    a ≡ place_of o → Plus (ArrowOf kind) a b → (u : Occ) × IsPlace u × (b ≡ place_of u) × Plus (Edge r rel) o u
back_walk r rel kind g o p at (step m) = let (u, q, e, s) = back_step r rel kind g o p at m in (u, q, e, step s)
back_walk r rel kind g o p at (more m w) =
    let (v, q, e, s) = back_step r rel kind g o p at m in
    let (u, x, f, t) = back_walk r rel kind g v q e w in (u, x, f, more s t)

-- a walk over the arcs is one of the rule
pub arcs_walk : (r : P.Rule) (rel : ℕ → ℕ → ℕ → Type 0) (kind : Arc → Type 0) → IsGraphBy r rel kind → (o u : Occ) → IsPlace o → IsPlace u →
    Plus (ArrowOf kind) (place_of o) (place_of u) → Plus (Edge r rel) o u
arcs_walk r rel kind g o u p q w =
    let (v, x, e, s) = back_walk r rel kind g o p refl w in subst (λ (y : Occ). Plus (Edge r rel) o y) (place_one v u x q (sym e)) s

-- an occurrence on a circle has a place
pub circle_place : (r : P.Rule) (rel : ℕ → ℕ → ℕ → Type 0) (kind : Arc → Type 0) → IsGraphBy r rel kind → {o u : Occ} → Plus (Edge r rel) o u → IsPlace o
circle_place r rel kind g (step e) = let (p, q) = g.places _ _ e in p
circle_place r rel kind g (more e w) = let (p, q) = g.places _ _ e in p

-- and so has the end of a walk
pub end_place : (r : P.Rule) (rel : ℕ → ℕ → ℕ → Type 0) (kind : Arc → Type 0) → IsGraphBy r rel kind → {o u : Occ} → Plus (Edge r rel) o u → IsPlace u
end_place r rel kind g (step e) = let (p, q) = g.places _ _ e in q
end_place r rel kind g (more e w) = end_place r rel kind g w
