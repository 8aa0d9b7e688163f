-- Loops over patterns, terms and children.
use Rattle.std.proofs.Common.{◌≡◌, ℕ, ◌+◌, ◌<◌, ◌≤◌, List, [], ◌∷◌, ◌++◌, map, length, drop, Option, Some, None, refl, sym, ap, ◌∙◌, get_or, append_assoc}
use Rattle.std.proofs.lemmas.List.{map-append}
use Rattle.aw_term.specs.Rules.{get}
use Rattle.aw_term.specs.WellFormed.{leaves, leaves_of}
use Rattle.aw_term.specs.Views.{pattern_of, term_of}
use Rattle.aw_term.proofs.ViewLemmas.{pattern_con, term_con}
use Rattle.aw_term.proofs.Joined.{leaves_join}
use Rattle.aw_term.specs.declared.term.Pattern as pattern
use Rattle.aw_term.specs.declared.term.Expr as expr
use Rattle.aw_term.specs.declared.term.Pattern.{Pattern}
use Rattle.aw_term.specs.declared.term.Expr.{Expr}
use Rattle.aw_iograph.specs.declared.occ.Occ.{Occ}
use Rattle.aw_iograph.specs.declared.occ.Flow.{Flow}
use Rattle.aw_iograph.specs.Occurrences.{flow_to, flows_to}
use Rattle.aw_iograph.proofs.Behind.{behind_more, behind_all}

abbrev pub part_entries : Occ → ℕ → List Pattern → List (Option Occ)
part_entries at n ps = map (λ v. Some at) (leaves_of (map pattern_of ps))

pub part_more : (at : Occ) (ps : List Pattern) (i : ℕ) (p : Pattern) (done next total : List (Option Occ)) → i < length ps → p ≡ get_or ps i p →
    next ≡ done ++ map (λ v. Some at) (leaves (pattern_of p)) →
    done ++ map (λ v. Some at) (leaves_of (map pattern_of (drop i ps))) ≡ total → next ++ map (λ v. Some at) (leaves_of (map pattern_of (drop (i + 1) ps))) ≡ total
part_more at ps i p done next total lt here step e =
    behind_more (part_entries at) (λ n q. map (λ v. Some at) (leaves (pattern_of q))) (λ n q qs. map-append (λ v. Some at) (leaves (pattern_of q))
    (leaves_of (map pattern_of qs))) ps i 0 1 p done next total lt here refl step e

pub part_all : (at : Occ) (ps : List Pattern) (i : ℕ) (done total : List (Option Occ)) → length ps ≤ i → done ++ map (λ v. Some at) (leaves_of (map pattern_of (drop i ps))) ≡ total → done ≡ total
part_all at ps i done total le e = behind_all (part_entries at) (λ n. refl) ps i 0 done total le e

pub flows_append : (es : List (Option Occ)) (u : Occ) (vs ws : List ℕ) → flows_to es u (vs ++ ws) ≡ flows_to es u vs ++ flows_to es u ws
flows_append es u [] ws = refl
flows_append es u (v ∷ vs) ws = ap (λ fs. flow_to (get None es v) u ++ fs) (flows_append es u vs ws) ∙ sym (append_assoc (flow_to (get None es v) u) (flows_to es u vs) (flows_to es u ws))

pub use_more : (es : List (Option Occ)) (u : Occ) (ts : List Expr) (i : ℕ) (t : Expr) (done next total : List Flow) → i < length ts →
    t ≡ get_or ts i t → next ≡ done ++ flows_to es u (leaves (term_of t)) →
    done ++ flows_to es u (leaves_of (map term_of (drop i ts))) ≡ total → next ++ flows_to es u (leaves_of (map term_of (drop (i + 1) ts))) ≡ total
use_more es u ts i t done next total lt here step e =
    behind_more (λ n qs. flows_to es u (leaves_of (map term_of qs))) (λ n q. flows_to es u (leaves (term_of q)))
    (λ n q qs. flows_append es u (leaves (term_of q)) (leaves_of (map term_of qs))) ts i 0 1 t done next total lt here refl step e

pub use_all : (es : List (Option Occ)) (u : Occ) (ts : List Expr) (i : ℕ) (done total : List Flow) → length ts ≤ i → done ++ flows_to es u (leaves_of (map term_of (drop i ts))) ≡ total → done ≡ total
use_all es u ts i done total le e = behind_all (λ n qs. flows_to es u (leaves_of (map term_of qs))) (λ n. refl) ts i 0 done total le e

pub pattern_leaves : (c : ℕ) (ps : List Pattern) → leaves_of (map pattern_of ps) ≡ leaves (pattern_of (pattern.Con c ps))
pattern_leaves c ps = sym (ap leaves (pattern_con c ps) ∙ leaves_join (map pattern_of ps))

pub term_leaves : (c : ℕ) (ts : List Expr) → leaves_of (map term_of ts) ≡ leaves (term_of (expr.Con c ts))
term_leaves c ts = sym (ap leaves (term_con c ts) ∙ leaves_join (map term_of ts))
