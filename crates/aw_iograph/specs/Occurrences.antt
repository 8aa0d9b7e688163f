-- Occurrences of a rule: where its variables enter, and which term stands where.
use Rattle.std.specs.Prelude.{◌≡◌, ℕ, zero, suc, ◌+◌, ◌*◌, ◌-◌, ◌<◌, ◌≤◌, Bool, true, false, List, [], ◌∷◌, ◌++◌, map, Option, Some, None, slice_get, if◌then◌else◌, option_and_then, replicate, ◌⊎◌}
use Rattle.aw_term.specs.Rules.{Term, Child, Rule, get, upto, child_at}
use Rattle.aw_term.specs.WellFormed.{leaves}
use Rattle.aw_iograph.specs.declared.occ.Occ.{Occ}
use Rattle.aw_iograph.specs.declared.occ.Flow.{Flow}

-- inherited value i of child k, or of the left side where k is 0
abbrev pub inherited : ℕ → ℕ → Occ
inherited k i = record { child = k; result = false; number = i }

-- result j of child k, or of the left side where k is 0
abbrev pub given : ℕ → ℕ → Occ
given k j = record { child = k; result = true; number = j }

-- item i, counted from 1
abbrev pub item : {A : Type 0} → List A → ℕ → Option A
item xs zero = None
item xs (suc i) = slice_get xs i

-- where the variables of these patterns enter: at their inherited values, counted from i
abbrev pub pattern_entries : ℕ → List Term → List (Option Occ)
pattern_entries i [] = []
pattern_entries i (p ∷ ps) = map (λ v. Some (inherited 0 i)) (leaves p) ++ pattern_entries (suc i) ps

-- where the results of these children enter: at the children, counted from k
abbrev pub child_entries : ℕ → List Child → List (Option Occ)
child_entries k [] = []
child_entries k (c ∷ cs) = map (λ l. Some (given k l)) (upto 1 c.outs) ++ child_entries (suc k) cs

-- where each variable enters, by its number; a parameter enters at no occurrence
abbrev pub entries : Rule → List (Option Occ)
entries r = pattern_entries 1 r.patterns ++ (replicate r.params None ++ child_entries 1 r.children)

-- the argument of a child that stands at its inherited value
abbrev pub argument_at : Rule → ℕ → ℕ → Option Term
argument_at r k i = option_and_then (λ (c : Child). item c.args i) (child_at r.children k)

-- the term of a result of the left side
abbrev pub result_at : Rule → ℕ → ℕ → Option Term
result_at r zero j = item r.results j
result_at r (suc k) j = None

-- the term from which an occurrence has its value
abbrev pub term_at : Rule → Occ → Option Term
term_at r o = if o.result then result_at r o.child o.number else argument_at r o.child o.number

-- at most 8 children, and at most 8 inherited values and 8 results of each
pub record IsPlace (o : Occ) : Type 0 where
  pub child : o.child ≤ 8
  pub counted : 0 < o.number
  pub number : o.number ≤ 8

-- the place of an occurrence in their order, counted from 0
-- (occurrences are numbered from 1)
abbrev pub place_of : Occ → ℕ
place_of o = o.child * 16 + ((if o.result then 8 else 0) + (o.number - 1))

-- from the place where a variable enters to an occurrence that uses it
abbrev pub flow_to : Option Occ → Occ → List Flow
flow_to None u = []
flow_to (Some o) u = record { from = o; to = u } ∷ []

-- from where each of these variables enters to one occurrence
abbrev pub flows_to : List (Option Occ) → Occ → List ℕ → List Flow
flows_to es u [] = []
flows_to es u (v ∷ vs) = flow_to (get None es v) u ++ flows_to es u vs

-- to the occurrences of child k, numbered from i, that have these terms
abbrev pub term_flows : List (Option Occ) → ℕ → Bool → ℕ → List Term → List Flow
term_flows es k b i [] = []
term_flows es k b i (t ∷ ts) = flows_to es (record { child = k; result = b; number = i }) (leaves t) ++ term_flows es k b (suc i) ts

-- to the inherited values of children from k on
abbrev pub child_flows : List (Option Occ) → ℕ → List Child → List Flow
child_flows es k [] = []
child_flows es k (c ∷ cs) = term_flows es k false 1 c.args ++ child_flows es (suc k) cs

-- in the text of a rule: to the inherited values of its children, and then to its results
abbrev pub text_flows : Rule → List Flow
text_flows r = child_flows (entries r) 1 r.children ++ term_flows (entries r) 0 true 1 r.results

-- o is u or comes before it: by child, inherited values before results, and then by number
abbrev pub IsUpTo : Occ → Occ → Type 0
IsUpTo o u = (o.child < u.child) ⊎ ((o.child ≡ u.child) × (((o.result ≡ false) × (u.result ≡ true)) ⊎ ((o.result ≡ u.result) × (o.number ≤ u.number))))
