-- A row that is done was developed by one of the choices.
use Rattle.std.proofs.Common.{◌≡◌, ℕ, List, [], ◌∷◌, map, length, Some, refl, sym, ap, ◌∙◌, subst, inl, inr}
use Rattle.std.specs.Prelude.{◌⊎◌}
use Rattle.std.proofs.lemmas.Option.{same_Some, option_and_then_some}
use Rattle.aw_list.specs.Members.{Member}
use Rattle.aw_list.proofs.Members.{never, member_unmap}
use Rattle.aw_term.specs.Names.{Node}
use Rattle.aw_term.specs.Rules.{Ground, Value, Rule, Grammar}
use Rattle.aw_term.specs.Configs.{Pending, Done, Row, Config, env, fill, child_rows, insert_rows, done_row, put, row_put, rounds, develop}
use Rattle.aw_term.specs.Choices.{Choice, Start, Develop, Outcome, Refused, Starts, Takes, outcome, start_row, taken, undivided}
use Rattle.aw_term.proofs.RowParts.{rounds_node}
use Rattle.aw_accept.proofs.ConfigLemmas.{Member-insert_row, Member-insert_rows, Member-child_rows, Member-rounds, rounds-state, done_row-cases, done_row-same}
use Rattle.aw_world_waits.specs.SiteWaits.{IsUntaken}

-- a row is pending, or its node was developed by one of these
abbrev pub Told : (Choice → Type 0) → Row → Type 0
Told has q = (q.state ≡ Pending) ⊎ ((r : ℕ) × (args : List Ground) × has (Develop q.node r args))

abbrev pub AllTold : (Choice → Type 0) → Config → Type 0
AllTold has c = (q : Row) → Member q c → Told has q

module _ (g : Grammar) (has : Choice → Type 0) where
  rounds_told : (m : ℕ) (f : _) (z : Row) → Told has z → Told has (rounds m (row_put f) z)
  rounds_told m f z (inl e) = inl (rounds-state m f z ∙ e)
  rounds_told m f z (inr (r, args, h)) = inr (r, args, subst (λ n. has (Develop n r args)) (sym (rounds_node m f z)) h)

  developed_told : (n : Node) (ri : ℕ) (rule : Rule) (bs : List Value) (args : List Ground) (c : Config) → AllTold has c → has (Develop n ri args) → AllTold has (develop n ri rule bs args c)
  developed_told n ri rule bs args c told here y m =
      let e = env n ri rule bs args in
      let f = put n (map (fill e) rule.results) in
      let (z, o, x) = Member-rounds (length rule.results) (row_put f) y (insert_rows (child_rows n ri e 1 rule.children) (map (done_row n (Done ri args)) c)) m in
      subst (Told has) (sym x) (rounds_told (length rule.results) f z (added z o))
    where
      was : (p : Row) → Told has p → Told has (done_row n (Done ri args) p)
      was p t = elim (done_row-cases n (Done ri args) p) [
        | inl a ↦ inr (ri, args, subst (λ k. has (Develop k ri args)) (a.0 ∙ sym (done_row-same (λ (r : Row). r.node) n (Done ri args) p refl)) here)
        | inr a ↦ subst (Told has) (sym a) t
      ]

      added : (z : Row) → Member z (insert_rows (child_rows n ri (env n ri rule bs args) 1 rule.children) (map (done_row n (Done ri args)) c)) → Told has z
      added z o =
          elim (Member-insert_rows z (child_rows n ri (env n ri rule bs args) 1 rule.children) (map (done_row n (Done ri args)) c) o) [
            | inl a ↦ (let (j, d, f, x) = Member-child_rows z n ri (env n ri rule bs args) 1 rule.children a in inl (ap (λ (q : Row). q.state) x))
            | inr a ↦ (let (p, o', x) = member_unmap (done_row n (Done ri args)) z c a in subst (Told has) (sym x) (was p (told p o')))
          ]

  taken_told : (c : Config) (x : Choice) (o : Outcome _ _) (d : Config) → AllTold has c → has x → taken g c x o ≡ Some d → AllTold has d
  taken_told c x (Refused a) d told h t = absurd cc
  taken_told c (Start s k) Starts d told h t = subst (AllTold has) (same_Some _ _ t) (λ y m. elim (Member-insert_row y (start_row g s k) c m)
      [ inl a ↦ inl (ap (λ (q : Row). q.state) a) | inr a ↦ told y a ])
  taken_told c (Start s k) (Takes rule bs) d told h t = absurd cc
  taken_told c (Develop n ri args) Starts d told h t = absurd cc
  taken_told c (Develop n ri args) (Takes rule bs) d told h t = subst (AllTold has) (same_Some _ _ t) (developed_told n ri rule bs args c told h)

  run_told : (xs : List Choice) (c z : Config) → AllTold has c → ((x : Choice) → Member x xs → has x) → undivided g c xs ≡ Some z → AllTold has z
  run_told [] c z told h e = subst (AllTold has) (same_Some _ _ e) told
  run_told (x ∷ xs) c z told h e =
      option_and_then_some (λ d. undivided g d xs) (taken g c x (outcome g c x)) z e (λ d t f. run_told xs d z (taken_told c x (outcome g c x) d told (h x (inl refl)) t) (λ y m. h y (inr m)) f)

-- on a node on which none was taken every row is pending
pub untaken_pending : (g : Grammar) (cs : List Choice) (c : Config) → undivided g [] cs ≡ Some c → (q : Row) → Member q c → IsUntaken cs q.node → q.state ≡ Pending
untaken_pending g cs c e q m none =
    elim (run_told g (λ x. Member x cs) cs [] c (λ q m. never m) (λ x m. m) e q m) [ inl a ↦ a | inr (r, args, h) ↦ never (none r args h) ]
