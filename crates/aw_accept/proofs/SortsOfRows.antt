-- Each row has the sort of its node's name.
use Rattle.std.proofs.Common.{◌≡◌, ℕ, suc, ◌+◌, Bool, true, false, cond, List, [], ◌∷◌, ◌++◌, map, length, Option, Some, None, slice_get, option_map}
use Rattle.std.proofs.Common.{refl, sym, ap, ◌∙◌, subst, inl, inr, eq-eqb, arith}
use Rattle.std.specs.Prelude.{nat_eq, option_and_then}
use Rattle.std.proofs.lemmas.Option.{same_Some, option_and_then_some}
use Rattle.aw_list.specs.Members.{Member}
use Rattle.aw_list.proofs.Members.{never, member_unmap}
use Rattle.aw_term.specs.Names.{Node, Ref, Step, below}
use Rattle.aw_term.specs.Rules.{Ground, Value, Child, Rule, Sort, Grammar, child_at, sort_of_step, sort_after, sort_of}
use Rattle.aw_term.specs.Configs.{Done, Row, Config, env, fill, child_rows, insert_row, insert_rows, row_of, done_row, put, row_put, develop}
use Rattle.aw_term.specs.Choices.{Choice, Start, Develop, Outcome, Refused, Starts, Takes, outcome, start_row, taken, undivided}
use Rattle.aw_term.specs.WellFormed.{Each}
use Rattle.aw_term.proofs.RowParts.{rounds_node}
use Rattle.aw_accept.specs.Sorts.{HaveTheirSorts, IsAtStart}
use Rattle.aw_accept.proofs.ConfigLemmas.{child_row, Member-insert_row, Member-insert_rows, Member-child_rows, Member-rounds, rounds-sort, done_row-same}
use Rattle.aw_accept.proofs.UndividedRuns.{Decoded, decode_on}

-- the steps of a longer name, one after the other
more_steps : (g : Grammar) (ys : List Step) (o : Option ℕ) (xs : List Step) → ((t : ℕ) → sort_after g t (xs ++ ys) ≡ option_and_then (λ u. sort_after g u ys) (sort_after g t xs))
    → option_and_then (λ t. sort_after g t (xs ++ ys)) o ≡ option_and_then (λ u. sort_after g u ys) (option_and_then (λ t. sort_after g t xs) o)
more_steps g ys None xs f = refl
more_steps g ys (Some t) xs f = f t

sort_after-append : (g : Grammar) (ys xs : List Step) (s : ℕ) → sort_after g s (xs ++ ys) ≡ option_and_then (λ u. sort_after g u ys) (sort_after g s xs)
sort_after-append g ys [] s = refl
sort_after-append g ys (x ∷ xs) s = more_steps g ys (sort_of_step g s x) xs (sort_after-append g ys xs)

by_start : (b : Bool) (x y : Option ℕ) (s t : ℕ) → (x ≡ Some s → y ≡ Some t) → cond b x None ≡ Some s → cond b y None ≡ Some t
by_start true x y s t f e = f e
by_start false x y s t f e = absurd cc

by_sort : (o : Option Sort) (x y : Option ℕ) (s t : ℕ) → (x ≡ Some s → y ≡ Some t) → option_and_then (λ (z : Sort). cond z.start x None) o ≡ Some s →
    option_and_then (λ (z : Sort). cond z.start y None) o ≡ Some t
by_sort None x y s t f e = absurd cc
by_sort (Some z) x y s t f e = by_start z.start x y s t f e

-- a child has the sort that its rule says
pub sort_of-below : (g : Grammar) (n : Node) (s ri k t : ℕ) → sort_of g n ≡ Some s → sort_of_step g s (record { rule = ri; child = k }) ≡ Some t → sort_of g (below n ri k) ≡ Some t
sort_of-below g n s ri k t e f =
    let step : List Step = record { rule = ri; child = k } ∷ [] in
    by_sort (slice_get g.sorts n.start) (sort_after g n.start n.steps) (sort_after g n.start (n.steps ++ step)) s t
    (λ h. sort_after-append g step n.steps n.start ∙ (ap (option_and_then (λ u. sort_after g u step)) h ∙ ap (option_and_then (λ u. Some u)) f)) e

pub sort_of_step-rule : (g : Grammar) (s ri k : ℕ) (rule : Rule) (d : Child) → slice_get g.rules ri ≡ Some rule → rule.sort ≡ s →
    slice_get rule.children k ≡ Some d → sort_of_step g s (record { rule = ri; child = suc k }) ≡ Some d.sort
sort_of_step-rule g s ri k rule d e f h =
    ap (option_and_then (λ (r : Rule). cond (nat_eq r.sort s) (option_map (λ (c : Child). c.sort) (child_at r.children (suc k))) None)) e
    ∙ (ap (λ b. cond b (option_map (λ (c : Child). c.sort) (slice_get rule.children k)) None) (eq-eqb rule.sort s f)
    ∙ ap (option_map (λ (c : Child). c.sort)) h)

same_sort : (g : Grammar) (q p : Row) → q.node ≡ p.node → q.sort ≡ p.sort → sort_of g p.node ≡ Some p.sort → sort_of g q.node ≡ Some q.sort
same_sort g q p node sort own = ap (sort_of g) node ∙ (own ∙ ap Some (sym sort))

developed : (g : Grammar) (c : Config) (n : Node) (ri : ℕ) (args : List Ground) (rule : Rule) (bs : List Value) → HaveTheirSorts g c →
    Decoded g c n ri args rule bs → HaveTheirSorts g (develop n ri rule bs args c)
developed g c n ri args rule bs own D y m =
    let (z, o, x) = Member-rounds (length rule.results) (row_put f) y (insert_rows children (map (done_row n (Done ri args)) c)) m in
    same_sort g y z (ap (λ (r : Row). r.node) x ∙ rounds_node (length rule.results) f z) (ap (λ (r : Row). r.sort) x ∙ rounds-sort (length rule.results) f z) (added z o)
  where
    e : List Value
    e = env n ri rule bs args

    f : Ref → Value
    f = put n (map (fill (env n ri rule bs args)) rule.results)

    children : List Row
    children = child_rows n ri (env n ri rule bs args) 1 rule.children

    here : sort_of g n ≡ Some rule.sort
    here = ap (sort_of g) (sym D.node) ∙ (own D.row D.held ∙ ap Some (sym D.sort))

    added : (z : Row) → Member z (insert_rows (child_rows n ri (env n ri rule bs args) 1 rule.children) (map (done_row n (Done ri args)) c)) → sort_of g z.node ≡ Some z.sort
    added z o =
        elim (Member-insert_rows z (child_rows n ri (env n ri rule bs args) 1 rule.children) (map (done_row n (Done ri args)) c) o) [
          | inl a ↦
              (let (j, d, h, x) = Member-child_rows z n ri (env n ri rule bs args) 1 rule.children a in
              let at : 1 + j ≡ suc j = omega arith in
              let is = x ∙ ap (λ k. child_row n ri (env n ri rule bs args) k d) at in
              same_sort g z (child_row n ri (env n ri rule bs args) (suc j) d) (ap (λ (r : Row). r.node) is) (ap (λ (r : Row). r.sort) is)
              (sort_of-below g n rule.sort ri (suc j) d.sort here (sort_of_step-rule g rule.sort ri j rule d D.rule_is refl h)))
          | inr a ↦
              (let (p, o', x) = member_unmap (done_row n (Done ri args)) z c a in
              same_sort g z p (ap (λ (r : Row). r.node) x ∙ done_row-same (λ (r : Row). r.node) n (Done ri args) p refl) (ap (λ (r : Row). r.sort) x
              ∙ done_row-same (λ (r : Row). r.sort) n (Done ri args) p refl) (own p o'))
        ]

started : (g : Grammar) (c : Config) (s k : ℕ) → HaveTheirSorts g c → IsAtStart g (Start s k) → HaveTheirSorts g (insert_row (start_row g s k) c)
started g c s k own (t, e, start) y m =
    elim (Member-insert_row y (start_row g s k) c m) [
      | inl a ↦ same_sort g y (start_row g s k) (ap (λ (r : Row). r.node) a) (ap (λ (r : Row). r.sort) a)
          (ap (option_and_then (λ (z : Sort). cond z.start (Some s) None)) e ∙ ap (λ b. cond b (Some s) None) start)
      | inr o ↦ own y o
    ]

-- one choice
pub taken-sorts : (g : Grammar) (c : Config) (x : Choice) (o : Outcome Value Ref) (d : Config) → IsAtStart g x → HaveTheirSorts g c → outcome g c x ≡ o → taken g c x o ≡ Some d → HaveTheirSorts g d
taken-sorts g c x (Refused a) d fits own e t = absurd cc
taken-sorts g c (Start s k) Starts d fits own e t = subst (HaveTheirSorts g) (same_Some _ _ t) (started g c s k own fits)
taken-sorts g c (Start s k) (Takes rule bs) d fits own e t = absurd cc
taken-sorts g c (Develop n ri args) Starts d fits own e t = absurd cc
taken-sorts g c (Develop n ri args) (Takes rule bs) d fits own e t =
    subst (HaveTheirSorts g) (same_Some _ _ t) (developed g c n ri args rule bs own (decode_on g c (row_of n c) n ri args rule bs refl e))

pub undivided-sorts : (g : Grammar) (c : Config) (xs : List Choice) (z : Config) → HaveTheirSorts g c → Each (IsAtStart g) xs → undivided g c xs ≡ Some z → HaveTheirSorts g z
undivided-sorts g c [] z own fits e = subst (HaveTheirSorts g) (same_Some _ _ e) own
undivided-sorts g c (x ∷ xs) z own fits e =
    option_and_then_some (λ d. undivided g d xs) (taken g c x (outcome g c x)) z e
    (λ d t f. undivided-sorts g d xs z (taken-sorts g c x (outcome g c x) d fits.0 own refl t) fits.1 f)

pub no_rows-sorts : (g : Grammar) → HaveTheirSorts g []
no_rows-sorts g q m = never m
