-- Why a message is not allowed next.
use Rattle.std.specs.Prelude.{nat_eq, take, ◌⊎◌}
use Rattle.std.proofs.Common.{◌≡◌, ℕ, zero, suc, ◌<◌, ◌≤◌, Bool, true, false, cond, List, [], ◌∷◌, ◌++◌, length, refl, sym, ap, ◌∙◌, subst, inl, inr, arith, eqb-true, append-nil}
use Rattle.std.proofs.lemmas.Bool.{cases_lt}
use Rattle.aw_list.specs.Members.{Member}
use Rattle.aw_list.proofs.Members.{never}
use Rattle.aw_term.specs.Rules.{Grammar, get}
use Rattle.aw_term.specs.Trees.{Never}
use Rattle.aw_typed.specs.Types.{Types}
use Rattle.aw_apply.specs.Messages.{Message}
use Rattle.aw_law_sites.specs.SiteEvents.{SiteEvent, site_run}
use Rattle.aw_law_sites.specs.Sites.{Site, empty_site}
use Rattle.aw_law_sites.specs.Worlds.{empty_world, Move, world_after}
use Rattle.aw_law_worlds.specs.Invariant.{sender}
use Rattle.aw_law_worlds.specs.Laws.{SiteIsFold}
use Rattle.aw_law_worlds.proofs.Settling.{run_both}
use Rattle.aw_law_nodes.proofs.Mail.{Given}
use Rattle.aw_law_journals.specs.Journals.{Entry, of_role, journal_at, AllFit}
use Rattle.aw_law_journals.specs.Laws.{MessagesHaveCauses}
use Rattle.aw_law_journals.proofs.Coming.{Came, came-none, came-more, fits-role, sent-there, more-box}
use Rattle.aw_law_journals.proofs.Reaching.{firsts-came, take-whole, length-first}
use Rattle.aw_law_journals.proofs.Sameness.{sent_or_not}

-- what a front sends, a longer one sends
front-box : (g : Grammar) (s : Site) (j : List SiteEvent) (n k : ℕ) → n ≤ k → (m : Message) → Member m (site_run g s (take n j)).outbox → Member m (site_run g s (take k j)).outbox
front-box g s j n k l m i =
    let z = take-two j n k l in
    subst (λ xs. Member m (site_run g s xs).outbox) z.1 (more-box g s (take n j) z.0 m i)
  where
    take-two : (j : List SiteEvent) (n k : ℕ) → n ≤ k → (rest : List SiteEvent) × (take n j ++ rest ≡ take k j)
    take-two j zero k l = (take k j, refl)
    take-two j (suc n) zero l = absurd (omega arith)
    take-two [] (suc n) (suc k) l = ([], refl)
    take-two (x ∷ j) (suc n) (suc k) l = let (rest, p) = take-two j n k (omega arith) in (rest, ap (◌∷◌ x) p)

-- the first place behind which a test holds
turning : (P : ℕ → Type 0) → ((n : ℕ) → P n ⊎ (P n → Never)) → (k : ℕ) → (P 0 → Never) → P k → (n : ℕ) × (n < k) × (P n → Never) × P (suc n)
turning P d zero f h = never (f h)
turning P d (suc k) f h = elim (d k) [ inl x ↦ (let (n, l, a, b) = turning P d k f x in (n, omega (arith, l), a, b)) | inr x ↦ (k, omega arith, x, h) ]

module _ (t : Types) (g : Grammar) (given : Given g) (fold : SiteIsFold g) where
  -- only declared roles have events that came
  others-none : (done : ℕ → List SiteEvent) (fs : List Move) → Came t g done fs → (xs : List Entry) (es : List Move) →
      AllFit t g (world_after g true fs) xs es → (r : ℕ) → g.roles ≤ r → of_role r xs ≡ []
  others-none done fs c [] [] f r l = refl
  others-none done fs c (x ∷ xs) (e ∷ es) f r l =
      let a = fits-role t g given fold done fs c x.role x.event e f.0 in
      let next = others-none (λ r. done r ++ of_role r (x ∷ [])) (fs ++ e ∷ []) (came-more t g done fs x e c f.0) xs es
      (subst (λ w. AllFit t g w xs es) (sym (run_both g (empty_world g true) fs (e ∷ []))) f.1) r l in
      other x xs r (nat_eq x.role r) refl (λ p. absurd (omega (arith, a, l, p))) next
    where
      other : (x : Entry) (xs : List Entry) (r : ℕ) (b : Bool) → nat_eq x.role r ≡ b → (x.role ≡ r → Never) → of_role r xs ≡ [] → cond b (x.event ∷ of_role r xs) (of_role r xs) ≡ []
      other x xs r true e f p = never (f (eqb-true x.role r e))
      other x xs r false e f p = p
  others-none done fs c [] (e ∷ es) f r l = never f
  others-none done fs c (x ∷ xs) [] f r l = never f

  pub messages_have_causes : MessagesHaveCauses t g
  messages_have_causes js ns es R r m q =
      let w = world_after g true es in
      let b = sender g m.kind in
      let j = journal_at js b in
      let s = empty_site true b in
      elim (sent_or_not m w.messages) [
        | inl i ↦ inl i
        | inr unsent ↦ elim (sent_or_not m (site_run g s j).outbox) [
          | inr nobody ↦ inr (inl nobody)
          | inl sends ↦ (let all = subst (λ xs. Member m (site_run g s xs).outbox) (sym (take-whole j (length j) (omega arith))) sends in
              let (n, l, before, after) = turning (λ n. Member m (site_run g s (take n j)).outbox) (λ n. sent_or_not m (site_run g s (take n j)).outbox) (length j) (λ i. i) all in
              inr (inr (n, later m b n unsent after, l, (before, after))))
        ]
      ]
    where
      later : (m : Message) (b n : ℕ) → (Member m (world_after g true es).messages → Never) → Member m (site_run g (empty_site true b) (take (suc n) (journal_at js b))).outbox → get 0 ns b ≤ n
      later m b n unsent after =
          elim (cases_lt n (get 0 ns b)) [
            | inr l ↦ l
            | inl l ↦ elim (cases_lt b g.roles) [
              | inl declared ↦ (let i = front-box g (empty_site true b) (journal_at js b) (suc n) (get 0 ns b) l m after in
                  never (unsent (sent-there t g given fold (λ r. take (get 0 ns r) (journal_at js r)) es (firsts-came t g js ns es R.joint) b declared
                  (take (get 0 ns b) (journal_at js b)) [] (sym (append-nil (take (get 0 ns b) (journal_at js b)))) m i)))
              | inr other ↦ (let c = firsts-came t g js ns es R.joint in
                  let none = sym (c.1 b) ∙ others-none (λ r. []) [] (came-none t g) c.0 es c.2 b other in
                  let size = length-first (journal_at js b) (get 0 ns b) (R.within b) in
                  let zero_ : length (take (get 0 ns b) (journal_at js b)) ≡ 0 = ap length none in
                  absurd (omega (arith, l, size, zero_)))
            ]
          ]
