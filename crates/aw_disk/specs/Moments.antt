-- How runs of calls of a disk go on.
use Rattle.std.specs.Prelude.{ℕ, ◌≤◌, List}
use Rattle.std.proofs.Common.{inl, inr, ⊎_elim, arith}
use Rattle.aw_disk.specs.Disk.{Elapses, LeavesOnly}

module _ {D : Type 0} (moment : D → ℕ) (left_since : D → ℕ → List ℕ → Type 0) where
  -- before the first call
  pub started : (old : D) (P : List ℕ → Type 0) → ((c : List ℕ) → left_since old (moment old) c → P c) → LeavesOnly moment left_since old old P
  started old P here = record { later = omega arith; each = here; keeps = λ t c le left. left; before = λ t c le left. inl left }

  -- one call more, after which a crash leaves what has P
  pub goes_on : (old mid new : D) (P may_leave : List ℕ → Type 0) → LeavesOnly moment left_since old mid P → Elapses (moment mid) (moment new) (left_since mid) (left_since new) may_leave
      → ((s : ℕ) (c : List ℕ) → s ≤ moment new → may_leave c → left_since new s c) → ((c : List ℕ) → may_leave c → P c) → LeavesOnly moment left_since old new P
  goes_on old mid new P may_leave so_far time counts here = record {
    later = omega (arith, so_far.later, time.later);
    each = λ c left. ⊎_elim (so_far.each c) (here c) (time.nothing_else (moment old) c so_far.later left);
    keeps = λ t c le left. time.keeps t c (omega (arith, le, so_far.later)) (so_far.keeps t c le left);
    before = λ t c le left. ⊎_elim
        (λ past. ⊎_elim (λ was. inl was) (λ again. inr (λ s early. time.keeps s c (omega (arith, early, so_far.later)) (again s early))) (so_far.before t c le past))
        (λ now. inr (λ s early. counts s c (omega (arith, early, so_far.later, time.later)) now))
        (time.nothing_else t c (omega (arith, le, so_far.later)) left);
  }

  -- one run and then another
  pub runs_on : (old mid new : D) (P Q : List ℕ → Type 0) → LeavesOnly moment left_since old mid P → LeavesOnly moment left_since mid new Q →
      ((c : List ℕ) → Q c → P c) → LeavesOnly moment left_since old new P
  runs_on old mid new P Q so_far then_run same = record {
    later = omega (arith, so_far.later, then_run.later);
    each = λ c left. ⊎_elim (so_far.each c) (λ again. same c (then_run.each c (again (moment mid) (omega arith)))) (then_run.before (moment old) c so_far.later left);
    keeps = λ t c le left. then_run.keeps t c (omega (arith, le, so_far.later)) (so_far.keeps t c le left);
    before = λ t c le left. ⊎_elim
        (λ past. ⊎_elim (λ was. inl was) (λ again. inr (λ s early. then_run.keeps s c (omega (arith, early, so_far.later)) (again s early))) (so_far.before t c le past))
        (λ now. inr (λ s early. now s (omega (arith, early, so_far.later))))
        (then_run.before t c (omega (arith, le, so_far.later)) left);
  }

  pub weaker : (old new : D) (P Q : List ℕ → Type 0) → LeavesOnly moment left_since old new P → ((c : List ℕ) → P c → Q c) → LeavesOnly moment left_since old new Q
  weaker old new P Q run so = record { later = run.later; each = λ c left. so c (run.each c left); keeps = run.keeps; before = run.before }

  -- what is read at the end is one of the outcomes
  pub read_last : (old new : D) (P : List ℕ → Type 0) (seen : List ℕ) → LeavesOnly moment left_since old new P → ((t : ℕ) → t ≤ moment new → left_since new t seen) → P seen
  read_last old new P seen run counts = run.each seen (counts (moment old) run.later)
