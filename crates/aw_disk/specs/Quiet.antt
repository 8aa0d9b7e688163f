-- Calls that write nothing.
use Rattle.std.specs.Prelude.{◌≡◌, ℕ, ◌≤◌, List, Bool}
use Rattle.std.proofs.Common.{refl, ◌∙◌}
use Rattle.aw_disk.specs.Disk.{Elapses, LeavesOnly}
use Rattle.aw_disk.specs.Moments.{started, goes_on, runs_on}

-- Nothing was written, at most synced: the same is read, and a crash leaves nothing new, at any moment.
pub record Quiet {D : Type 0} (tells : D → Bool) (seen : D → List ℕ) (may_leave : D → List ℕ → Type 0) (moment : D → ℕ) (left_since : D → ℕ → List ℕ → Type 0) (old new : D) : Type 0 where
  pub told_same : tells new ≡ tells old
  pub seen_same : seen new ≡ seen old
  pub no_more : (c : List ℕ) → may_leave new c → may_leave old c
  pub any_moment : LeavesOnly moment left_since old new (may_leave old)

module _ {D : Type 0} (tells : D → Bool) (seen : D → List ℕ) (may_leave : D → List ℕ → Type 0) (moment : D → ℕ) (left_since : D → ℕ → List ℕ → Type 0)
    (counts_now : (d : D) (t : ℕ) (c : List ℕ) → t ≤ moment d → may_leave d c → left_since d t c)
    (only_now : (d : D) (c : List ℕ) → left_since d (moment d) c → may_leave d c) where
  pub quiet_none : (d : D) → Quiet tells seen may_leave moment left_since d d
  quiet_none d = record { told_same = refl; seen_same = refl; no_more = λ c left. left; any_moment = started moment left_since d (may_leave d) (only_now d) }

  pub quiet_more : (old mid new : D) → Quiet tells seen may_leave moment left_since old mid → tells new ≡ tells mid → seen new ≡ seen mid →
      ((c : List ℕ) → may_leave new c → may_leave mid c) → Elapses (moment mid) (moment new) (left_since mid) (left_since new) (may_leave new) →
      Quiet tells seen may_leave moment left_since old new
  quiet_more old mid new so_far same_tells same_seen fewer time = record {
    told_same = same_tells ∙ so_far.told_same;
    seen_same = same_seen ∙ so_far.seen_same;
    no_more = λ c left. so_far.no_more c (fewer c left);
    any_moment = goes_on moment left_since old mid new (may_leave old) (may_leave new) so_far.any_moment time (counts_now new) (λ c left. so_far.no_more c (fewer c left));
  }

  -- one quiet run and then another
  pub quiet_then : (old mid new : D) → Quiet tells seen may_leave moment left_since old mid → Quiet tells seen may_leave moment left_since mid new →
      Quiet tells seen may_leave moment left_since old new
  quiet_then old mid new first next = record {
    told_same = next.told_same ∙ first.told_same;
    seen_same = next.seen_same ∙ first.seen_same;
    no_more = λ c left. first.no_more c (next.no_more c left);
    any_moment = runs_on moment left_since old mid new (may_leave old) (may_leave mid) first.any_moment next.any_moment first.no_more;
  }
