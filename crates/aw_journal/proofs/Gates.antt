-- What a crash leaves while a record is written behind a closed gate, and then the gate is opened.
use Rattle.std.specs.Prelude.{◌≡◌, ℕ, ◌+◌, List, [], ◌∷◌, ◌++◌, Bool, IsTrue, length}
use Rattle.std.proofs.Common.{sym, ◌∙◌, ap, subst}
use Rattle.aw_disk.specs.Disk.{written, Torn, Only}
use Rattle.aw_journal.proofs.Places.{torn_behind, torn_place, written_behind, written_place}
use Rattle.aw_journal.specs.Journal.{AfterTorn, StandsAt, behind_gate}

module _ {D : Type 0} (tells : D → Bool) (seen : D → List ℕ) (may_leave : D → List ℕ → Type 0) where
  abbrev Stands : D → ℕ → List ℕ → List ℕ → ℕ → Type 0
  Stands = StandsAt tells seen may_leave

  -- the bytes stand behind the gate
  pub staged : (old new : D) (place : ℕ) (before rest bytes : List ℕ) (gate : ℕ) → Stands old place before rest gate → tells new ≡ tells old →
      seen new ≡ written (place + 1) bytes (seen old) → Only (seen new) (may_leave new) → Stands new place before (behind_gate bytes rest) gate
  staged old new place before rest bytes gate stands same is only = record {
    told = subst IsTrue (sym same) stands.told;
    is = is ∙ ap (λ (k : ℕ). written (k + 1) bytes (seen old)) stands.place_is ∙ ap (λ (f : List ℕ). written (length before + 1) bytes f) stands.is ∙ written_behind before rest bytes gate;
    durable = only;
    place_is = stands.place_is;
  }

  -- the gate is another
  pub opened_gate : (old new : D) (place : ℕ) (before rest : List ℕ) (gate other : ℕ) → Stands old place before rest gate → tells new ≡ tells old →
      seen new ≡ written place (other ∷ []) (seen old) → Only (seen new) (may_leave new) → Stands new place before rest other
  opened_gate old new place before rest gate other stands same is only = record {
    told = subst IsTrue (sym same) stands.told;
    is = is ∙ ap (λ (k : ℕ). written k (other ∷ []) (seen old)) stands.place_is ∙ ap (λ (f : List ℕ). written (length before) (other ∷ []) f) stands.is ∙ written_place before rest gate other;
    durable = only;
    place_is = stands.place_is;
  }

  -- a crash while bytes are written behind the gate leaves the gate
  pub staged_outcome : (old : D) (place n : ℕ) (before rest : List ℕ) (gate : ℕ) → Stands old place before rest gate → (c : List ℕ) →
      AfterTorn (place + 1) n (may_leave old) c → (tail : List ℕ) × (c ≡ before ++ gate ∷ tail)
  staged_outcome old place n before rest gate stands c left =
      let was : left.0 ≡ before ++ gate ∷ rest = stands.durable left.0 left.1 ∙ stands.is in
      let torn : Torn (place + 1) n (before ++ gate ∷ rest) c = subst (λ (f : List ℕ). Torn (place + 1) n f c) was left.2 in
      let torn_there : Torn (length before + 1) n (before ++ gate ∷ rest) c = subst (λ (k : ℕ). Torn (k + 1) n (before ++ gate ∷ rest) c) stands.place_is torn in
      torn_behind before rest c gate n torn_there

  -- a crash while the gate is written leaves the bytes behind it
  pub gate_outcome : (old : D) (place : ℕ) (before rest : List ℕ) (gate : ℕ) → Stands old place before rest gate → (c : List ℕ) →
      AfterTorn place 1 (may_leave old) c → (other : ℕ) × (c ≡ before ++ other ∷ rest)
  gate_outcome old place before rest gate stands c left =
      let was : left.0 ≡ before ++ gate ∷ rest = stands.durable left.0 left.1 ∙ stands.is in
      let torn : Torn place 1 (before ++ gate ∷ rest) c = subst (λ (f : List ℕ). Torn place 1 f c) was left.2 in
      let torn_there : Torn (length before) 1 (before ++ gate ∷ rest) c = subst (λ (k : ℕ). Torn k 1 (before ++ gate ∷ rest) c) stands.place_is torn in
      torn_place before rest c gate torn_there
