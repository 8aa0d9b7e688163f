-- Journals whose first events are read, one behind the other.
use Rattle.std.specs.Prelude.{slice_get}
use Rattle.std.proofs.Common.{◌≡◌, ℕ, ◌+◌, ◌<◌, ◌≤◌, List, [], ◌∷◌, ◌++◌, length, Option, Some, refl, sym, ap, ◌∙◌, subst, inl, inr, arith}
use Rattle.std.proofs.lemmas.Bool.{cases_lt}
use Rattle.std.proofs.lemmas.Option.{same_Some}
use Rattle.aw_journal.specs.Events.{Event}
use Rattle.aw_journal.specs.declared.payload.NodeEvent.{NodeEvent}
use Rattle.aw_book_drive.specs.Lanes.{Reads, IsLane, AreFresh}
use Rattle.aw_book_drive.specs.declared.lanes.Lane.{Lane}
use Rattle.aw_book_drive.proofs.Coming.{lane-fresh}
use Rattle.aw_book_drive.proofs.Fronts.{from-front}
use Rattle.aw_book_drive.proofs.Places.{put-here, put-other, none-past}

-- what stands behind all others
last-there : {A : Type 0} (xs : List A) (x : A) → slice_get (xs ++ x ∷ []) (length xs) ≡ Some x
last-there [] x = refl
last-there (y ∷ xs) x = last-there xs x

module _ {S : Type 0} (gives : S → List Event → Type 0) (firsts sources new : List S) (lanes : List Lane) (role : ℕ) (found : Option NodeEvent) (l : role < length firsts)
    (many : length sources ≡ length firsts) (count : length lanes ≡ role) (reads : Reads gives sources new role found)
    (others : (r : ℕ) → role ≤ r → slice_get sources r ≡ slice_get firsts r) where
  pub others-more : (r : ℕ) → role + 1 ≤ r → slice_get new r ≡ slice_get firsts r
  others-more r m =
      ap (λ (ss : List S). slice_get ss r) reads.others ∙ (put-other sources role r reads.source (λ e. absurd (omega (arith, m, e))) ∙ others r (omega (arith, m)))

  -- the lane of the one that was read
  here : (s source : S) (lane : Lane) → slice_get firsts role ≡ Some s → slice_get new role ≡ Some source →
      slice_get (lanes ++ record { next = found; count = 0 } ∷ []) role ≡ Some lane → IsLane gives (gives s) source lane []
  here s source lane a b c =
      let fresh : Lane = record { next = found; count = 0 } in
      let stood : slice_get sources role ≡ Some s = others role (omega arith) ∙ a in
      let within : role < length sources = omega (arith, l, many) in
      let q : reads.source ≡ source = same_Some _ _ (sym (put-here sources role reads.source within) ∙ (ap (λ (ss : List S). slice_get ss role) (sym reads.others) ∙ b)) in
      let last : slice_get (lanes ++ fresh ∷ []) role ≡ Some fresh = ap (slice_get (lanes ++ fresh ∷ [])) (sym count) ∙ last-there lanes fresh in
      let e : fresh ≡ lane = same_Some _ _ (sym last ∙ c) in
      subst (λ (z : S). IsLane gives (gives s) z lane []) q (subst (λ (y : Lane). IsLane gives (gives s) reads.source y []) e (lane-fresh gives s reads.source found (reads.given s stood)))

  pub each-more : ((r : ℕ) (s source : S) (lane : Lane) → r < role → slice_get firsts r ≡ Some s → slice_get sources r ≡ Some source → slice_get lanes r ≡ Some lane →
      IsLane gives (gives s) source lane []) → (r : ℕ) (s source : S) (lane : Lane) → r < role + 1 → slice_get firsts r ≡ Some s → slice_get new r ≡ Some source →
      slice_get (lanes ++ record { next = found; count = 0 } ∷ []) r ≡ Some lane → IsLane gives (gives s) source lane []
  each-more each r s source lane m a b c =
      elim (cases_lt r role) [
        | inl less ↦ each r s source lane less a
            (sym (put-other sources role r reads.source (λ e. absurd (omega (arith, less, e)))) ∙ (ap (λ (ss : List S). slice_get ss r) (sym reads.others) ∙ b))
            (sym (from-front lanes (record { next = found; count = 0 } ∷ []) r (omega (arith, less, count))) ∙ c)
        | inr more ↦ (let p : role ≡ r = omega (arith, m, more) in
            here s source lane (ap (slice_get firsts) p ∙ a) (ap (slice_get new) p ∙ b) (ap (slice_get (lanes ++ record { next = found; count = 0 } ∷ [])) p ∙ c))
      ]

-- all were read
pub all-fresh : {S : Type 0} (gives : S → List Event → Type 0) (firsts sources : List S) (lanes : List Lane) (role : ℕ) → length firsts ≤ role → role ≤ length firsts → length sources ≡ length firsts →
    length lanes ≡ role → ((r : ℕ) (s source : S) (lane : Lane) → r < role → slice_get firsts r ≡ Some s → slice_get sources r ≡ Some source → slice_get lanes r ≡ Some lane →
    IsLane gives (gives s) source lane []) → AreFresh gives firsts sources lanes
all-fresh gives firsts sources lanes role past within many count each = record {
  many = omega (arith, past, within, many, count);
  each = λ r s source lane a b c. (let n = none-past firsts r s a in each r s source lane (omega (arith, n, past)) a b c);
}
