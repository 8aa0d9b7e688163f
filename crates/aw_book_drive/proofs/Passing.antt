-- Steps of the join, one behind the other.
use Rattle.std.specs.Prelude.{◌||◌, nat_lt}
use Rattle.std.proofs.Common.{◌≡◌, ℕ, zero, suc, ◌+◌, ◌<◌, ◌≤◌, Bool, true, false, List, length, refl, sym, subst, inl, inr, lt-ltb, arith}
use Rattle.std.proofs.lemmas.Bool.{cases_lt}
use Rattle.aw_journal.specs.Events.{Event}
use Rattle.aw_law_sites.specs.Worlds.{Move}
use Rattle.aw_term.specs.Rules.{Grammar}
use Rattle.aw_typed.specs.Types.{Types}
use Rattle.aw_world.specs.declared.workspace.Workspace.{Ghosts}
use Rattle.aw_book_drive.specs.declared.lanes.Lane.{Lane}
use Rattle.aw_book_drive.specs.Joins.{Stands, IsBlocked, AreBlocked, GoesOn, Goes, IsThrough}
use Rattle.aw_book_drive.specs.declared.joining.Joined.{Joined}

module _ {W S : Type 0} (f : Ghosts W) (gives : S → List Event → Type 0) (t : Types) (g : Grammar) (firsts : List S) where
  -- one event more, behind some or none
  pub far-more : (x y : Joined W f) (sources new : List S) (came : List (List Event)) (moves : List Move) (number : ℕ) →
      (number ≡ 0 → Stands f gives t g firsts x sources came moves) → (0 < number → GoesOn f gives t g firsts x sources) →
      ((came : List (List Event)) (moves : List Move) → Stands f gives t g firsts x sources came moves → GoesOn f gives t g firsts y new) → GoesOn f gives t g firsts y new
  far-more x y sources new came moves zero none some go = go came moves (none refl)
  far-more x y sources new came moves (suc n) none some go = let (more, steps, s) = some (omega arith) in go more steps s

  -- no event more, behind some or none
  pub far-ends : (x y : Joined W f) (sources new : List S) (came : List (List Event)) (moves : List Move) (role number : ℕ) →
      (number ≡ 0 → Stands f gives t g firsts x sources came moves) → (0 < number → GoesOn f gives t g firsts x sources) →
      ((came : List (List Event)) (moves : List Move) → Stands f gives t g firsts x sources came moves →
      Goes f gives t g firsts y new came moves (IsBlocked t g y.lanes.items moves role) false) →
      Goes f gives t g firsts y new came moves (IsBlocked t g y.lanes.items moves role) (nat_lt 0 number)
  far-ends x y sources new came moves role zero none some go = go came moves (none refl)
  far-ends x y sources new came moves role (suc n) none some go =
      let (more, steps, s) = some (omega arith) in
      let went : GoesOn f gives t g firsts y new = (more, steps, (go more steps s).0) in
      subst (λ (b : Bool). Goes f gives t g firsts y new came moves (IsBlocked t g y.lanes.items moves role) b) (sym (lt-ltb 0 (suc n) (omega arith))) went

  more-blocked : (lanes : List Lane) (moves : List Move) (role : ℕ) → AreBlocked t g lanes moves role → IsBlocked t g lanes moves role → AreBlocked t g lanes moves (role + 1)
  more-blocked lanes moves role all one r l =
      elim (cases_lt r role) [
        | inl less ↦ all r less
        | inr more ↦ (let p : role ≡ r = omega (arith, l, more) in subst (λ (k : ℕ). IsBlocked t g lanes moves k) p one)
      ]

  -- one journal more was gone through
  pub pass-more : (x y : Joined W f) (sources new : List S) (came : List (List Event)) (moves : List Move) (role : ℕ) (moved b : Bool) →
      Goes f gives t g firsts x sources came moves (AreBlocked t g x.lanes.items moves role) moved →
      ((came : List (List Event)) (moves : List Move) → Stands f gives t g firsts x sources came moves → Goes f gives t g firsts y new came moves (IsBlocked t g y.lanes.items moves role) b) →
      (b ≡ false → y.lanes.items ≡ x.lanes.items) → Goes f gives t g firsts y new came moves (AreBlocked t g y.lanes.items moves (role + 1)) (moved || b)
  pass-more x y sources new came moves role true true old go still = let (more, steps, s) = old in go more steps s
  pass-more x y sources new came moves role true false old go still = let (more, steps, s) = old in (more, steps, (go more steps s).0)
  pass-more x y sources new came moves role false true old go still = go came moves old.0
  pass-more x y sources new came moves role false false old go still =
      let now = go came moves old.0 in
      (now.0, more-blocked y.lanes.items moves role (subst (λ (ls : List Lane). AreBlocked t g ls moves role) (sym (still refl)) old.1) now.1)

  -- all journals were
  pub pass-all : (x : Joined W f) (sources : List S) (came : List (List Event)) (moves : List Move) (role n : ℕ) (moved : Bool) → n ≤ role →
      Goes f gives t g firsts x sources came moves (AreBlocked t g x.lanes.items moves role) moved → Goes f gives t g firsts x sources came moves (AreBlocked t g x.lanes.items moves n) moved
  pass-all x sources came moves role n true l h = h
  pass-all x sources came moves role n false l h = (h.0, λ r less. h.1 r (omega (arith, l, less)))

  -- none was gone through yet
  pub pass-none : (x : Joined W f) (sources : List S) (came : List (List Event)) (moves : List Move) → Stands f gives t g firsts x sources came moves →
      Goes f gives t g firsts x sources came moves (AreBlocked t g x.lanes.items moves 0) false
  pass-none x sources came moves s = (s, λ r l. absurd (omega (arith, l)))

  -- a pass in which some event came, behind some events or none
  pub through-more : (x y : Joined W f) (sources new : List S) → GoesOn f gives t g firsts x sources →
      ((came : List (List Event)) (moves : List Move) → Stands f gives t g firsts x sources came moves →
      Goes f gives t g firsts y new came moves (AreBlocked t g y.lanes.items moves (length new)) true) → GoesOn f gives t g firsts y new
  through-more x y sources new some go = let (came, moves, s) = some in go came moves s

  -- a pass in which none did
  pub through-ends : (x y : Joined W f) (sources new : List S) → GoesOn f gives t g firsts x sources →
      ((came : List (List Event)) (moves : List Move) → Stands f gives t g firsts x sources came moves →
      Goes f gives t g firsts y new came moves (AreBlocked t g y.lanes.items moves (length new)) false) → IsThrough f gives t g firsts y new
  through-ends x y sources new some go =
      let (came, moves, s) = some in
      let r = go came moves s in
      record { came = came; moves = moves; stands = r.0; blocked = r.1 }
