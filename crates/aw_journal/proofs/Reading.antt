-- Runs of reads, and the bytes that they give.
use Rattle.std.specs.Prelude.{◌≡◌, ℕ, ◌+◌, ◌-◌, ◌≤◌, ◌<◌, List, [], ◌∷◌, ◌++◌, length, take, drop, get_or, Result, Ok, Err, IfErr, OnOk}
use Rattle.std.proofs.Common.{refl, sym, ◌∙◌, ap, subst, arith, append_assoc, take-append-drop}
use Rattle.std.proofs.Math.Seq.{take-add}
use Rattle.std.proofs.lemmas.List.{drop-drop, drop-take, drop_more, take-take, take_all}
use Rattle.aw_disk.specs.declared.edge.Disk.{Ghosts}
use Rattle.aw_journal.specs.Format.{has_head, head}
use Rattle.aw_journal.specs.Opens.{HasThisHead}
use Rattle.aw_journal.specs.Journal.{Quiet}
use Rattle.aw_journal.specs.Openings.{IsReadFault}
use Rattle.aw_journal.specs.Reading.{OnlyReads}
use Rattle.aw_journal.specs.declared.reads.OpenFault.{OpenFault}
use Rattle.aw_journal.specs.declared.reads.OpenFault.TheVariants.{NoMemory}
use Rattle.aw_journal.proofs.Places.{through_place}
use Rattle.aw_journal.proofs.Quiets.{quiet_none, quiet_then}

-- some of what is held stands at its place in the file
pub piece_held : (ahead file : List ℕ) (held start from n place : ℕ) → take held ahead ≡ take held (drop start file) → from + n ≤ held →
    start + from ≡ place → take n (drop from ahead) ≡ take n (drop place file)
piece_held ahead file held start from n place same within is =
    let rest = held - from in
    let sum : held ≡ from + rest = omega (arith, within) in
    let small : n ≤ rest = omega (arith, within) in
    let of_front : (xs : List ℕ) → take n (drop from (take held xs)) ≡ take n (drop from xs) =
    λ xs. ap (λ (k : ℕ). take n (drop from (take k xs))) sum ∙ ap (λ (l : List ℕ). take n l) (drop-take from rest xs) ∙ take-take n rest (drop from xs) small in
    sym (of_front ahead) ∙ ap (λ (l : List ℕ). take n (drop from l)) same ∙ of_front (drop start file)
    ∙ ap (λ (l : List ℕ). take n l) (drop-drop from start file ∙ ap (λ (k : ℕ). drop k file) is)

-- so many bytes, and those behind them
pub taken_more : (file asked piece : List ℕ) (at len n : ℕ) → asked ≡ take len (drop at file) → piece ≡ take n (drop (at + len) file) → asked ++ piece ≡ take (len + n) (drop at file)
taken_more file asked piece at len n is more =
    ap (λ (l : List ℕ). l ++ piece) is ∙ ap (λ (l : List ℕ). take len (drop at file) ++ l) (more ∙ ap (λ (l : List ℕ). take n l) (sym (drop-drop len at file)))
    ∙ sym (take-add len n (drop at file))

-- where there are no more bytes
pub taken_all : (xs : List ℕ) (m n : ℕ) → length xs ≤ m → m ≤ n → take m xs ≡ take n xs
taken_all xs m n all more = take_all m xs all ∙ sym (take_all n xs (omega (arith, all, more)))

-- the first two bytes tell whether a head stands, and of what is shorter
pub headed_by_two : (file : List ℕ) → has_head (take 2 file) ≡ has_head file
headed_by_two [] = refl
headed_by_two (gate ∷ []) = refl
headed_by_two (gate ∷ byte ∷ rest) = refl

-- a head and the gate behind it
pub head_by_front : (role : ℕ) (text file front : List ℕ) → front ≡ take (length (1 ∷ head role text) + 1) file → (byte : ℕ) × (rest : List ℕ)
    × (front ≡ (1 ∷ head role text) ++ byte ∷ rest) → HasThisHead role text file
head_by_front role text file front is has =
    let h = 1 ∷ head role text in
    let behind = drop (length h + 1) file in
    (has.0, has.1 ++ behind, sym (take-append-drop (length h + 1) file) ∙ ap (λ (l : List ℕ). l ++ behind) (sym is ∙ has.2) ∙ append_assoc h (has.0 ∷ has.1) behind)

pub front_by_head : (role : ℕ) (text file front : List ℕ) → front ≡ take (length (1 ∷ head role text) + 1) file → HasThisHead role text file →
    (byte : ℕ) × (rest : List ℕ) × (front ≡ (1 ∷ head role text) ++ byte ∷ rest)
front_by_head role text file front is has =
    let h = 1 ∷ head role text in
    (has.0, [], is ∙ ap (λ (l : List ℕ). take (length h + 1) l) has.2 ∙ through_place h has.1 has.0)

-- the byte at a place
pub one_byte : (file : List ℕ) (place : ℕ) → place < length file → take 1 (drop place file) ≡ get_or file place 0 ∷ []
one_byte file place within = ap (λ (l : List ℕ). take 1 l) (drop_more file place 0 within)

module _ {D : Type 0} (d : Ghosts D) (counts_now : (x : D) (t : ℕ) (c : List ℕ) → t ≤ d.moment x → d.may_leave x c → d.left_since x t c)
    (only_now : (x : D) (c : List ℕ) → d.left_since x (d.moment x) c → d.may_leave x c) where
  -- no read
  pub read_none : {T : Type 0} (x : T) (disk : D) → OnlyReads d (Ok x) disk disk
  read_none x disk = record { quiet = quiet_none d.tells d.seen d.may_leave d.moment d.left_since counts_now only_now disk; never_falls = omega arith; cause = tt; kept = refl }

  -- a quiet run of which no call failed
  pub passed : {T : Type 0} (x : T) (old new : D) → Quiet d.tells d.seen d.may_leave d.moment d.left_since old new → d.faults new ≡ d.faults old → OnlyReads d (Ok x) old new
  passed x old new quiet kept = record { quiet = quiet; never_falls = omega (arith, kept); cause = tt; kept = kept }

  pub no_memory : {T : Type 0} (disk : D) → OnlyReads {T = T} d (Err NoMemory) disk disk
  no_memory disk = record { quiet = quiet_none d.tells d.seen d.may_leave d.moment d.left_since counts_now only_now disk; never_falls = omega arith; cause = refl; kept = tt }

  -- one run and then another
  pub read_then : {S T : Type 0} (x : S) (result : Result T OpenFault) (old mid new : D) → OnlyReads d (Ok x) old mid → OnlyReads d result mid new → OnlyReads d result old new
  read_then x result old mid new first next = record {
    quiet = quiet_then d.tells d.seen d.may_leave d.moment d.left_since counts_now only_now old mid new first.quiet next.quiet;
    never_falls = omega (arith, first.never_falls, next.never_falls);
    cause = subst (λ (n : ℕ). IfErr result (IsReadFault n (d.faults new))) first.kept next.cause;
    kept = subst (λ (n : ℕ). OnOk result (d.faults new ≡ n)) first.kept next.kept;
  }

  -- the same answer, with another value or none
  pub read_ok : {S T : Type 0} (x : S) (y : T) (old new : D) → OnlyReads d (Ok x) old new → OnlyReads d (Ok y) old new
  read_ok x y old new h = record { quiet = h.quiet; never_falls = h.never_falls; cause = tt; kept = h.kept }

  pub read_err : {S T : Type 0} (e : OpenFault) (result : Result T OpenFault) (old new : D) → result ≡ Err e → OnlyReads {T = S} d (Err e) old new → OnlyReads d result old new
  read_err {S} {T} e result old new is h =
      subst (λ (r : Result T OpenFault). OnlyReads d r old new) (sym is) (record { quiet = h.quiet; never_falls = h.never_falls; cause = h.cause; kept = tt })

  -- memory ran out after a run
  pub read_short : {S T : Type 0} (x : S) (result : Result T OpenFault) (old new : D) → result ≡ Err NoMemory → OnlyReads d (Ok x) old new → OnlyReads d result old new
  read_short {S} {T} x result old new is h = subst (λ (r : Result T OpenFault). OnlyReads d r old new) (sym is) (read_then x (Err NoMemory) old new new h (no_memory new))
