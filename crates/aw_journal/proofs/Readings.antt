-- Runs of reads of a file.
use Rattle.std.specs.Prelude.{◌≡◌, ℕ, ◌≤◌, List, take, Result, Ok, Err, IfErr, OnOk}
use Rattle.std.specs.Result.{IsErrAnd}
use Rattle.std.proofs.Common.{refl, sym, ◌∙◌, ap, subst, arith}
use Rattle.std.proofs.lemmas.List.{take-take}
use Rattle.aw_disk.specs.declared.pages.Pages.{Ghosts}
use Rattle.aw_journal.specs.Pieces.{HasRoom, Holds, IsReadFault, OnlyReads}
use Rattle.aw_journal.specs.declared.pieces.ReadFault.{ReadFault}
use Rattle.aw_journal.specs.declared.pieces.ReadFault.TheVariants.{NoMemory}
use Rattle.aw_journal.specs.declared.pieces.Reader.{Reader}

-- fewer of the same bytes
pub fewer : (m n : ℕ) (xs ys : List ℕ) → m ≤ n → take n xs ≡ take n ys → take m xs ≡ take m ys
fewer m n xs ys le same = sym (take-take m n xs le) ∙ ap (λ (l : List ℕ). take m l) same ∙ take-take m n ys le

-- a reader of the same bytes, whatever was asked for
module _ (r s : Reader) (ahead : s.ahead ≡ r.ahead) (start : s.start ≡ r.start) (held : s.held ≡ r.held) (same_end : s.end ≡ r.end) where
  pub room_same : HasRoom r → HasRoom s
  room_same h = record {
    some = rw ahead h.some;
    few = rw ahead h.few;
    fits = rw (held, ahead) h.fits;
    before = rw (start, held, same_end) h.before;
    small = rw same_end h.small;
  }

  pub holds_same : (file : List ℕ) → Holds file r → Holds file s
  holds_same file h = record { below = rw same_end h.below; within = rw (start, held) h.within; same = rw (held, ahead, start) h.same }

module _ {P : Type 0} (p : Ghosts P) where
  -- memory ran out behind what was read
  pub out_of_memory : {S T : Type 0} (x : S) (old new : P) → OnlyReads p (Ok x) old new → OnlyReads {T = T} p (Err NoMemory) old new
  out_of_memory x old new h = record { same_bytes = h.same_bytes; read = h.read; never_falls = h.never_falls; cause = h.kept; kept = tt }

  -- the same, with another value
  pub read_ok : {S T : Type 0} (x : S) (y : T) (old new : P) → OnlyReads p (Ok x) old new → OnlyReads p (Ok y) old new
  read_ok x y old new h = record { same_bytes = h.same_bytes; read = h.read; never_falls = h.never_falls; cause = tt; kept = h.kept }

  -- the same, as it is passed on
  pub passed_out : {S T : Type 0} (r : Result T ReadFault) (x : S) (old new : P) → IsErrAnd r (λ e. e ≡ NoMemory) → OnlyReads p (Ok x) old new → OnlyReads p r old new
  passed_out (Ok y) x old new is h = absurd is
  passed_out {S} {T} (Err e) x old new is h = subst (λ (f : ReadFault). OnlyReads {T = T} p (Err f) old new) (sym is) (out_of_memory x old new h)

  pub passed_err : {S T : Type 0} (r : Result T ReadFault) (e : ReadFault) (old new : P) → IsErrAnd r (λ x. x ≡ e) → OnlyReads {T = S} p (Err e) old new → OnlyReads p r old new
  passed_err (Ok y) e old new is h = absurd is
  passed_err {S} {T} (Err f) e old new is h =
      subst (λ (x : ReadFault). OnlyReads {T = T} p (Err x) old new) (sym is) (record { same_bytes = h.same_bytes; read = h.read; never_falls = h.never_falls; cause = h.cause; kept = tt })

  module _ (unread : (x : P) → p.was_read x x) where
    -- no read
    pub read_none : {T : Type 0} (x : T) (pages : P) → OnlyReads p (Ok x) pages pages
    read_none x pages = record { same_bytes = refl; read = unread pages; never_falls = omega arith; cause = tt; kept = refl }

    pub no_memory : {T : Type 0} (pages : P) → OnlyReads {T = T} p (Err NoMemory) pages pages
    no_memory pages = record { same_bytes = refl; read = unread pages; never_falls = omega arith; cause = refl; kept = tt }

  module _ (read_on : (x y z : P) → p.was_read x y → p.was_read y z → p.was_read x z) where
    -- one run and then another
    pub read_then : {S T : Type 0} (x : S) (result : Result T ReadFault) (old mid new : P) → OnlyReads p (Ok x) old mid → OnlyReads p result mid new → OnlyReads p result old new
    read_then x result old mid new first next = record {
      same_bytes = next.same_bytes ∙ first.same_bytes;
      read = read_on old mid new first.read next.read;
      never_falls = omega (arith, first.never_falls, next.never_falls);
      cause = subst (λ (n : ℕ). IfErr result (IsReadFault n (p.faults new))) first.kept next.cause;
      kept = subst (λ (n : ℕ). OnOk result (p.faults new ≡ n)) first.kept next.kept;
    }
