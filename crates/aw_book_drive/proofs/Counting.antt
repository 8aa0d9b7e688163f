-- Reads that failed, of one journal among all.
use Rattle.std.specs.Prelude.{slice_get, slice_set}
use Rattle.std.proofs.Common.{◌≡◌, ℕ, List, map, Option, Some, Result, Ok, Err, sym, subst}
use Rattle.aw_out.specs.Causes.{Rose}
use Rattle.aw_journal.specs.declared.payload.NodeEvent.{NodeEvent}
use Rattle.aw_book_drive.specs.Sources.{CountsReads, FailsAt, TellsReads}
use Rattle.aw_book_drive.specs.declared.fault.JoinFault.{JoinFault}
use Rattle.aw_book_drive.specs.declared.fault.JoinFault.TheVariants.{Unread, NoMemory}
use Rattle.aw_book_drive.specs.declared.source.SourceFault.{SourceFault}
use Rattle.aw_book_drive.specs.declared.source.SourceFault.TheVariants as one
use Rattle.aw_book_drive.proofs.Places.{put-same, put-seen, seen-at}

-- a read of the journal at this place failed
pub fails-at : {S : Type 0} (f : S → ℕ) (xs : List S) (role : ℕ) (x y : S) → slice_get xs role ≡ Some x → Rose (f x) (f y) → FailsAt (map f xs) (map f (slice_set xs role y)) role
fails-at f xs role x y at rose = record { was = f x; is = f y; there = seen-at f xs role x at; others = put-seen f xs role y; rose = rose }

-- where no read failed before, what is told of reads is told of all
pub tells-on : {A : Type 0} (before between now : List ℕ) (r : Result A JoinFault) → between ≡ before → TellsReads between now r → TellsReads before now r
tells-on before between now r same t = subst (λ (ns : List ℕ). TellsReads ns now r) same t

-- a fault is told as it was found
pub tells-fault : {A B : Type 0} (before now : List ℕ) (x : JoinFault) (r : Result A JoinFault) (s : Result B JoinFault) → r ≡ Err x → s ≡ Err x → TellsReads before now r → TellsReads before now s
tells-fault {A} {B} before now x r s e p t = subst (λ (s : Result B JoinFault). TellsReads before now s) (sym p) (go x (subst (λ (r : Result A JoinFault). TellsReads before now r) e t))
  where
    go : (x : JoinFault) → TellsReads {A = A} before now (Err x) → TellsReads {A = B} before now (Err x)
    go (Unread role) t = t
    go NoMemory t = t

module _ {S : Type 0} (f : S → ℕ) (xs : List S) (role : ℕ) (x y : S) (at : slice_get xs role ≡ Some x) (r : Result (Option NodeEvent) SourceFault) (counts : CountsReads (f x) (f y) r) where
  -- the journal at this place was read, and nothing failed
  pub reads-well : (found : Option NodeEvent) → r ≡ Ok found → map f (slice_set xs role y) ≡ map f xs
  reads-well found e = put-same f xs role x y at (subst (λ (r : Result (Option NodeEvent) SourceFault). CountsReads (f x) (f y) r) e counts)

  -- a read failed
  pub reads-not : r ≡ Err one.Unread → FailsAt (map f xs) (map f (slice_set xs role y)) role
  reads-not e = fails-at f xs role x y at (subst (λ (r : Result (Option NodeEvent) SourceFault). CountsReads (f x) (f y) r) e counts)

  -- there was no memory
  pub reads-little : r ≡ Err one.NoMemory → map f (slice_set xs role y) ≡ map f xs
  reads-little e = put-same f xs role x y at (subst (λ (r : Result (Option NodeEvent) SourceFault). CountsReads (f x) (f y) r) e counts)
