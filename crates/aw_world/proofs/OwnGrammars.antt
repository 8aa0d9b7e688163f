-- A list of messages that is added to does not get shorter.
use Rattle.std.proofs.Common.{◌≡◌, ◌≤◌, List, ◌++◌, map, length, ap, ◌∙◌, arith}
use Rattle.std.specs.Prelude.{Result, Ok, Err, OnOk, OnErr}
use Rattle.std.proofs.lemmas.List.{length-append, length-map}

-- a list to which is added does not get shorter
longer : {A B : Type 0} (f : A → B) (old new : List A) (more : List B) → map f new ≡ map f old ++ more → length old ≤ length new
longer f old new more e =
    let l = ap length e ∙ length-append (map f old) more in
    omega (arith, l, length-map old f, length-map new f)

-- nor does it where an error adds nothing
pub grows_either : {A B X E : Type 0} (f : A → B) (more : List B) (r : Result X E) (old new : List A) → OnOk r (map f new ≡ map f old ++ more) → OnErr r (new ≡ old) → length old ≤ length new
grows_either f more (Ok x) old new added kept = longer f old new more added
grows_either f more (Err e) old new added kept = let l = ap length kept in omega (arith, l)
