-- What a result says in either case.
use Rattle.std.proofs.Common.{◌≡◌, ℕ, List, ◌++◌, Option, Result, Ok, Err, sym, subst}
use Rattle.std.specs.Prelude.{IfErr}
use Rattle.aw_out.specs.Edge.{Gets, GetsPrefix}
use Rattle.aw_book_join.specs.declared.fault.TasksFault.{TasksFault}
use Rattle.aw_book_join.specs.Handing.{HandsOn, Hands, Writes}
use Rattle.aw_book_join.proofs.Handing.{gets-both, behind-prefix, stops-within, longer-prefix, prefix-as}

pub hands-ok : (a b : Option (List ℕ)) (text left : List ℕ) (r : Result Unit TasksFault) → r ≡ Ok tt → HandsOn a b left text → Hands a b text left r
hands-ok a b text left r e h = subst (λ (x : Result Unit TasksFault). Hands a b text left x) (sym e) h

pub hands-err : (a b : Option (List ℕ)) (text left : List ℕ) (r : Result Unit TasksFault) (fault : TasksFault) → r ≡ Err fault → GetsPrefix a b text → Hands a b text left r
hands-err a b text left r fault e h = subst (λ (x : Result Unit TasksFault). Hands a b text left x) (sym e) h

pub ok-hands : (a b : Option (List ℕ)) (text left : List ℕ) (r : Result Unit TasksFault) → r ≡ Ok tt → Hands a b text left r → HandsOn a b left text
ok-hands a b text left r e h = subst (λ (x : Result Unit TasksFault). Hands a b text left x) e h

pub err-hands : (a b : Option (List ℕ)) (text left : List ℕ) (r : Result Unit TasksFault) (fault : TasksFault) → r ≡ Err fault → Hands a b text left r → GetsPrefix a b text
err-hands a b text left r fault e h = subst (λ (x : Result Unit TasksFault). Hands a b text left x) e h

pub writes-as : (a b : Option (List ℕ)) (text other : List ℕ) (r : Result Unit TasksFault) → text ≡ other → Writes a b text r → Writes a b other r
writes-as a b text other r e h = subst (λ (t : List ℕ). Writes a b t r) e h

-- ---- what stops within some texts

-- an error that is handed on
pub hands-passed : (a b : Option (List ℕ)) (text left : List ℕ) (r1 r : Result Unit TasksFault) (fault : TasksFault) → r1 ≡ Err fault → r ≡ Err fault → GetsPrefix a b text → Hands a b text left r
hands-passed a b text left r1 r fault was same p = hands-err a b text left r fault same p

pub tells-passed : (P : TasksFault → Type 0) (r1 r : Result Unit TasksFault) (fault : TasksFault) → r1 ≡ Err fault → r ≡ Err fault → P fault → IfErr r P
tells-passed P r1 r fault was same p = subst (λ (x : Result Unit TasksFault). IfErr x P) (sym same) p

-- Behind what was handed on more was to be, and the front of it was written: so was the front of all.
pub hands-stop : (a b c : Option (List ℕ)) (left text more rest whole next last : List ℕ) (r1 r : Result Unit TasksFault) (fault : TasksFault) → whole ≡ (text ++ more) ++ rest → r1 ≡ Err fault →
    r ≡ Err fault →
    HandsOn a b left text → Hands b c (left ++ more) next r1 → Hands a c whole last r
hands-stop a b c left text more rest whole next last r1 r fault e was same h k =
    hands-err a c whole last r fault same
    (prefix-as a c ((text ++ more) ++ rest) whole (sym e) (longer-prefix a c (text ++ more) rest (stops-within a b c left text more h (err-hands b c (left ++ more) next r1 fault was k))))

-- ---- one text behind the other

pub writes-err : (a b : Option (List ℕ)) (text : List ℕ) (r : Result Unit TasksFault) (fault : TasksFault) → r ≡ Err fault → GetsPrefix a b text → Writes a b text r
writes-err a b text r fault e p = subst (λ (x : Result Unit TasksFault). Writes a b text x) (sym e) p

-- the one text was not written whole, and the other is not written
pub writes-front : (a b : Option (List ℕ)) (text more : List ℕ) (r1 r : Result Unit TasksFault) (fault : TasksFault) → r1 ≡ Err fault → r ≡ Err fault → Writes a b text r1 →
    Writes a b (text ++ more) r
writes-front a b text more r1 r fault was same w =
    writes-err a b (text ++ more) r fault same (longer-prefix a b text more (subst (λ (x : Result Unit TasksFault). Writes a b text x) was w))

-- the one text was written, and then the other
pub writes-second : (a b c : Option (List ℕ)) (text more : List ℕ) (r : Result Unit TasksFault) → Gets a b text → Writes b c more r → Writes a c (text ++ more) r
writes-second a b c text more (Ok done) g w = gets-both a b c text more g w
writes-second a b c text more (Err fault) g w = behind-prefix a b c text more g w
