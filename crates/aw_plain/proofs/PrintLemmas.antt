-- Printing values on a stack.
use Rattle.std.proofs.Common.{◌≡◌, ℕ, ◌+◌, ◌<◌, ◌≤◌, List, [], ◌∷◌, ◌++◌, map, length, drop, get_or, codes, sym, ap, ◌∙◌, refl, arith, append_assoc, append-nil, subst}
use Rattle.std.specs.Prelude.{Bool, Result, Ok, Err}
use Rattle.std.proofs.lemmas.List.{at_drop_more}
use Rattle.std.specs.declared.vec.Vec.{Vec}
use Rattle.std.specs.declared.rc.Rc.{Rc}
use Rattle.std.specs.declared.alloc.Global.{Global}
use Rattle.aw_term.specs.Trees as P
use Rattle.aw_term.specs.Trees.{Leaf, Made, Nil, More, join}
use Rattle.aw_term.specs.WellFormed.{symbols}
use Rattle.aw_term.specs.Rules.{Value, get}
use Rattle.aw_term.specs.Artifacts.{Words, listed, with_parts, trees_texts, value_text, ref_text}
use Rattle.aw_plain_rows.specs.declared.tree.Tree.{Tree, Con}
use Rattle.aw_plain.specs.declared.print.Piece.{Piece}
use Rattle.aw_plain_rows.specs.TreeView.{value_of, value_under}
use Rattle.aw_plain.specs.Pieces.{opening, text_of, texts_under, following, piece_text, piece_opening, pending, piece_work, pieces_work, Continues}
use Rattle.aw_plain_rows.specs.Places.{places}
use Rattle.aw_plain_rows.proofs.ViewLemmas.{value_parts}
use Rattle.aw_plain_rows.proofs.Counts.{symbols_under}
use Rattle.aw_out.specs.Report.{Bounded, Prints}
use Rattle.aw_out.specs.declared.error.PrintFault.{PrintFault}
use Rattle.aw_out.proofs.Printing.{Prints-second}

pub pending_push : (w : Words) (ps : List Piece) (p : Piece) → pending w (ps ++ p ∷ []) ≡ piece_text w p ++ pending w ps
pending_push w [] p = sym (append-nil (piece_text w p))
pending_push w (q ∷ ps) p = ap (λ t. t ++ piece_text w q) (pending_push w ps p) ∙ append_assoc (piece_text w p) (pending w ps) (piece_text w q)

pub work_more : (ps : List Piece) (p : Piece) → pieces_work (ps ++ p ∷ []) ≡ piece_work p + pieces_work ps
work_more [] p = omega arith
work_more (q ∷ ps) p = omega (arith, work_more ps p)

-- a list of texts is its first, and then the others
pub listed_first : (t : List ℕ) (ts : List (List ℕ)) → listed (t ∷ ts) ≡ t ++ following ts
listed_first t [] = sym (append-nil t)
listed_first t (u ∷ us) = ap (λ rest. t ++ (codes ", " ++ rest)) (listed_first u us)

-- the parts of a value as texts
parts_texts : (w : Words) (vs : List Value) → trees_texts w (λ r. codes "?" ++ ref_text w r) (join vs) ≡ map (value_text w) vs
parts_texts w [] = refl
parts_texts w (v ∷ vs) = ap (λ us. value_text w v ∷ us) (parts_texts w vs)

abbrev over : ℕ → Bool → List Tree → Value
over c m ps = Made (P.Con c) (join (map (value_under m) ps))

-- a constructor without parts
pub opening_none : (w : Words) (u : Tree) (c : ℕ) (m : Bool) (ts : Rc (Vec Tree Global) Global) (ps : List Tree) → u ≡ Con c m ts →
    ps ≡ ts.value.items → ps ≡ [] → opening w (value_of u) ≡ get [] w.cons c
opening_none w u c m ts ps e i empty = ap (opening w) (value_parts u c m ts ps e i) ∙ ap (λ qs. opening w (over c m qs)) empty

pub text_none : (w : Words) (u : Tree) (c : ℕ) (m : Bool) (ts : Rc (Vec Tree Global) Global) (ps : List Tree) → u ≡ Con c m ts → ps ≡ ts.value.items → ps ≡ [] → text_of w u ≡ opening w (value_of u)
text_none w u c m ts ps e i empty = ap (value_text w) (value_parts u c m ts ps e i) ∙ ap (λ qs. value_text w (over c m qs)) empty ∙ sym (opening_none w u c m ts ps e i empty)

some_opening : (w : Words) (c : ℕ) (m : Bool) (ps : List Tree) → (ps ≡ [] → ⊥) → opening w (over c m ps) ≡ get [] w.cons c ++ codes "("
some_opening w c m [] some = absurd (some refl)
some_opening w c m (t ∷ ts) some = refl

some_text : (w : Words) (c : ℕ) (m : Bool) (ps : List Tree) → (ps ≡ [] → ⊥) → value_text w (over c m ps) ≡ get [] w.cons c ++ (codes "(" ++ (listed (texts_under w m ps) ++ codes ")"))
some_text w c m [] some = absurd (some refl)
some_text w c m (t ∷ ts) some = ap (λ us. with_parts (get [] w.cons c) us) (parts_texts w (map (value_under m) (t ∷ ts)))

-- a constructor with parts
pub opening_some : (w : Words) (u : Tree) (c : ℕ) (m : Bool) (ts : Rc (Vec Tree Global) Global) (ps : List Tree) → u ≡ Con c m ts →
    ps ≡ ts.value.items → (ps ≡ [] → ⊥) → opening w (value_of u) ≡ get [] w.cons c ++ codes "("
opening_some w u c m ts ps e i some = ap (opening w) (value_parts u c m ts ps e i) ∙ some_opening w c m ps some

pub opened : (w : Words) (u : Tree) (c : ℕ) (m : Bool) (ts : Rc (Vec Tree Global) Global) (ps : List Tree) (rest : List ℕ) → u ≡ Con c m ts →
    ps ≡ ts.value.items → (ps ≡ [] → ⊥) → text_of w u ++ rest ≡ opening w (value_of u) ++ (listed (texts_under w m ps) ++ (codes ")" ++ rest))
opened w u c m ts ps rest e i some =
    let name = get [] w.cons c in
    let inner = listed (texts_under w m ps) in
    ap (λ us. us ++ rest) (ap (value_text w) (value_parts u c m ts ps e i) ∙ some_text w c m ps some)
    ∙ append_assoc name (codes "(" ++ (inner ++ codes ")")) rest
    ∙ ap (λ us. name ++ us) (append_assoc (codes "(") (inner ++ codes ")") rest ∙ ap (λ us. codes "(" ++ us) (append_assoc inner (codes ")") rest))
    ∙ sym (append_assoc name (codes "(") (inner ++ (codes ")" ++ rest)))
    ∙ ap (λ us. us ++ (inner ++ (codes ")" ++ rest))) (sym (opening_some w u c m ts ps e i some))

-- the first of some values, and those behind it
pub listed_split : (w : Words) (m : Bool) (ts : List Tree) (t : Tree) → 1 ≤ length ts → t ≡ get_or ts 0 t → listed (texts_under w m ts) ≡ value_text w
    (value_under m t) ++ following (texts_under w m (drop 1 ts))
listed_split w m [] t l e = absurd (omega (arith, l))
listed_split w m (u ∷ us) t l e = listed_first (value_text w (value_under m u)) (texts_under w m us) ∙ ap (λ v. value_text w (value_under m v) ++ following (texts_under w m us)) (sym e)

-- one more value at the front of those that follow
pub following_more : (w : Words) (m : Bool) (ts : List Tree) (i k : ℕ) (t : Tree) → k ≡ i + 1 → i < length ts → t ≡ get_or ts i t →
    following (texts_under w m (drop i ts)) ≡ codes ", " ++ (value_text w (value_under m t) ++ following (texts_under w m (drop k ts)))
following_more w m ts i k t ek lt et =
    at_drop_more (λ us. following (texts_under w m us)) ts i t lt
    ∙ ap (λ u. codes ", " ++ (value_text w (value_under m u) ++ following (texts_under w m (drop (i + 1) ts)))) (sym et)
    ∙ ap (λ n. codes ", " ++ (value_text w (value_under m t) ++ following (texts_under w m (drop n ts)))) (sym ek)

-- a copy of a part has as many places
pub places_copied : (m : Bool) (t u : Tree) → value_of u ≡ value_under m t → places u ≡ places t
places_copied m t u e = ap symbols e ∙ symbols_under m t

-- a piece is gathered behind others
pub gathered : (w : Words) (old text : List ℕ) (p : Piece) (before after : List Piece) → text ≡ old ++ piece_opening w p → piece_text w p ++ pending w
    before ≡ piece_opening w p ++ pending w after → text ++ pending w after ≡ old ++ (piece_text w p ++ pending w before)
gathered w old text p before after e h = ap (λ t. t ++ pending w after) e ∙ append_assoc old (piece_opening w p) (pending w after) ∙ ap (λ t. old ++ t) (sym h)

pub all_gathered : (w : Words) (text : List ℕ) (ps before : List Piece) (p : Piece) → ps ≡ before ++ p ∷ [] → text ++ (piece_text w p ++ pending w before) ≡ text ++ pending w ps
all_gathered w text ps before p e = ap (λ t. text ++ t) (sym (ap (pending w) e ∙ pending_push w before p))

-- what was gathered is added, and the rest is printed
pub added : (text more left : List ℕ) (old mid last : Bounded) (r1 r : Result Unit PrintFault) (u : Unit) → r1 ≡ Ok u → left ≡ [] →
    Prints text old mid r1 → Prints (left ++ more) mid last r → Prints (text ++ more) old last r
added text more left old mid last r1 r u ok none first next =
    Prints-second text more old mid last r (subst (λ x. Prints text old mid x) ok first) (subst (λ t. Prints (t ++ more) mid last r) none next)

pub piece_gathered : (whole text more : List ℕ) (old mid : Bounded) → text ++ more ≡ whole → (left : List ℕ) →
    ((m : List ℕ) → Continues (text ++ m) old (left ++ m) mid) → Continues whole old (left ++ more) mid
piece_gathered whole text more old mid e left k = λ last r next. subst (λ t. Prints t old last r) e (k more last r next)

-- printing stopped
pub piece_stopped : (whole part : List ℕ) (old new : Bounded) (fault : PrintFault) (r : Result Unit PrintFault) → part ≡ whole → r ≡ Err fault →
    Prints part old new (Err fault) → Prints whole old new r
piece_stopped whole part old new fault r e same p = subst (λ t. Prints t old new r) e (subst (λ x. Prints part old new x) (sym same) p)

-- what was gathered is all
pub gathered_last : (w : Words) (text : List ℕ) (ps : List Piece) (old new : Bounded) (r : Result Unit PrintFault) → ps ≡ [] → Prints text old new r → Prints (text ++ pending w ps) old new r
gathered_last w text ps old new r none p = subst (λ t. Prints t old new r) (sym (ap (λ qs. text ++ pending w qs) none ∙ append-nil text)) p
