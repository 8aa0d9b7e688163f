-- Going through trees on a stack.
use Rattle.std.proofs.Common.{◌≡◌, ℕ, ◌+◌, ◌-◌, ◌<◌, ◌≤◌, List, [], ◌∷◌, ◌++◌, map, length, take, drop, get_or, sym, ap, ◌∙◌, refl, arith, append_assoc, length-append}
use Rattle.std.proofs.lemmas.List.{at_drop_more, take_at, drop_at, map-append, take-map, drop-map, length-map}
use Rattle.std.proofs.lemmas.Simd.{map-map}
use Rattle.aw_term.specs.Trees as P
use Rattle.aw_term.specs.Trees.{Leaf, Made, Nil, More, bind, binds, join}
use Rattle.aw_term.specs.Names.{Ref}
use Rattle.aw_term.specs.Rules.{Value, get}
use Rattle.aw_term.specs.Configs.{nothing}
use Rattle.std.specs.declared.vec.Vec.{Vec}
use Rattle.std.specs.declared.rc.Rc.{Rc}
use Rattle.std.specs.declared.alloc.Global.{Global}
use Rattle.aw_plain_rows.specs.declared.tree.Tree.{Tree, Con}
use Rattle.std.specs.Prelude.{zero, suc, Bool, true, false}
use Rattle.aw_plain_rows.specs.declared.put.Job.{Job}
use Rattle.aw_plain_rows.specs.TreeView.{value_of, value_under, values_of}
use Rattle.aw_plain_rows.specs.Jobs.{finish, do_job, made, work, work_of}
use Rattle.aw_plain_rows.proofs.ViewLemmas.{value_con, bind_whole}

pub finish_push : (f : Ref → Value) (js : List Job) (j : Job) (ts : List Value) → finish f (js ++ j ∷ []) ts ≡ finish f js (do_job f j ts)
finish_push f [] j ts = refl
finish_push f (i ∷ js) j ts = ap (do_job f i) (finish_push f js j ts)

pub work_push : (js : List Job) (j : Job) → work (js ++ j ∷ []) ≡ work_of j + work js
work_push [] j = omega arith
work_push (i ∷ js) j = omega (arith, work_push js j)

-- the parts just made become one value
pub made_of : (c : ℕ) (ts ps : List Value) → made c (length ps) (ts ++ ps) ≡ ts ++ Made (P.Con c) (join ps) ∷ []
made_of c ts ps =
    let n : length (ts ++ ps) - length ps ≡ length ts = omega (arith, length-append ts ps) in
    ap (λ k. take k (ts ++ ps) ++ Made (P.Con c) (join (drop k (ts ++ ps))) ∷ []) n
    ∙ ap (λ us. us ++ Made (P.Con c) (join (drop (length ts) (ts ++ ps))) ∷ []) (take_at ts ps (length ts) refl)
    ∙ ap (λ us. ts ++ Made (P.Con c) (join us) ∷ []) (drop_at ts ps (length ts) refl)

pub made_values : (c n k : ℕ) (ts : List Tree) (t : Tree) → k ≡ length ts - n → value_of t ≡ Made (P.Con c) (join (values_of (drop k ts))) → values_of (take k ts ++ t ∷ []) ≡ made c n (values_of ts)
made_values c n k ts t e v =
    map-append value_of (take k ts) _
    ∙ ap (λ v. values_of (take k ts) ++ v ∷ []) v
    ∙ ap (λ us. us ++ Made (P.Con c) (join (values_of (drop k ts))) ∷ []) (sym (take-map value_of k ts))
    ∙ ap (λ us. take k (values_of ts) ++ Made (P.Con c) (join us) ∷ []) (sym (drop-map value_of k ts))
    ∙ ap (λ m. take m (values_of ts) ++ Made (P.Con c) (join (drop m (values_of ts))) ∷ []) (e ∙ ap (λ m. m - n) (sym (length-map ts value_of)))

-- one more value
pub value_pushed : (ts us : List Tree) (t : Tree) (v : Value) → us ≡ ts ++ t ∷ [] → value_of t ≡ v → values_of us ≡ values_of ts ++ v ∷ []
value_pushed ts us t v e w = ap values_of e ∙ map-append value_of ts (t ∷ []) ∙ ap (λ v. values_of ts ++ v ∷ []) w

-- one more part at the front of those still to be gone through
pub front_part : (g : Tree → Value) (ps : List Tree) (ts : List Value) (i k : ℕ) (p : Tree) → k ≡ i + 1 → i < length ps → p ≡ get_or ps i p →
    (ts ++ g p ∷ []) ++ map g (drop k ps) ≡ ts ++ map g (drop i ps)
front_part g ps ts i k p ek lt ep =
    append_assoc ts (g p ∷ []) (map g (drop k ps))
    ∙ ap (λ us. ts ++ us) (ap (λ n. g p ∷ map g (drop n ps)) ek ∙ ap (λ q. g q ∷ map g (drop (i + 1) ps)) ep ∙ sym (at_drop_more (map g) ps i p lt))

pub binds_join : {A B : Type 0} (f : A → P.Tree B) (ts : List (P.Tree A)) → binds f (join ts) ≡ join (map (bind f) ts)
binds_join f [] = refl
binds_join f (t ∷ ts) = ap (More (bind f t)) (binds_join f ts)

pub bind_parts : {A B X : Type 0} (f : A → P.Tree B) (g : X → P.Tree A) (c : ℕ) (ps : List X) → bind f (Made (P.Con c) (join (map g ps))) ≡ Made (P.Con c) (join (map (λ t. bind f (g t)) ps))
bind_parts f g c ps = ap (Made (P.Con c)) (binds_join f (map g ps) ∙ ap join (map-map (bind f) g ps))

pub bind_con : (f : Ref → Value) (t : Tree) (c : ℕ) (w : Bool) (ts : Rc (Vec Tree Global) Global) (ps : List Tree) → t ≡ Con c w ts → w ≡ false →
    ps ≡ ts.value.items → bind f (value_of t) ≡ Made (P.Con c) (join (map (λ t. bind f (value_of t)) ps))
bind_con f t c w ts ps e m i =
    ap (λ t. bind f (value_of t)) (e ∙ ap (λ w. Con c w ts) m) ∙ ap (bind f) (value_con false c false ts)
    ∙ bind_parts f value_of c ts.value.items ∙ ap (λ qs. Made (P.Con c) (join (map (λ t. bind f (value_of t)) qs))) (sym i)

-- a constructor that is marked whole has nothing to replace
pub bind_marked : (f : Ref → Value) (t : Tree) (c : ℕ) (w : Bool) (ts : Rc (Vec Tree Global) Global) → t ≡ Con c w ts → w ≡ true → value_of t ≡ bind f (value_of t)
bind_marked f t c w ts e m =
    let v : value_of t ≡ value_under true (Con c true ts) = ap value_of (e ∙ ap (λ w. Con c w ts) m) ∙ value_con false c true ts ∙ sym (value_con true c true ts) in
    v ∙ sym (bind_whole f (Con c true ts)) ∙ sym (ap (bind f) v)

pub got_at : (ts : List Tree) (i : ℕ) (t : Tree) → i < length ts → t ≡ get_or ts i t → value_of t ≡ get nothing (values_of ts) i
got_at [] i t l e = absurd (omega arith)
got_at (u ∷ ts) zero t l e = ap value_of e
got_at (u ∷ ts) (suc i) t l e = got_at ts i t (omega arith) e

pub got_past : (ts : List Tree) (i : ℕ) → length ts ≤ i → nothing ≡ get nothing (values_of ts) i
got_past [] i l = refl
got_past (u ∷ ts) zero l = absurd (omega arith)
got_past (u ∷ ts) (suc i) l = got_past ts i (omega arith)
