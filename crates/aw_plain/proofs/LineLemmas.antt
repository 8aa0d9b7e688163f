-- The line of a row.
use Rattle.std.proofs.Common.{◌≡◌, ℕ, ◌+◌, ◌<◌, ◌≤◌, List, [], ◌∷◌, ◌++◌, map, drop, get_or, length, codes, sym, ap, ◌∙◌, refl, append_assoc, subst}
use Rattle.std.specs.Prelude.{false, Result, Ok, Err}
use Rattle.std.proofs.lemmas.List.{at_drop_more, drop_all}
use Rattle.aw_term.specs.Trees.{Never, Leaf, Made, Trees, Nil, More, binds}
use Rattle.aw_term.specs.Rules.{Ground, get}
use Rattle.aw_term.specs.Configs.{Done, lift}
use Rattle.aw_term.specs.Artifacts.{Words, listed, with_parts, head_text, trees_texts, value_text, ground_text, ref_text, node_text, state_text, row_text, artifact_text}
use Rattle.aw_out.specs.Report.{Bounded, Prints}
use Rattle.aw_out.specs.declared.error.PrintFault.{PrintFault}
use Rattle.aw_out.proofs.Printing.{Prints-second, Prints-stopped, Prints-nothing}
use Rattle.aw_plain_rows.specs.declared.tree.Tree as tree
use Rattle.aw_plain_rows.specs.declared.row.Row as rows
use Rattle.aw_plain_rows.specs.TreeView.{values_of}
use Rattle.aw_plain_rows.specs.RowView.{plain_row, config_of}
use Rattle.aw_plain.specs.Pieces.{texts_under}

-- an argument has the same text as a value
mutual
  lifted_text : (w : Words) (g : Ground) → value_text w (lift g) ≡ ground_text w g
  lifted_text w (Leaf x) = absurd (elim x [ ])
  lifted_text w (Made h ts) = ap (with_parts (head_text w h)) (lifted_texts w ts)

  lifted_texts : (w : Words) (ts : Trees Never) → trees_texts w (λ r. codes "?" ++ ref_text w r) (binds (λ x. elim x [ ]) ts) ≡ trees_texts w (λ x. elim x [ ]) ts
  lifted_texts w Nil = refl
  lifted_texts w (More t ts) = λ i. lifted_text w t i ∷ lifted_texts w ts i

all_lifted : (w : Words) (gs : List Ground) → map (value_text w) (map lift gs) ≡ map (ground_text w) gs
all_lifted w [] = refl
all_lifted w (g ∷ gs) = λ i. lifted_text w g i ∷ all_lifted w gs i

-- arguments that are printed as values
pub args_text : (w : Words) (ts : List tree.Tree) (gs : List Ground) → values_of ts ≡ map lift gs → texts_under w false ts ≡ map (ground_text w) gs
args_text w ts gs e = ap (map (value_text w)) e ∙ all_lifted w gs

-- what is noted of a rule that was taken
pub done_line : (w : Words) (r : ℕ) (gs : List Ground) (ts : List tree.Tree) (name old p1 p2 p3 p4 : List ℕ) → values_of ts ≡ map lift gs → name ≡ get [] w.rules r →
    p1 ≡ codes "}" ++ old → p2 ≡ listed (texts_under w false ts) ++ p1 → p3 ≡ codes " {" ++ p2 → p4 ≡ name ++ p3 → p4 ≡ state_text w (Done r gs) ++ old
done_line w r gs ts name old p1 p2 p3 p4 ea en e1 e2 e3 e4 =
    let rule = get [] w.rules r in
    let args = listed (map (ground_text w) gs) in
    e4 ∙ ap (λ u. u ++ p3) en
    ∙ ap (λ u. rule ++ u) (e3 ∙ ap (λ u. codes " {" ++ u) (e2 ∙ ap (λ us. listed us ++ p1) (args_text w ts gs ea) ∙ ap (λ u. args ++ u) e1))
    ∙ sym (append_assoc rule (codes " {" ++ (args ++ codes "}")) old
    ∙ ap (λ u. rule ++ u) (append_assoc (codes " {") (args ++ codes "}") old ∙ ap (λ u. codes " {" ++ u) (append_assoc args (codes "}") old)))

-- what is noted of a row
pub row_line : (w : Words) (q : rows.Row) (name old p1 p2 p3 p4 p5 p6 p7 p8 : List ℕ) (inherited results : List tree.Tree) → name ≡ node_text w q.node → inherited ≡ q.inherited → results ≡ q.results →
    p1 ≡ codes ">\n" ++ old → p2 ≡ listed (texts_under w false results) ++ p1 → p3 ≡ codes ") <" ++ p2 → p4 ≡ listed (texts_under w false inherited) ++ p3 → p5 ≡ codes " (" ++ p4 →
    p6 ≡ state_text w (plain_row q).state ++ p5 → p7 ≡ codes " " ++ p6 → p8 ≡ name ++ p7 → p8 ≡ row_text w (plain_row q) ++ old
row_line w q name old p1 p2 p3 p4 p5 p6 p7 p8 inherited results en ei er e1 e2 e3 e4 e5 e6 e7 e8 =
    let node = node_text w q.node in
    let state = state_text w (plain_row q).state in
    let ins = listed (map (value_text w) (values_of q.inherited)) in
    let outs = listed (map (value_text w) (values_of q.results)) in
    let end = codes ">\n" in
    let s2 = outs ++ end in
    let s3 = codes ") <" ++ s2 in
    let s4 = ins ++ s3 in
    let s5 = codes " (" ++ s4 in
    let s6 = state ++ s5 in
    let s7 = codes " " ++ s6 in
    let f2 : p2 ≡ s2 ++ old = e2 ∙ ap (λ us. listed us ++ p1) (ap (texts_under w false) er) ∙ ap (λ u. outs ++ u) e1 ∙ sym (append_assoc outs end old) in
    let f3 : p3 ≡ s3 ++ old = e3 ∙ ap (λ u. codes ") <" ++ u) f2 ∙ sym (append_assoc (codes ") <") s2 old) in
    let f4 : p4 ≡ s4 ++ old = e4 ∙ ap (λ us. listed us ++ p3) (ap (texts_under w false) ei) ∙ ap (λ u. ins ++ u) f3 ∙ sym (append_assoc ins s3 old) in
    let f5 : p5 ≡ s5 ++ old = e5 ∙ ap (λ u. codes " (" ++ u) f4 ∙ sym (append_assoc (codes " (") s4 old) in
    let f6 : p6 ≡ s6 ++ old = e6 ∙ ap (λ u. state ++ u) f5 ∙ sym (append_assoc state s5 old) in
    let f7 : p7 ≡ s7 ++ old = e7 ∙ ap (λ u. codes " " ++ u) f6 ∙ sym (append_assoc (codes " ") s6 old) in
    e8 ∙ ap (λ u. u ++ p7) en ∙ ap (λ u. node ++ u) f7 ∙ sym (append_assoc node s7 old)

-- the rows from one on
pub lines_more : (w : Words) (qs : List rows.Row) (i : ℕ) (q : rows.Row) → i < length qs → q ≡ get_or qs i q →
    artifact_text w (config_of (drop i qs)) ≡ row_text w (plain_row q) ++ artifact_text w (config_of (drop (i + 1) qs))
lines_more w qs i q l e =
    at_drop_more (λ rs. artifact_text w (config_of rs)) qs i q l ∙ ap (λ r. row_text w (plain_row r) ++ artifact_text w (config_of (drop (i + 1) qs))) (sym e)

-- a text was printed, and the rest is printed
pub then_prints : (text a b : List ℕ) (old mid new : Bounded) (r1 r : Result Unit PrintFault) (u : Unit) → text ≡ a ++ b → r1 ≡ Ok u → Prints a old mid r1 → Prints b mid new r → Prints text old new r
then_prints text a b old mid new r1 r u e ok first next =
    subst (λ t. Prints t old new r) (sym e) (Prints-second a b old mid new r (subst (λ x. Prints a old mid x) ok first) next)

-- printing stopped in a text, and nothing more is printed
pub stops : (text a b : List ℕ) (old new : Bounded) (r1 r : Result Unit PrintFault) (fault : PrintFault) → text ≡ a ++ b → r1 ≡ Err fault → r ≡ Err fault → Prints a old new r1 → Prints text old new r
stops text a b old new r1 r fault e err same first =
    subst (λ x. Prints text old new x) (sym same)
    (subst (λ t. Prints t old new (Err fault)) (sym e) (Prints-stopped a b old new fault (subst (λ x. Prints a old new x) err first)))

-- no line is left to be printed
pub no_lines : (w : Words) (qs : List rows.Row) (i : ℕ) (report : Bounded) → length qs ≤ i → Prints (artifact_text w (config_of (drop i qs))) report report (Ok tt)
no_lines w qs i report l = subst (λ rs. Prints (artifact_text w (config_of rs)) report report (Ok tt)) (sym (drop_all i qs l)) (Prints-nothing report)
