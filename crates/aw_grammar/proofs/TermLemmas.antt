-- What holds of a term in parentheses by what holds of its parts.
use Rattle.std.proofs.Common.{◌≡◌, ℕ, suc, ◌+◌, ◌&&◌, List, [], ◌∷◌, ◌++◌, map, max, Result, Ok, Err, OnOk, length, refl, sym, ap, ◌∙◌}
use Rattle.std.proofs.lemmas.List.{length-map}
use Rattle.aw_name_index.specs.Places.{stands, number_of}
use Rattle.aw_term.specs.Trees.{Con, Leaf, Made, More, binds, join}
use Rattle.aw_term.specs.WellFormed.{leaves, all_leaves, leaves_of}
use Rattle.aw_grammar.specs.declared.raw.RawTerm.{RawTerm}
use Rattle.aw_grammar.specs.declared.raw.RawTerm as raw
use Rattle.aw_grammar.specs.Written.{Written, side_by_side, written_of}
use Rattle.aw_grammar.specs.Terms.{depth_of, depth_of_parts, depth_of_all, symbols_in, symbols_in_parts, symbols_in_all}
use Rattle.aw_grammar.specs.Resolved.{resolved, resolved_parts, all_resolved, numbered}
use Rattle.aw_grammar.specs.Kinds.{is_known, parts_are_known, all_known, count_parts, has_arity, con_called, has_arities, parts_have_arities, all_have_arities}
use Rattle.aw_grammar.specs.declared.rule.Con as decl
use Rattle.aw_grammar.proofs.WrittenLemmas.{written_apply}

pub symbols_side : (ts : List Written) → symbols_in_parts (side_by_side ts) ≡ symbols_in_all ts
symbols_side [] = refl
symbols_side (t ∷ ts) = ap (λ n. symbols_in t + n) (symbols_side ts)

pub symbols_apply : (name : List ℕ) (ts : List RawTerm) → symbols_in (written_of (raw.Apply name ts)) ≡ suc (symbols_in_all (map written_of ts))
symbols_apply name ts = ap symbols_in (written_apply name ts) ∙ ap (λ n. suc n) (symbols_side (map written_of ts))

pub depth_side : (ts : List Written) → depth_of_parts (side_by_side ts) ≡ depth_of_all ts
depth_side [] = refl
depth_side (t ∷ ts) = ap (λ n. max (depth_of t) n) (depth_side ts)

pub depth_apply : (name : List ℕ) (ts : List RawTerm) → depth_of (written_of (raw.Apply name ts)) ≡ suc (depth_of_all (map written_of ts))
depth_apply name ts = ap depth_of (written_apply name ts) ∙ ap (λ n. suc n) (depth_side (map written_of ts))

known_side : (cons : List (List ℕ)) (ts : List Written) → parts_are_known cons (side_by_side ts) ≡ all_known cons ts
known_side cons [] = refl
known_side cons (t ∷ ts) = ap (λ b. is_known cons t && b) (known_side cons ts)

pub known_apply : (cons : List (List ℕ)) (name : List ℕ) (ts : List RawTerm) → is_known cons (written_of (raw.Apply name ts)) ≡ (stands name cons && all_known cons (map written_of ts))
known_apply cons name ts = ap (is_known cons) (written_apply name ts) ∙ ap (λ b. stands name cons && b) (known_side cons (map written_of ts))

leaves_side : (cons : List (List ℕ)) (ts : List Written) → all_leaves (resolved_parts cons (side_by_side ts)) ≡ leaves_of (all_resolved cons ts)
leaves_side cons [] = refl
leaves_side cons (t ∷ ts) = ap (λ xs. leaves (resolved cons t) ++ xs) (leaves_side cons ts)

pub leaves_apply : (cons : List (List ℕ)) (name : List ℕ) (ts : List RawTerm) → leaves (resolved cons (written_of (raw.Apply name ts))) ≡ leaves_of (all_resolved cons (map written_of ts))
leaves_apply cons name ts = ap (λ t. leaves (resolved cons t)) (written_apply name ts) ∙ leaves_side cons (map written_of ts)

binds_side : (cons variables : List (List ℕ)) (ts : List Written) → binds (λ x. Leaf (number_of x variables)) (resolved_parts cons (side_by_side ts)) ≡ join (map (numbered cons variables) ts)
binds_side cons variables [] = refl
binds_side cons variables (t ∷ ts) = ap (More (numbered cons variables t)) (binds_side cons variables ts)

pub numbered_apply : (cons variables : List (List ℕ)) (name : List ℕ) (ts : List RawTerm) → numbered cons variables
    (written_of (raw.Apply name ts)) ≡ Made (Con (number_of name cons)) (join (map (numbered cons variables) (map written_of ts)))
numbered_apply cons variables name ts =
    ap (numbered cons variables) (written_apply name ts) ∙ ap (Made (Con (number_of name cons))) (binds_side cons variables (map written_of ts))

pub pushed_apply : {E : Type 0} (cons : List (List ℕ)) (t : RawTerm) (name : List ℕ) (parts : List RawTerm) → t ≡ raw.Apply name parts →
    (old new : List (List ℕ)) (result : Result (Unit {0}) E) → OnOk result (new ≡ old ++ leaves_of (all_resolved cons (map written_of parts))) →
    OnOk result (new ≡ old ++ leaves (resolved cons (written_of t)))
pushed_apply cons t name parts e old new (Err x) h = tt
pushed_apply cons t name parts e old new (Ok u) h = h ∙ ap (λ xs. old ++ xs) (sym (ap (λ w. leaves (resolved cons (written_of w))) e ∙ leaves_apply cons name parts))

pub count_side : (ts : List Written) → count_parts (side_by_side ts) ≡ length ts
count_side [] = refl
count_side (t ∷ ts) = ap (λ n. suc n) (count_side ts)

arities_side : (cons : List decl.Con) (ts : List Written) → parts_have_arities cons (side_by_side ts) ≡ all_have_arities cons ts
arities_side cons [] = refl
arities_side cons (t ∷ ts) = ap (λ b. has_arities cons t && b) (arities_side cons ts)

pub arities_apply : (cons : List decl.Con) (name : List ℕ) (ts : List RawTerm) → has_arities cons (written_of (raw.Apply name ts)) ≡ (has_arity
    (length ts) (con_called name cons) && all_have_arities cons (map written_of ts))
arities_apply cons name ts =
    ap (has_arities cons) (written_apply name ts)
    ∙ ap (λ n. has_arity n (con_called name cons) && parts_have_arities cons (side_by_side (map written_of ts))) (count_side (map written_of ts) ∙ length-map ts written_of)
    ∙ ap (λ b. has_arity (length ts) (con_called name cons) && b) (arities_side cons (map written_of ts))
