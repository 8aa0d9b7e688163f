-- The text of a specification is read alike with a line `schedule` and any text behind it, and the lines of that text are left.
use Rattle.std.proofs.Common.{◌≡◌, ℕ, suc, ◌+◌, ◌≤◌, refl, sym, ap, ◌∙◌, Bool, true, false, cond, List, [], ◌∷◌, ◌++◌, map, length, drop, arith, append_assoc, zero-add}
use Rattle.std.proofs.lemmas.Bool.{le-ltb}
use Rattle.aw_spelling.proofs.NodeNames.{cut_here}
use Rattle.aw_lex.specs.Lines.{lines_of}
use Rattle.aw_lex.proofs.LineCuts.{lines_by_cut}
use Rattle.aw_term.specs.WellFormed.{Each}
use Rattle.aw_spec.specs.Lines.{Line, ScheduleLine}
use Rattle.aw_spec.specs.Stages.{roles_stage, rules_stage, end_stage}
use Rattle.aw_spec.specs.Reading.{Spec, Draft, Next, Fault, End, Good, Stop, at_stage, in_order, after_line, read_lines, no_draft, specification}
use Rattle.aw_spec.specs.declared.fault.SpecKind.TheVariants.{Order}
use Rattle.aw_spec_writer.specs.Laws.{InFrontIsRead}
use Rattle.aw_spec_writer.specs.LineTexts.{line_text, text_of_lines}
use Rattle.aw_spec_writer.specs.SpecLines.{spec_lines, written}
use Rattle.aw_spec_writer.specs.Writable.{IsWritable}
use Rattle.aw_spec_writer.proofs.Formed.{fine_if_formed, spelled_if_formed}
use Rattle.aw_spec_writer.proofs.Leading.{Leads, line_again}
use Rattle.aw_spec_writer.proofs.SaysTerms.{IsSpelledLine, line_says}
use Rattle.aw_spec_writer.proofs.SpelledSpecs.{spec_spelled}
use Rattle.aw_spec_writer.proofs.WrittenAgain.{spec_leads}

-- ---- the lines
pub line_in_front : (l : Line) (rest : List ℕ) → IsSpelledLine l → lines_of (line_text l ++ 10 ∷ rest) ≡ line_text l ∷ lines_of rest
line_in_front l rest h = lines_by_cut (line_text l) (line_text l ++ 10 ∷ rest) rest (cut_here 10 (line_text l) rest (line_says l h).unbroken)

lines_in_front : (ls : List Line) (rest : List ℕ) → Each IsSpelledLine ls → lines_of (text_of_lines ls ++ rest) ≡ map line_text ls ++ lines_of rest
lines_in_front [] rest h = refl
lines_in_front (l ∷ ls) rest h =
    ap lines_of (append_assoc (line_text l) (10 ∷ text_of_lines ls) rest)
    ∙ line_in_front l (text_of_lines ls ++ rest) h.0
    ∙ ap (λ xs. line_text l ∷ xs) (lines_in_front ls rest h.1)

-- ---- how they are read
leads_on : (d e : Draft) (n : ℕ) (ls : List Line) (more : List (List ℕ)) → Each IsSpelledLine ls → Leads d ls e → read_lines d n (map line_text ls ++ more) ≡ read_lines e (n + length ls) more
leads_on d e n [] more h leads =
    let same : n ≡ n + 0 = omega arith in
    ap (λ (x : Draft). read_lines x n more) leads ∙ ap (λ k. read_lines e k more) same
leads_on d e n (l ∷ ls) more h leads =
    let same : suc n + length ls ≡ n + suc (length ls) = omega arith in
    ap (λ r. after_line d (suc n) r (λ next. read_lines next (suc n) (map line_text ls ++ more))) (line_again d l h.0 ∙ leads.1)
    ∙ leads_on leads.0 e (suc n) ls more h.1 leads.2
    ∙ ap (λ k. read_lines e k more) same

end_again : (d : Draft) (loads : Bool) → d.stage ≤ end_stage → in_order d (ScheduleLine loads) ≡ End loads
end_again d loads h = ap (λ b. cond b (Fault Order) (at_stage end_stage (Stop loads))) (le-ltb end_stage d.stage h)

end_read : (d : Draft) (n : ℕ) (loads : Bool) (more : List (List ℕ)) → d.stage ≤ end_stage → read_lines d n (line_text (ScheduleLine loads) ∷ more) ≡ Good d.spec (suc n) loads
end_read d n loads more h = ap (λ r. after_line d (suc n) r (λ next. read_lines next (suc n) more)) (line_again d (ScheduleLine loads) tt ∙ end_again d loads h)

left_behind : {A B : Type 0} (f : A → B) (xs : List A) (y : B) (ys : List B) → drop (suc (length xs)) (map f xs ++ y ∷ ys) ≡ ys
left_behind f [] y ys = refl
left_behind f (x ∷ xs) y ys = left_behind f xs y ys

pub in_front_is_read : InFrontIsRead
in_front_is_read s w loads rest =
    let ls = spec_lines s in
    let fine = fine_if_formed s.declared w.formed w.variables in
    let all = spec_spelled s fine (spelled_if_formed s.declared w.formed w.numbers) w.faces w.types in
    let leads = spec_leads s fine w.faces w.types 0 (omega arith) in
    let last : Draft = record { spec = s; stage = leads.0 } in
    let end = ScheduleLine loads in
    let lines : lines_of (written s ++ (line_text end ++ 10 ∷ rest)) ≡ map line_text ls ++ line_text end ∷ lines_of rest =
    lines_in_front ls (line_text end ++ 10 ∷ rest) all ∙ ap (λ xs. map line_text ls ++ xs) (line_in_front end rest tt) in
    let before : leads.0 ≤ end_stage = omega (arith, leads.1) in (
      ap specification lines
          ∙ leads_on no_draft last 0 ls (line_text end ∷ lines_of rest) all leads.2
          ∙ end_read last (0 + length ls) loads (lines_of rest) before
          ∙ ap (λ k. Good s (suc k) loads) (zero-add (length ls)),
      ap (drop (suc (length ls))) lines ∙ left_behind line_text ls (line_text end) (lines_of rest),
    )
