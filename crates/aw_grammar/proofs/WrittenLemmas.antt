-- The view of a written term at parentheses.
use Rattle.std.specs.Prelude.{◌≡◌, ℕ, List, map}
use Rattle.std.proofs.Common.{refl, ap, ◌∙◌}
use Rattle.aw_grammar.specs.declared.raw.RawTerm as raw
use Rattle.aw_grammar.specs.declared.raw.RawTerm.TheBlock as raw_block
use Rattle.aw_grammar.specs.Written.{Apply, Then, side_by_side, written_of, written_row}

written_row_list : (m : _) (row : raw.Row_of-RawTerm m) → written_row row ≡ side_by_side (map written_of (raw.items-the_row-RawTerm m row))
written_row_list _ raw.end_of-RawTerm = refl
written_row_list _ (raw.more_of-RawTerm t rest) = ap (Then (written_of t)) (written_row_list _ rest)

pub written_apply : (name : List ℕ) (ts : List raw.RawTerm) → written_of (raw.Apply name ts) ≡ Apply name (side_by_side (map written_of ts))
written_apply name ts = ap (Apply name) (written_row_list _ (raw_block.hidden-the_row-RawTerm-0 ts) ∙ ap (λ us. side_by_side (map written_of us)) (raw.items_hidden-the_row-RawTerm-0 ts))
