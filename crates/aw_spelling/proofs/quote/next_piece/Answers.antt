use Rattle.std.proofs.Common.{◌≡◌, ◌∙◌, sym, ap, take, drop, List, ℕ, option_map}
use Rattle.aw_spelling.specs.Spelling.{content_before_quote}
use Rattle.aw_spelling.specs.Pieces.{run_len, with_run}
use Rattle.aw_spelling.proofs.Quotes.{run_piece}
use Rattle.aw_spelling.proofs.quote.next_piece.Goals as goal

-- the bytes are cut behind the run
cut_run : (bs run rest : List ℕ) (n : ℕ) → n ≡ run_len bs → run ≡ take n bs → rest ≡ drop n bs → content_before_quote bs ≡ option_map (with_run run) (content_before_quote rest)
cut_run bs run rest n e f g =
    run_piece bs ∙ ap (λ k. option_map (with_run (take k bs)) (content_before_quote (drop k bs))) (sym e)
    ∙ ap (λ r. option_map (with_run r) (content_before_quote (drop n bs))) (sym f)
    ∙ ap (λ r. option_map (with_run run) (content_before_quote r)) (sym g)

pub returns-clause-value : goal.returns-clause-value
returns-clause-value c =
    cut_run c.args.bytes.now c.split_at.result.0.now c.split_at.result.1.now c.run_len-len.result c.run_len-len.ensures.value c.split_at.ensures.front c.split_at.ensures.back
