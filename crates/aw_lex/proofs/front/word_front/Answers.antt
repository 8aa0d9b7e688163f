use Rattle.std.proofs.Common.{◌≡◌, ◌+◌, ◌∙◌, ℕ, List, drop, sym, ap, arith, Some, None}
use Rattle.std.specs.List.{prefix_len}
use Rattle.aw_spelling.specs.Spelling.{is_name_byte}
use Rattle.aw_lex.specs.Tokens.{is_word_byte, word_len}
use Rattle.aw_lex.proofs.Words.{past_name, kept_prefix, cut_word}
use Rattle.aw_lex.proofs.front.word_front.Goals as goal

whole_word : (bs : List ℕ) (name len : ℕ) → name ≡ prefix_len is_name_byte bs → len ≡ name + prefix_len is_word_byte (drop name bs) → len ≡ word_len bs
whole_word bs name len e f = f ∙ ap (λ n. n + prefix_len is_word_byte (drop n bs)) e ∙ past_name bs

pub kind_of_word-requires : goal.kind_of_word-requires
kind_of_word-requires c =
    let bs = c.args.bytes.now in
    let name = c.name_len-name in
    let len = c.word_end-len in
    name.ensures.value ∙ sym (kept_prefix is_name_byte len.result bs (omega (arith, name.ensures.value, len.ensures.after))) ∙ ap (prefix_len is_name_byte) (sym c.split_at.ensures.front)

pub returns-in-Some : goal.returns-in-Some
returns-in-Some c =
    let bs = c.args.bytes.now in
    let len = c.word_end-len in
    let whole = whole_word bs c.name_len-name.result len.result c.name_len-name.ensures.value len.ensures.value in
    cut_word bs c.split_at.result.0.now len.result (Some c.in-Some.kind) whole c.split_at.ensures.front c.in-Some.ensures

pub returns-in-None : goal.returns-in-None
returns-in-None c =
    let bs = c.args.bytes.now in
    let len = c.word_end-len in
    let whole = whole_word bs c.name_len-name.result len.result c.name_len-name.ensures.value len.ensures.value in
    cut_word bs c.split_at.result.0.now len.result None whole c.split_at.ensures.front c.in-None.ensures
