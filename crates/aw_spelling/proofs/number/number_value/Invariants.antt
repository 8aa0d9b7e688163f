use Rattle.std.proofs.Common.{◌≡◌, drop, true, Some}
use Rattle.aw_spelling.specs.Spelling.{value_after, is_digit, if_word, number_of}
use Rattle.std.specs.List.{list_all}
use Rattle.aw_spelling.proofs.number.number_value.Given as goal

abbrev pub invariant-loop-digit : goal.invariant-loop-digit
invariant-loop-digit l =
    record {
      rest : if_word (value_after l.value (drop l.digit-index l.b)) ≡ number_of l.b;
      word : if_word l.value ≡ Some l.value;
      digits : list_all is_digit (drop l.digit-index l.b) ≡ true;
    }
