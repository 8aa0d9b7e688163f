-- Terms of which each text has a content, one list behind another.
use Rattle.std.proofs.Common.{◌≡◌, true, List, [], ◌∷◌, ◌++◌}
use Rattle.std.proofs.lemmas.Bool.{and_parts, and_from}
use Rattle.aw_grammar.specs.Written.{Written}
use Rattle.aw_grammar.specs.Terms.{all_have_contents}

pub contents_append : (ts us : List Written) → all_have_contents ts ≡ true → all_have_contents us ≡ true → all_have_contents (ts ++ us) ≡ true
contents_append [] us ht hu = hu
contents_append (t ∷ ts) us ht hu = let (first, rest) = and_parts _ _ ht in and_from _ _ first (contents_append ts us rest hu)
