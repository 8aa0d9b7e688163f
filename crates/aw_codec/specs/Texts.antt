-- How the contents of texts are spelled in bytes, and how they are read.
use Rattle.std.specs.Prelude.{ℕ, List, ◌++◌, length}
use Rattle.std.specs.Int.{w16, to_be_bytes}
use Rattle.aw_spelling.specs.Spelling.{is_content_byte}
use Rattle.aw_codec.specs.Reading.{Reader, byte, number, such_that, counted}
use Rattle.aw_codec.specs.Names.{is_at_most}

-- the number of bytes in two bytes, and the bytes
abbrev pub spelled_text : List ℕ → List ℕ
spelled_text t = to_be_bytes w16 (length t) ++ t

-- at most 1024 bytes, each an item
unfoldable pub text : Reader (List ℕ)
text = counted (such_that (is_at_most 1024) (number w16)) (such_that is_content_byte byte)
