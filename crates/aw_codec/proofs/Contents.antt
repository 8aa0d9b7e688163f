-- Bytes of contents.
use Rattle.std.specs.Prelude.{ℕ}
use Rattle.aw_spelling.specs.Spelling.{is_content_byte}
use Rattle.aw_codec.specs.Reading.{Reader, byte, such_that}

abbrev pub content_byte : Reader ℕ
content_byte = such_that is_content_byte byte
