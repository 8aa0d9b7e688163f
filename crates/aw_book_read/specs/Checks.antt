-- What `check` says of the file of a journal: one line, whose first word is how it stands.
use Rattle.std.specs.Prelude.{◌≡◌, ℕ, ◌-◌, List, [], ◌∷◌, ◌++◌, map, length, take, codes, None, Some, IfSome, true, false, ◌||◌, nat_lt, ◌==◌, if◌then◌else◌}
use Rattle.std.specs.declared.option.Option.{Option}
use Rattle.std.specs.Fmt.{decimal}
use Rattle.hex.specs.Hex.{encode_lower}
use Rattle.sha2.specs.Sha256.{sha256}
use Rattle.aw_journal.specs.Format.{events_of, head}
use Rattle.aw_journal.specs.Standing.{standing, has_whole_head, tail_of}
use Rattle.aw_journal.specs.declared.standing.Standing.{Standing}
use Rattle.aw_journal.specs.declared.standing.Standing.TheVariants.{Empty, Headless, Sound, Cut, Damaged}
use Rattle.aw_book_read.specs.declared.checks.Checked.{Checked}
use Rattle.aw_book_read.specs.declared.checking.HeadText.{HeadText}

-- how a file stands, in one word
abbrev pub standing_word : Standing → List ℕ
standing_word Empty = codes "empty"
standing_word Headless = codes "headless"
standing_word Sound = codes "sound"
standing_word Cut = codes "cut"
standing_word Damaged = codes "damaged"

-- nothing, or ` digest 6b86..`
abbrev pub digest_text : Option (List ℕ) → List ℕ
digest_text None = []
digest_text (Some digest) = codes " digest " ++ encode_lower digest

-- a byte of a file's name: `?` in place of what a terminal would act on
abbrev pub shown_byte : ℕ → ℕ
shown_byte b = if nat_lt b 32 || b == 127 then 63 else b

-- ` events 60000 bytes 3560297 behind 0`
abbrev pub counts_text : Checked → List ℕ
counts_text c = codes " events " ++ (decimal c.events ++ (codes " bytes " ++ (decimal c.bytes ++ (codes " behind " ++ decimal c.behind))))

-- ` lab.journal` and a line feed
abbrev pub name_text : List ℕ → List ℕ
name_text name = codes " " ++ (map shown_byte name ++ codes "\n")

-- `sound lab events 60000 bytes 3560297 behind 0 lab.journal`
abbrev pub check_line : Checked → (role name : List ℕ) → List ℕ
check_line c role name = standing_word c.standing ++ (codes " " ++ (role ++ (counts_text c ++ (digest_text c.digest ++ name_text name))))

-- Where the file has these bytes: how it stands, how many events it has, how many bytes stand before the last gate and how many behind it, and the digest of those
-- before, where one was asked for.
pub record IsCheckOf (file : List ℕ) (c : Checked) : Type 0 where
  pub standing : c.standing ≡ standing file
  pub events : c.events ≡ length (events_of file)
  pub bytes : c.bytes ≡ length file - length (tail_of file)
  pub behind : c.behind ≡ length (tail_of file) - 1
  pub digest : IfSome c.digest (λ digest. digest ≡ sha256 (take c.bytes file))

-- an open head of this role and this text stands whole at the front, or none does
abbrev pub IsHeadIn : List ℕ → Option HeadText → Type 0
IsHeadIn file None = has_whole_head file ≡ false
IsHeadIn file (Some h) = (has_whole_head file ≡ true) × ((rest : List ℕ) × (file ≡ 1 ∷ (head h.role h.text ++ rest)))
