-- Replies of a workspace, as texts and bytes.
use Rattle.std.specs.Prelude.{ℕ, List, [], ◌∷◌, ◌++◌, length, map, codes}
use Rattle.std.specs.Int.{w32, w64, to_be_bytes}
use Rattle.aw_term.specs.Artifacts.{Words, listed, ref_text, answer_text, item_text}
use Rattle.aw_store.specs.BodyTexts.{body_text}
use Rattle.aw_apply.specs.Messages.{Content, OfNode, OfReference}
use Rattle.aw_msg.specs.Spelling.{spelled_message}
use Rattle.aw_msg.specs.Responses.{Response, WasNew, WasHeld, Contradicts, NotForMe, NotValid, Answers, Sends, TooLong, BadFrame, Ended, Shows}

-- references in parentheses, or a body
abbrev pub content_text : Words → Content → List ℕ
content_text w (OfNode refs) = codes "(" ++ (listed (map (ref_text w) refs) ++ codes ")")
content_text w (OfReference body) = body_text w body

-- what was kept, and what came and contradicts it
abbrev pub conflict_text : Words → Content → Content → List ℕ
conflict_text w kept came = codes "kept " ++ (content_text w kept ++ (codes " came " ++ content_text w came))

-- the byte that tells which reply it is
abbrev pub reply_kind : Response → ℕ
reply_kind WasNew = 1
reply_kind WasHeld = 2
reply_kind (Contradicts kept came) = 3
reply_kind NotForMe = 4
reply_kind NotValid = 5
reply_kind (Answers a) = 6
reply_kind (Sends m) = 7
reply_kind TooLong = 8
reply_kind BadFrame = 9
reply_kind (Ended n) = 10
reply_kind (Shows i) = 11

-- what a reply says beside its kind: texts, but for a message in its bytes and a number in eight bytes
abbrev pub reply_payload : Words → Response → List ℕ
reply_payload w WasNew = []
reply_payload w WasHeld = []
reply_payload w (Contradicts kept came) = conflict_text w kept came
reply_payload w NotForMe = []
reply_payload w NotValid = []
reply_payload w (Answers a) = answer_text w a
reply_payload w (Sends m) = spelled_message m
reply_payload w TooLong = []
reply_payload w BadFrame = []
reply_payload w (Ended n) = to_be_bytes w64 n
reply_payload w (Shows i) = item_text w i

-- the kind, the length of the payload in four bytes, and the payload
abbrev pub spelled_reply : Words → Response → List ℕ
spelled_reply w r = reply_kind r ∷ (to_be_bytes w32 (length (reply_payload w r)) ++ reply_payload w r)
