-- Messages of the program, and what they can contradict, as plain ones.
use Rattle.std.specs.Prelude.{ℕ, map, unwrap_or}
use Rattle.aw_term.specs.Names.{Node}
use Rattle.aw_term.specs.Rules.{Grammar, sort_of}
use Rattle.aw_store.specs.EquationView.{body_of, equation_of}
use Rattle.aw_store.specs.declared.facts.Content.{Content}
use Rattle.aw_store.specs.declared.facts.Content.TheVariants.{Inherited, Body}
use Rattle.aw_apply.specs.Messages as P
use Rattle.aw_msg.specs.declared.message.MsgKind.{MsgKind}
use Rattle.aw_msg.specs.declared.message.MsgKind.TheVariants.{Call, Ask, Tell}
use Rattle.aw_msg.specs.declared.message.Message.{Message}

-- a called node has the sort that is given for it
abbrev pub kind_with : (Node → ℕ) → MsgKind → P.Kind
kind_with sort (Call n inherited load) = P.Calls (record { node = n; sort = sort n; inherited = inherited }) (map equation_of load)
kind_with sort (Ask r from) = P.Asks r from
kind_with sort (Tell e load) = P.Tells (equation_of e) (map equation_of load)

-- a message as the plain one, where a called node has the sort that is given for it
abbrev pub message_with : (Node → ℕ) → Message → P.Message
message_with sort m = record { to = m.to; kind = kind_with sort m.kind }

-- the sort of a node, and 0 where its name is not valid
abbrev pub sort_or_zero : Grammar → Node → ℕ
sort_or_zero g n = unwrap_or (sort_of g n) 0

-- the message, with the sort of the called node
abbrev pub message_of : Grammar → Message → P.Message
message_of g m = message_with (sort_or_zero g) m

-- the message without a grammar: a called node has sort 0
abbrev pub plain_kind : MsgKind → P.Kind
plain_kind k = kind_with (λ n. 0) k

-- the whole message without a grammar
abbrev pub plain_message : Message → P.Message
plain_message m = message_with (λ n. 0) m

-- what can contradict, as the plain one: the inherited references of a node, or the body of a reference
abbrev pub content_of : Content → P.Content
content_of (Inherited refs) = P.OfNode refs
content_of (Body body) = P.OfReference (body_of body)
