-- How long spellings are: the payload of each frame is within its limit.
use Rattle.std.proofs.Common.{ℕ, suc, ◌+◌, ◌*◌, ◌≤◌, nat_le, List, [], ◌∷◌, ◌++◌, length, sym, subst, arith}
use Rattle.std.specs.List.{flat_map, list_all}
use Rattle.std.specs.Int.{w16, to_be_bytes}
use Rattle.std.proofs.lemmas.List.{length-append}
use Rattle.std.proofs.lemmas.List.Concat.{flat_map-cons}
use Rattle.std.proofs.lemmas.Bool.{and_parts, leb-true}
use Rattle.aw_spelling.specs.Spelling.{is_content_byte}
use Rattle.aw_term.specs.Trees.{Never, Head, Con, Num, Text, Leaf, Made, Trees, Nil, More, count}
use Rattle.aw_term.specs.Names.{Step, Node, Slot, Result, Part, Ref}
use Rattle.aw_term.specs.Rules.{Ground}
use Rattle.aw_term.specs.Choices as Q
use Rattle.aw_term.specs.WellFormed.{Each, symbols, all_symbols, symbols_of}
use Rattle.aw_name.specs.Limits.{most_steps}
use Rattle.aw_term.specs.Limits.{most_levels, most_references, most_of_load}
use Rattle.aw_store.specs.Equations.{Body, Same, Is, Equation}
use Rattle.aw_apply.specs.Messages.{Kind, Calls, Asks, Tells, Message}
use Rattle.aw_codec.specs.Names.{spelled_step, spelled_node, spelled_slot, spelled_ref, spelled_refs}
use Rattle.aw_codec.specs.Texts.{spelled_text}
use Rattle.aw_codec.specs.Grounds.{spelled_head, spelled_ground, spelled_parts, spelled_grounds}
use Rattle.aw_codec.specs.Choices.{spelled_choice}
use Rattle.aw_codec.specs.Ranges.{TextInRange, NodeInRange, RefInRange, RefsInRange, HeadInRange, HeadsInRange, PartsInRange, GroundInRange, GroundsInRange, ChoiceInRange}
use Rattle.aw_msg.specs.Spelling.{spelled_body, spelled_equation, spelled_load, spelled_kind, spelled_message}
use Rattle.aw_msg.specs.MessageRanges.{BodyInRange, EquationInRange, LoadInRange, KindInRange, MessageInRange}
use Rattle.aw_msg.specs.MessageView.{plain_message}
use Rattle.aw_msg.specs.Frames.{Frame, Push, Choose, Pull, Listed, spelled_payload, FrameInRange}

adds : (a b : List ℕ) (n m : ℕ) → length a ≤ n → length b ≤ m → length (a ++ b) ≤ n + m
adds a b n m e f = omega (arith, length-append a b)

more : (n a b : ℕ) → a ≤ b → n ≤ a → n ≤ b
more n a b e f = omega arith

-- a list of members that are each at most k long
each_adds : {A : Type 0} (spelled : A → List ℕ) (P : A → Type 0) (k : ℕ) (xs : List A) → ((x : A) → P x → length (spelled x) ≤ k) → Each P xs → length (flat_map spelled xs) ≤ length xs * k
each_adds spelled P k [] bound h = omega arith
each_adds spelled P k (x ∷ xs) bound h =
    let both = adds (spelled x) (flat_map spelled xs) k (length xs * k) (bound x h.0) (each_adds spelled P k xs bound h.1) in
    subst (λ (t : List ℕ). length t ≤ suc (length xs) * k) (sym (flat_map-cons spelled x xs)) (sums (length (spelled x ++ flat_map spelled xs)) (length xs) k both)
  where
    sums : (n m k : ℕ) → n ≤ k + m * k → n ≤ suc m * k
    sums n m k e = grind arith

node_short : (n : Node) → NodeInRange n → length (spelled_node n) ≤ 761
node_short n h =
    let steps : length (flat_map spelled_step n.steps) ≤ length n.steps * 3 = each_adds spelled_step (λ s. Unit {0}) 3 n.steps (λ s u. equal 3) (all n.steps) in
    whole (length (flat_map spelled_step n.steps)) (length n.steps) steps h.0
  where
    all : (ss : List Step) → Each (λ s. Unit {0}) ss
    all [] = tt
    all (s ∷ ss) = (tt, all ss)

    equal : (n : ℕ) → n ≤ n
    equal n = omega arith

    whole : (n m : ℕ) → n ≤ m * 3 → m ≤ 250 → suc (suc (suc (suc (suc (suc (suc (suc (suc (suc (suc n)))))))))) ≤ 761
    whole n m e f = omega arith

slot_length : (s : Slot) → length (spelled_slot s) ≤ 3
slot_length (Result j) = omega arith
slot_length (Part k) = omega arith

-- the most bytes of what is spelled, by the limits
abbrev long_node : ℕ
long_node = 11 + most_steps * 3

abbrev long_ref : ℕ
long_ref = long_node + 3

abbrev long_refs : ℕ
long_refs = 1 + most_references * long_ref

abbrev long_body : ℕ
long_body = 3 + long_refs

abbrev long_equation : ℕ
long_equation = long_ref + long_body

abbrev long_load : ℕ
long_load = 1 + most_of_load * long_equation

abbrev long_kind : ℕ
long_kind = 1 + (long_equation + long_load)

abbrev long_message : ℕ
long_message = 3 + long_kind

ref_short : (r : Ref) → RefInRange r → length (spelled_ref r) ≤ long_ref
ref_short r h = adds (spelled_node r.node) (spelled_slot r.slot) long_node 3 (node_short r.node h.0) (slot_length r.slot)

refs_short : (rs : List Ref) → RefsInRange rs → length (spelled_refs rs) ≤ long_refs
refs_short rs h = whole (length (flat_map spelled_ref rs)) (length rs) (each_adds spelled_ref RefInRange long_ref rs ref_short h.1) h.0
  where
    whole : (n m : ℕ) → n ≤ m * long_ref → m ≤ most_references → suc n ≤ long_refs
    whole n m e f = omega arith

content_short : (t : List ℕ) → TextInRange t → length t ≤ 1024
content_short t e = leb-true (length t) 1024 (and_parts (nat_le (length t) 1024) (list_all is_content_byte t) e).0

text_short : (t : List ℕ) → TextInRange t → length (spelled_text t) ≤ 1026
text_short t e = let le = content_short t e in whole (length t) le
  where
    whole : (n : ℕ) → n ≤ 1024 → suc (suc n) ≤ 1026
    whole n e = omega arith

behind_tag : (n m k : ℕ) → n ≤ m → suc m ≤ k → suc n ≤ k
behind_tag n m k e f = omega arith

body_short : (b : Body) → BodyInRange b → length (spelled_body b) ≤ long_body
body_short (Same r) h = behind_tag _ _ _ (ref_short r h) (omega arith)
body_short (Is (Con c) parts) h = whole (length (spelled_refs parts)) (refs_short parts h.1)
  where
    whole : (n : ℕ) → n ≤ long_refs → suc (suc (suc n)) ≤ long_body
    whole n e = omega arith
body_short (Is (Num n) parts) h = omega arith
body_short (Is (Text t) parts) h = behind_tag _ _ _ (text_short t h.0.1) (omega arith)

equation_short : (e : Equation) → EquationInRange e → length (spelled_equation e) ≤ long_equation
equation_short e h = adds (spelled_ref e.left) (spelled_body e.body) long_ref long_body (ref_short e.left h.0) (body_short e.body h.1)

load_short : (es : List Equation) → LoadInRange es → length (spelled_load es) ≤ long_load
load_short [] h = omega arith
load_short (e ∷ es) h = whole (length (flat_map spelled_equation (e ∷ es))) (length (e ∷ es)) (each_adds spelled_equation EquationInRange long_equation (e ∷ es) equation_short h.1) h.0
  where
    whole : (n m : ℕ) → n ≤ m * long_equation → m ≤ most_of_load → suc n ≤ long_load
    whole n m e f = omega arith

kind_short : (k : Kind) → KindInRange k → length (spelled_kind k) ≤ long_kind
kind_short (Calls c load) h =
    behind_tag _ _ _
    (adds (spelled_node c.node) (spelled_refs c.inherited ++ spelled_load load) long_node (long_refs + long_load) (node_short c.node h.0)
    (adds (spelled_refs c.inherited) (spelled_load load) long_refs long_load (refs_short c.inherited h.1.0) (load_short load h.1.1))) (omega arith)
kind_short (Asks r from) h = behind_tag _ _ _ (adds (spelled_ref r) (to_be_bytes w16 from) long_ref 2 (ref_short r h) (omega arith)) (omega arith)
kind_short (Tells e load) h = behind_tag _ _ _ (adds (spelled_equation e) (spelled_load load) long_equation long_load (equation_short e h.0) (load_short load h.1)) (omega arith)

message_short : (m : Message) → MessageInRange m → length (spelled_message m) ≤ long_message
message_short m h = whole (length (spelled_kind m.kind)) (kind_short m.kind h)
  where
    whole : (n : ℕ) → n ≤ long_kind → suc (suc (suc n)) ≤ long_message
    whole n e = omega arith

-- an argument has at most 1027 bytes for each symbol
head_short : (h : Head) (n : ℕ) → HeadInRange h n → length (spelled_head h n) ≤ 1027
head_short (Con c) n e = omega arith
head_short (Num m) n e = omega arith
head_short (Text t) n e = behind_tag _ _ _ (text_short t e.1) (omega arith)

symbol_sum : (n a b : ℕ) → a ≤ 1027 → b ≤ n * 1027 → a + b ≤ suc n * 1027
symbol_sum n a b e f = grind arith

joins : (a b c d k : ℕ) → a ≤ b * k → c ≤ d * k → a + c ≤ (b + d) * k
joins a b c d k e f = grind arith

none_short : 0 ≤ 0 * 1027
none_short = omega arith

mutual
  ground_short : (t : Ground) → HeadsInRange t → length (spelled_ground t) ≤ symbols t * 1027
  ground_short (Leaf x) h = elim x [ ]
  ground_short (Made h ts) e =
      subst (λ n. n ≤ suc (all_symbols ts) * 1027) (sym (length-append (spelled_head h (count ts)) (spelled_parts ts)))
      (symbol_sum (all_symbols ts) (length (spelled_head h (count ts))) (length (spelled_parts ts)) (head_short h (count ts) e.0) (parts_short ts e.1))

  parts_short : (ts : Trees Never) → PartsInRange ts → length (spelled_parts ts) ≤ all_symbols ts * 1027
  parts_short Nil h = none_short
  parts_short (More t ts) h =
      subst (λ n. n ≤ (symbols t + all_symbols ts) * 1027) (sym (length-append (spelled_ground t) (spelled_parts ts)))
      (joins (length (spelled_ground t)) (symbols t) (length (spelled_parts ts)) (all_symbols ts) 1027 (ground_short t h.0) (parts_short ts h.1))

each_short : (ts : List Ground) → Each (GroundInRange most_levels) ts → length (flat_map spelled_ground ts) ≤ symbols_of ts * 1027
each_short [] h = none_short
each_short (t ∷ ts) h =
    subst (λ (u : List ℕ). length u ≤ (symbols t + symbols_of ts) * 1027) (sym (flat_map-cons spelled_ground t ts))
    (subst (λ n. n ≤ (symbols t + symbols_of ts) * 1027) (sym (length-append (spelled_ground t) (flat_map spelled_ground ts)))
    (joins (length (spelled_ground t)) (symbols t) (length (flat_map spelled_ground ts)) (symbols_of ts) 1027 (ground_short t h.0.0) (each_short ts h.1)))

grounds_short : (ts : List Ground) → GroundsInRange ts → length (spelled_grounds ts) ≤ 262913
grounds_short ts h = whole (length (flat_map spelled_ground ts)) (symbols_of ts) (each_short ts h.2) h.1
  where
    whole : (n m : ℕ) → n ≤ m * 1027 → m ≤ 256 → suc n ≤ 262913
    whole n m e f = omega arith

choice_short : (c : Q.Choice) → ChoiceInRange c → length (spelled_choice c) ≤ 1048576
choice_short (Q.Start sort case) h = omega arith
choice_short (Q.Develop n rule args) h =
    behind_tag _ _ _ (adds (spelled_node n) (to_be_bytes w16 rule ++ spelled_grounds args) long_node 262915 (node_short n h.0)
    (more_two (length (spelled_grounds args)) (grounds_short args h.1))) (omega arith)
  where
    more_two : (n : ℕ) → n ≤ 262913 → suc (suc n) ≤ 262915
    more_two n e = omega arith

pub payload_short : (f : Frame) → FrameInRange f → length (spelled_payload f) ≤ 1048576
payload_short (Push m) h = more (length (spelled_message (plain_message m))) long_message 1048576 (omega arith) (message_short (plain_message m) h)
payload_short (Choose c) h = choice_short c h
payload_short (Pull place) h = omega arith
payload_short (Listed place) h = omega arith
