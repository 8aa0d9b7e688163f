-- What the answers mean over an honest wire.
use Rattle.std.proofs.Common.{◌≡◌, ℕ, ◌+◌, ◌-◌, ◌<◌, ◌≤◌, ◌^◌, Bool, true, false, cond, List, [], ◌∷◌, ◌++◌, map, length, take, drop, Option, Some}
use Rattle.std.proofs.Common.{None, Result, Ok, Err, refl, sym, ap, subst, ◌∙◌, arith, append_assoc, append-nil, length-append}
use Rattle.std.specs.Prelude.{nat_lt, IfOk}
use Rattle.std.specs.Int.{w32, to_be_bytes}
use Rattle.std.proofs.lemmas.Bool.{ltb-false}
use Rattle.std.proofs.lemmas.List.{length-drop}
use Rattle.aw_list.proofs.Members.{never}
use Rattle.aw_list.proofs.Everyday.{some-inj as some-is}
use Rattle.aw_term.specs.Artifacts.{Words}
use Rattle.aw_term.specs.Choices.{Choice}
use Rattle.aw_term.specs.Rules.{Grammar}
use Rattle.aw_term.specs.Trees.{Never}
use Rattle.aw_term.specs.WellFormed.{Each}
use Rattle.aw_term.proofs.Eaches.{each_append}
use Rattle.aw_base.specs.ChoiceFits.{choice_ok}
use Rattle.aw_codec.specs.Ranges.{ChoiceSized}
use Rattle.aw_codec.specs.Reading.{Fault, Short, ◌>>=◌, number}
use Rattle.aw_codec.proofs.Laws.{ok_is, number32}
use Rattle.aw_law_sites.specs.Sites.{Site}
use Rattle.aw_law_sites.specs.Worlds as world
use Rattle.aw_law_sites.specs.Worlds.{Move}
use Rattle.aw_law_worlds.specs.Laws.{MayCome, world_after}
use Rattle.aw_law_worlds.proofs.Lists.{length-mapped}
use Rattle.aw_msg.specs.Frames as F
use Rattle.aw_msg.specs.Frames.{whole}
use Rattle.aw_msg.specs.Messages as M
use Rattle.aw_msg.specs.Messages.{message}
use Rattle.aw_msg.specs.MessageView.{message_of}
use Rattle.aw_msg.specs.Replies.{reply_kind, reply_payload}
use Rattle.aw_msg.specs.Spelling as S
use Rattle.aw_msg.specs.declared.message.Message.{Message}
use Rattle.aw_msg.proofs.Lengths.{payload_short}
use Rattle.aw_msg.proofs.MessageLaws.{message_law}
use Rattle.aw_session.specs.Frames.{joined}
use Rattle.aw_law_nodes.specs.Couriers as C
use Rattle.aw_law_nodes.specs.Couriers.{Heard, Gave, hear, flat, IsPrefix, IsHonestWire, choice_frames, session_frames, visit_frames, turn_room}
use Rattle.aw_law_nodes.specs.Couriers.{new_courier, AreTurns, HasRole, ChoicesOk, IsQuietCall, IsSpentCall, QuietMeansQuiet}
use Rattle.aw_law_nodes.specs.Encodable.{HasBytes, IsHonestInBytes, BytesAreHonest}
use Rattle.aw_law_nodes.specs.Sizes.{ChoicesSized, GrammarSized}
use Rattle.aw_law_nodes.specs.Ending.{RoundsAreBounded}
use Rattle.aw_law_nodes.specs.Nodes.{Frame, Pull as PullFrame, happenings, ReadAs, Response, WasNew, WasHeld, Contradicts, NotForMe, NotValid, Answers, Sends, Shows, Ended, sites_after, all_replies}
use Rattle.aw_law_nodes.specs.Told.{told}
use Rattle.aw_law_nodes.proofs.ListParts.{cons-inj}
use Rattle.aw_law_nodes.proofs.HeardBytes.{cancel}
use Rattle.aw_law_nodes.proofs.Turns.{round-known, rounds-known}
use Rattle.aw_out.specs.Wires.{Content}
use Rattle.aw_courier.specs.Carrying.{sessions_of, Carries}
use Rattle.aw_courier.specs.declared.carrying.Carried.{Carried}
use Rattle.aw_courier.specs.declared.carrying.Carried.TheVariants.{Quiet, RoundsSpent}
use Rattle.aw_courier.specs.declared.carrying.CarryFault.{CarryFault}
use Rattle.aw_courier.specs.Frames.{size}
use Rattle.aw_courier.specs.Honest.{reply_bytes, Visit, turn_of, visit_of, IsHonest, QuietOverHonest, BoundOverHonest, MeansOverHonest}
use Rattle.aw_courier.specs.Replies.{may_have, fits_length, gave, heard_in, known, payload_at, reply, request_of}
use Rattle.aw_courier.specs.Turns.{Turn, AreHeard, IsHeard}
use Rattle.aw_courier.specs.declared.replies.Request.{Request}
use Rattle.aw_courier.proofs.BroughtLemmas.{same-spelling}
use Rattle.aw_courier.proofs.ReplyLemmas.{sized, begun, fitted, reply-parts, reply-nothing, number-long, number-more, take-all}

-- ---- a whole reply by its parts

known-ok : (left : ℕ) (o : Option Heard) (rest : List ℕ) (h : Heard) → known left o rest ≡ Ok (h, []) → (o ≡ Some h) × (rest ≡ [])
known-ok left None rest h e = absurd cc
known-ok left (Some k) rest h e = let p = ok_is (k, rest) (h, []) e in (ap (λ (q : Heard × List ℕ). Some q.0) p, ap (λ (q : Heard × List ℕ). q.1) p)

payload-ok : (g : Grammar) (kind n : ℕ) (xs : List ℕ) (h : Heard) → payload_at g kind n xs ≡ Ok (h, []) → (length xs ≡ n) × (heard_in g kind xs ≡ Some h)
payload-ok g kind n xs h e = go (nat_lt (length xs) n) refl e
  where
    go : (b : Bool) → nat_lt (length xs) n ≡ b → cond b (Err Short) (known (length xs) (heard_in g kind (take n xs)) (drop n xs)) ≡ Ok (h, []) → (length xs ≡ n) × (heard_in g kind xs ≡ Some h)
    go true t e = absurd cc
    go false t e =
        let k = known-ok (length xs) (heard_in g kind (take n xs)) (drop n xs) h e in
        let d : length (drop n xs) ≡ 0 = ap length k.1 in
        let s = ltb-false (length xs) n t in
        let l : length xs ≡ n = omega (arith, d, length-drop n xs, s) in
        (l, ap (λ ys. heard_in g kind ys) (sym (take-all n xs l)) ∙ k.0)

sized-ok : (g : Grammar) (kind : ℕ) (rest : List ℕ) (num : Result (ℕ × List ℕ) Fault) (h : Heard) → sized g kind rest num ≡ Ok (h, []) →
    (x : ℕ × List ℕ) × (num ≡ Ok x) × (length x.1 ≡ x.0) × (heard_in g kind x.1 ≡ Some h)
sized-ok g kind rest (Err e) h q = absurd cc
sized-ok g kind rest (Ok x) h q = go (fits_length kind x.0) q
  where
    go : (b : Bool) → (fitted rest x b >>= λ n. payload_at g kind n.0 n.1) ≡ Ok (h, []) → (y : ℕ × List ℕ)
        × (◌≡◌ {A = Result (ℕ × List ℕ) Fault} (Ok x) (Ok y)) × (length y.1 ≡ y.0) × (heard_in g kind y.1 ≡ Some h)
    go true q = let p = payload-ok g kind x.0 x.1 h q in (x, refl, p.0, p.1)
    go false q = absurd cc

record IsReply (g : Grammar) (request : Request) (b : List ℕ) (h : Heard) : Type 0 where
  pub kind : ℕ
  pub rest : List ℕ
  pub count : ℕ
  pub payload : List ℕ
  pub bytes_are : b ≡ kind ∷ rest
  pub may : may_have request kind ≡ true
  pub number_is : number w32 rest ≡ Ok (count, payload)
  pub counted : length payload ≡ count
  pub heard : heard_in g kind payload ≡ Some h

reply-ok : (g : Grammar) (request : Request) (b : List ℕ) (h : Heard) → reply g request b ≡ Ok (h, []) → IsReply g request b h
reply-ok g request [] h e = absurd (let n = reply-nothing g request in cc)
reply-ok g request (kind ∷ rest) h e = go (may_have request kind) refl (sym (reply-parts g request kind rest) ∙ e)
  where
    go : (b : Bool) → may_have request kind ≡ b → begun g kind rest b ≡ Ok (h, []) → IsReply g request (kind ∷ rest) h
    go true may e =
        let p = sized-ok g kind rest (number w32 rest) h e in
        record { kind = kind; rest = rest; count = p.0.0; payload = p.0.1; bytes_are = refl; may = may; number_is = p.1; counted = p.2; heard = p.3 }
    go false may e = absurd cc

-- ---- the reply of a site

short-message : (k : Message) → M.MessageInRange k → length (M.spelled_message k) < 2 ^ 32
short-message k range = let s = payload_short (F.Push k) range in omega (arith, s)

-- the length of its payload has four bytes
payload-few : (w : Words) (g : Grammar) (x : Response) → HasBytes g x → length (reply_payload w (told x)) < 2 ^ 32
payload-few w g WasNew h = omega arith
payload-few w g WasHeld h = omega arith
payload-few w g (Contradicts kept came) h = never h
payload-few w g NotForMe h = never h
payload-few w g NotValid h = never h
payload-few w g (Answers answer) h = never h
payload-few w g (Sends m) (k, e, fits, range) = subst (λ t. length t < 2 ^ 32) (sym (ap S.spelled_message e ∙ same-spelling g k)) (short-message k range)
payload-few w g (Shows item) h = never h
payload-few w g (Ended n) h = omega arith

gave-is : (g : Grammar) (k : Message) (h : Heard) → gave g (Some k) ≡ Some h → h ≡ Gave (message_of g k)
gave-is g k h e = go (nat_lt k.to g.roles) e
  where
    go : (b : Bool) → cond b (Some (Gave (message_of g k))) None ≡ Some h → h ≡ Gave (message_of g k)
    go true e = sym (some-is e)
    go false e = absurd cc

whole-message : (k : Message) → M.MessageSized k → M.MessageInRange k → whole message (M.spelled_message k) ≡ Some k
whole-message k fits range = ap (λ r. F.all_of r) (ap message (sym (append-nil (M.spelled_message k))) ∙ message_law.again k [] fits range)

-- what is heard in the payload of a site's reply
heard-is : (w : Words) (g : Grammar) (request : Request) (x : Response) (h : Heard) → HasBytes g x → may_have request (reply_kind (told x)) ≡ true →
    heard_in g (reply_kind (told x)) (reply_payload w (told x)) ≡ Some h → h ≡ hear x
heard-is w g request WasNew h t m e = sym (some-is e)
heard-is w g request WasHeld h t m e = sym (some-is e)
heard-is w g request (Contradicts kept came) h t m e = never t
heard-is w g request NotForMe h t m e = never t
heard-is w g request NotValid h t m e = never t
heard-is w g request (Answers answer) h t m e = never t
heard-is w g request (Sends m) h (k, i, fits, range) may e =
    gave-is g k h (ap (λ o. gave g o) (sym (ap (λ t. whole message t) (ap S.spelled_message i ∙ same-spelling g k) ∙ whole-message k fits range)) ∙ e) ∙ ap Gave (sym i)
heard-is w g request (Shows item) h t m e = never t
heard-is w g request (Ended n) h t m e = sym (some-is e)

-- ---- the bytes of one reply

front-same : (xs ys us vs : List ℕ) → length xs ≡ length ys → xs ++ us ≡ ys ++ vs → xs ≡ ys
front-same [] [] us vs l e = refl
front-same [] (y ∷ ys) us vs l e = absurd cc
front-same (x ∷ xs) [] us vs l e = absurd cc
front-same (x ∷ xs) (y ∷ ys) us vs l e =
    let s = cons-inj e in
    let l' : length xs ≡ length ys = omega (arith, l) in
    ap (λ z. z ∷ xs) s.0 ∙ ap (λ zs. y ∷ zs) (front-same xs ys us vs l' s.1)

one-reply : (w : Words) (g : Grammar) (request : Request) (b u v : List ℕ) (h : Heard) (x : Response) → reply g request b ≡ Ok (h, []) →
    HasBytes g x → b ++ u ≡ reply_bytes w x ++ v → (b ≡ reply_bytes w x) × (h ≡ hear x)
one-reply w g request b u v h x e has q =
    let k = reply-ok g request b h e in
    let P = reply_payload w (told x) in
    let parts = cons-inj (ap (λ c. c ++ u) (sym k.bytes_are) ∙ q) in
    let long = number-long k.rest (k.count, k.payload) k.number_is in
    let front : number w32 (k.rest ++ u) ≡ Ok (length P, P ++ v) =
    ap (λ r. number w32 r) (parts.1 ∙ append_assoc (to_be_bytes w32 (length P)) P v) ∙ number32.again (length P) (P ++ v) (payload-few w g x has) tt in
    let same : k.count ≡ length P =
    ap (λ (p : ℕ × List ℕ). p.0) long.1 ∙ ap (λ (p : ℕ × List ℕ). p.0) (ok_is _ (length P, P ++ v) (sym (number-more k.rest u long.0).1 ∙ front)) in
    let size-left : length k.payload ≡ length k.rest - 4 = ap (λ (p : ℕ × List ℕ). length p.1) long.1 ∙ length-drop 4 k.rest in
    let size-right : length (to_be_bytes w32 (length P) ++ P) ≡ 4 + length P = length-append (to_be_bytes w32 (length P)) P in
    let rest-is : k.rest ≡ to_be_bytes w32 (length P) ++ P =
    front-same k.rest (to_be_bytes w32 (length P) ++ P) u v (omega (arith, size-left, size-right, same, k.counted, long.0)) parts.1 in
    let payload-is : k.payload ≡ P =
    ap (λ (p : ℕ × List ℕ). p.1) (ok_is (k.count, k.payload) (length P, P) (sym k.number_is ∙ ap (λ r. number w32 r) rest-is ∙ number32.again (length P) P (payload-few w g x has) tt)) in (
      k.bytes_are ∙ ap (λ c. c ∷ k.rest) parts.0 ∙ ap (λ r. reply_kind (told x) ∷ r) rest-is,
      heard-is w g request x h has (ap (λ c. may_have request c) (sym parts.0) ∙ k.may) (ap (λ c. heard_in g c P) (sym parts.0) ∙ ap (λ p. heard_in g k.kind p) (sym payload-is) ∙ k.heard),
    )

-- ---- the bytes of a session

none-empty : (g : Grammar) (request : Request) (b : List ℕ) (h : Heard) → reply g request b ≡ Ok (h, []) → (c zs : List ℕ) → [] ≡ (b ++ c) ++ zs → Never
none-empty g request [] h e c zs q = absurd (let n = reply-nothing g request in cc)
none-empty g request (y ∷ b) h e c zs q = absurd cc

-- what is heard in bytes that begin those of the sites' replies
pub all-heard : (w : Words) (g : Grammar) (fs : List Frame) (hs : List Heard) (bs : List (List ℕ)) (xs : List Response) → AreHeard g fs hs bs →
    Each (HasBytes g) xs → IsPrefix (joined bs) (joined (map (reply_bytes w) xs)) → IsPrefix hs (map hear xs)
all-heard w g [] [] [] xs k has p = (map hear xs, refl)
all-heard w g (f ∷ fs) (h ∷ hs) (b ∷ bs) [] k has (zs, q) = never (none-empty g (request_of f) b h k.0 (joined bs) zs q)
all-heard w g (f ∷ fs) (h ∷ hs) (b ∷ bs) (x ∷ xs) k has (zs, q) =
    let z = one-reply w g (request_of f) b (joined bs ++ zs) (joined (map (reply_bytes w) xs)) h x k.0 has.0 (sym (append_assoc b (joined bs) zs) ∙ sym q) in
    let r : joined (map (reply_bytes w) xs) ≡ joined bs ++ zs =
    cancel (reply_bytes w x) (joined (map (reply_bytes w) xs)) (joined bs ++ zs) (q ∙ append_assoc b (joined bs) zs ∙ ap (λ c. c ++ (joined bs ++ zs)) z.0) in
    let t = all-heard w g fs hs bs xs k.1 has.1 (zs, r) in
    (t.0, ap (λ y. y ∷ map hear xs) (sym z.1) ∙ ap (λ ys. h ∷ ys) t.1)
all-heard w g [] [] (b ∷ bs) xs k has p = absurd (elim k [ ])
all-heard w g [] (h ∷ hs) bs xs k has p = absurd (elim k [ ])
all-heard w g (f ∷ fs) [] bs xs k has p = absurd (elim k [ ])
all-heard w g (f ∷ fs) (h ∷ hs) [] xs k has p = absurd (elim k [ ])

honest-heard : (w : Words) (g : Grammar) (ss : List Site) (vs : List Visit) → Each (IsHeard g) (map turn_of vs) → IsHonest w g ss vs → IsHonestInBytes g ss (map visit_of vs)
honest-heard w g ss [] k h = tt
honest-heard w g ss (v ∷ vs) k h = λ asked has. (
  all-heard w g v.turn.session.asked v.turn.session.heard v.turn.replies (all_replies g (sites_after g ss (choice_frames g (visit_of v))) (session_frames (visit_of v))) k.0.0 has h.0,
  honest-heard w g (sites_after g (sites_after g ss (choice_frames g (visit_of v))) (session_frames (visit_of v))) vs k.1 h.1,
)

-- ---- the world

pub map-append : {A B : Type 0} (f : A → B) (xs ys : List A) → map f (xs ++ ys) ≡ map f xs ++ map f ys
map-append f [] ys = refl
map-append f (x ∷ xs) ys = ap (λ zs. f x ∷ zs) (map-append f xs ys)

pub flat-map : {A B : Type 0} (f : A → B) (xss : List (List A)) → map f (flat xss) ≡ flat (map (λ xs. map f xs) xss)
flat-map f [] = refl
flat-map f (xs ∷ xss) = map-append f xs (flat xss) ∙ ap (λ zs. map f xs ++ zs) (flat-map f xss)

visits-are : (rounds : List (List Visit)) (end : List Visit) → map visit_of (flat rounds ++ end) ≡ flat (map (λ vs. map visit_of vs) rounds) ++ map visit_of end
visits-are rounds end = map-append visit_of (flat rounds) end ∙ ap (λ zs. zs ++ map visit_of end) (flat-map visit_of rounds)

turns-are : (rounds : List (List Visit)) (end : List Visit) → map turn_of (flat rounds ++ end) ≡ flat (map (λ vs. map turn_of vs) rounds) ++ map turn_of end
turns-are rounds end = map-append turn_of (flat rounds) end ∙ ap (λ zs. zs ++ map turn_of end) (flat-map turn_of rounds)

same-sessions : (vs : List Visit) → map C.session_of (map visit_of vs) ≡ sessions_of (map turn_of vs)
same-sessions [] = refl
same-sessions (v ∷ vs) = ap (λ ss. v.turn.session ∷ ss) (same-sessions vs)

same-rounds : (rounds : List (List Visit)) → map (λ vs. map C.session_of vs) (map (λ vs. map visit_of vs) rounds) ≡ map sessions_of (map (λ vs. map turn_of vs) rounds)
same-rounds [] = refl
same-rounds (vs ∷ rounds) = ap (λ ss. ss ∷ map (λ vs. map C.session_of vs) (map (λ vs. map visit_of vs) rounds)) (same-sessions vs)
    ∙ ap (λ sss. sessions_of (map turn_of vs) ∷ sss) (same-rounds rounds)

pull-fits : (p : ℕ) → size (PullFrame p) ≤ turn_room
pull-fits p = omega arith

-- rounds as their sessions
turns-as : (g : Grammar) (rounds : List (List C.Visit)) (end : List C.Visit) → AreTurns size g (new_courier g)
    (flat (map (λ vs. map C.session_of vs) rounds) ++ map C.session_of end) → AreTurns size g (new_courier g) (map C.session_of (flat rounds ++ end))
turns-as g rounds end t = subst (λ ss. AreTurns size g (new_courier g) ss) (sym (map-append C.session_of (flat rounds) end ∙ ap (λ ss. ss ++ map C.session_of end) (flat-map C.session_of rounds))) t

pub quiet-over-honest : (w : Words) (g : Grammar) → QuietMeansQuiet g → BytesAreHonest g → GrammarSized g → (before : List (List Turn))
    (last : List Turn) → IsQuietCall size g (map sessions_of before) (sessions_of last) →
    Each (IsHeard g) (flat before ++ last) → QuietOverHonest w g before last
quiet-over-honest w g law bytes sized before last call heard loads es ok moves rounds end i j choices sizes none honest =
    let vss = map (λ vs. map visit_of vs) rounds in
    let vs = map visit_of end in
    let call' : IsQuietCall size g (map (λ vs. map C.session_of vs) vss) (map C.session_of vs) =
    subst (λ ss. IsQuietCall size g ss (map C.session_of vs)) (sym (same-rounds rounds ∙ ap (λ ts. map sessions_of ts) i))
    (subst (λ ss. IsQuietCall size g (map sessions_of before) ss) (sym (same-sessions end ∙ ap sessions_of j)) call) in
    let heard' : Each (IsHeard g) (map turn_of (flat rounds ++ end)) = subst (λ ts. Each (IsHeard g) ts)
    (sym (turns-are rounds end ∙ ap (λ ts. flat ts ++ map turn_of end) i ∙ ap (λ ts. flat before ++ ts) j)) heard in
    let choices' = subst (λ ks. Each (ChoicesOk g) ks) (visits-are rounds end) choices in
    let sizes' = subst (λ ks. Each ChoicesSized ks) (visits-are rounds end) sizes in
    let known = each_append (HasRole g) (flat vss) vs (rounds-known g vss call'.each) (round-known g vs 0 g.roles (omega arith) call'.one) in
    let wire : IsHonestWire g (world_after g loads es).sites (flat vss ++ vs) =
    (bytes sized size loads es ok moves (flat vss ++ vs) (turns-as g vss vs call'.turns) known choices' sizes'
    (subst (λ ks. IsHonestInBytes g (world_after g loads es).sites ks) (visits-are rounds end) (honest-heard w g (world_after g loads es).sites (flat rounds ++ end) heard' honest))).0 in
    subst (λ ks. (fs : List Move) × ReadAs g (world_after g loads es) (happenings (visit_frames g ks)) fs × Each (MayCome g) fs
    × ((world_after g loads (es ++ fs)).sites ≡ sites_after g (world_after g loads es).sites (visit_frames g ks))
    × world.IsQuiet (world_after g loads (es ++ fs))) (sym (visits-are rounds end))
    (law size pull-fits loads es ok vss vs call' choices' none wire)

none-ok : (g : Grammar) (vs : List C.Visit) → Each C.NoChoice vs → Each (ChoicesOk g) vs × Each ChoicesSized vs
none-ok g [] n = (tt, tt)
none-ok g (v ∷ vs) n =
    let z = none-ok g vs n.1 in
    ((subst (λ cs. Each (λ (c : Choice). choice_ok g c ≡ true) cs) (sym n.0) tt, z.0), (subst (λ cs. Each ChoiceSized cs) (sym n.0) tt, z.1))

pub bound-over-honest : (w : Words) (g : Grammar) → RoundsAreBounded g → BytesAreHonest g → GrammarSized g → (before : List (List Turn)) →
    IsSpentCall size g (map sessions_of before) → Each (IsHeard g) (flat before) →
    (n : ℕ) → length before ≡ n → BoundOverHonest w g before n
bound-over-honest w g law bytes sized before call heard n all loads es ok moves rounds i none honest =
    let vss = map (λ vs. map visit_of vs) rounds in
    let call' : IsSpentCall size g (map (λ vs. map C.session_of vs) vss) =
    subst (λ ss. IsSpentCall size g ss) (sym (same-rounds rounds ∙ ap (λ ts. map sessions_of ts) i)) call in
    let heard' : Each (IsHeard g) (map turn_of (flat rounds)) = subst (λ ts. Each (IsHeard g) ts) (sym (flat-map turn_of rounds ∙ ap (λ ts. flat ts) i)) heard in
    let none' = subst (λ ks. Each C.NoChoice ks) (flat-map visit_of rounds) none in
    let fit = none-ok g (flat vss) none' in
    let wire : IsHonestWire g (world_after g loads es).sites (flat vss) =
    (bytes sized size loads es ok moves (flat vss) (subst (λ ss. AreTurns size g (new_courier g) ss) (sym (flat-map C.session_of vss)) call'.turns) (rounds-known g vss call'.each) fit.0 fit.1
    (subst (λ ks. IsHonestInBytes g (world_after g loads es).sites ks) (flat-map visit_of rounds) (honest-heard w g (world_after g loads es).sites (flat rounds) heard' honest))).0 in
    let few = law size loads es ok vss call' none' wire in
    let as_visits = length-mapped (λ vs. map visit_of vs) rounds in
    let as_turns = ap length (sym i) ∙ length-mapped (map turn_of) rounds in
    omega (arith, few, as_visits, as_turns, all)

-- what was carried, with what that means
pub means-over-honest : (w : Words) (g : Grammar) → QuietMeansQuiet g → RoundsAreBounded g → BytesAreHonest g → GrammarSized g →
    {W' : Type 0} (content : W' → Option Content) (faults failed_openings : W' → ℕ) (rounds : ℕ) (u v : W') (r : Result Carried CarryFault) →
    IfOk r (Carries g content faults failed_openings rounds u v) → IfOk r (MeansOverHonest w g content faults failed_openings rounds u v)
means-over-honest w g law ends bytes sized content faults failed_openings rounds u v (Ok Quiet) q =
    record { quiet = q; world = quiet-over-honest w g law bytes sized q.before q.last q.call q.made.heard }
means-over-honest w g law ends bytes sized content faults failed_openings rounds u v (Ok RoundsSpent) q =
    record { spent = q; world = bound-over-honest w g ends bytes sized q.before q.call q.made.heard rounds q.all }
means-over-honest w g law ends bytes sized content faults failed_openings rounds u v (Err e) q = tt
