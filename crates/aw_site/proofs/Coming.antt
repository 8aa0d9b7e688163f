-- What is planned where something came, and what may be concluded of a message of which something is new.
use Rattle.std.proofs.Common.{◌≡◌, ℕ, true, List, [], ◌∷◌, ◌++◌, map, Option, Some, None, option_map, Result, Ok, Err, refl, ap, sym, ◌∙◌, subst}
use Rattle.std.specs.Prelude.{IfOk, OnOk}
use Rattle.std.specs.Option.{is_none}
use Rattle.std.proofs.lemmas.List.{append-nil}
use Rattle.aw_term.specs.Names.{Node, Ref}
use Rattle.aw_term.specs.Rules.{Grammar}
use Rattle.aw_store.specs.Equations as P
use Rattle.aw_store.specs.Equations.{find}
use Rattle.aw_store.specs.EquationView.{equation_of}
use Rattle.aw_store.specs.declared.equation.Equation.{Equation}
use Rattle.aw_store.specs.declared.facts.Facts.{Ghosts}
use Rattle.aw_apply.specs.Made.{Call}
use Rattle.aw_apply.specs.Messages as Q
use Rattle.aw_apply.specs.Messages.{Asks, carried}
use Rattle.aw_msg.specs.declared.message.Message.{Message}
use Rattle.aw_msg.specs.declared.message.MsgKind.{MsgKind}
use Rattle.aw_msg.specs.declared.message.MsgKind.TheVariants as msg
use Rattle.aw_msg.specs.MessageView.{message_of, content_of}
use Rattle.aw_law_sites.specs.Asking.{all_mentions, asked_too}
use Rattle.aw_law_sites.specs.Receiving.{is_mine, clash}
use Rattle.aw_law_sites.specs.Reacting.{react, receive}
use Rattle.aw_law_sites.specs.SiteEvents.{after_message}
use Rattle.aw_law_sites.specs.Sites.{Site, Reaction}
use Rattle.aw_law_sites.specs.Telling.{tell_back}
use Rattle.aw_law_sites.specs.ValidNames.{message_ok}
use Rattle.aw_space.specs.Spaces as S
use Rattle.aw_space.specs.Spaces.{clash_with}
use Rattle.aw_space.specs.Placings.{MayBeCalled, MayBeLearnt}
use Rattle.aw_site_repeat.specs.Views.{kind_of}
use Rattle.aw_site.specs.declared.plan.Plan.{Plan}
use Rattle.aw_site.specs.declared.sender.Sender.{Sender}
use Rattle.aw_site.specs.Answers.{IsReceived, sent_for}
use Rattle.aw_site.specs.Came.{came, holding, inherited_by, watching}
use Rattle.aw_site.specs.Doing.{doing, IsPlanned}
use Rattle.aw_site.specs.Judged.{IsFresh, Judges, Sees, answered}
use Rattle.aw_site.specs.declared.judging.Judged.{Judged}
use Rattle.aw_site.specs.declared.judging.Judged.TheVariants.{BadName, NotMine, Clashes, Repeat, Fresh}
use Rattle.aw_site.specs.declared.judging.Sight.TheVariants as sight
use Rattle.aw_site.specs.declared.received.Received.{Received}
use Rattle.aw_site.specs.declared.received.Received.TheVariants as answer
use Rattle.aw_site.specs.Shown.{space_in}
use Rattle.aw_site.specs.Plans.{wanted_of, asks_for}
use Rattle.aw_site.specs.Senders.{SendsAs}
use Rattle.aw_site.specs.Walks.{listed}
use Rattle.aw_site.specs.Views.{clash_of}
use Rattle.aw_site.proofs.Clashing.{find_added}
use Rattle.aw_site.proofs.Noting.{asked_none}
use Rattle.aw_site.proofs.Receptions.{call_may_come, tell_may_come, bad_name, not_mine, in_conflict, known_already, new_here}

-- ---- a sender

pub sends_as : {F : Type 0} (f : Ghosts F) (sender : Sender F f) (s : Site) (k : P.Map) (es : List Equation) → s.role ≡ sender.role →
    s.loads ≡ sender.loads → ((r : Ref) → find s.equations r ≡ find (k ++ map equation_of es) r)
    → f.map sender.facts.now ≡ k → sender.more.now ≡ es → SendsAs f sender s
sends_as f sender s k es role loads finds facts more = record {
  role = role;
  loads = loads;
  equations = λ r. finds r ∙ (λ i. find (sym facts i ++ map equation_of (sym more i)) r);
}

-- equations that came are found behind the others
pub came_behind : (s : Site) (k : P.Map) (c : Option Call) (es : List Equation) (r : Ref) → s.equations ≡ k → find (holding s c (map equation_of es)).equations r ≡ find (k ++ map equation_of es) r
came_behind s k c es r e = find_added s.equations (map equation_of es) r ∙ (λ i. find (e i ++ map equation_of es) r)

pub none_behind : (s : Site) (k : P.Map) (es : List Equation) (r : Ref) → s.equations ≡ k → es ≡ [] → find s.equations r ≡ find (k ++ map equation_of es) r
none_behind s k es r e n = ap (λ m. find m r) (e ∙ sym (append-nil k) ∙ (λ i. k ++ map equation_of (sym n i)))

-- ---- plans

pub planned_came : (g other : Grammar) (s : Site) (c : Option Call) (es : List P.Equation) (rs : List Ref) (p : Plan) → other ≡ g → rs ≡ inherited_by c ++ all_mentions es
    → p.wanted.items ≡ wanted_of other (holding s c es) rs → map (message_of other) p.sent.items ≡ asks_for other (holding s c es) p.wanted.items → IsPlanned g (holding s c es) (came g s c es) p
planned_came g other s c es rs p e r w v =
    let t = holding s c es in
    let wanted : p.wanted.items ≡ wanted_of g t (inherited_by c ++ all_mentions es) = w ∙ (λ i. wanted_of (e i) t (r i)) in
    let sent : map (message_of g) p.sent.items ≡ asks_for g t (wanted_of g t (inherited_by c ++ all_mentions es)) =
    subst (λ (y : Grammar). map (message_of y) p.sent.items ≡ asks_for y t p.wanted.items) e v ∙ ap (asks_for g t) wanted in
    λ i. doing t (sym wanted i) (sym sent i)

listed_map : (g : Grammar) (o : Option Message) → map (message_of g) (listed o) ≡ listed (option_map (message_of g) o)
listed_map g None = refl
listed_map g (Some m) = refl

pub planned_answer : (g other : Grammar) (s : Site) (r : Ref) (from : ℕ) (p : Plan) (m : Option Message) → other ≡ g → p.wanted.items ≡ [] → p.sent.items ≡ listed m
    → listed (option_map (message_of other) m) ≡ tell_back other s (find s.equations r) r from → IsPlanned g (watching s r from) (react g s (Asks r from)) p
planned_answer g other s r from p m e w l v =
    let told = subst (λ (y : Grammar). listed (option_map (message_of y) m) ≡ tell_back y s (find s.equations r) r from) e v in
    let sent : map (message_of g) p.sent.items ≡ tell_back g s (find s.equations r) r from = ap (map (message_of g)) l ∙ listed_map g m ∙ told in
    let asked : s.asked ≡ asked_too s.asked p.wanted.items = asked_none s.asked ∙ (λ i. asked_too s.asked (sym w i)) in
    (λ i. record { site = record (watching s r from) { asked = asked i; outbox = s.outbox ++ tell_back g s (find s.equations r) r from }; sent = tell_back g s (find s.equations r) r from })
    ∙ (λ i. doing (watching s r from) p.wanted.items (sym sent i))

-- ---- the reaction to a message

pub reacts_to_call : (g : Grammar) (s : Site) (kind : MsgKind) (n m : Node) (rs qs : List Ref) (load : List Equation) (es : List Equation) → kind ≡ msg.Call n rs load → m ≡ n → qs ≡ rs
    → map equation_of es ≡ carried (kind_of g kind) → came g s (Some (S.call_of g m qs)) (map equation_of es) ≡ react g s (kind_of g kind)
reacts_to_call g s kind n m rs qs load es e a b c =
    let loaded : map equation_of es ≡ map equation_of load = c ∙ ap (λ k. carried (kind_of g k)) e in
    (λ i. came g s (Some (S.call_of g (a i) (b i))) (loaded i))
    ∙ ap (λ k. react g s (kind_of g k)) (sym e)

pub reacts_to_tell : (g : Grammar) (s : Site) (kind : MsgKind) (x : Equation) (load : List Equation) (es : List Equation) → kind ≡ msg.Tell x load
    → map equation_of es ≡ carried (kind_of g kind) → came g s None (map equation_of es) ≡ react g s (kind_of g kind)
reacts_to_tell g s kind x load es e c =
    let loaded : map equation_of es ≡ equation_of x ∷ map equation_of load = c ∙ ap (λ k. carried (kind_of g k)) e in
    (λ i. came g s None (loaded i))
    ∙ ap (λ k. react g s (kind_of g k)) (sym e)

-- ---- what is known of a message of which something is new

is_clear : {A : Type 0} (o : Option A) → is_none o ≡ true → o ≡ None
is_clear None e = refl
is_clear (Some x) e = absurd cc

module _ (g : Grammar) (role : ℕ) (Holds : Site → Type 0) (m : Q.Message) (held : (s : Site) × Holds s) (role_is : (s : Site) → Holds s →
    s.role ≡ role) (fresh : (s : Site) → Holds s → IsFresh g s m) where
  pub fresh_ok : message_ok g role m ≡ true
  fresh_ok = ap (λ r. message_ok g r m) (sym (role_is held.0 held.1)) ∙ (fresh held.0 held.1).ok

  pub fresh_mine : is_mine g role m ≡ true
  fresh_mine = ap (λ r. is_mine g r m) (sym (role_is held.0 held.1)) ∙ (fresh held.0 held.1).mine

  pub fresh_free : (sp : S.Space) (c : Option Call) (es : List P.Equation) → ((s : Site) → Holds s → clash_with c es sp ≡ clash s m.kind) → clash_with c es sp ≡ None
  fresh_free sp c es same = is_clear (clash_with c es sp) (ap is_none (same held.0 held.1 ∙ (fresh held.0 held.1).free))

-- a called node, and equations, may come
pub call_fits : (g : Grammar) (role : ℕ) (m : Message) (n x : Node) (rs qs : List Ref) (load es : List Equation) → m.kind ≡ msg.Call n rs load →
    x ≡ n → qs ≡ rs → map equation_of es ≡ carried (kind_of g m.kind)
    → message_ok g role (message_of g m) ≡ true → is_mine g role (message_of g m) ≡ true → MayBeCalled g role (S.call_of g x qs) × MayBeLearnt g role (map equation_of es)
call_fits g role m n x rs qs load es e a b c ok mine =
    let loaded : map equation_of es ≡ map equation_of load = c ∙ ap (λ k. carried (kind_of g k)) e in
    let (called, learnt) = call_may_come g role (message_of g m) (S.call_of g n rs) (map equation_of load) (ap (kind_of g) e) ok mine in
    (subst (λ (y : Call). MayBeCalled g role y) (λ i. S.call_of g (sym a i) (sym b i)) called, subst (MayBeLearnt g role) (sym loaded) learnt)

pub tell_fits : (g : Grammar) (role : ℕ) (m : Message) (x : Equation) (load es : List Equation) → m.kind ≡ msg.Tell x load → map equation_of es ≡ carried (kind_of g m.kind)
    → message_ok g role (message_of g m) ≡ true → is_mine g role (message_of g m) ≡ true → MayBeLearnt g role (map equation_of es)
tell_fits g role m x load es e c ok mine =
    let loaded : map equation_of es ≡ equation_of x ∷ map equation_of load = c ∙ ap (λ k. carried (kind_of g k)) e in
    subst (MayBeLearnt g role) (sym loaded) (tell_may_come g role (message_of g m) (equation_of x) (map equation_of load) (ap (kind_of g) e) ok mine)

pub call_clashes : (g : Grammar) (s : Site) (sp : S.Space) (kind : MsgKind) (n x : Node) (rs qs : List Ref) (load es : List Equation) →
    kind ≡ msg.Call n rs load → x ≡ n → qs ≡ rs → map equation_of es ≡ carried (kind_of g kind)
    → space_in s ≡ sp → clash_with (Some (S.call_of g x qs)) (map equation_of es) sp ≡ clash s (kind_of g kind)
call_clashes g s sp kind n x rs qs load es e a b c holds =
    let loaded : map equation_of es ≡ map equation_of load = c ∙ ap (λ k. carried (kind_of g k)) e in
    (λ i. clash_with (Some (S.call_of g (a i) (b i))) (loaded i) (sym holds i)) ∙ ap (λ k. clash s (kind_of g k)) (sym e)

pub tell_clashes : (g : Grammar) (s : Site) (sp : S.Space) (kind : MsgKind) (x : Equation) (load es : List Equation) → kind ≡ msg.Tell x load → map equation_of es ≡ carried (kind_of g kind)
    → space_in s ≡ sp → clash_with None (map equation_of es) sp ≡ clash s (kind_of g kind)
tell_clashes g s sp kind x load es e c holds =
    let loaded : map equation_of es ≡ equation_of x ∷ map equation_of load = c ∙ ap (λ k. carried (kind_of g k)) e in
    (λ i. clash_with None (loaded i) (sym holds i)) ∙ ap (λ k. clash s (kind_of g k)) (sym e)

-- ---- the answer to a message

-- what a site answers that makes this of a message
abbrev told : Grammar → Site → Q.Message → Judged → Q.Received Reaction
told g s m BadName = Q.BadName
told g s m NotMine = Q.NotMine
told g s m (Clashes c) = Q.Conflict (content_of c.kept) (content_of c.came)
told g s m Repeat = Q.Repeat
told g s m Fresh = Q.New (react g s m.kind)

judged_as : (g : Grammar) (s : Site) (m : Q.Message) (j : Judged) → Judges g s m j → receive g s m ≡ told g s m j
judged_as g s m BadName h = bad_name g s m h
judged_as g s m NotMine h = not_mine g s m h.0 h.1
judged_as g s m (Clashes c) h = in_conflict g s m (clash_of c) h.0 h.1 h.2
judged_as g s m Repeat h = known_already g s m h.0 h.1 h.2 h.3
judged_as g s m Fresh h = new_here g s m h

same_answer : (g : Grammar) (s : Site) (m : Q.Message) (j : Judged) (r : Received) → answered j ≡ Some r → IsReceived r (told g s m j)
    × (after_message s (told g s m j) ≡ s) × (sent_for (told g s m j) ≡ [])
same_answer g s m BadName r e = let is : answer.BadName ≡ r = cc in (subst (λ x. IsReceived x Q.BadName) is tt, refl, refl)
same_answer g s m NotMine r e = let is : answer.NotMine ≡ r = cc in (subst (λ x. IsReceived x Q.NotMine) is tt, refl, refl)
same_answer g s m (Clashes c) r e = let is : answer.Conflict c.kept c.came ≡ r = cc in (subst (λ x. IsReceived x (Q.Conflict (content_of c.kept) (content_of c.came))) is (refl, refl), refl, refl)
same_answer g s m Repeat r e = let is : answer.Repeat ≡ r = cc in (subst (λ x. IsReceived x Q.Repeat) is tt, refl, refl)
same_answer g s m Fresh r e = absurd cc

-- a message of which nothing is new is answered, and changes nothing
pub sees_answered : (g : Grammar) (s : Site) (m : Q.Message) (j : Judged) (r : Received) → Judges g s m j → answered j ≡ Some r → Sees g s m (sight.Answered r)
sees_answered g s m j r h e =
    subst (λ (x : Q.Received Reaction). IsReceived r x × (after_message s x ≡ s) × (sent_for x ≡ [])) (sym (judged_as g s m j h)) (same_answer g s m j r e)

pub sees_fresh : (g : Grammar) (s : Site) (m : Q.Message) (j : Judged) → Judges g s m j → answered j ≡ None → IsFresh g s m
sees_fresh g s m BadName h e = absurd cc
sees_fresh g s m NotMine h e = absurd cc
sees_fresh g s m (Clashes c) h e = absurd cc
sees_fresh g s m Repeat h e = absurd cc
sees_fresh g s m Fresh h e = h

-- ---- results

pub both_ok : {A E : Type 0} (r : Result A E) (P Q R : A → Type 0) → ((a : A) → P a → Q a → R a) → IfOk r P → IfOk r Q → IfOk r R
both_ok (Ok a) P Q R f p q = f a p q
both_ok (Err e) P Q R f p q = tt

pub on_ok : {A E : Type 0} (r : Result A E) (P Q : Type 0) → (P → Q) → OnOk r P → OnOk r Q
on_ok (Ok a) P Q f p = f p
on_ok (Err e) P Q f p = tt
