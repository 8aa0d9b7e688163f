-- What a world holds of some cases is the world of their events alone.
use Rattle.std.specs.Prelude.{filter, slice_get, slice_set, ◌⊎◌}
use Rattle.std.proofs.Common.{◌≡◌, ℕ, zero, suc, Bool, true, false, cond, List, [], ◌∷◌, ◌++◌, map, length, Option, Some, None, refl, sym, ap, ◌∙◌, subst, inl, inr, arith, append-nil}
use Rattle.aw_list.specs.Members.{Member}
use Rattle.aw_list.proofs.Members.{never, member_got, member_split}
use Rattle.aw_list.proofs.Everyday.{length-slice_set as length-set, map-set, get-left}
use Rattle.aw_term.specs.Choices.{Choice}
use Rattle.aw_term.specs.Rules.{Grammar, get, upto}
use Rattle.aw_apply.specs.Messages.{Message, Received, BadName, NotMine, Conflict, Repeat, New}
use Rattle.aw_law_sites.specs.Choosing.{Chosen, No, Did, choose}
use Rattle.aw_law_sites.specs.Homes.{home}
use Rattle.aw_law_sites.specs.Reacting.{receive}
use Rattle.aw_law_sites.specs.SiteEvents.{after_choice}
use Rattle.aw_law_sites.specs.Sites.{Site, Reaction, empty_site, silently}
use Rattle.aw_law_sites.specs.Worlds.{World, empty_world, site_at, node_of, with_site, Move, Chooses, Delivers, chosen_at, mark_delivered, received_at, deliver_on, step, run}
use Rattle.aw_law_worlds.proofs.Settling.{run_both}
use Rattle.aw_law_worlds.proofs.Runs.{length-both}
use Rattle.aw_law_nodes.specs.Nodes.{world_replies}
use Rattle.aw_law_nodes.proofs.ListParts.{filter-append, map-get, set-same}
use Rattle.aw_law_cases.specs.Cases.{Cases, of_choice, of_message, keep_site, IsParted, IsOneSided}
use Rattle.aw_law_cases.specs.CaseWorlds.{keep_marks, keep_world, kept_before, keep_delivery, keep_move, keep_moves, keep_replies, CasesDoNotMeet, RepliesAreKept}
use Rattle.aw_law_cases.proofs.Choices.{IsUnseen, choose-kept, choose-parted, choose-sided, choose-unseen, keep_chosen}
use Rattle.aw_law_cases.proofs.Receiving.{keep_received, receive-kept, receive-parted, receive-unseen}
use Rattle.aw_law_cases.proofs.Sending.{keep_reaction}

get-cases : {A : Type 0} (d : A) (xs : List A) (i j : ℕ) (v : A) → (get d (slice_set xs i v) j ≡ v) ⊎ (get d (slice_set xs i v) j ≡ get d xs j)
get-cases d [] i j v = inr refl
get-cases d (x ∷ xs) zero zero v = inl refl
get-cases d (x ∷ xs) zero (suc j) v = inr refl
get-cases d (x ∷ xs) (suc i) zero v = inr refl
get-cases d (x ∷ xs) (suc i) (suc j) v = get-cases d xs i j v

module _ (C : Cases) where
  -- marks beside messages
  marks-new : (ms : List Message) → keep_marks C ms (map (λ m. false) ms) ≡ map (λ m. false) (filter (of_message C) ms)
  marks-new [] = refl
  marks-new (m ∷ ms) = ap (λ ds. cond (of_message C m) (false ∷ ds) ds) (marks-new ms) ∙ by (of_message C m)
    where
      by : (b : Bool) → cond b (false ∷ map (λ m. false) (filter (of_message C) ms)) (map (λ m. false) (filter (of_message C) ms)) ≡ map (λ m. false)
          (cond b (m ∷ filter (of_message C) ms) (filter (of_message C) ms))
      by true = refl
      by false = refl

  cond-append : {A : Type 0} (b : Bool) (x : A) (xs ys : List A) → cond b (x ∷ (xs ++ ys)) (xs ++ ys) ≡ cond b (x ∷ xs) xs ++ ys
  cond-append true x xs ys = refl
  cond-append false x xs ys = refl

  marks-more : (ms : List Message) (ds : List Bool) (ns : List Message) → length ds ≡ length ms → keep_marks C (ms ++ ns)
      (ds ++ map (λ m. false) ns) ≡ keep_marks C ms ds ++ map (λ m. false) (filter (of_message C) ns)
  marks-more [] [] ns e = marks-new ns
  marks-more [] (d ∷ ds) ns e = absurd (omega arith)
  marks-more (m ∷ ms) [] ns e = absurd (omega arith)
  marks-more (m ∷ ms) (d ∷ ds) ns e =
      ap (λ xs. cond (of_message C m) (d ∷ xs) xs) (marks-more ms ds ns (omega arith)) ∙ cond-append (of_message C m) d (keep_marks C ms ds) (map (λ m. false) (filter (of_message C) ns))

  set-under : (b d v : Bool) (xs : List Bool) (k : ℕ) → cond b (d ∷ slice_set xs k v) (slice_set xs k v) ≡ slice_set (cond b (d ∷ xs) xs) (cond b (suc k) k) v
  set-under true d v xs k = refl
  set-under false d v xs k = refl

  marks-set : (ms : List Message) (ds : List Bool) (k : ℕ) (m : Message) → slice_get ms k ≡ Some m → of_message C m ≡ true → length ds ≡ length ms →
      keep_marks C ms (slice_set ds k true) ≡ slice_set (keep_marks C ms ds) (kept_before C k ms) true
  marks-set [] ds k m e i l = absurd cc
  marks-set (n ∷ ms) [] k m e i l = absurd (omega arith)
  marks-set (n ∷ ms) (d ∷ ds) zero m e i l =
      let p : n ≡ m = cc in
      let j : of_message C n ≡ true = ap (of_message C) p ∙ i in
      ap (λ b. cond b (true ∷ keep_marks C ms ds) (keep_marks C ms ds)) j ∙ sym (ap (λ b. slice_set (cond b (d ∷ keep_marks C ms ds) (keep_marks C ms ds)) 0 true) j)
  marks-set (n ∷ ms) (d ∷ ds) (suc k) m e i l =
      ap (λ xs. cond (of_message C n) (d ∷ xs) xs) (marks-set ms ds k m e i (omega arith)) ∙ set-under (of_message C n) d true (keep_marks C ms ds) (kept_before C k ms)

  marks-other : (ms : List Message) (ds : List Bool) (k : ℕ) (m : Message) → slice_get ms k ≡ Some m → of_message C m ≡ false → keep_marks C ms (slice_set ds k true) ≡ keep_marks C ms ds
  marks-other [] ds k m e i = absurd cc
  marks-other (n ∷ ms) [] k m e i = refl
  marks-other (n ∷ ms) (d ∷ ds) zero m e i =
      let p : n ≡ m = cc in
      let j : of_message C n ≡ false = ap (of_message C) p ∙ i in
      ap (λ b. cond b (true ∷ keep_marks C ms ds) (keep_marks C ms ds)) j ∙ sym (ap (λ b. cond b (d ∷ keep_marks C ms ds) (keep_marks C ms ds)) j)
  marks-other (n ∷ ms) (d ∷ ds) (suc k) m e i = ap (λ xs. cond (of_message C n) (d ∷ xs) xs) (marks-other ms ds k m e i)

  -- numbers
  get-under : (b : Bool) (n : Message) (xs : List Message) (k : ℕ) (m : Message) → slice_get xs k ≡ Some m → slice_get (cond b (n ∷ xs) xs) (cond b (suc k) k) ≡ Some m
  get-under true n xs k m e = e
  get-under false n xs k m e = e

  get-kept : (ms : List Message) (k : ℕ) (m : Message) → slice_get ms k ≡ Some m → of_message C m ≡ true → slice_get (filter (of_message C) ms) (kept_before C k ms) ≡ Some m
  get-kept [] k m e i = absurd cc
  get-kept (n ∷ ms) zero m e i =
      let p : n ≡ m = cc in
      ap (λ b. slice_get (cond b (n ∷ filter (of_message C) ms) (filter (of_message C) ms)) 0) (ap (of_message C) p ∙ i) ∙ ap Some p
  get-kept (n ∷ ms) (suc k) m e i = get-under (of_message C n) n (filter (of_message C) ms) (kept_before C k ms) m (get-kept ms k m e i)

  before-more : (ms ns : List Message) (k : ℕ) (m : Message) → slice_get ms k ≡ Some m → kept_before C k (ms ++ ns) ≡ kept_before C k ms
  before-more [] ns k m e = absurd cc
  before-more (n ∷ ms) ns zero m e = refl
  before-more (n ∷ ms) ns (suc k) m e = ap (λ j. cond (of_message C n) (suc j) j) (before-more ms ns k m e)

  -- worlds
  kept-at : (w : World) (a : ℕ) → site_at (keep_world C w) a ≡ keep_site C (site_at w a)
  kept-at w a = map-get (keep_site C) (empty_site false a) w.sites a

  kept-with : (w : World) (a : ℕ) (x : Reaction) → length w.delivered ≡ length w.messages → keep_world C (with_site w a x) ≡ with_site (keep_world C w) a (keep_reaction C x)
  kept-with w a x l =
      let s = map-set (keep_site C) w.sites a x.site in
      let m = filter-append (of_message C) w.messages x.sent in
      let d = marks-more w.messages w.delivered x.sent l in
      λ i. record { sites = s i; messages = m i; delivered = d i; taken = filter (of_choice C) w.taken }

  silent-with : (v : World) (a : ℕ) → with_site v a (silently (site_at v a)) ≡ v
  silent-with v a =
      let s = set-same (empty_site false a) v.sites a in
      let m = append-nil v.messages in
      let d = append-nil v.delivered in
      λ i. record { sites = s i; messages = m i; delivered = d i; taken = v.taken }

  unseen-with : (g : Grammar) (w : World) (a : ℕ) (x : Reaction) → length w.delivered ≡ length w.messages → IsUnseen C g (site_at w a) x → keep_world C (with_site w a x) ≡ keep_world C w
  unseen-with g w a x l u =
      kept-with w a x l ∙ (ap (with_site (keep_world C w) a) (u ∙ ap silently (sym (kept-at w a))) ∙ silent-with (keep_world C w) a)

  kept-mark : (w : World) (k : ℕ) (m : Message) → slice_get w.messages k ≡ Some m → of_message C m ≡ true → length w.delivered ≡ length w.messages →
      keep_world C (mark_delivered k w) ≡ mark_delivered (kept_before C k w.messages) (keep_world C w)
  kept-mark w k m e i l = ap (λ ds. record (keep_world C w) { delivered = ds }) (marks-set w.messages w.delivered k m e i l)

  other-mark : (w : World) (k : ℕ) (m : Message) → slice_get w.messages k ≡ Some m → of_message C m ≡ false → keep_world C (mark_delivered k w) ≡ keep_world C w
  other-mark w k m e i = ap (λ ds. record (keep_world C w) { delivered = ds }) (marks-other w.messages w.delivered k m e i)

  -- all that is in a world is of one side or the other
  record AllParted (w : World) : Type 0 where
    sites : (a : ℕ) → IsParted C (site_at w a)
    messages : (m : Message) → Member m w.messages → IsOneSided C m.kind
    marks : length w.delivered ≡ length w.messages

  parted-with : (w : World) (a : ℕ) (x : Reaction) → AllParted w → IsParted C x.site → ((m : Message) → Member m x.sent → IsOneSided C m.kind) → AllParted (with_site w a x)
  parted-with w a x A P f = record {
    sites = λ b. elim (get-cases (empty_site false b) w.sites a b x.site) [ inl e ↦ subst (IsParted C) (sym e) P | inr e ↦ subst (IsParted C) (sym e) (A.sites b) ];
    messages = λ m i. elim (member_split m w.messages x.sent i) [ inl j ↦ A.messages m j | inr j ↦ f m j ];
    marks = length-both w.messages w.delivered (λ m. false) x.sent A.marks;
  }

  parted-mark : (w : World) (k : ℕ) → AllParted w → AllParted (mark_delivered k w)
  parted-mark w k A = record { sites = A.sites; messages = A.messages; marks = length-set w.delivered k true ∙ A.marks }

  module _ (g : Grammar) where
    -- choices
    chosen-kept : (w : World) → AllParted w → (a : ℕ) (c : Choice) → of_choice C c ≡ true → (z : Chosen) →
        keep_world C (chosen_at w a c z).world ≡ (chosen_at (keep_world C w) a c (keep_chosen C g z)).world
    chosen-kept w A a c i (No q) = refl
    chosen-kept w A a c i (Did x) =
        let t : filter (of_choice C) (w.taken ++ c ∷ []) ≡ filter (of_choice C) w.taken ++ c ∷ [] = filter-append (of_choice C) w.taken (c ∷ [])
        ∙ ap (λ b. filter (of_choice C) w.taken ++ cond b (c ∷ []) []) i in
        let v = kept-with w a x A.marks in
        λ j. record (v j) { taken = t j }

    chosen-unseen : (w : World) → AllParted w → (a : ℕ) (c : Choice) → of_choice C c ≡ false → (z : Chosen) → choose g (site_at w a) c ≡ z → keep_world C (chosen_at w a c z).world ≡ keep_world C w
    chosen-unseen w A a c i (No q) e = refl
    chosen-unseen w A a c i (Did x) e =
        let t : filter (of_choice C) (w.taken ++ c ∷ []) ≡ filter (of_choice C) w.taken =
        filter-append (of_choice C) w.taken (c ∷ []) ∙ (ap (λ b. filter (of_choice C) w.taken ++ cond b (c ∷ []) []) i ∙ append-nil (filter (of_choice C) w.taken)) in
        let v = unseen-with g w a x A.marks (choose-unseen C g (site_at w a) (A.sites a) c i x e) in
        λ j. record (v j) { taken = t j }

    chosen-parted : (w : World) → AllParted w → (a : ℕ) (c : Choice) → (z : Chosen) → choose g (site_at w a) c ≡ z → AllParted (chosen_at w a c z).world
    chosen-parted w A a c (No q) e = A
    chosen-parted w A a c (Did x) e =
        let B = parted-with w a x A (subst (λ z. IsParted C (after_choice (site_at w a) z)) e (choose-parted C g (site_at w a) (A.sites a) c)) (choose-sided C g (site_at w a) (A.sites a) c x e) in
        record { sites = B.sites; messages = B.messages; marks = B.marks }

    -- deliveries
    received-kept : (w : World) → AllParted w → (k : ℕ) (m : Message) → slice_get w.messages k ≡ Some m → of_message C m ≡ true →
        (z : Received Reaction) → keep_world C (received_at w k m.to z).world ≡ (received_at (keep_world C w) (kept_before C k w.messages) m.to
        (keep_received C z)).world
    received-kept w A k m e i (New x) =
        let v = with_site w m.to x in
        kept-mark v k m (get-left w.messages x.sent k m e) i (length-both w.messages w.delivered (λ m. false) x.sent A.marks)
        ∙ (ap (λ j. mark_delivered j (keep_world C v)) (before-more w.messages x.sent k m e) ∙ ap (mark_delivered (kept_before C k w.messages)) (kept-with w m.to x A.marks))
    received-kept w A k m e i Repeat = kept-mark w k m e i A.marks
    received-kept w A k m e i (Conflict a b) = kept-mark w k m e i A.marks
    received-kept w A k m e i NotMine = kept-mark w k m e i A.marks
    received-kept w A k m e i BadName = kept-mark w k m e i A.marks

    received-unseen : (w : World) → AllParted w → (k : ℕ) (m : Message) → slice_get w.messages k ≡ Some m → of_message C m ≡ false →
        (z : Received Reaction) → receive g (site_at w m.to) m ≡ z → keep_world C (received_at w k m.to z).world ≡ keep_world C w
    received-unseen w A k m e i (New x) q =
        other-mark (with_site w m.to x) k m (get-left w.messages x.sent k m e) i
        ∙ unseen-with g w m.to x A.marks (receive-unseen C g (site_at w m.to) (A.sites m.to) m (A.messages m (member_got w.messages k m e)) i x q)
    received-unseen w A k m e i Repeat q = other-mark w k m e i
    received-unseen w A k m e i (Conflict a b) q = other-mark w k m e i
    received-unseen w A k m e i NotMine q = other-mark w k m e i
    received-unseen w A k m e i BadName q = other-mark w k m e i

    received-parted : (w : World) → AllParted w → (k : ℕ) (m : Message) → slice_get w.messages k ≡ Some m → (z : Received Reaction) →
        receive g (site_at w m.to) m ≡ z → AllParted (received_at w k m.to z).world
    received-parted w A k m e (New x) q =
        let (P, f) = receive-parted C g (site_at w m.to) (A.sites m.to) m (A.messages m (member_got w.messages k m e)) x q in
        parted-mark (with_site w m.to x) k (parted-with w m.to x A P f)
    received-parted w A k m e Repeat q = parted-mark w k A
    received-parted w A k m e (Conflict a b) q = parted-mark w k A
    received-parted w A k m e NotMine q = parted-mark w k A
    received-parted w A k m e BadName q = parted-mark w k A

    -- one event
    choose-step : (w : World) → AllParted w → (c : Choice) (b : Bool) → of_choice C c ≡ b → keep_world C (step g w (Chooses c)).world ≡ run g (keep_world C w) (cond b (Chooses c ∷ []) [])
    choose-step w A c true i =
        let a = home g (node_of c) in
        chosen-kept w A a c i (choose g (site_at w a) c)
        ∙ ap (λ z. (chosen_at (keep_world C w) a c z).world) (sym (choose-kept C g (site_at w a) (A.sites a) c i) ∙ ap (λ s. choose g s c) (sym (kept-at w a)))
    choose-step w A c false i = let a = home g (node_of c) in chosen-unseen w A a c i (choose g (site_at w a) c) refl

    message-step : (w : World) → AllParted w → (k : ℕ) (m : Message) → slice_get w.messages k ≡ Some m → (b : Bool) → of_message C m ≡ b
        → keep_world C (received_at w k m.to (receive g (site_at w m.to) m)).world ≡ run g (keep_world C w) (cond b (Delivers (kept_before C k w.messages) ∷ []) [])
    message-step w A k m e true i =
        let v = keep_world C w in
        let j = kept_before C k w.messages in
        received-kept w A k m e i (receive g (site_at w m.to) m)
        ∙ (ap (λ z. (received_at v j m.to z).world)
        (sym (receive-kept C g (site_at w m.to) (A.sites m.to) m (A.messages m (member_got w.messages k m e)) i)
        ∙ ap (λ s. receive g s m) (sym (kept-at w m.to)))
        ∙ sym (ap (λ o. (deliver_on g v j o).world) (get-kept w.messages k m e i)))
    message-step w A k m e false i = received-unseen w A k m e i (receive g (site_at w m.to) m) refl

    deliver-step : (w : World) → AllParted w → (k : ℕ) (o : Option Message) → slice_get w.messages k ≡ o → keep_world C (deliver_on g w k o).world ≡ run g (keep_world C w) (keep_delivery C w k o)
    deliver-step w A k None e = refl
    deliver-step w A k (Some m) e = message-step w A k m e (of_message C m) refl

    one-step : (w : World) → AllParted w → (e : Move) → keep_world C (step g w e).world ≡ run g (keep_world C w) (keep_move C w e)
    one-step w A (Chooses c) = choose-step w A c (of_choice C c) refl
    one-step w A (Delivers k) = deliver-step w A k (slice_get w.messages k) refl

    deliver-parted : (w : World) → AllParted w → (k : ℕ) (o : Option Message) → slice_get w.messages k ≡ o → AllParted (deliver_on g w k o).world
    deliver-parted w A k None e = A
    deliver-parted w A k (Some m) e = received-parted w A k m e (receive g (site_at w m.to) m) refl

    step-parted : (w : World) → AllParted w → (e : Move) → AllParted (step g w e).world
    step-parted w A (Chooses c) = let a = home g (node_of c) in chosen-parted w A a c (choose g (site_at w a) c) refl
    step-parted w A (Delivers k) = deliver-parted w A k (slice_get w.messages k) refl

    run-kept : (w : World) → AllParted w → (es : List Move) → keep_world C (run g w es) ≡ run g (keep_world C w) (keep_moves C g w es)
    run-kept w A [] = refl
    run-kept w A (e ∷ es) =
        let v = (step g w e).world in
        run-kept v (step-parted w A e) es
        ∙ (ap (λ u. run g u (keep_moves C g v es)) (one-step w A e) ∙ sym (run_both g (keep_world C w) (keep_move C w e) (keep_moves C g v es)))

    -- replies
    chosen-reply : (w v : World) (a : ℕ) (c : Choice) (z : Chosen) → (chosen_at w a c z).reply ≡ (chosen_at v a c (keep_chosen C g z)).reply
    chosen-reply w v a c (No q) = refl
    chosen-reply w v a c (Did x) = refl

    received-reply : (w v : World) (j k a : ℕ) (z : Received Reaction) → (received_at w j a z).reply ≡ (received_at v k a (keep_received C z)).reply
    received-reply w v j k a (New x) = refl
    received-reply w v j k a Repeat = refl
    received-reply w v j k a (Conflict b c) = refl
    received-reply w v j k a NotMine = refl
    received-reply w v j k a BadName = refl

    choose-reply : (w : World) → AllParted w → (c : Choice) (b : Bool) → of_choice C c ≡ b → map (λ d. (step g w (Chooses c)).reply)
        (cond b (Chooses c ∷ []) []) ≡ world_replies g (keep_world C w) (cond b (Chooses c ∷ []) [])
    choose-reply w A c true i =
        let a = home g (node_of c) in
        ap (λ x. x ∷ []) (chosen-reply w (keep_world C w) a c (choose g (site_at w a) c)
        ∙ ap (λ z. (chosen_at (keep_world C w) a c z).reply) (sym (choose-kept C g (site_at w a) (A.sites a) c i) ∙ ap (λ s. choose g s c) (sym (kept-at w a))))
    choose-reply w A c false i = refl

    message-reply : (w : World) → AllParted w → (k : ℕ) (m : Message) → slice_get w.messages k ≡ Some m → (b : Bool) → of_message C m ≡ b
        → map (λ (d : Move). (step g w (Delivers k)).reply) (cond b (Delivers (kept_before C k w.messages) ∷ []) []) ≡ world_replies g
        (keep_world C w) (cond b (Delivers (kept_before C k w.messages) ∷ []) [])
    message-reply w A k m e true i =
        let v = keep_world C w in
        let j = kept_before C k w.messages in
        ap (λ x. x ∷ []) (ap (λ o. (deliver_on g w k o).reply) e
        ∙ (received-reply w v k j m.to (receive g (site_at w m.to) m)
        ∙ (ap (λ z. (received_at v j m.to z).reply)
        (sym (receive-kept C g (site_at w m.to) (A.sites m.to) m (A.messages m (member_got w.messages k m e)) i)
        ∙ ap (λ s. receive g s m) (sym (kept-at w m.to)))
        ∙ sym (ap (λ o. (deliver_on g v j o).reply) (get-kept w.messages k m e i)))))
    message-reply w A k m e false i = refl

    deliver-reply : (w : World) → AllParted w → (k : ℕ) (o : Option Message) → slice_get w.messages k ≡ o → map (λ d. (step g w (Delivers k)).reply)
        (keep_delivery C w k o) ≡ world_replies g (keep_world C w) (keep_delivery C w k o)
    deliver-reply w A k None e = refl
    deliver-reply w A k (Some m) e = message-reply w A k m e (of_message C m) refl

    one-reply : (w : World) → AllParted w → (e : Move) → map (λ d. (step g w e).reply) (keep_move C w e) ≡ world_replies g (keep_world C w) (keep_move C w e)
    one-reply w A (Chooses c) = choose-reply w A c (of_choice C c) refl
    one-reply w A (Delivers k) = deliver-reply w A k (slice_get w.messages k) refl

    replies-append : (w : World) (es fs : List Move) → world_replies g w (es ++ fs) ≡ world_replies g w es ++ world_replies g (run g w es) fs
    replies-append w [] fs = refl
    replies-append w (e ∷ es) fs = ap (λ xs. (step g w e).reply ∷ xs) (replies-append (step g w e).world es fs)

    replies-kept : (w : World) → AllParted w → (es : List Move) → keep_replies C g w es ≡ world_replies g (keep_world C w) (keep_moves C g w es)
    replies-kept w A [] = refl
    replies-kept w A (e ∷ es) =
        let v = (step g w e).world in
        let here = one-reply w A e in
        let later = replies-kept v (step-parted w A e) es ∙ ap (λ u. world_replies g u (keep_moves C g v es)) (one-step w A e) in
        (λ i. here i ++ later i) ∙ sym (replies-append (keep_world C w) (keep_move C w e) (keep_moves C g v es))

    -- nothing happened yet
    empty-sites : (loads : Bool) (i n : ℕ) → map (keep_site C) (map (empty_site loads) (upto i n)) ≡ map (empty_site loads) (upto i n)
    empty-sites loads i zero = refl
    empty-sites loads i (suc n) = ap (λ xs. empty_site loads i ∷ xs) (empty-sites loads (suc i) n)

    pub empty-parted-one : (b : Bool) (a : ℕ) → IsParted C (empty_site b a)
    empty-parted-one b a = record { equations = λ e m. never m; held = λ h m. never m; ordered = tt }

    empty-get : (loads : Bool) (i n j : ℕ) (d : Site) → IsParted C d → IsParted C (get d (map (empty_site loads) (upto i n)) j)
    empty-get loads i zero j d p = p
    empty-get loads i (suc n) zero d p = empty-parted-one loads i
    empty-get loads i (suc n) (suc j) d p = empty-get loads (suc i) n j d p

    empty-parted : (loads : Bool) → AllParted (empty_world g loads)
    empty-parted loads = record {
      sites = λ a. empty-get loads 0 g.roles a (empty_site false a) (empty-parted-one false a);
      messages = λ m i. never i;
      marks = refl;
    }

pub cases_do_not_meet : (g : Grammar) → CasesDoNotMeet g
cases_do_not_meet g C loads es =
    run-kept C g (empty_world g loads) (empty-parted C g loads) es
    ∙ ap (λ ss. run g (record (empty_world g loads) { sites = ss }) (keep_moves C g (empty_world g loads) es)) (empty-sites C g loads 0 g.roles)

pub replies_are_kept : (g : Grammar) → RepliesAreKept g
replies_are_kept g C loads es =
    replies-kept C g (empty_world g loads) (empty-parted C g loads) es
    ∙ ap (λ ss. world_replies g (record (empty_world g loads) { sites = ss }) (keep_moves C g (empty_world g loads) es)) (empty-sites C g loads 0 g.roles)
