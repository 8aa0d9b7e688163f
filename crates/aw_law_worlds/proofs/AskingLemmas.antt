-- What a site asks for.
use Rattle.std.specs.Prelude.{filter, is_none, nat_eq, not, ◌&&◌, ◌⊎◌}
use Rattle.std.proofs.Common.{Bool, List, None, Option, Some, [], ap, false, inl, inr, map, refl, subst, sym, true, ℕ, ◌++◌, ◌∙◌, ◌∷◌, ◌≡◌}
use Rattle.std.proofs.lemmas.Bool.{and_parts, eq-eqb, eqb-true, not-true, or_cases, or_left, or_right}
use Rattle.aw_list.specs.Members.{Member}
use Rattle.aw_list.proofs.Members.{member_map, member_right, member_unmap, never}
use Rattle.aw_term.specs.Names.{Ref, ref_eq}
use Rattle.aw_term.specs.Rules.{Grammar}
use Rattle.aw_term.specs.Trees.{Never}
use Rattle.aw_term.specs.WellFormed.{Later}
use Rattle.aw_term.proofs.RefTests.{ref_eq-self}
use Rattle.aw_store.specs.Equations.{Body, find}
use Rattle.aw_apply.specs.Messages.{Asks, Calls, Kind, Message, Tells}
use Rattle.aw_law_sites.specs.Joint.{Joint}
use Rattle.aw_law_sites.specs.Asking.{ask_message, asking, is_wanted}
use Rattle.aw_law_sites.specs.Homes.{home}
use Rattle.aw_law_sites.specs.InOrder.{has_ref, in_order}
use Rattle.aw_law_sites.specs.Sites.{Site}
use Rattle.aw_law_worlds.specs.Mentioned.{IsMentioned}
use Rattle.aw_law_worlds.proofs.Changes.{NewSound}
use Rattle.aw_law_worlds.proofs.Lists.{Later-filter, Later-mapped, Member-filter, Member-filtered, Member-in_order, Member-of_order, has_ref-true, once}
use Rattle.aw_law_worlds.proofs.Parts.{Apart, Inv, Kin, KindKin, Mark, Settled, Sound}

pub has_ref-member : (r : Ref) (ss : List Ref) → Member r ss → has_ref r ss ≡ true
has_ref-member r [] m = never m
has_ref-member r (s ∷ ss) (inl e) = or_left (ref_eq r s) (has_ref r ss) (subst (λ s. ref_eq r s ≡ true) e (ref_eq-self r))
has_ref-member r (s ∷ ss) (inr m) = or_right (ref_eq r s) (has_ref r ss) (has_ref-member r ss m)

wanted_cases : (a b d : Bool) → (not a && (b && not d) ≡ true) ⊎ ((a ≡ true) ⊎ ((b ≡ false) ⊎ (d ≡ true)))
wanted_cases true b d = inr (inl refl)
wanted_cases false false d = inr (inr (inl refl))
wanted_cases false true true = inr (inr (inr refl))
wanted_cases false true false = inl refl

kin_ask : (m : Message) (r : Ref) (a : ℕ) (to : ℕ) → Kin m (record { to = to; kind = Asks r a }) → m.kind ≡ Asks r a
kin_ask m r a to k = go m.kind k.1
  where
    go : (k : Kind) → KindKin k (Asks r a) → k ≡ Asks r a
    go (Calls c load) z = never z
    go (Asks s b) z = λ i. Asks (z.0 i) (z.1 i)
    go (Tells e load) z = never z

module _ (g : Grammar) (loads : Bool) (S : ℕ → Site) (M : List Message) (D : ℕ → Type 0) (x : Joint) (I : Inv g loads S M D x) (a : ℕ) (s : Site)
    (rs : List Ref) (er : s.role ≡ a) (ea : s.asked ≡ (S a).asked) where
  abbrev pub wanted : List Ref
  wanted = filter (is_wanted g s) (in_order rs)

  abbrev pub asks : List Message
  asks = map (ask_message g s.role) wanted

  same_asked : (r : Ref) → s.asked r ≡ (S a).asked r
  same_asked r = ap (λ f. f r) ea

  now_asked : (first : List Message) (r : Ref) → Member r wanted → (asking g s first rs).site.asked r ≡ true
  now_asked first r m = or_right (s.asked r) (has_ref r wanted) (has_ref-member r wanted m)

  pub want : (r : Ref) → Member r wanted → Member r rs × (home g r.node ≡ a → Never) × (((S a).asked r ≡ true) → Never)
  want r m =
      let (p, q) = Member-filtered (is_wanted g s) r (in_order rs) m in
      let (u, v) = and_parts (not (nat_eq (home g r.node) s.role)) _ q in
      let (w, z) = and_parts (is_none (find s.equations r)) _ v in (
        Member-of_order r rs p,
        (λ e. let f = not-true _ u in let h = eq-eqb (home g r.node) s.role (e ∙ sym er) in absurd cc),
        (λ n. let f = not-true _ z in let h = same_asked r ∙ n in absurd cc),
      )

  pub ask_case : (m : Message) → Member m asks → (r : Ref) × Member r wanted × (m ≡ ask_message g a r)
  ask_case m i = let (r, mr, e) = member_unmap (ask_message g s.role) m wanted i in (r, mr, e ∙ ap (λ b. ask_message g b r) er)

  pub asks_away : (m : Message) → Member m asks → m.to ≡ a → Never
  asks_away m i e = let (r, mr, q) = ask_case m i in (want r mr).1 (sym (ap (λ (m : Message). m.to) q) ∙ e)

  pub asks_sound : (y : Joint) (first : List Message) (m : Message) → Member m asks → NewSound g loads a (asking g s first rs).site y m.to m.kind
  asks_sound y first m i =
      let (r, mr, q) = ask_case m i in
      subst (λ (m : Message). NewSound g loads a (asking g s first rs).site y m.to m.kind) (sym q)
      (refl, (want r mr).1, refl, now_asked first r mr)

  pub asks_no_mark : (m : Message) → Member m asks → Mark loads (S m.to) m.kind → Never
  asks_no_mark m i =
      let (r, mr, q) = ask_case m i in
      subst (λ (m : Message). Mark loads (S m.to) m.kind → Never) (sym q) (λ w. (want r mr).2 (I.watched (home g r.node) r a w).1)

  pub asks_not_sent : (m n : Message) → Member m M → Member n asks → Apart m n
  asks_not_sent m n i j =
      let (r, mr, q) = ask_case n j in
      subst (λ n. Apart m n) (sym q) (λ k. (want r mr).2 (subst (λ k. Sound g S x m.to k → ((S a).asked r ≡ true)) (sym (kin_ask m r a (home g r.node) k)) (λ z. z.2) (I.sound m i)))

  pub asks_apart : Later Apart asks
  asks_apart = Later-mapped (λ a b. a ≡ b → Never) Apart (ask_message g s.role) (λ a b n k. n k.1.0) wanted (Later-filter (λ a b. a ≡ b → Never) (is_wanted g s) (in_order rs) (once rs))

  pub asked_cases : (first : List Message) (r : Ref) → ((asking g s first rs).site.asked r ≡ true) → ((S a).asked r ≡ true) ⊎ (Member (ask_message g a r) (first ++ asks) × Member r rs)
  asked_cases first r m = elim (or_cases (s.asked r) (has_ref r wanted) m) [
    | inl o ↦ inl (sym (same_asked r) ∙ o)
    | inr i ↦ (let n = has_ref-true r wanted i in
        inr (member_right (ask_message g a r) first asks (subst (λ b. Member (ask_message g b r) asks) er (member_map (ask_message g s.role) r wanted n)), (want r n).0))
  ]

  pub asked_more : (first : List Message) (r : Ref) → ((S a).asked r ≡ true) → ((asking g s first rs).site.asked r ≡ true)
  asked_more first r m = or_left (s.asked r) (has_ref r wanted) (same_asked r ∙ m)

  pub asking_settles : (first : List Message) (r : Ref) → Member r rs → Settled g (asking g s first rs).site r
  asking_settles first r m =
      elim (wanted_cases (nat_eq (home g r.node) s.role) (is_none (find s.equations r)) (s.asked r)) [
        | inl e ↦ inr (inl (now_asked first r (Member-filter (is_wanted g s) r (in_order rs) (Member-in_order r rs m) e)))
        | inr z ↦ elim z [
          | inl e ↦ inl (eqb-true (home g r.node) s.role e)
          | inr y ↦ elim y [
            | inl e ↦ inr (inr (some_of' (find s.equations r) e))
            | inr e ↦ inr (inl (or_left (s.asked r) (has_ref r wanted) e))
          ]
        ]
      ]
    where
      some_of' : (o : Option Body) → is_none o ≡ false → (b : Body) × (o ≡ Some b)
      some_of' None e = absurd cc
      some_of' (Some b) e = (b, refl)

  -- what was mentioned before stays settled
  pub settles : (first : List Message) → ((r : Ref) (b : Body) → find (S a).equations r ≡ Some b → find s.equations r ≡ Some b)
      → (r : Ref) → IsMentioned r (S a).equations (S a).held ⊎ Member r rs → Settled g (asking g s first rs).site r
  settles first f r (inr m) = asking_settles first r m
  settles first f r (inl m) =
      elim (I.settled a r m) [
        | inl e ↦ inl (e ∙ (I.roles a ∙ sym er))
        | inr z ↦ elim z [ inl i ↦ inr (inl (asked_more first r i)) | inr i ↦ inr (inr (i.0, f r i.0 i.1)) ]
      ]
