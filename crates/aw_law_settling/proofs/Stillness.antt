-- A still world differs from a quiet one in what was delivered alone.
use Rattle.std.specs.Prelude.{slice_get}
use Rattle.std.proofs.Common.{◌≡◌, ℕ, suc, ◌<◌, Bool, true, false, List, [], ◌∷◌, ◌++◌, map, length, Option, Some, None, refl, sym, ap, ◌∙◌, subst, arith}
use Rattle.std.proofs.lemmas.Option.{slice_get_within, same_Some}
use Rattle.aw_list.specs.Members.{Member}
use Rattle.aw_list.proofs.Members.{member_got}
use Rattle.aw_list.proofs.Everyday.{get_within as get-within}
use Rattle.aw_term.specs.Artifacts.{Words, artifact_text}
use Rattle.aw_term.specs.Choices.{undivided, answer}
use Rattle.aw_term.specs.Configs.{Config}
use Rattle.aw_term.specs.Held.{Held}
use Rattle.aw_term.specs.Rules.{Grammar, get}
use Rattle.aw_term.specs.Runs.{worklist}
use Rattle.aw_term.specs.WellFormed.{Each}
use Rattle.aw_term.proofs.Eaches.{each_append}
use Rattle.aw_apply.specs.Messages.{Message, Received, New, Repeat, Conflict, NotMine, BadName}
use Rattle.aw_law_sites.specs.Choosing.{answer_to, choose}
use Rattle.aw_law_sites.specs.Homes.{home}
use Rattle.aw_law_sites.specs.Laws.{SameChoices}
use Rattle.aw_law_sites.specs.Reacting.{receive}
use Rattle.aw_law_sites.specs.Sites.{Site, Reaction, empty_site}
use Rattle.aw_law_sites.specs.Bounds.{bound_of}
use Rattle.aw_law_sites.specs.Worklists.{open_items}
use Rattle.aw_law_sites.specs.Worlds.{World, empty_world, node_of, site_at, gather, Move, Delivers, deliver_on, received_at, first_false, run, step, IsQuiet, MayCome, world_after}
use Rattle.aw_law_worlds.specs.Invariant.{sender}
use Rattle.aw_law_worlds.specs.Laws.{InvariantHolds, Repeats, QuietHolds, Headline, QuietAnswers, QuietWorklists, Artifacts, MessagesAreBounded, SettlingIsDelivering, HoldsConfig, own_items}
use Rattle.aw_law_worlds.specs.ReadRows.{IsPrinted}
use Rattle.aw_law_worlds.proofs.Places.{member-get}
use Rattle.aw_law_worlds.proofs.Quieting.{all-true}
use Rattle.aw_law_worlds.proofs.Settling.{run_both}
use Rattle.aw_law_settling.specs.Still.{IsStill, QuietIsStill, StillBecomesQuiet, StillHolds, StillAnswers, StillWorklists, StillArtifacts}

-- where each place is set none is not
set-all : (ds : List Bool) (i : ℕ) → ((k : ℕ) → k < length ds → slice_get ds k ≡ Some true) → first_false i ds ≡ None
set-all [] i f = refl
set-all (true ∷ ds) i f = set-all ds (suc i) (λ k l. f (suc k) (omega arith))
set-all (false ∷ ds) i f = let z : Some false ≡ Some true = f 0 (omega arith) in absurd cc

-- two worlds that differ in what was delivered alone
record IsMarked (w v : World) : Type 0 where
  sites : v.sites ≡ w.sites
  messages : v.messages ≡ w.messages
  taken : v.taken ≡ w.taken

repeat-marks : (w : World) (k to : ℕ) (z : Received Reaction) → z ≡ Repeat → IsMarked w (received_at w k to z).world
repeat-marks w k to Repeat e = record { sites = refl; messages = refl; taken = refl }
repeat-marks w k to (New x) e = absurd cc
repeat-marks w k to (Conflict a b) e = absurd cc
repeat-marks w k to NotMine e = absurd cc
repeat-marks w k to BadName e = absurd cc

delivery-marks : (g : Grammar) (w : World) (k : ℕ) (o : Option Message) → ((m : Message) → o ≡ Some m → receive g (site_at w m.to) m ≡ Repeat) → IsMarked w (deliver_on g w k o).world
delivery-marks g w k None f = record { sites = refl; messages = refl; taken = refl }
delivery-marks g w k (Some m) f = repeat-marks w k m.to (receive g (site_at w m.to) m) (f m refl)

-- each message that was sent is a repeat
abbrev AllRepeat : Grammar → World → Type 0
AllRepeat g w = (m : Message) → Member m w.messages → receive g (site_at w m.to) m ≡ Repeat

marked-repeat : (g : Grammar) (w v : World) → IsMarked w v → AllRepeat g w → AllRepeat g v
marked-repeat g w v M f m i =
    subst (λ (ss : List Site). receive g (get (empty_site false m.to) ss m.to) m ≡ Repeat) (sym M.sites) (f m (subst (λ ms. Member m ms) M.messages i))

run-marks : (g : Grammar) (w : World) → AllRepeat g w → (ks : List ℕ) → IsMarked w (run g w (map Delivers ks))
run-marks g w f [] = record { sites = refl; messages = refl; taken = refl }
run-marks g w f (k ∷ ks) =
    let one = delivery-marks g w k (slice_get w.messages k) (λ m e. f m (member_got w.messages k m e)) in
    let v = (step g w (Delivers k)).world in
    let more = run-marks g v (marked-repeat g w v one f) ks in
    record { sites = more.sites ∙ one.sites; messages = more.messages ∙ one.messages; taken = more.taken ∙ one.taken }

may-deliver : (g : Grammar) (ks : List ℕ) → Each (MayCome g) (map Delivers ks)
may-deliver g [] = tt
may-deliver g (k ∷ ks) = (tt, may-deliver g ks)

-- what is said of the sites alone
config-same : (g : Grammar) (w v : World) (c : Config) → v.sites ≡ w.sites → HoldsConfig g v c → HoldsConfig g w c
config-same g w v c e H =
    let M : List Site → Type 0 = λ ss. HoldsConfig g (record w { sites = ss }) c in
    let here : M v.sites = record { agree = H.agree; at_home = H.at_home } in
    let there = subst M e here in
    record { agree = there.agree; at_home = there.at_home }

items-same : (g : Grammar) (w v : World) → v.sites ≡ w.sites → (hs : List Held) → own_items g v hs ≡ own_items g w hs
items-same g w v e [] = refl
items-same g w v e (h ∷ hs) =
    let later = items-same g w v e hs in
    λ i. open_items g h.state (get (empty_site false (home g h.node)) (e i) (home g h.node)).equations h ++ later i

module _ (g : Grammar) (invariant : InvariantHolds g) where
  -- in a world of the grammar what was sent stands in outboxes
  still-repeats : (loads : Bool) (es : List Move) → Each (MayCome g) es → IsStill g (world_after g loads es) → AllRepeat g (world_after g loads es)
  still-repeats loads es may still m i = let (x, I) = invariant loads es may in still (sender g m.kind) m (I.boxed m i)

  pub quiet_is_still : Repeats g → QuietIsStill g
  quiet_is_still repeats loads es may =
      let w = world_after g loads es in
      let (x, I) = invariant loads es may in (
        (λ quiet a m i.
            let (k, e) = member-get w.messages m (I.boxes a m i).0 in
            let l = slice_get_within w.messages k m e in
            let marks = I.marks in
            (repeats loads es may k m e).0 (all-true w.delivered 0 k quiet (omega (arith, l, marks)))),
        (λ none still. set-all w.delivered 0 (λ k l.
            let marks = I.marks in
            let (m, e) = get-within w.messages k (omega (arith, l, marks)) in
            (repeats loads es may k m e).1 none (still-repeats loads es may still m (member_got w.messages k m e)))),
      )

  module _ (bound : MessagesAreBounded g) (settles : SettlingIsDelivering g) where
    pub still_becomes_quiet : StillBecomesQuiet g
    still_becomes_quiet loads es may still =
        let w = world_after g loads es in
        let (ks, e) = settles (bound_of g w.taken) w in
        let M = run-marks g w (still-repeats loads es may still) ks in
        (ks, subst (λ v. IsQuiet v) e (bound loads es may).1, M.sites, M.taken)

    -- a quiet world with the same sites and the same choices
    quiet-one : (loads : Bool) (es : List Move) → Each (MayCome g) es → IsStill g (world_after g loads es)
        → (fs : List Move) × Each (MayCome g) fs × IsQuiet (world_after g loads fs)
        × ((world_after g loads fs).sites ≡ (world_after g loads es).sites) × ((world_after g loads fs).taken ≡ (world_after g loads es).taken)
    quiet-one loads es may still =
        let (ks, q, s, t) = still_becomes_quiet loads es may still in
        let e : run g (world_after g loads es) (map Delivers ks) ≡ world_after g loads (es ++ map Delivers ks) = sym (run_both g (empty_world g loads) es (map Delivers ks)) in (
          es ++ map Delivers ks,
          each_append (MayCome g) es (map Delivers ks) may (may-deliver g ks),
          subst IsQuiet e q,
          ap (λ (v : World). v.sites)
              (sym e) ∙ s,
          ap (λ (v : World). v.taken) (sym e) ∙ t,
        )

    pub still_holds : Headline g → StillHolds g
    still_holds headline loads es may still ds same d u =
        let (fs, all, quiet, s, t) = quiet-one loads es may still in
        let w = world_after g loads es in
        let v = world_after g loads fs in
        let (c, e, cycle, f) = headline loads fs all in
        config-same g w v d s (f quiet ds (subst (λ cs. SameChoices cs ds) (sym t) same) d u)

    pub still_answers : QuietHolds g → QuietAnswers g → StillAnswers g
    still_answers holds answers loads es may =
        let (c, e, f) = holds loads es may in (
          c,
          e,
          λ still x.
              let (fs, all, quiet, s, t) = quiet-one loads es may still in
              let w = world_after g loads es in
              let (d, u, h) = answers loads fs all in
              let same : d ≡ c = same_Some _ _ (sym u ∙ (ap (undivided g []) t ∙ e)) in
              let k = home g (node_of x) in
              ap (λ ss. answer_to (choose g (get (empty_site false k) ss k) x)) (sym s) ∙ (h quiet x ∙ ap (λ c. answer g c x) same),
        )

    pub still_worklists : QuietHolds g → QuietWorklists g → StillWorklists g
    still_worklists holds worklists loads es may =
        let (c, e, f) = holds loads es may in (
          c,
          e,
          λ still.
              let (fs, all, quiet, s, t) = quiet-one loads es may still in
              let w = world_after g loads es in
              let v = world_after g loads fs in
              let (d, u, h) = worklists loads fs all in
              let same : d ≡ c = same_Some _ _ (sym u ∙ (ap (undivided g []) t ∙ e)) in
              ap (λ ss. own_items g w (gather ss)) (sym s) ∙ (sym (items-same g w v s (gather v.sites)) ∙ (h quiet ∙ ap (worklist g) same)),
        )

    pub still_artifacts : (words : Words) → Artifacts words g → StillArtifacts words g
    still_artifacts words artifacts loads es may still ds same d u =
        let (fs, all, quiet, s, t) = quiet-one loads es may still in
        let w = world_after g loads es in
        let (p, q) = artifacts loads fs all quiet ds (subst (λ cs. SameChoices cs ds) (sym t) same) d u in
        let M : List ℕ → List Site → Type 0 = λ text ss. IsPrinted words g (record w { sites = ss }) text in
        (subst (M (artifact_text words d)) s p, λ text r. q text (subst (M text) (sym s) r))
