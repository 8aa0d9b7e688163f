-- What counts as delivered makes no difference to what a move does else.
use Rattle.std.specs.Prelude.{slice_get, slice_set}
use Rattle.std.proofs.Common.{◌≡◌, ℕ, Bool, true, false, List, [], ◌++◌, map, Option, Some, None, refl, sym, ap, ◌∙◌, subst, append-nil}
use Rattle.aw_list.proofs.Members.{never}
use Rattle.aw_apply.specs.Messages.{Message, Received, New, Repeat, Conflict, NotMine, BadName}
use Rattle.aw_grammar.specs.GrammarOf.{grammar_of}
use Rattle.aw_law_sites.specs.Choosing.{Chosen, No, Did, choose}
use Rattle.aw_law_sites.specs.Homes.{home}
use Rattle.aw_law_sites.specs.Reacting.{receive}
use Rattle.aw_law_sites.specs.Sites.{Reaction}
use Rattle.aw_law_sites.specs.Worlds.{World, site_at, node_of, Answered, IsNew, Move, Chooses, Delivers, Stepped, chosen_at, received_at, deliver_on, step}
use Rattle.aw_law_worlds.specs.Invariant.{IsSent}
use Rattle.aw_term.specs.Choices.{Choice, Taken}
use Rattle.aw_term.specs.Rules.{Grammar}
use Rattle.aw_term.specs.Trees.{Never}
use Rattle.aw_world.specs.MoveView.{reply_of}
use Rattle.aw_world.specs.Shown.{Shows, ShowsMove}
use Rattle.aw_world.specs.declared.moves.Reply as program
use Rattle.aw_world.specs.declared.workspace.Workspace.{Ghosts}
use Rattle.aw_world.specs.declared.world.World as shown
use Rattle.aw_book_drive.specs.Driving.{Nearly}

-- the replies are one, and the worlds are but for the marks
abbrev pub IsLike : Stepped → Stepped → Type 0
IsLike x y = (x.reply ≡ y.reply) × ((ds : List Bool) × (x.world ≡ record y.world { delivered = ds }))

chosen-like : (v : World) (ds : List Bool) (r : ℕ) (c : Choice) (x : Chosen) → IsLike (chosen_at (record v { delivered = ds }) r c x) (chosen_at v r c x)
chosen-like v ds r c (No a) = (refl, (ds, refl))
chosen-like v ds r c (Did x) = (refl, (ds ++ map (λ m. false) x.sent, refl))

got-like : (v : World) (ds : List Bool) (k to : ℕ) (x : Received Reaction) → IsLike (received_at (record v { delivered = ds }) k to x) (received_at v k to x)
got-like v ds k to (New x) = (refl, (slice_set (ds ++ map (λ m. false) x.sent) k true, refl))
got-like v ds k to Repeat = (refl, (slice_set ds k true, refl))
got-like v ds k to (Conflict a b) = (refl, (slice_set ds k true, refl))
got-like v ds k to NotMine = (refl, (slice_set ds k true, refl))
got-like v ds k to BadName = (refl, (slice_set ds k true, refl))

delivered-like : (g : Grammar) (v : World) (ds : List Bool) (k : ℕ) (o : Option Message) → IsLike (deliver_on g (record v { delivered = ds }) k o) (deliver_on g v k o)
delivered-like g v ds k None = (refl, (ds, refl))
delivered-like g v ds k (Some m) = got-like v ds k m.to (receive g (site_at v m.to) m)

step-like : (g : Grammar) (v : World) (ds : List Bool) (e : Move) → IsLike (step g (record v { delivered = ds }) e) (step g v e)
step-like g v ds (Chooses c) = chosen-like v ds (home g (node_of c)) c (choose g (site_at v (home g (node_of c))) c)
step-like g v ds (Delivers k) = delivered-like g v ds k (slice_get v.messages k)

-- the step of a world that is nearly this one
pub near-step : {W : Type 0} (f : Ghosts W) (old new : shown.World W f) (v : World) (e : Move) (r : program.Reply) → Nearly f old v → ShowsMove f old new e r →
    (reply_of r ≡ (step (grammar_of old.accepted.now.grammar) v e).reply) × Nearly f new (step (grammar_of old.accepted.now.grammar) v e).world
near-step f old new v e r n moves =
    let (ds, s) = n in
    let d = moves (record v { delivered = ds }) s in
    let (same, (more, world)) = step-like (grammar_of old.accepted.now.grammar) v ds e in
    (d.reply ∙ same, (more, subst (Shows f new) world d.world))

chosen-stays : (v : World) (r : ℕ) (c : Choice) (x : Chosen) → ((chosen_at v r c x).reply ≡ Answered Taken → Never) → (chosen_at v r c x).world ≡ v
chosen-stays v r c (No a) n = refl
chosen-stays v r c (Did x) n = never (n refl)

-- a choice that is not taken changes nothing
pub refused-stays : (g : Grammar) (v : World) (c : Choice) → ((step g v (Chooses c)).reply ≡ Answered Taken → Never) → (step g v (Chooses c)).world ≡ v
refused-stays g v c n = chosen-stays v (home g (node_of c)) c (choose g (site_at v (home g (node_of c))) c) n

got-stays : (v : World) (k to : ℕ) (x : Received Reaction) → ((received_at v k to x).reply ≡ IsNew → Never) → (ds : List Bool) × ((received_at v k to x).world ≡ record v { delivered = ds })
got-stays v k to (New x) n = never (n refl)
got-stays v k to Repeat n = (slice_set v.delivered k true, refl)
got-stays v k to (Conflict a b) n = (slice_set v.delivered k true, refl)
got-stays v k to NotMine n = (slice_set v.delivered k true, refl)
got-stays v k to BadName n = (slice_set v.delivered k true, refl)

delivered-stays : (g : Grammar) (v : World) (k : ℕ) (o : Option Message) → ((deliver_on g v k o).reply ≡ IsNew → Never) → (ds : List Bool) × ((deliver_on g v k o).world ≡ record v { delivered = ds })
delivered-stays g v k None n = (v.delivered, refl)
delivered-stays g v k (Some m) n = got-stays v k m.to (receive g (site_at v m.to) m) n

-- a message that is not new changes no more than that it counts as delivered
pub old-stays : {W : Type 0} (f : Ghosts W) (x : shown.World W f) (g : Grammar) (v : World) (k : ℕ) → ((step g v (Delivers k)).reply ≡ IsNew → Never) → Nearly f x (step g v (Delivers k)).world → Nearly f x v
old-stays f x g v k n near =
    let (ds, same) = delivered-stays g v k (slice_get v.messages k) n in
    let (marks, s) = near in
    (marks, subst (Shows f x) (ap (λ (w : World). record w { delivered = marks }) same) s)

chosen-sends : (v : World) (r : ℕ) (c : Choice) (x : Chosen) → (sent : List Message) × ((chosen_at v r c x).world.messages ≡ v.messages ++ sent)
chosen-sends v r c (No a) = ([], sym (append-nil v.messages))
chosen-sends v r c (Did x) = (x.sent, refl)

got-sends : (v : World) (k to : ℕ) (x : Received Reaction) → (sent : List Message) × ((received_at v k to x).world.messages ≡ v.messages ++ sent)
got-sends v k to (New x) = (x.sent, refl)
got-sends v k to Repeat = ([], sym (append-nil v.messages))
got-sends v k to (Conflict a b) = ([], sym (append-nil v.messages))
got-sends v k to NotMine = ([], sym (append-nil v.messages))
got-sends v k to BadName = ([], sym (append-nil v.messages))

delivered-sends : (g : Grammar) (v : World) (k : ℕ) (o : Option Message) → (sent : List Message) × ((deliver_on g v k o).world.messages ≡ v.messages ++ sent)
delivered-sends g v k None = ([], sym (append-nil v.messages))
delivered-sends g v k (Some m) = got-sends v k m.to (receive g (site_at v m.to) m)

-- messages are sent behind those that were sent
pub step-sends : (g : Grammar) (v : World) (e : Move) → (sent : List Message) × ((step g v e).world.messages ≡ v.messages ++ sent)
step-sends g v (Chooses c) = chosen-sends v (home g (node_of c)) c (choose g (site_at v (home g (node_of c))) c)
step-sends g v (Delivers k) = delivered-sends g v k (slice_get v.messages k)

got-reply : (v : World) (j k to : ℕ) (x : Received Reaction) → (received_at v j to x).reply ≡ (received_at v k to x).reply
got-reply v j k to (New x) = refl
got-reply v j k to Repeat = refl
got-reply v j k to (Conflict a b) = refl
got-reply v j k to NotMine = refl
got-reply v j k to BadName = refl

-- a message has the same reply, with whichever of its numbers it is delivered
pub same-reply : (g : Grammar) (v : World) (m : Message) (j k : ℕ) → IsSent v m j → IsSent v m k → (step g v (Delivers j)).reply ≡ (step g v (Delivers k)).reply
same-reply g v m j k a b =
    ap (λ o. (deliver_on g v j o).reply) a ∙ (got-reply v j k m.to (receive g (site_at v m.to) m) ∙ sym (ap (λ o. (deliver_on g v k o).reply) b))
