-- What a courier over offices leaves, where these showed the sites of a world.
use Rattle.std.proofs.Common.{◌≡◌, ℕ, zero, suc, ◌+◌, ◌<◌, ◌≤◌, Bool, List, [], ◌∷◌, ◌++◌, map, Option, Result, Ok, Err, refl, sym, ap, subst, ◌∙◌, arith}
use Rattle.std.specs.Prelude.{IfOk}
use Rattle.aw_grammar.specs.GrammarOf.{grammar_of, words_of}
use Rattle.aw_grammar.specs.declared.grammar.Grammar as declared
use Rattle.aw_term.specs.Rules.{Grammar, upto}
use Rattle.aw_term.specs.WellFormed.{Each}
use Rattle.aw_term.proofs.Eaches.{each_append}
use Rattle.aw_law_sites.specs.Sites.{Site}
use Rattle.aw_law_sites.specs.Worlds.{Move}
use Rattle.aw_law_worlds.specs.Laws.{MayCome, world_after, InvariantHolds}
use Rattle.aw_law_nodes.specs.Couriers as C
use Rattle.aw_law_nodes.specs.Couriers.{Session, new_courier, flat, visit_frames, AreTurns, IsRound, NoneLater, ChoicesOk}
use Rattle.aw_law_nodes.specs.Encodable.{BytesAreHonest}
use Rattle.aw_law_nodes.specs.Nodes.{happenings, ReadAs, sites_after}
use Rattle.aw_law_nodes.specs.Sizes.{GrammarSized, MoveSized, ChoicesSized}
use Rattle.aw_law_nodes.proofs.ListParts.{cons-inj}
use Rattle.aw_node.specs.TypedNodes.{Rules, rules_of, answers}
use Rattle.aw_site.specs.Seen.{IsShown}
use Rattle.aw_session.specs.Sessions.{Follow}
use Rattle.aw_out.specs.Wires as W
use Rattle.aw_out.specs.Wires.{Content, Both}
use Rattle.aw_courier.specs.Carrying.{sessions_of}
use Rattle.aw_courier.specs.Frames.{size}
use Rattle.aw_courier.specs.Honest.{turn_of, visit_of, IsHonest, QuietOverHonest, BoundOverHonest, MeansOverHonest}
use Rattle.aw_courier.specs.Turns.{Turn, told_as, IsHeard}
use Rattle.aw_courier.specs.declared.carrying.Carried.{Carried}
use Rattle.aw_courier.specs.declared.carrying.Carried.TheVariants.{Quiet, RoundsSpent}
use Rattle.aw_courier.specs.declared.carrying.CarryFault.{CarryFault}
use Rattle.aw_courier.proofs.HonestLemmas.{map-append, flat-map}
use Rattle.aw_desk_wire.specs.Alike.{AllAre}
use Rattle.aw_desk_wire.specs.Honest.{AreHonest}
use Rattle.aw_desk_wire.specs.OverSites.{IsQuietThen, IsSpentThen, MeansAtSites}
use Rattle.aw_desk_wire.specs.Quiet.{alone, all_alone, WorldIsHonest}
use Rattle.aw_desk_wire.specs.Shown.{ShowsBy, OfficeAnswers}
use Rattle.aw_desk_wire.specs.Since.{NoneFailed}
use Rattle.aw_desk_wire.specs.declared.office.Office.{Office}
use Rattle.aw_desk_wire.proofs.OfficeLemmas.{offices-over}
use Rattle.aw_desk_wire.proofs.WorldLemmas.{world-honest, alone-ok, alone-sized}

-- ---- the turns of some rounds

-- each at a role that is declared
round-roles : (k : ℕ) (ts : List Turn) (i n : ℕ) → i + n ≤ k → map (λ (s : Session). s.role) (sessions_of ts) ≡ upto i n → Each (λ (t : Turn). t.session.role < k) ts
round-roles k [] i n l e = tt
round-roles k (t ∷ ts) i zero l e = absurd cc
round-roles k (t ∷ ts) i (suc n) l e = let p = (cons-inj e).0 in (omega (arith, p, l), round-roles k ts (suc i) n (omega (arith, l)) (cons-inj e).1)

rounds-roles : (g : Grammar) (tss : List (List Turn)) → Each (IsRound g) (map sessions_of tss) → Each (λ (t : Turn). t.session.role < g.roles) (flat tss)
rounds-roles g [] e = tt
rounds-roles g (ts ∷ tss) e = each_append (λ (t : Turn). t.session.role < g.roles) ts (flat tss) (round-roles g.roles ts 0 g.roles (omega arith) e.0) (rounds-roles g tss e.1)

-- no call failed in any
none-told : (ts : List Turn) → NoneFailed (map told_as ts)
none-told [] = tt
none-told (t ∷ ts) = (refl, none-told ts)

-- as visits with no choice
back : (ts : List Turn) → map turn_of (map alone ts) ≡ ts
back [] = refl
back (t ∷ ts) = ap (λ xs. t ∷ xs) (back ts)

backs : (tss : List (List Turn)) → map (map turn_of) (map (map alone) tss) ≡ tss
backs [] = refl
backs (ts ∷ tss) = ap (λ xs. xs ∷ map (map turn_of) (map (map alone) tss)) (back ts) ∙ ap (λ xss. ts ∷ xss) (backs tss)

flat-alone : (tss : List (List Turn)) → map alone (flat tss) ≡ flat (map (map alone) tss)
flat-alone tss = flat-map alone tss

all-visits : (tss : List (List Turn)) (ts : List Turn) → map alone (flat tss ++ ts) ≡ flat (map (map alone) tss) ++ map alone ts
all-visits tss ts = map-append alone (flat tss) ts ∙ ap (λ xs. xs ++ map alone ts) (flat-alone tss)

alone-none : (ts : List Turn) → Each C.NoChoice (all_alone ts)
alone-none [] = tt
alone-none (t ∷ ts) = (refl, alone-none ts)

none-later : (ts : List Turn) → NoneLater (all_alone ts)
none-later [] = tt
none-later (t ∷ ts) = alone-none ts

-- ---- the sites that offices show

office-turns : (r : Rules) (os us : List Office) (ss : List Site) (xs : List W.Session) → AllAre (ShowsBy r) os ss → AreHonest OfficeAnswers os us
    xs → (zs : List Site) × AreHonest (answers r) ss zs xs × AllAre (ShowsBy r) us zs
office-turns r = offices-over Office (λ o s. IsShown _ o.site s) (λ o. o.site.space.accepted.now.grammar) (λ o. o.typed.now) OfficeAnswers (λ o p f x a. a) r

-- where the courier answered that all is quiet
quiet-then : (r : Rules) (before : List (List Turn)) (last : List Turn) → WorldIsHonest r → QuietOverHonest r.words r.grammar before last → GrammarSized r.grammar →
    AreTurns size r.grammar (new_courier r.grammar) (sessions_of (flat before ++ last)) → Each (λ (t : Turn). t.session.role < r.grammar.roles)
    (flat before ++ last) → Each (IsHeard r.grammar) (flat before ++ last) →
    (os us : List Office) → AreHonest OfficeAnswers os us (map told_as (flat before ++ last)) →
    (loads : Bool) (es : List Move) → Each (MayCome r.grammar) es → Each MoveSized es → AllAre (ShowsBy r) os (world_after r.grammar loads es).sites → IsQuietThen r loads es (flat before ++ last) us
quiet-then r before last world over sized turns roles heard os us answered loads es ok moves shown =
    let g = r.grammar in
    let ss = (world_after g loads es).sites in
    let ts = flat before ++ last in
    let o = office-turns r os us ss (map told_as ts) shown answered in
    let h = world sized loads es ok moves o.0 ts turns roles heard o.1 in
    let same = all-visits before last in
    let q = over loads es ok moves (map (map alone) before) (map alone last) (backs before) (back last)
    (subst (λ vs. Each (ChoicesOk g) (map visit_of vs)) same (alone-ok g ts)) (subst (λ vs. Each ChoicesSized (map visit_of vs)) same (alone-sized ts)) (none-later last)
    (subst (λ vs. IsHonest r.words g ss vs) same h.0) in
    record {
      honest = h.0;
      events = q.0;
      pushed = subst (λ vs. ReadAs g (world_after g loads es) (happenings (visit_frames g (map visit_of vs))) q.0) (sym same) q.1;
      may_come = q.2;
      shown = subst (λ zs. AllAre (ShowsBy r) us zs) (h.1 ∙ ap (λ vs. sites_after g ss (visit_frames g (map visit_of vs))) same ∙ sym q.3) o.2;
      quiet = q.4;
    }

-- where it answered that its rounds are spent
spent-then : (r : Rules) (before : List (List Turn)) (made : ℕ) → WorldIsHonest r → BoundOverHonest r.words r.grammar before made → GrammarSized r.grammar →
    AreTurns size r.grammar (new_courier r.grammar) (sessions_of (flat before)) → Each (λ (t : Turn). t.session.role < r.grammar.roles) (flat before) → Each (IsHeard r.grammar) (flat before) →
    (os us : List Office) → AreHonest OfficeAnswers os us (map told_as (flat before)) →
    (loads : Bool) (es : List Move) → Each (MayCome r.grammar) es → Each MoveSized es → AllAre (ShowsBy r) os (world_after r.grammar loads es).sites → IsSpentThen r loads es (flat before) made
spent-then r before made world over sized turns roles heard os us answered loads es ok moves shown =
    let g = r.grammar in
    let ss = (world_after g loads es).sites in
    let o = office-turns r os us ss (map told_as (flat before)) shown answered in
    let h = world sized loads es ok moves o.0 (flat before) turns roles heard o.1 in
    let same = flat-alone before in
    record {
      honest = h.0;
      few = over loads es ok moves (map (map alone) before) (backs before) (subst (λ vs. Each C.NoChoice (map visit_of vs)) same
          (alone-none (flat before))) (subst (λ vs. IsHonest r.words g ss vs) same h.0);
    }

-- what was carried, with what that means for the sites
pub means-at-sites : (g : declared.Grammar) → InvariantHolds (grammar_of g) → BytesAreHonest (grammar_of g) → GrammarSized (grammar_of g) →
    {W' : Type 0} (content : W' → Option Content) (faults failed_openings : W' → ℕ) (rounds : ℕ) (u v : W') (os us : List Office) →
    (r : Result Carried CarryFault) → IfOk r (MeansOverHonest (words_of g) (grammar_of g) content faults failed_openings rounds u v) →
    ((xs : List W.Session) → Both (Follow xs) (content u) (content v) → NoneFailed xs → AreHonest OfficeAnswers os us xs) → IfOk r (MeansAtSites g content faults failed_openings rounds u v os us)
means-at-sites g holds law sized {W'} content faults failed_openings rounds u v os us (Ok Quiet) q answer =
    let ts = flat q.quiet.before ++ q.quiet.last in
    let answered = answer (map told_as ts) q.quiet.made.told (none-told ts) in
    let G = grammar_of g in
    let roles = each_append (λ (t : Turn). t.session.role < G.roles) (flat q.quiet.before) q.quiet.last
    (rounds-roles G q.quiet.before q.quiet.call.each) (round-roles G.roles q.quiet.last 0 G.roles (omega arith) q.quiet.call.one) in
    record {
      quiet = q.quiet;
      answered = answered;
      world = λ t. quiet-then (rules_of g t) q.quiet.before q.quiet.last (world-honest (rules_of g t) holds law) q.world sized q.quiet.made.ordered roles q.quiet.made.heard os us answered;
    }
means-at-sites g holds law sized {W'} content faults failed_openings rounds u v os us (Ok RoundsSpent) q answer =
    let ts = flat q.spent.before in
    let answered = answer (map told_as ts) q.spent.made.told (none-told ts) in
    record {
      spent = q.spent;
      answered = answered;
      world = λ t. spent-then (rules_of g t) q.spent.before rounds (world-honest (rules_of g t) holds law) q.world sized q.spent.made.ordered
          (rounds-roles (grammar_of g) q.spent.before q.spent.call.each) q.spent.made.heard os us answered;
    }
means-at-sites g holds law sized {W'} content faults failed_openings rounds u v os us (Err e) q answer = tt
