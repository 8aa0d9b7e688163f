-- The workspace behind one event more.
use Rattle.std.proofs.Common.{◌≡◌, ℕ, Bool, true, false, List, [], ◌∷◌, ◌++◌, Result, Ok, Err, sym, subst}
use Rattle.std.specs.Prelude.{IfOk, OnOk, OnErr}
use Rattle.aw_cells.specs.contracts.cells.CellFactsFacts.TheImpl as cells
use Rattle.aw_journal.specs.Events.{Event}
use Rattle.aw_kept_node.specs.KeptEvents.{is_kept, frame_for, after_event, site_by, AreKept}
use Rattle.aw_kept_node.proofs.KeptSites.{kept-push, by-push, no-news}
use Rattle.aw_law_sites.specs.Sites.{empty_site}
use Rattle.aw_node.specs.TypedNodes.{Rules}
use Rattle.aw_site.specs.Seen.{IsShown}
use Rattle.aw_book_join.specs.declared.replica.Replica.{Replica}
use Rattle.aw_book_join.specs.Replicas.{rules_in, site_of, IsReplica, Follows}

-- what the events before made, an event, and what it is told to be
pub follows : (x y : Replica) (role : ℕ) (events : List Event) (e : Event) (b : Bool) → rules_in y ≡ rules_in x → AreKept (rules_in x) (empty_site true role) events →
    b ≡ is_kept (rules_in x) (site_of (rules_in x) role events) e →
    IsShown cells.ghosts y.site (after_event (rules_in x) (site_of (rules_in x) role events) e) → Follows y role events e b
follows x y role events e true same kept is shown =
    let r = rules_in x in
    let s = empty_site true role in
    record {
      kept = subst (λ (u : Rules). AreKept u s (events ++ e ∷ [])) (sym same) (kept-push r s events e kept (sym is));
      shown = subst (λ (u : Rules). IsShown cells.ghosts y.site (site_by u s (events ++ e ∷ []))) (sym same) (subst (IsShown cells.ghosts y.site) (sym (by-push r s events e)) shown);
    }
follows x y role events e false same kept is shown =
    let r = rules_in x in
    let s = empty_site true role in
    let before = site_of r role events in
    let still = subst (IsShown cells.ghosts y.site) (no-news r before (frame_for e) (sym is)) shown in (
      subst (λ (u : Rules). is_kept u (site_of u role events) e ≡ false) (sym same) (sym is),
      record {
        kept = subst (λ (u : Rules). AreKept u s events) (sym same) kept;
        shown = subst (λ (u : Rules). IsShown cells.ghosts y.site (site_of u role events)) (sym same) still;
      },
    )

-- the same of a result
pub follows-all : {E : Type 0} (x y : Replica) (role : ℕ) (events : List Event) (e : Event) (r : Result Bool E) → rules_in y ≡ rules_in x → IsReplica x role events →
    IfOk r (λ news. news ≡ is_kept (rules_in x) (site_of (rules_in x) role events) e) → OnOk r (IsShown cells.ghosts y.site (after_event (rules_in x) (site_of (rules_in x) role events) e)) →
    IfOk r (Follows y role events e)
follows-all x y role events e (Ok b) same h news site = follows x y role events e b same h.kept news site
follows-all x y role events e (Err fault) same h news site = tt

pub stays-all : {E : Type 0} (x y : Replica) (role : ℕ) (events : List Event) (r : Result Bool E) → rules_in y ≡ rules_in x → IsReplica x role events →
    OnErr r (IsShown cells.ghosts y.site (site_of (rules_in x) role events)) → OnErr r (IsReplica y role events)
stays-all x y role events (Ok b) same h site = tt
stays-all x y role events (Err fault) same h site = record {
  kept = subst (λ (u : Rules). AreKept u (empty_site true role) events) (sym same) h.kept;
  shown = subst (λ (u : Rules). IsShown cells.ghosts y.site (site_of u role events)) (sym same) site;
}
