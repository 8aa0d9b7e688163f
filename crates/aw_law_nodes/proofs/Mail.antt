-- What the laws on nodes use of a world.
use Rattle.std.specs.Prelude.{◌≡◌, ℕ, ◌<◌, Bool, true, List, length, ◌⊎◌}
use Rattle.aw_list.specs.Members.{Member}
use Rattle.aw_term.specs.Choices.{Choice}
use Rattle.aw_term.specs.Rules.{Grammar}
use Rattle.aw_term.specs.WellFormed.{Each}
use Rattle.aw_base.specs.ChoiceFits.{choice_ok}
use Rattle.aw_apply.specs.Messages.{Message, New, Repeat}
use Rattle.aw_law_sites.specs.Homes.{home}
use Rattle.aw_law_sites.specs.Reacting.{receive}
use Rattle.aw_law_sites.specs.Sites.{Reaction}
use Rattle.aw_law_sites.specs.Worlds.{node_of, World, site_at, Move, Chooses}
use Rattle.aw_law_worlds.specs.Invariant.{sender, IsSent}
use Rattle.aw_law_worlds.specs.Laws.{HomesAreRoles, InvariantHolds, Knowledge, MayCome, world_after}

-- the messages of a world are those of the outboxes, each is for a role, was sent once, and is new or a repeat where it comes
pub record Mail (g : Grammar) (w : World) : Type 0 where
  pub sites : length w.sites ≡ g.roles
  pub marks : length w.delivered ≡ length w.messages
  pub roles : (a : ℕ) → (site_at w a).role ≡ a
  pub boxes : (a : ℕ) (m : Message) → Member m (site_at w a).outbox → Member m w.messages × (sender g m.kind ≡ a)
  pub boxed : (m : Message) → Member m w.messages → Member m (site_at w (sender g m.kind)).outbox
  pub within : (m : Message) → Member m w.messages → m.to < g.roles
  pub once : (j k : ℕ) (m : Message) → IsSent w m j → IsSent w m k → j ≡ k
  pub known : (k : ℕ) (m : Message) → IsSent w m k → (receive g (site_at w m.to) m ≡ Repeat) ⊎ ((y : Reaction) × (receive g (site_at w m.to) m ≡ New y))

-- it holds of every world of the grammar
pub record Given (g : Grammar) : Type 0 where
  pub good : (c : Choice) → choice_ok g c ≡ true → MayCome g (Chooses c)
  pub homes : (c : Choice) → MayCome g (Chooses c) → home g (node_of c) < g.roles
  pub mail : (loads : Bool) (es : List Move) → Each (MayCome g) es → Mail g (world_after g loads es)

-- every world of which the laws of worlds hold has it
pub given : (g : Grammar) → InvariantHolds g → Knowledge g → HomesAreRoles g → Given g
given g invariant knowledge homes = record {
  good = λ c e. e;
  homes = homes;
  mail = λ loads es may.
      let (x, I) = invariant loads es may in
      record {
        sites = I.sites;
        marks = I.marks;
        roles = I.roles;
        boxes = I.boxes;
        boxed = I.boxed;
        within = I.addressed;
        once = λ j k m e f. (I.once k m f).1 j e;
        known = knowledge loads es may;
      };
}
