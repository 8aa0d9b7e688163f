-- Desks that are related one by one to simpler ones.
use Rattle.std.specs.Prelude.{ℕ, List, [], ◌∷◌}
use Rattle.aw_msg.specs.Frames.{Frame}
use Rattle.aw_msg.specs.Streams.{Stream}
use Rattle.aw_desk_wire.specs.Calls.{Calls}
use Rattle.aw_desk_wire.specs.Honest.{WasHonest}

-- each desk is related to the other one of its role
abbrev pub AllAre : {D P : Type 0} → (D → P → Type 0) → List D → List P → Type 0
AllAre {D} {P} R [] [] = Unit {0}
AllAre {D} {P} R [] (p ∷ ps) = ⊥
AllAre {D} {P} R (d ∷ ds) [] = ⊥
AllAre {D} {P} R (d ∷ ds) (p ∷ ps) = R d p × AllAre R ds ps

-- what a desk answers its simpler one answers too, and they are related then as before
abbrev pub AnswerAlike : {D P : Type 0} → (D → P → Type 0) → (D → Frame → List ℕ → D → Type 0) → (P → Frame → List ℕ → P → Type 0) → Type 0
AnswerAlike {D} {P} R A B = (d e : D) (p : P) (f : Frame) (x : List ℕ) → A d f x e → R d p → (q : P) × B p f x q × R e q

-- a wire that was honest for the desks was so for the simpler ones, and the desks are related to those then as before
abbrev pub HonestAlike : {D P : Type 0} → (D → P → Type 0) → (D → Frame → List ℕ → D → Type 0) → (P → Frame → List ℕ → P → Type 0) → Type 0
HonestAlike {D} {P} R A B = (ds es : List D) (ps : List P) (kept : Stream) (cs : Calls) → AllAre R ds ps → WasHonest A ds es kept cs → (qs : List P) × WasHonest B ps qs kept cs × AllAre R es qs
