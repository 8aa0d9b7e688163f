-- What a courier leads to.
use Rattle.std.proofs.Common.{◌≡◌, ℕ, List, [], refl, sym, ap, ◌∙◌, subst, inl, inr}
use Rattle.aw_term.specs.Artifacts.{Words}
use Rattle.aw_term.specs.Rules as R
use Rattle.aw_term.specs.Rules.{get}
use Rattle.aw_grammar.specs.declared.grammar.Grammar.{Grammar}
use Rattle.aw_grammar.specs.GrammarOf.{grammar_of, words_of, declarations_of}
use Rattle.aw_grammar.specs.Declarations.{grammar_in, words_in}
use Rattle.aw_grammar.proofs.Entries.{declared_words, declared_grammar}
use Rattle.aw_out.specs.Causes.{Rose}
use Rattle.aw_out.specs.declared.edge.Wire as wires
use Rattle.aw_session.specs.Talking.{Counts}
use Rattle.aw_courier.specs.Asking.{is_net}
use Rattle.aw_courier.specs.Carrying as courier
use Rattle.aw_courier.specs.Carrying.{fault_at}
use Rattle.aw_courier.specs.Honest.{MeansOverHonest}
use Rattle.aw_courier.specs.declared.broken.Broken.{Broken}
use Rattle.aw_courier.specs.declared.broken.Broken.TheVariants as broken
use Rattle.aw_courier.specs.declared.carrying.Carried.{Carried}
use Rattle.aw_courier.specs.declared.carrying.Carried.TheVariants.{Quiet, RoundsSpent}
use Rattle.aw_courier.specs.declared.carrying.CarryFault.{CarryFault}
use Rattle.aw_courier.specs.declared.carrying.CarryFault.TheVariants as fault
use Rattle.aw_spec.specs.Reading.{Spec}
use Rattle.aw_front.specs.declared.reply.Reply.{Reply}
use Rattle.aw_front.specs.declared.reply.Status.TheVariants.{Done, NoMemory}
use Rattle.aw_run.specs.Devices.{wired}
use Rattle.aw_front.specs.Output.{Writes, NoReplyOf}
use Rattle.aw_front.specs.Replies.{Replies, reply, reply_with}
use Rattle.aw_run.specs.Carrying.{BreaksOffBy, CarriesFor, CarriesOver, CarriedMeans, StopsCourier, WasCarried, carried_line}

grammar-same : (s : Spec) (g : Grammar) → s.declared ≡ declarations_of g → grammar_of g ≡ grammar_in s.declared
grammar-same s g same = declared_grammar g ∙ ap grammar_in (sym same)

words-same : (s : Spec) (g : Grammar) → s.declared ≡ declarations_of g → words_of g ≡ words_in s.declared
words-same s g same = declared_words g ∙ ap words_in (sym same)

-- what was carried between the roles of a grammar, was carried between those of its specification
pub was-carried : {W : Type 0} (w : wires.Ghosts W) (u v : W) (s : Spec) (g : Grammar) (rounds : ℕ) (carried : Carried) (line : List ℕ) → s.declared ≡ declarations_of g →
    courier.Carries (grammar_of g) w.content w.faults w.failed_openings rounds u v carried →
    ∥ MeansOverHonest (words_of g) (grammar_of g) w.content w.faults w.failed_openings rounds u v carried ∥₁ →
    line ≡ carried_line carried → WasCarried s rounds (wired w u v) (Writes line)
was-carried w u v s g rounds carried line same carries world is =
    let for_spec : CarriesFor s rounds (wired w u v) carried =
    subst (λ (h : R.Grammar). courier.Carries h w.content w.faults w.failed_openings rounds u v carried) (grammar-same s g same) carries in
    let means : CarriedMeans s rounds (wired w u v) carried =
    subst (λ (h : R.Grammar). ∥ MeansOverHonest (words_in s.declared) h w.content w.faults w.failed_openings rounds u v carried ∥₁) (grammar-same s g same)
    (subst (λ (y : Words). ∥ MeansOverHonest y (grammar_of g) w.content w.faults w.failed_openings rounds u v carried ∥₁) (words-same s g same) world) in
    record { carried = carried; carries = for_spec; world = means; writes = ap Writes is }

-- and is told
pub carried-told : {W : Type 0} (w : wires.Ghosts W) (u v : W) (s : Spec) (g : Grammar) (rounds : ℕ) (carried : Carried) (line : List ℕ) (said : Reply) → s.declared ≡ declarations_of g →
    courier.Carries (grammar_of g) w.content w.faults w.failed_openings rounds u v carried →
    ∥ MeansOverHonest (words_of g) (grammar_of g) w.content w.faults w.failed_openings rounds u v carried ∥₁ →
    line ≡ carried_line carried → said ≡ reply Done line → Replies (CarriesOver rounds (wired w u v) s) said
carried-told w u v s g rounds carried line said same carries world is told = (Writes line, inl (was-carried w u v s g rounds carried line same carries world is), told)

-- memory ran out for the line
pub line-lost : {W : Type 0} (w : wires.Ghosts W) (u v : W) (s : Spec) (g : Grammar) (rounds : ℕ) (carried : Carried) → s.declared ≡ declarations_of g →
    courier.Carries (grammar_of g) w.content w.faults w.failed_openings rounds u v carried →
    ∥ MeansOverHonest (words_of g) (grammar_of g) w.content w.faults w.failed_openings rounds u v carried ∥₁ → StopsCourier s rounds (wired w u v) NoMemory
line-lost w u v s g rounds carried same carries world =
    inr (Writes (carried_line carried), inl (was-carried w u v s g rounds carried (carried_line carried) same carries world refl))

-- a courier that broke off, of a grammar and of its specification
pub breaks-off : {W : Type 0} (w : wires.Ghosts W) (u v : W) (s : Spec) (g : Grammar) (rounds : ℕ) (why : CarryFault) → s.declared ≡ declarations_of g →
    courier.IsBrokenOff (grammar_of g) w.content w.faults rounds u v why → BreaksOffBy s rounds (wired w u v) why
breaks-off w u v s g rounds why same is = subst (λ (h : R.Grammar). courier.IsBrokenOff h w.content w.faults rounds u v why) (grammar-same s g same) is

-- the role whose reply is none is named
pub unheard-told : {W : Type 0} (w : wires.Ghosts W) (u v : W) (s : Spec) (g : Grammar) (rounds role : ℕ) (said : Reply) → s.declared ≡ declarations_of g →
    courier.IsBrokenOff (grammar_of g) w.content w.faults rounds u v (fault.BadReply role) →
    said ≡ reply_with (NoReplyOf (get [] (words_of g).roles role)) → Replies (CarriesOver rounds (wired w u v) s) said
unheard-told w u v s g rounds role said same is told = (
  NoReplyOf (get [] (words_in s.declared).roles role),
  inr (record { role = role; broken = breaks-off w u v s g rounds (fault.BadReply role) same is; names = refl }),
  told ∙ ap (λ (y : Words). reply_with (NoReplyOf (get [] y.roles role))) (words-same s g same),
)

-- memory ran out for its name
pub name-lost : {W : Type 0} (w : wires.Ghosts W) (u v : W) (s : Spec) (g : Grammar) (rounds role : ℕ) → s.declared ≡ declarations_of g →
    courier.IsBrokenOff (grammar_of g) w.content w.faults rounds u v (fault.BadReply role) → StopsCourier s rounds (wired w u v) NoMemory
name-lost w u v s g rounds role same is =
    inr (NoReplyOf (get [] (words_in s.declared).roles role), inr (record { role = role; broken = breaks-off w u v s g rounds (fault.BadReply role) same is; names = refl }))

-- the count of faults rose where a call failed
net-counts : (at role old new : ℕ) (why : Broken) → fault.NetFault role ≡ fault_at at why → Counts (is_net why) old new → Rose old new
net-counts at role old new broken.Net is counts = counts.1
net-counts at role old new broken.Reply is counts = absurd (cc (is))
net-counts at role old new broken.NoMemory is counts = absurd (cc (is))

pub carry-rose : {W : Type 0} (w : wires.Ghosts W) (u v : W) (g : R.Grammar) (rounds role : ℕ) → courier.IsBrokenOff g w.content w.faults rounds u v
    (fault.NetFault role) → Rose (w.faults u) (w.faults v)
carry-rose w u v g rounds role is = net-counts is.role role (w.faults u) (w.faults v) is.why is.is is.counts

-- and stayed where none did
counts-stayed : (at old new : ℕ) (why : Broken) (told : CarryFault) → told ≡ fault_at at why → ((role : ℕ) → told ≡ fault.NetFault role → ⊥) → Counts (is_net why) old new → new ≡ old
counts-stayed at old new broken.Net told is other counts = absurd (other at is)
counts-stayed at old new broken.Reply told is other counts = counts
counts-stayed at old new broken.NoMemory told is other counts = counts

pub broken-kept : {W : Type 0} (w : wires.Ghosts W) (u v : W) (g : R.Grammar) (rounds : ℕ) (why : CarryFault) → ((role : ℕ) → why ≡ fault.NetFault role → ⊥) →
    courier.IsBrokenOff g w.content w.faults rounds u v why → w.faults v ≡ w.faults u
broken-kept w u v g rounds why other is = counts-stayed is.role (w.faults u) (w.faults v) is.why why is.is other is.counts

pub carried-kept : {W : Type 0} (w : wires.Ghosts W) (u v : W) (g : R.Grammar) (rounds : ℕ) (carried : Carried) →
    courier.Carries g w.content w.faults w.failed_openings rounds u v carried → w.faults v ≡ w.faults u
carried-kept w u v g rounds Quiet is = is.made.counts
carried-kept w u v g rounds RoundsSpent is = is.made.counts
