-- What the node of a role leads to.
use Rattle.std.proofs.Common.{◌≡◌, ◌⊎◌, ℕ, ◌≤◌, ◌<◌, List, length, true, refl, sym, ap, ◌∙◌, subst, inl, inr, Option, None, Some}
use Rattle.std.specs.Prelude.{codes}
use Rattle.aw_sched.proofs.LookedUp.{named_within}
use Rattle.aw_term.specs.Artifacts.{Words}
use Rattle.aw_term.specs.Rules as R
use Rattle.aw_grammar.specs.declared.grammar.Grammar.{Grammar}
use Rattle.aw_grammar.specs.GrammarOf.{grammar_of, words_of, declarations_of}
use Rattle.aw_grammar.specs.Declarations.{grammar_in, words_in}
use Rattle.aw_grammar.specs.Named.{number_named}
use Rattle.aw_grammar.proofs.Entries.{declared_words, declared_grammar}
use Rattle.aw_out.specs.Causes.{Rose}
use Rattle.aw_out.specs.declared.edge.Wire as wires
use Rattle.aw_disk.specs.declared.edge.Disk as disks
use Rattle.aw_kept_node.specs.Serving.{IsKeptServing, StopsKept}
use Rattle.aw_kept_node.specs.declared.fault.KeptFault.{KeptFault}
use Rattle.aw_kept_node.specs.declared.fault.KeptFault.TheVariants as fault
use Rattle.aw_law_sites.specs.Sites.{Site, empty_site}
use Rattle.aw_session.specs.Sessions.{NoneComes}
use Rattle.aw_session.specs.declared.log.SessionLog.{SessionLog}
use Rattle.aw_node.specs.TypedNodes.{Rules, rules_of}
use Rattle.aw_node.specs.Serving.{Serves, Stops}
use Rattle.aw_node.specs.declared.serving.ServeFault.{ServeFault}
use Rattle.aw_typed.specs.Types as T
use Rattle.aw_typed.specs.Typing.{types_of}
use Rattle.aw_typed.specs.declared.data.Typed.{Typed}
use Rattle.aw_spec.specs.Reading.{Spec}
use Rattle.aw_spec_writer.specs.SpecLines.{written}
use Rattle.aw_front.specs.declared.reply.Reply.{Reply}
use Rattle.aw_front.specs.declared.reply.Status.TheVariants.{Done, Usage, NoMemory}
use Rattle.aw_run.specs.declared.reply.Stop.{Stop}
use Rattle.aw_run.specs.declared.reply.Stop.TheVariants as stop
use Rattle.aw_run.specs.Devices.{Devices, Wired}
use Rattle.aw_front.specs.Output.{Output, Writes, UnknownRole}
use Rattle.aw_front.specs.Replies.{Replies, reply}
use Rattle.aw_run.specs.Serving.{rules_in, role_in, session_lines, ByNumber, ServesRole}
use Rattle.aw_run.specs.Keeping.{EndsBy, KeepsRole, StopsRole}
use Rattle.aw_run.specs.Statuses.{IsRefusal, status_of_stop, stop_of}
use Rattle.aw_run.specs.Unserved.{IsServedUntil, StopsNode}

abbrev with_parts : Words → T.Types → R.Grammar → Rules
with_parts w t g = record { words = w; types = t; grammar = g }

-- a specification and the grammar that was made of it are served alike
rules-same : (s : Spec) (g : Grammar) (t : Typed) → s.declared ≡ declarations_of g → s.types ≡ t.types → rules_of g t ≡ rules_in s
rules-same s g t same typed =
    ap (λ w. with_parts w (types_of t.types) (grammar_of g)) (declared_words g ∙ ap words_in (sym same))
    ∙ ap (λ y. with_parts (words_in s.declared) y (grammar_of g)) (ap types_of (sym typed))
    ∙ ap (λ h. with_parts (words_in s.declared) (types_of s.types) h) (declared_grammar g ∙ ap grammar_in (sym same))

-- sessions that were served are told
pub serves-role : (x : Wired) (s : Spec) (g : Grammar) (t : Typed) (role sessions : ℕ) (logs : List SessionLog) (text : List ℕ) →
    s.declared ≡ declarations_of g → s.types ≡ t.types → Serves x.wire.content x.wire.faults x.wire.failed_openings (rules_of g t) role
    (empty_site true role) x.before x.after logs → length logs ≤ sessions →
    (length logs ≡ sessions) ⊎ NoneComes (x.wire.content x.after) → text ≡ session_lines 1 logs → Replies (ServesRole s role sessions x) (reply Done text)
serves-role x s g t role sessions logs text same typed is most all lines =
    let served : Serves x.wire.content x.wire.faults x.wire.failed_openings (rules_in s) role (empty_site true role) x.before x.after logs =
    subst (λ r. Serves x.wire.content x.wire.faults x.wire.failed_openings r role (empty_site true role) x.before x.after logs) (rules-same s g t same typed) is in
    (Writes text, record { logs = logs; served = served; most = most; all = all; writes = ap Writes lines }, refl)

-- a role is served no further, for this reason
pub served-until : (x : Wired) (s : Spec) (g : Grammar) (t : Typed) (role : ℕ) (why : ServeFault) → s.declared ≡ declarations_of g → s.types ≡ t.types →
    Stops x.wire.content x.wire.failed_openings (rules_of g t) role (empty_site true role) x.before x.after why → IsServedUntil s role x why
served-until x s g t role why same typed is = subst (λ r. Stops x.wire.content x.wire.failed_openings r role (empty_site true role) x.before x.after why) (rules-same s g t same typed) is

-- memory ran out for its lines
pub node-lines-lost : (x : Wired) (s : Spec) (g : Grammar) (t : Typed) (role sessions : ℕ) (logs : List SessionLog) → s.declared ≡ declarations_of g → s.types ≡ t.types →
    Serves x.wire.content x.wire.faults x.wire.failed_openings (rules_of g t) role (empty_site true role) x.before x.after logs → length logs ≤ sessions →
    (length logs ≡ sessions) ⊎ NoneComes (x.wire.content x.after) → StopsNode s role sessions x NoMemory
node-lines-lost x s g t role sessions logs same typed is most all = let said = serves-role x s g t role sessions logs (session_lines 1 logs) same typed is most all refl in inr (said.0, said.1)

-- sessions of a kept role that were served are told
pub keeps-role : (x : Devices) (s : Spec) (g : Grammar) (t : Typed) (role sessions : ℕ) (spelled : List ℕ) (logs : List SessionLog) (text : List ℕ) →
    s.declared ≡ declarations_of g → s.types ≡ t.types → spelled ≡ written s →
    IsKeptServing x.wire x.disk (rules_of g t) role spelled (empty_site true role) x.wire_before x.wire_after x.disk_before x.disk_after logs →
    length logs ≤ sessions → (length logs ≡ sessions) ⊎ NoneComes (x.wire.content x.wire_after) → text ≡ session_lines 1 logs → Replies (KeepsRole s role sessions x) (reply Done text)
keeps-role x s g t role sessions spelled logs text same typed spells is most all lines =
    let kept : IsKeptServing x.wire x.disk (rules_in s) role (written s) (empty_site true role) x.wire_before x.wire_after x.disk_before x.disk_after logs =
    subst (λ r. IsKeptServing x.wire x.disk r role (written s) (empty_site true role) x.wire_before x.wire_after x.disk_before x.disk_after logs) (rules-same s g t same typed)
    (subst (λ y. IsKeptServing x.wire x.disk (rules_of g t) role y (empty_site true role) x.wire_before x.wire_after x.disk_before x.disk_after logs) spells is) in
    (Writes text, record { logs = logs; kept = kept; most = most; all = all; writes = ap Writes lines }, refl)

-- a kept role is served no further, for this reason
pub ends-by : (x : Devices) (s : Spec) (g : Grammar) (t : Typed) (role : ℕ) (spelled : List ℕ) (why : KeptFault) → s.declared ≡ declarations_of g → s.types ≡ t.types → spelled ≡ written s →
    StopsKept x.wire x.disk (rules_of g t) role spelled (empty_site true role) x.wire_before x.wire_after x.disk_before x.disk_after why → EndsBy s role x why
ends-by x s g t role spelled why same typed spells is =
    subst (λ r. StopsKept x.wire x.disk r role (written s) (empty_site true role) x.wire_before x.wire_after x.disk_before x.disk_after why) (rules-same s g t same typed)
    (subst (λ y. StopsKept x.wire x.disk (rules_of g t) role y (empty_site true role) x.wire_before x.wire_after x.disk_before x.disk_after why) spells is)

-- and the status tells it
pub stops-role : (s : Spec) (role sessions : ℕ) (x : Devices) (why : KeptFault) (stop : Stop) → stop ≡ stop_of why → EndsBy s role x why → StopsRole s role sessions x (status_of_stop stop)
stops-role s role sessions x fault.NetFault stop is ends = subst (λ (z : Stop). StopsRole s role sessions x (status_of_stop z)) (sym is) ends
stops-role s role sessions x fault.DiskFault stop is ends = subst (λ (z : Stop). StopsRole s role sessions x (status_of_stop z)) (sym is) ends
stops-role s role sessions x fault.BadHead stop is ends = subst (λ (z : Stop). StopsRole s role sessions x (status_of_stop z)) (sym is) (inl ends)
stops-role s role sessions x (fault.BadEvent number) stop is ends = subst (λ (z : Stop). StopsRole s role sessions x (status_of_stop z)) (sym is) (inr (number, ends))
stops-role s role sessions x fault.Full stop is ends = subst (λ (z : Stop). StopsRole s role sessions x (status_of_stop z)) (sym is) ends
stops-role s role sessions x fault.NoMemory stop is ends = subst (λ (z : Stop). StopsRole s role sessions x (status_of_stop z)) (sym is) (inl ends)

-- the causes of two of them
pub net-rose : {W D : Type 0} (w : wires.Ghosts W) (d : disks.Ghosts D) (r : Rules) (role : ℕ) (text : List ℕ) (s : Site) (u v : W) (old new : D)
    (why : KeptFault) → StopsKept w d r role text s u v old new why → stop_of why ≡ stop.NetFault → Rose (w.failed_openings u) (w.failed_openings v)
net-rose w d r role text s u v old new fault.NetFault ends is = ends.served.rose
net-rose w d r role text s u v old new fault.DiskFault ends is = absurd (cc (is))
net-rose w d r role text s u v old new fault.BadHead ends is = absurd (cc (is))
net-rose w d r role text s u v old new (fault.BadEvent number) ends is = absurd (cc (is))
net-rose w d r role text s u v old new fault.Full ends is = absurd (cc (is))
net-rose w d r role text s u v old new fault.NoMemory ends is = absurd (cc (is))

pub disk-rose : {W D : Type 0} (w : wires.Ghosts W) (d : disks.Ghosts D) (r : Rules) (role : ℕ) (text : List ℕ) (s : Site) (u v : W) (old new : D)
    (why : KeptFault) → StopsKept w d r role text s u v old new why → stop_of why ≡ stop.DiskFault → Rose (d.faults old) (d.faults new)
disk-rose w d r role text s u v old new fault.NetFault ends is = absurd (cc (is))
disk-rose w d r role text s u v old new fault.DiskFault ends is = ends.0
disk-rose w d r role text s u v old new fault.BadHead ends is = absurd (cc (is))
disk-rose w d r role text s u v old new (fault.BadEvent number) ends is = absurd (cc (is))
disk-rose w d r role text s u v old new fault.Full ends is = absurd (cc (is))
disk-rose w d r role text s u v old new fault.NoMemory ends is = absurd (cc (is))

-- the number of a role that is found by its name
pub named-at : (g : Grammar) (name : List ℕ) (role : ℕ) → Some role ≡ number_named (words_of g).roles name → role < (grammar_of g).roles
named-at g name role is = named_within (words_of g).roles name role is

pub found-in : (s : Spec) (g : Grammar) (name : List ℕ) (found : Option ℕ) → s.declared ≡ declarations_of g → found ≡ number_named (words_of g).roles name → found ≡ role_in s name
found-in s g name found same is = is ∙ ap (λ (w : Words). number_named w.roles name) (declared_words g ∙ ap words_in (sym same))

by-number : (P : ℕ → Output → Type 0) (said : Reply) (s : Spec) (g : Grammar) (name : List ℕ) (found : Option ℕ) → s.declared ≡ declarations_of g → found ≡ number_named (words_of g).roles name →
    Replies (ByNumber P found) said → Replies (ByNumber P (role_in s name)) said
by-number P said s g name found same is replies = subst (λ o. Replies (ByNumber P o) said) (found-in s g name found same is) replies

-- the role of a name
pub by-some : (P : ℕ → Output → Type 0) (said : Reply) (s : Spec) (g : Grammar) (name : List ℕ) (role : ℕ) → s.declared ≡ declarations_of g → Some role ≡ number_named (words_of g).roles name →
    Replies (P role) said → Replies (ByNumber P (role_in s name)) said
by-some P said s g name role same is replies = by-number P said s g name (Some role) same is replies

-- a name of no role
pub by-none : (P : ℕ → Output → Type 0) (said : Reply) (s : Spec) (g : Grammar) (name : List ℕ) → s.declared ≡ declarations_of g → None ≡ number_named (words_of g).roles name →
    said ≡ reply Usage (codes "usage\n") → Replies (ByNumber P (role_in s name)) said
by-none P said s g name same is told = by-number P said s g name None same is (UnknownRole, refl, told)

-- memory ran out for the lines of a kept role
pub lines-lost : (x : Devices) (s : Spec) (g : Grammar) (t : Typed) (role sessions : ℕ) (spelled : List ℕ) (logs : List SessionLog) →
    s.declared ≡ declarations_of g → s.types ≡ t.types → spelled ≡ written s →
    IsKeptServing x.wire x.disk (rules_of g t) role spelled (empty_site true role) x.wire_before x.wire_after x.disk_before x.disk_after logs →
    length logs ≤ sessions → (length logs ≡ sessions) ⊎ NoneComes (x.wire.content x.wire_after) → StopsRole s role sessions x NoMemory
lines-lost x s g t role sessions spelled logs same typed spells is most all =
    let said = keeps-role x s g t role sessions spelled logs (session_lines 1 logs) same typed spells is most all refl in
    inr (said.0, said.1)

-- what is done is no refusal
pub done-no-refusal : {A : Type 0} (said : Reply) → said.status ≡ Done → IsRefusal said.status → A
done-no-refusal said done refusal = absurd (rw done at refusal)
