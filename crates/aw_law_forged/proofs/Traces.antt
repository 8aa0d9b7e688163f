-- What a message that was sent leaves at its site: nodes that are developed, questions, watchers.
use Rattle.std.specs.Prelude.{filter, is_none, nat_eq, not}
use Rattle.std.proofs.Common.{◌≡◌, ℕ, Bool, true, false, List, [], ◌∷◌, ◌++◌, map, Some, None, refl, sym, ap, ◌∙◌, subst, inl, inr, append_assoc}
use Rattle.std.proofs.lemmas.Bool.{and_parts, or_left, or_right}
use Rattle.aw_list.specs.Members.{Member}
use Rattle.aw_list.proofs.Members.{member_split, member_unmap, never}
use Rattle.aw_term.specs.Configs.{Pending}
use Rattle.aw_term.specs.Held.{Held, held_of}
use Rattle.aw_term.specs.Names.{Node, Ref}
use Rattle.aw_term.specs.Rules.{Grammar}
use Rattle.aw_term.specs.Trees.{Never}
use Rattle.aw_term.specs.WellFormed.{Later}
use Rattle.aw_accept.proofs.Fitting.{each_member}
use Rattle.aw_store.specs.Equations.{Equation, find}
use Rattle.aw_apply.specs.Messages.{Kind, Calls, Asks, Tells, Message}
use Rattle.aw_law_sites.specs.Asking.{ask_message, asking, is_wanted}
use Rattle.aw_law_sites.specs.Homes.{has_steps, home, parent}
use Rattle.aw_law_sites.specs.InOrder.{has_ref, in_order}
use Rattle.aw_law_sites.specs.Sites.{Site}
use Rattle.aw_law_worlds.proofs.AskingLemmas.{has_ref-member}
use Rattle.aw_law_worlds.proofs.HeldLookups.{held_of-there}
use Rattle.aw_law_worlds.proofs.Lists.{Later-filter, Later-mapped, Member-filtered, later_both, once}
use Rattle.aw_law_worlds.proofs.Parts.{Apart, HeldBefore, Kin, KindKin}

-- ---- nodes that are developed

-- the node is held, and a rule was taken on it
abbrev pub IsDone : Node → List Held → Type 0
IsDone x hs = (h : Held) × Member h hs × (h.node ≡ x) × (h.state ≡ Pending → Never)

-- two held nodes of one name are one
pub same-held : (hs : List Held) → Later (λ (a b : Held). a.node ≡ b.node → Never) hs → (a b : Held) → Member a hs → Member b hs → a.node ≡ b.node → a ≡ b
same-held [] l a b i j e = never i
same-held (x ∷ xs) l a b (inl p) (inl q) e = p ∙ sym q
same-held (x ∷ xs) l a b (inl p) (inr j) e = never (each_member (λ (c : Held). x.node ≡ c.node → Never) xs b l.0 j (ap (λ (h : Held). h.node) (sym p) ∙ e))
same-held (x ∷ xs) l a b (inr i) (inl q) e = never (each_member (λ (c : Held). x.node ≡ c.node → Never) xs a l.0 i (ap (λ (h : Held). h.node) (sym q) ∙ sym e))
same-held (x ∷ xs) l a b (inr i) (inr j) e = same-held xs l.1 a b i j e

-- what is not found is not held
pub none-there : (hs : List Held) → Later (λ (a b : Held). a.node ≡ b.node → Never) hs → (n : Node) → held_of n hs ≡ None → (h : Held) → Member h hs → h.node ≡ n → Never
none-there hs l n e h i p = let f = held_of-there hs h n p (λ q j same. same-held hs l q h j i same) i in absurd (let no : None ≡ Some h = sym e ∙ f in cc no)

-- ---- what is kept of a site

-- a message that was sent leaves a trace: the parent is developed, the question is noted, or the reference's node is developed and its watcher is noted
abbrev pub Said : Site → ℕ → Kind → Type 0
Said s to (Calls c load) = IsDone (parent c.node) s.held
Said s to (Asks r from) = s.asked r ≡ true
Said s to (Tells e load) = (s.watches e.left to ≡ true) × IsDone e.left.node s.held

pub record Nodes (g : Grammar) (role : ℕ) (s : Site) : Type 0 where
  pub is : s.role ≡ role
  pub ordered : Later HeldBefore s.held
  pub developed : (e : Equation) → Member e s.equations → home g e.left.node ≡ role → IsDone e.left.node s.held
  pub children : (h : Held) → Member h s.held → has_steps h.node.steps ≡ true → home g (parent h.node) ≡ role → IsDone (parent h.node) s.held

abbrev pub AllSaid : Site → List Message → Type 0
AllSaid s xs = (m : Message) → Member m xs → Said s m.to m.kind

pub record Good (g : Grammar) (role : ℕ) (s : Site) : Type 0 where
  pub nodes : Nodes g role s
  pub said : AllSaid s s.outbox
  pub apart : Later Apart s.outbox

-- a trace stays
pub said-on : (s t : Site) → ((x : Node) → IsDone x s.held → IsDone x t.held) → ((r : Ref) → s.asked r ≡ true → t.asked r ≡ true)
    → ((r : Ref) (b : ℕ) → s.watches r b ≡ true → t.watches r b ≡ true) → (to : ℕ) (k : Kind) → Said s to k → Said t to k
said-on s t d a w to (Calls c load) i = d (parent c.node) i
said-on s t d a w to (Asks r from) i = a r i
said-on s t d a w to (Tells e load) i = (w e.left to i.0, d e.left.node i.1)

-- ---- questions

pub false-of : (b : Bool) → not b ≡ true → b ≡ false
false-of true e = absurd cc
false-of false e = refl

-- what is asked for was not asked for before
not-asked : (g : Grammar) (t : Site) (rs : List Ref) (r : Ref) → Member r (filter (is_wanted g t) (in_order rs)) → t.asked r ≡ true → Never
not-asked g t rs r i j =
    let q = (Member-filtered (is_wanted g t) r (in_order rs) i).1 in
    let v = (and_parts (not (nat_eq (home g r.node) t.role)) _ q).1 in
    let z = (and_parts (is_none (find t.equations r)) _ v).1 in
    let no : true ≡ false = sym j ∙ false-of _ z in
    absurd (cc no)

kin-ask : (k : Kind) (r : Ref) (a : ℕ) → KindKin k (Asks r a) → k ≡ Asks r a
kin-ask (Calls c load) r a z = never z
kin-ask (Asks s b) r a z = λ i. Asks (z.0 i) (z.1 i)
kin-ask (Tells e load) r a z = never z

-- a site sends some messages and then asks
pub asking-good : (g : Grammar) (role : ℕ) (t : Site) → Nodes g role t → (first : List Message) → AllSaid t (t.outbox ++ first) → Later Apart (t.outbox ++ first)
    → (rs : List Ref) → Good g role (asking g t first rs).site
asking-good g role t N first said apart rs =
    let wanted = filter (is_wanted g t) (in_order rs) in
    let asks = map (ask_message g t.role) wanted in
    let u = (asking g t first rs).site in
    let on : (m : Message) → Said t m.to m.kind → Said u m.to m.kind = λ m. said-on t u (λ x d. d) (λ r i. or_left (t.asked r) (has_ref r wanted) i) (λ r b i. i) m.to m.kind in
    let all : AllSaid u ((t.outbox ++ first) ++ asks) = λ m i. elim (member_split m (t.outbox ++ first) asks i) [
      | inl j ↦ on m (said m j)
      | inr j ↦ (let (r, k, p) = member_unmap (ask_message g t.role) m wanted j in
          subst (λ (m : Message). Said u m.to m.kind) (sym p) (or_right (t.asked r) (has_ref r wanted) (has_ref-member r wanted k)))
    ] in
    let far : Later Apart ((t.outbox ++ first) ++ asks) =
    later_both Apart (t.outbox ++ first) asks apart
    (Later-mapped (λ a b. a ≡ b → Never) Apart (ask_message g t.role) (λ a b n k. n k.1.0) wanted (Later-filter (λ a b. a ≡ b → Never) (is_wanted g t) (in_order rs) (once rs)))
    (λ m n i j k.
    let (r, w, p) = member_unmap (ask_message g t.role) n wanted j in
    let same = kin-ask m.kind r t.role (subst (λ (n : Message). Kin m n) p k).1 in
    not-asked g t rs r w (subst (λ q. Said t m.to q) same (said m i))) in
    record {
      nodes = record { is = N.is; ordered = N.ordered; developed = N.developed; children = N.children };
      said = subst (λ xs. AllSaid u xs) (append_assoc t.outbox first asks) all;
      apart = subst (λ xs. Later Apart xs) (append_assoc t.outbox first asks) far;
    }
