-- What is told of the line of a node, and of a task.
use Rattle.std.proofs.Common.{◌≡◌, ℕ, ◌≤◌, Bool, true, false, List, [], ◌++◌, length, Option, Some, Result, Ok, Err, refl, sym, ap, ◌∙◌, subst, inl, inr, append-nil, arith}
use Rattle.std.specs.Prelude.{IfErr, slice_get, option_map}
use Rattle.std.proofs.lemmas.Option.{slice_get-map}
use Rattle.aw_list.proofs.Members.{member_got as member-here}
use Rattle.aw_grammar.specs.declared.grammar.Grammar.{Grammar}
use Rattle.aw_grammar.specs.GrammarOf.{grammar_of, words_of}
use Rattle.aw_law_sites.specs.Sites.{Site}
use Rattle.aw_law_worlds.specs.ReadRows.{IsRead}
use Rattle.aw_node_list.specs.declared.held.Held as program
use Rattle.aw_node_list.specs.HeldView.{held_of, all_of}
use Rattle.aw_out.specs.Report.{Bounded, Prints}
use Rattle.aw_out.specs.declared.error.PrintFault.{PrintFault}
use Rattle.aw_out.specs.declared.error.PrintFault.TheVariants as print
use Rattle.aw_store.specs.Equations.{Map}
use Rattle.aw_term.specs.Artifacts.{row_text}
use Rattle.aw_term.specs.Configs.{Row}
use Rattle.aw_term.specs.Held.{Held}
use Rattle.aw_term.specs.Rules as plain
use Rattle.aw_book_join.specs.declared.fault.TasksFault.{TasksFault}
use Rattle.aw_book_join.specs.declared.fault.TasksFault.TheVariants.{WriteFault, TooLong, NoMemory}
use Rattle.aw_book_join.specs.declared.view.View.{View}
use Rattle.aw_book_join.specs.Handing.{HandsOn, CountsWrites}
use Rattle.aw_book_join.specs.Lines.{IsLine, Told, IsTold, IsLong, TellsFault, TellsLine, TellsTask, IsNoLine, IsNoWrite, piece, room_limit}
use Rattle.aw_book_join.specs.Views.{is_asked}
use Rattle.aw_book_join.proofs.Handing.{hands-nothing, hands-as}

-- ---- one line

-- whatever the line of a node is, it is printed
pub prints-line : (d : Grammar) (k : Map) (h : Held) (old new : Bounded) (r : Result Unit PrintFault) → ((q : Row) → IsRead (grammar_of d) k h q → Prints (row_text (words_of d) q) old new r) →
    (text : List ℕ) → IsLine d k h text → Prints text old new r
prints-line d k h old new r rows text x = subst (λ (t : List ℕ). Prints t old new r) (sym x.2) (rows x.0 x.1)

-- a report that had room for it was too small
pub long-line : (d : Grammar) (k : Map) (h : Held) (old new : Bounded) → old.limit ≡ room_limit → length old.text ≤ piece → ((text : List ℕ) → IsLine d k h text →
    Prints text old new (Err print.TooLarge)) → IsLong d k h
long-line d k h old new limit short prints text line =
    let large = (prints text line).too_large refl in
    omega (arith, large, limit, short)

pub tells-line : (d : Grammar) (k : Map) (h : Held) (held : program.Held) (fault : PrintFault) (r : TasksFault) → h.node ≡ held.node → TellsFault held fault r → (fault ≡ print.TooLarge →
    IsLong d k h) → TellsLine d k h r
tells-line d k h held print.TooLarge r node (inl e) long = subst (TellsLine d k h) (sym e) (node, long refl)
tells-line d k h held print.TooLarge r node (inr e) long = subst (TellsLine d k h) (sym e) tt
tells-line d k h held print.NoMemory r node e long = subst (TellsLine d k h) (sym e) tt

pub no-write : (held : program.Held) (fault : PrintFault) (r : TasksFault) → TellsFault held fault r → IsNoWrite (Err r)
no-write held print.TooLarge r (inl e) = subst (λ (x : TasksFault). IsNoWrite (Err x)) (sym e) tt
no-write held print.TooLarge r (inr e) = subst (λ (x : TasksFault). IsNoWrite (Err x)) (sym e) tt
no-write held print.NoMemory r e = subst (λ (x : TasksFault). IsNoWrite (Err x)) (sym e) tt

-- ---- tasks

-- a line that is too long is that of a task
pub tells-task : (d : Grammar) (v : View) (s : Site) (i : ℕ) (h : Held) (fault : TasksFault) → slice_get s.held i ≡ Some h → is_asked v h.node h.state ≡ true → TellsLine d s.equations h fault →
    TellsTask d v s fault
tells-task d v s i h WriteFault at asked t = tt
tells-task d v s i h (TooLong task) at asked t = (h, member-here s.held i h at, asked, t.0, t.1)
tells-task d v s i h NoMemory at asked t = tt

pub no-task : (d : Grammar) (v : View) (s : Site) (r : Result Unit TasksFault) → IsNoLine r → IfErr r (TellsTask d v s)
no-task d v s (Ok done) n = tt
no-task d v s (Err WriteFault) n = tt
no-task d v s (Err (TooLong task)) n = elim n [ ]
no-task d v s (Err NoMemory) n = tt

-- nothing was written
pub counts-none : (before : ℕ) (fault : TasksFault) → IsNoWrite (Err fault) → CountsWrites before before (Err fault)
counts-none before WriteFault n = elim n [ ]
counts-none before (TooLong task) n = refl
counts-none before NoMemory n = refl

pub counts-from : (before mid now : ℕ) (r : Result Unit TasksFault) → mid ≡ before → CountsWrites mid now r → CountsWrites before now r
counts-from before mid now r e c = subst (λ (n : ℕ). CountsWrites n now r) e c

-- ---- what is not asked for

pub told-none : (d : Grammar) (v : View) (k : Map) (h : Held) (text : List ℕ) → is_asked v h.node h.state ≡ false → IsTold d v k h text → text ≡ []
told-none d v k h text e t = subst (λ (b : Bool). Told b (IsLine d k h) text) e t

pub told-some : (d : Grammar) (v : View) (k : Map) (h : Held) (text : List ℕ) → is_asked v h.node h.state ≡ true → IsTold d v k h text → IsLine d k h text
told-some d v k h text e t = subst (λ (b : Bool). Told b (IsLine d k h) text) e t

pub hands-none : (a : Option (List ℕ)) (left text : List ℕ) → text ≡ [] → HandsOn a a left (left ++ text)
hands-none a left text e = hands-as a a left left (left ++ text) (sym (ap (λ (t : List ℕ). left ++ t) e ∙ append-nil left)) (hands-nothing a left)

-- ---- the nodes of the program

-- the plain node at the place of one
pub held-at : (g : plain.Grammar) (hs : List program.Held) (ps : List Held) (i : ℕ) (x : program.Held) (h : Held) → ps ≡ all_of g hs → slice_get hs i ≡ Some x → slice_get ps i ≡ Some h →
    h ≡ held_of g x
held-at g hs ps i x h e at there =
    let got : Some h ≡ Some (held_of g x) =
    sym there ∙ (ap (λ (ys : List Held). slice_get ys i) e ∙ (slice_get-map (held_of g) hs i ∙ ap (option_map (held_of g)) at)) in
    cc
