-- What is put among the references to be asked for, one list after the other.
use Rattle.std.proofs.Common.{◌≡◌, ℕ, ◌+◌, ◌-◌, ◌<◌, Bool, true, false, cond, List, [], ◌∷◌, ◌++◌, length, drop, get_or, map, nat_eq, filter, refl, ap, sym, subst, ◌∙◌, arith}
use Rattle.std.specs.Prelude.{◌&&◌, not, is_none}
use Rattle.std.proofs.lemmas.List.{append-nil}
use Rattle.std.proofs.lemmas.List.Elements.{filter-append}
use Rattle.aw_term.specs.Names.{Ref}
use Rattle.aw_term.specs.Rules.{Grammar}
use Rattle.aw_base.specs.ChoiceFits.{ref_ok}
use Rattle.aw_grammar.specs.GrammarOf.{grammar_of}
use Rattle.aw_store.specs.Equations.{find, mentions}
use Rattle.aw_store.specs.EquationView.{body_of, equation_of}
use Rattle.aw_store.specs.declared.equation.Equation.{Equation}
use Rattle.aw_store.specs.declared.facts.Facts.{Ghosts}
use Rattle.aw_apply.specs.Made.{Call}
use Rattle.aw_law_sites.specs.Joint.{called_held}
use Rattle.aw_law_sites.specs.Asking.{all_mentions, all_inherited, is_wanted}
use Rattle.aw_law_sites.specs.Homes.{home}
use Rattle.aw_law_sites.specs.InOrder.{insert_ref, in_order}
use Rattle.aw_law_sites.specs.Sites.{Site}
use Rattle.aw_law_sites.specs.Telling.{calls_in}
use Rattle.aw_law_sites.specs.ValidNames.{refs_ok}
use Rattle.aw_subs.specs.declared.subs.Subs.{Subs}
use Rattle.aw_site_repeat.specs.Holders.{ShowsAsked}
use Rattle.aw_site.specs.Ordered.{AreInOrder}
use Rattle.aw_site.specs.Plans.{wanted_of}
use Rattle.aw_site.specs.Senders.{SendsAs}
use Rattle.aw_site.specs.Wanting.{insert_each, PutsWanted}
use Rattle.aw_site.specs.declared.sender.Sender.{Sender}
use Rattle.aw_site.proofs.Ordering.{filtered_in_order, ordered_inserted}
use Rattle.aw_site.proofs.SentNames.{inserted}
use Rattle.aw_site.proofs.Steps.{drop_here}

insert_each-append : (xs ys out : List Ref) → insert_each (xs ++ ys) out ≡ insert_each xs (insert_each ys out)
insert_each-append [] ys out = refl
insert_each-append (x ∷ xs) ys out = ap (insert_ref x) (insert_each-append xs ys out)

insert_each-all : (rs : List Ref) → insert_each rs [] ≡ in_order rs
insert_each-all [] = refl
insert_each-all (r ∷ rs) = ap (insert_ref r) (insert_each-all rs)

-- what the first equation mentions, before what the others mention
pub mentions_split : (e : Equation) (es : List Equation) → all_mentions (map equation_of (e ∷ es)) ≡ all_mentions (map equation_of (e ∷ [])) ++ all_mentions (map equation_of es)
mentions_split e es = ap (λ rs. rs ++ all_mentions (map equation_of es)) (sym (append-nil (mentions (body_of e.body))))

-- what the first child inherits where it is of this role, before what the others inherit
pub inherited_split : (g : Grammar) (role : ℕ) (c : Call) (cs : List Call)
    → all_inherited (calls_in g role (c ∷ cs)) ≡ all_inherited (calls_in g role (c ∷ [])) ++ all_inherited (calls_in g role cs)
inherited_split g role c cs = in_cond (nat_eq (home g c.node) role)
  where
    in_cond : (b : Bool) → all_inherited (cond b (called_held c ∷ calls_in g role cs) (calls_in g role cs)) ≡ all_inherited (cond b (called_held c ∷ []) []) ++ all_inherited (calls_in g role cs)
    in_cond true = ap (λ rs. rs ++ all_inherited (calls_in g role cs)) (sym (append-nil c.inherited))
    in_cond false = refl

-- a reference of another role is wanted where it is not known here
pub wanted_other : (g : Grammar) (s : Site) (r : Ref) (role : ℕ) (b : Bool) → s.role ≡ role → nat_eq (home g r.node) role ≡ false
    → b ≡ (is_none (find s.equations r) && not (s.asked r)) → is_wanted g s r ≡ b
wanted_other g s r role b same other e =
    ap (λ n. not (nat_eq (home g r.node) n) && (is_none (find s.equations r) && not (s.asked r))) same
    ∙ ap (λ x. not x && (is_none (find s.equations r) && not (s.asked r))) other
    ∙ sym e

-- a reference of this role is not
pub wanted_own : (g : Grammar) (s : Site) (r : Ref) (role : ℕ) → s.role ≡ role → nat_eq (home g r.node) role ≡ true → is_wanted g s r ≡ false
wanted_own g s r role same own =
    ap (λ n. not (nat_eq (home g r.node) n) && (is_none (find s.equations r) && not (s.asked r))) same
    ∙ ap (λ x. not x && (is_none (find s.equations r) && not (s.asked r))) own

module _ {F : Type 0} (f : Ghosts F) (sender : Sender F f) (subs : Subs) where
  -- nothing is put
  pub puts_none : (rs : List Ref) → AreInOrder rs → PutsWanted f sender subs [] rs rs
  puts_none rs up = record { ordered = up; put = λ s sends shows. refl; names = λ ok. ok }

  -- one reference is put, where it is wanted
  pub puts_one : (r : Ref) (old new : List Ref) → AreInOrder old → new ≡ insert_ref r old → ref_ok (grammar_of sender.grammar.now) r ≡ true
      → ((s : Site) → SendsAs f sender s → ShowsAsked subs s.asked → is_wanted (grammar_of sender.grammar.now) s r ≡ true) → PutsWanted f sender subs (r ∷ []) old new
  puts_one r old new up e valid wanted = record {
    ordered = subst AreInOrder (sym e) (ordered_inserted r old up);
    put = λ s sends shows. e ∙ sym (ap (λ b. insert_each (cond b (r ∷ []) []) old) (wanted s sends shows));
    names = λ ok. ap (refs_ok (grammar_of sender.grammar.now)) e ∙ inserted (grammar_of sender.grammar.now) r old valid ok;
  }

  -- a reference that is not wanted is left out
  pub puts_not : (r : Ref) (old : List Ref) → AreInOrder old
      → ((s : Site) → SendsAs f sender s → ShowsAsked subs s.asked → is_wanted (grammar_of sender.grammar.now) s r ≡ false) → PutsWanted f sender subs (r ∷ []) old old
  puts_not r old up other = record {
    ordered = up;
    put = λ s sends shows. sym (ap (λ b. insert_each (cond b (r ∷ []) []) old) (other s sends shows));
    names = λ ok. ok;
  }

  standing : (b : Bool) (r : Ref) (old : List Ref) → insert_ref r old ≡ old → old ≡ insert_each (cond b (r ∷ []) []) old
  standing true r old e = sym e
  standing false r old e = refl

  -- a reference that stands there already is not put again
  pub puts_standing : (r : Ref) (old : List Ref) → AreInOrder old → insert_ref r old ≡ old → PutsWanted f sender subs (r ∷ []) old old
  puts_standing r old up e = record {
    ordered = up;
    put = λ s sends shows. standing (is_wanted (grammar_of sender.grammar.now) s r) r old e;
    names = λ ok. ok;
  }

  -- the later references are put, and then those before them
  pub puts_both : (xs ys old mid new : List Ref) → PutsWanted f sender subs ys old mid → PutsWanted f sender subs xs mid new → PutsWanted f sender subs (xs ++ ys) old new
  puts_both xs ys old mid new later first = record {
    ordered = first.ordered;
    put = λ s sends shows.
        let p = is_wanted (grammar_of sender.grammar.now) s in
        first.put s sends shows
        ∙ ap (insert_each (filter p xs)) (later.put s sends shows)
        ∙ sym (insert_each-append (filter p xs) (filter p ys) old)
        ∙ ap (λ zs. insert_each zs old) (sym (filter-append p xs ys));
    names = λ ok. first.names (later.names ok);
  }

  -- one step of a loop from the last item to the first, where what items mention is what the first mentions before what the others mention
  pub puts_more : {A : Type 0} (mentioned : List A → List Ref) → ((x : A) (xs : List A) → mentioned (x ∷ xs) ≡ mentioned (x ∷ []) ++ mentioned xs)
      → (xs : List A) (i : ℕ) (x : A) (old mid new : List Ref) → i < length xs → x ≡ get_or xs (length xs - 1 - i) x
      → PutsWanted f sender subs (mentioned (drop (length xs - i) xs)) old mid → PutsWanted f sender subs (mentioned (x ∷ [])) mid new
      → PutsWanted f sender subs (mentioned (drop (length xs - (i + 1)) xs)) old new
  puts_more mentioned split xs i x old mid new l e later first =
      let at = length xs - 1 - i in
      let within : at < length xs = omega arith in
      let here : length xs - (i + 1) ≡ at = omega arith in
      let past : at + 1 ≡ length xs - i = omega arith in
      let rest = drop (length xs - i) xs in
      let items : drop (length xs - (i + 1)) xs ≡ x ∷ rest = ap (λ k. drop k xs) here ∙ drop_here xs at x within e ∙ ap (λ k. x ∷ drop k xs) past in
      subst (λ rs. PutsWanted f sender subs rs old new) (sym (ap mentioned items ∙ split x rest)) (puts_both (mentioned (x ∷ [])) (mentioned rest) old mid new later first)

  -- those that were put among none are what is wanted, in order
  pub wanted_put : (rs old new : List Ref) → old ≡ [] → PutsWanted f sender subs rs old new
      → (s : Site) → SendsAs f sender s → ShowsAsked subs s.asked → new ≡ wanted_of (grammar_of sender.grammar.now) s rs
  wanted_put rs old new none puts s sends shows =
      let p = is_wanted (grammar_of sender.grammar.now) s in
      puts.put s sends shows ∙ ap (insert_each (filter p rs)) none ∙ insert_each-all (filter p rs) ∙ sym (filtered_in_order p rs)
