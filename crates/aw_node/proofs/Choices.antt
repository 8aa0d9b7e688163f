-- A choice that a workspace answers.
use Rattle.std.proofs.Common.{◌≡◌, ℕ, true, refl, ap, subst, ◌∙◌, nat_eq}
use Rattle.std.proofs.Common.{arith}
use Rattle.std.proofs.lemmas.Bool.Decides.{nat_tests}
use Rattle.aw_term.specs.Names.{Ref}
use Rattle.aw_term.specs.Choices.{Choice, Answer}
use Rattle.aw_base.specs.ChoiceFits.{choice_ok}
use Rattle.aw_typed.specs.TypeFaults.{arg_ok}
use Rattle.aw_law_sites.specs.Choosing.{Chosen, No, Did, answer_to, choose}
use Rattle.aw_law_sites.specs.Homes.{home}
use Rattle.aw_law_sites.specs.SiteEvents.{after_choice}
use Rattle.aw_law_sites.specs.Sites.{Site}
use Rattle.aw_law_sites.specs.Worlds.{node_of}
use Rattle.aw_law_nodes.specs.Nodes as N
use Rattle.aw_msg.specs.Frames as F
use Rattle.aw_msg.specs.Responses as R
use Rattle.aw_law_nodes.specs.Told.{told}
use Rattle.aw_node.specs.TypedNodes.{Rules, handle}

same-number : (n : ℕ) → nat_eq n n ≡ true
same-number n = grind (arith, nat_tests)

chosen-response : (s : Site) (x : Chosen) → R.Answers (answer_to x) ≡ told (N.chosen s x).response
chosen-response s (No a) = refl
chosen-response s (Did x) = refl

chosen-site : (s : Site) (x : Chosen) → after_choice s x ≡ (N.chosen s x).site
chosen-site s (No a) = refl
chosen-site s (Did x) = refl

-- a choice that fits, at its home
pub choice-taken : (r : Rules) (s : Site) (c : Choice) (new : Site → Type 0) (a : Answer Ref) → choice_ok r.grammar c ≡ true → arg_ok r.types r.grammar c ≡ true → home r.grammar (node_of c) ≡ s.role →
    a ≡ answer_to (choose r.grammar s c) → new (after_choice s (choose r.grammar s c)) → (R.Answers a ≡ told (handle r s (F.Choose c)).response) × new (handle r s (F.Choose c)).site
choice-taken r s c new a ok fits here e h =
    let here_too : nat_eq (home r.grammar (node_of c)) s.role ≡ true = ap (λ (n : ℕ). nat_eq n s.role) here ∙ same-number s.role in
    rw (ok, fits, here_too) (ap R.Answers e ∙ chosen-response s (choose r.grammar s c), subst new (chosen-site s (choose r.grammar s c)) h)
