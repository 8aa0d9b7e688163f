-- A site at its beginning.
use Rattle.std.proofs.Common.{◌≡◌, ℕ, Bool, false, List, [], map, nat_eq, refl, ap, sym, ◌∙◌}
use Rattle.std.proofs.lemmas.Nat.Bits.{bit_at-zero}
use Rattle.aw_term.specs.Names.{Ref}
use Rattle.aw_grammar.specs.GrammarOf.{grammar_of}
use Rattle.aw_store.specs.declared.facts.Facts.{Ghosts}
use Rattle.aw_subs.specs.declared.subs.Subs.{Subs}
use Rattle.aw_subs.specs.Entries.{has_bit, is_asked, watchers}
use Rattle.aw_msg.specs.declared.message.Message.{Message}
use Rattle.aw_msg.specs.MessageView.{message_of}
use Rattle.aw_law_sites.specs.Sites.{empty_site}
use Rattle.aw_space.specs.declared.space.Space.{Space}
use Rattle.aw_space.specs.SpaceView.{space_of}
use Rattle.aw_site.specs.Shown.{Shows}

pub new_shown : {F : Type 0} (f : Ghosts F) (space : Space F f) (subs : Subs) (outbox : List Message) (loads : Bool) (role : ℕ) → space.role ≡ role →
    space.held.items ≡ [] → space.choices.items ≡ [] → f.map space.facts ≡ []
    → ((x : Ref) → is_asked subs.subs x ≡ false) → ((x : Ref) → watchers subs.subs x ≡ 0) → outbox ≡ [] → Shows f space subs outbox loads (empty_site loads role)
new_shown f space subs outbox loads role same nodes choices equations asked watched sent = record {
  holds = record {
    role = sym same;
    flag = refl;
    holds = λ i. space_of (grammar_of space.accepted.now.grammar) (sym nodes i) (sym choices i) (sym equations i);
    asked = λ r. sym (asked r);
    watchers = λ r role. sym (ap (λ b. has_bit b role) (watched r) ∙ ap (λ x. nat_eq x 1) (bit_at-zero role));
  };
  sent = ap (map (message_of (grammar_of space.accepted.now.grammar))) (sym sent);
}
