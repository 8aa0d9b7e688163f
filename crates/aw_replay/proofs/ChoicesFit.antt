-- The same choices may be asked where all sorts are at one role.
use Rattle.std.proofs.Common.{◌≡◌, ℕ, List, [], ◌∷◌, length, ◌&&◌, Option, None, Some, slice_get, refl, ap, ◌∙◌}
use Rattle.std.specs.Prelude.{is_some, nat_le, option_map, option_and_then, if◌then◌else◌}
use Rattle.std.proofs.lemmas.Option.{slice_get-map}
use Rattle.aw_term.specs.Names.{Step, Node}
use Rattle.aw_term.specs.Rules.{Ground, Sort, Grammar, sort_of_step, sort_after, sort_of}
use Rattle.aw_term.specs.Choices.{Choice, Start, Develop}
use Rattle.aw_term.specs.WellFormed.{symbols_of}
use Rattle.aw_base.specs.ChoiceFits.{ground_ok, grounds_ok, args_ok, choice_ok}
use Rattle.aw_replay.specs.United.{at_one_role, united}
use Rattle.aw_replay.proofs.SameMaps.{and_then_same}
use Rattle.aw_replay.proofs.SortsAt.{start_same}

sort_after_same : (g : Grammar) (s : ℕ) (steps : List Step) → sort_after (united g) s steps ≡ sort_after g s steps
sort_after_same g s [] = refl
sort_after_same g s (step ∷ steps) = and_then_same (λ t. sort_after (united g) t steps) (λ t. sort_after g t steps) (λ t. sort_after_same g t steps) (sort_of_step g s step)

-- the sort of a node whose start sort is this one
abbrev behind : Grammar → Node → Option Sort → Option ℕ
behind g n o = option_and_then (λ (s : Sort). if s.start then sort_after g n.start n.steps else None) o

behind_alike : (g : Grammar) (n : Node) (o : Option Sort) → behind (united g) n (option_map at_one_role o) ≡ behind g n o
behind_alike g n None = refl
behind_alike g n (Some s) = ap (λ t. if s.start then t else None) (sort_after_same g n.start n.steps)

pub sort_of_same : (g : Grammar) (n : Node) → sort_of (united g) n ≡ sort_of g n
sort_of_same g n = ap (behind (united g) n) (slice_get-map at_one_role g.sorts n.start) ∙ behind_alike g n (slice_get g.sorts n.start)

grounds_same : (g : Grammar) (args : List Ground) → grounds_ok (united g) args ≡ grounds_ok g args
grounds_same g [] = refl
grounds_same g (t ∷ ts) = ap (λ b. ground_ok g t && b) (grounds_same g ts)

pub choice_ok_same : (g : Grammar) (x : Choice) → choice_ok (united g) x ≡ choice_ok g x
choice_ok_same g (Start s k) = start_same g.sorts s
choice_ok_same g (Develop n r args) =
    ap (λ o. is_some o && (is_some (slice_get g.rules r) && args_ok (united g) args)) (sort_of_same g n)
    ∙ ap (λ b. is_some (sort_of g n) && (is_some (slice_get g.rules r) && (nat_le (length args) 8 && (nat_le (symbols_of args) 256 && b)))) (grounds_same g args)
