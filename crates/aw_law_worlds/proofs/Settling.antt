-- What one delivery and what settling leaves: the choices taken, and one message more that counts as delivered.
use Rattle.std.proofs.Common.{◌≡◌, ℕ, zero, suc, ◌≤◌, arith, false, List, [], ◌∷◌, ◌++◌, length, map, ap, sym, ◌∙◌, refl, subst}
use Rattle.std.proofs.lemmas.Option.{slice_get_within}
use Rattle.std.specs.Prelude.{slice_get, Option, Some, None}
use Rattle.aw_list.proofs.Everyday.{get-left}
use Rattle.aw_term.specs.Rules.{Grammar}
use Rattle.aw_apply.specs.Messages.{Message, Received, BadName, NotMine, Conflict, Repeat, New}
use Rattle.aw_law_sites.specs.Sites.{Reaction}
use Rattle.aw_law_sites.specs.Reacting.{receive}
use Rattle.aw_law_sites.specs.Worlds.{World, Move, count_set, deliver, deliver_on, received_at, run, settle, site_at, step, undelivered}
use Rattle.aw_law_worlds.proofs.Counting.{count_new, count_unset, first_place, none_past}

got_taken : (v : World) (k to : ℕ) (r : Received Reaction) → (received_at v k to r).world.taken ≡ v.taken
got_taken v k to BadName = refl
got_taken v k to NotMine = refl
got_taken v k to (Conflict p q) = refl
got_taken v k to Repeat = refl
got_taken v k to (New y) = refl

on_taken : (g : Grammar) (v : World) (k : ℕ) (o : Option Message) → (deliver_on g v k o).world.taken ≡ v.taken
on_taken g v k None = refl
on_taken g v k (Some m) = got_taken v k m.to (receive g (site_at v m.to) m)

-- deliveries take no choice
pub deliver_taken : (g : Grammar) (v : World) (k : ℕ) → (deliver g v k).world.taken ≡ v.taken
deliver_taken g v k = on_taken g v k (slice_get v.messages k)

abbrev settle_by : Grammar → ℕ → World → Option ℕ → World
settle_by g n v None = v
settle_by g n v (Some k) = settle n g (deliver g v k).world

settle_taken_on : (g : Grammar) (n : ℕ) (v : World) → ((u : World) → (settle n g u).taken ≡ u.taken) → (o : Option ℕ) → (settle_by g n v o).taken ≡ v.taken
settle_taken_on g n v h None = refl
settle_taken_on g n v h (Some k) = h (deliver g v k).world ∙ deliver_taken g v k

pub settle_taken : (g : Grammar) (n : ℕ) (v : World) → (settle n g v).taken ≡ v.taken
settle_taken g zero v = refl
settle_taken g (suc n) v = settle_taken_on g n v (λ u. settle_taken g n u) (undelivered v)

got_counts : (v : World) (k to : ℕ) (r : Received Reaction) → slice_get v.delivered k ≡ Some false → count_set (received_at v k to r).world.delivered ≡ suc (count_set v.delivered)
got_counts v k to BadName e = count_new v.delivered k e
got_counts v k to NotMine e = count_new v.delivered k e
got_counts v k to (Conflict p q) e = count_new v.delivered k e
got_counts v k to Repeat e = count_new v.delivered k e
got_counts v k to (New y) e = count_new _ k (get-left v.delivered (map (λ m. false) y.sent) k false e) ∙ ap suc (count_unset v.delivered y.sent)

on_counts : (g : Grammar) (v : World) (k : ℕ) (o : Option Message) → slice_get v.messages k ≡ o → length v.delivered ≡ length v.messages → slice_get v.delivered k ≡ Some false
    → count_set (deliver_on g v k o).world.delivered ≡ suc (count_set v.delivered)
on_counts g v k None f l e = let a = none_past v.messages k f in let b = slice_get_within v.delivered k false e in absurd (omega (arith, a, b, l))
on_counts g v k (Some m) f l e = got_counts v k m.to (receive g (site_at v m.to) m) e

-- the first undelivered message counts as delivered afterwards
pub deliver_counts : (g : Grammar) (v : World) (k : ℕ) → undelivered v ≡ Some k → length v.delivered ≡ length v.messages → count_set (deliver g v k).world.delivered ≡ suc (count_set v.delivered)
deliver_counts g v k e l =
    let (j, p, f) = first_place v.delivered 0 k e in
    let q : j ≡ k = omega (arith, p) in
    on_counts g v k (slice_get v.messages k) refl l (subst (λ j. slice_get v.delivered j ≡ Some false) q f)

more_on : (g : Grammar) (n : ℕ) (v : World) (k : ℕ) → ((u : World) → undelivered (settle n g u) ≡ Some k → settle (suc n) g u ≡ (deliver g (settle n g u) k).world)
    → (o : Option ℕ) → undelivered v ≡ o → undelivered (settle_by g n v o) ≡ Some k
    → settle_by g (suc n) v o ≡ (deliver g (settle_by g n v o) k).world
more_on g n v k h None f e = let z : None ≡ Some k = sym f ∙ e in absurd cc
more_on g n v k h (Some j) f e = h (deliver g v j).world e

-- one delivery more
pub settle_more : (g : Grammar) (n : ℕ) (v : World) (k : ℕ) → undelivered (settle n g v) ≡ Some k → settle (suc n) g v ≡ (deliver g (settle n g v) k).world
settle_more g zero v k e = ap (settle_by g 0 v) e
settle_more g (suc n) v k e = more_on g n v k (λ u. settle_more g n u k) (undelivered v) refl e

done_on : (g : Grammar) (n m : ℕ) (v : World) → ((u : World) → undelivered (settle n g u) ≡ None → settle m g u ≡ settle n g u)
    → (o : Option ℕ) → undelivered (settle_by g n v o) ≡ None
    → settle_by g m v o ≡ settle_by g n v o
done_on g n m v h None e = refl
done_on g n m v h (Some j) e = h (deliver g v j).world e

-- nothing more where none is left
pub settle_done : (g : Grammar) (n m : ℕ) (v : World) → n ≤ m → undelivered (settle n g v) ≡ None → settle m g v ≡ settle n g v
settle_done g zero zero v l e = refl
settle_done g zero (suc m) v l e = ap (settle_by g m v) e
settle_done g (suc n) zero v l e = absurd (omega (arith, l))
settle_done g (suc n) (suc m) v l e = done_on g n m v (λ u. settle_done g n m u (omega (arith, l))) (undelivered v) e

pub run_more : (g : Grammar) (w : World) (es : List Move) (e : Move) → run g w (es ++ e ∷ []) ≡ (step g (run g w es) e).world
run_more g w [] e = refl
run_more g w (d ∷ es) e = run_more g (step g w d).world es e

pub run_both : (g : Grammar) (v : World) (es fs : List Move) → run g v (es ++ fs) ≡ run g (run g v es) fs
run_both g v [] fs = refl
run_both g v (e ∷ es) fs = run_both g (step g v e).world es fs
