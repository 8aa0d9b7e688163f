-- Drafts that go on to others.
use Rattle.std.proofs.Common.{◌≡◌, ℕ, ◌+◌, subst, arith}
use Rattle.aw_print.specs.Drafts.{Draft, then}
use Rattle.aw_print.specs.Growing.{Begins, LeadTo}
use Rattle.aw_print.proofs.DraftLemmas.{Begins-self, Begins-more, then-Begins, Grows, grows-to}

pub lead-same : (f g : ℕ → Draft) → ((n : ℕ) → f n ≡ g n) → LeadTo f g
lead-same f g h = λ n. (n, subst (Begins (f n)) (h n) (Begins-self (f n)))

pub lead-on : (f g h : ℕ → Draft) → LeadTo f g → LeadTo g h → LeadTo f h
lead-on f g h a b = λ n.
    let (m, p) = a n in
    let (l, q) = b m in
    (l, Begins-more (f n) (g m) (h l) p q)

pub lead-then : (a b f g : ℕ → Draft) → Grows f → Grows g → LeadTo a f → LeadTo b g → LeadTo (λ n. then (a n) (b n)) (λ n. then (f n) (g n))
lead-then a b f g p q u v = λ n.
    let (m, x) = u n in
    let (l, y) = v n in (
      m + l,
      then-Begins (a n) (f (m + l)) (b n) (g (m + l))
          (Begins-more (a n) (f m) (f (m + l)) x (grows-to f p m (m + l) (omega arith)))
          (Begins-more (b n) (g l) (g (m + l)) y (grows-to g q l (m + l) (omega arith))),
    )

-- behind the same draft
pub lead-behind : (d : Draft) (b g : ℕ → Draft) → LeadTo b g → LeadTo (λ n. then d (b n)) (λ n. then d (g n))
lead-behind d b g v = λ n. let (l, y) = v n in (l, then-Begins d d (b n) (g l) (Begins-self d) y)
