-- The tokens of a line are slices of it, in order.
use Rattle.std.proofs.Common.{◌≡◌, ℕ, zero, suc, ◌+◌, ◌-◌, ◌<◌, ◌≤◌, refl, sym, ◌∙◌, ap, subst, List, [], ◌∷◌, take, drop, length, arith, Result, Ok, Err, slice_range}
use Rattle.std.proofs.lemmas.List.{drop-drop}
use Rattle.aw_lex.specs.declared.token.Token.{Token}
use Rattle.aw_lex.specs.declared.front.Front.{Front}
use Rattle.aw_lex.specs.declared.front.Front.TheVariants as front
use Rattle.aw_lex.specs.Tokens.{tokens_from, tokens_at, tokens_of, with_token, front_of, AreSlices, Spells}
use Rattle.aw_lex.proofs.Fronts.{IsSound, front_is_sound}

abbrev HasSlices : List ℕ → ℕ → Result (List Token) ℕ → Type 0
HasSlices line from (Ok found) = AreSlices line from found
HasSlices line from (Err at) = Unit {0}

from_before : (line : List ℕ) (m n : ℕ) (r : Result (List Token) ℕ) → m ≤ n → HasSlices line n r → HasSlices line m r
from_before line m n (Ok []) h s = tt
from_before line m n (Ok (token ∷ more)) h s = (omega (arith, s.0), s.1, s.2, s.3, s.4)
from_before line m n (Err at) h s = tt

with_slice : (line : List ℕ) (token : Token) (r : Result (List Token) ℕ) → token.start < token.end → token.end ≤ length line
    → Spells token.kind (slice_range line token.start token.end) → HasSlices line token.end r → HasSlices line token.start (with_token token r)
with_slice line token (Ok more) some within spelled s = (omega arith, some, within, spelled, s)
with_slice line token (Err at) some within spelled s = tt

front_slices : (line bs : List ℕ) (at : ℕ) (f : Front) (more : ℕ → Result (List Token) ℕ) → drop at line ≡ bs → at + length bs ≡ length line → IsSound f bs
    → ((passed : ℕ) → passed + 1 ≤ length bs → HasSlices line (at + 1 + passed) (more passed)) → 0 < length bs → HasSlices line at (tokens_at f at more)
front_slices line bs at front.Blank more e l sound h some = from_before line at (at + 1 + 0) (more 0) (omega arith) (h 0 (omega arith))
front_slices line bs at (front.Token kind len) more e l sound h some =
    let fits = sound.0 in
    let range : slice_range line at (at + len) ≡ take len bs = ap (λ n. take n (drop at line)) (omega arith) ∙ ap (take len) e in
    let end : at + 1 + (len - 1) ≡ at + len = omega (arith, fits.0) in
    with_slice line (record { kind = kind; start = at; end = at + len }) (more (len - 1)) (omega (arith, fits.0)) (omega (arith, fits.1))
    (subst (Spells kind) (sym range) sound.1)
    (subst (λ n. HasSlices line n (more (len - 1))) end (h (len - 1) (omega (arith, fits.0, fits.1))))
front_slices line bs at front.Bad more e l sound h some = tt

slices_from : (line bs : List ℕ) (at passed : ℕ) → drop at line ≡ bs → at + length bs ≡ length line → passed ≤ length bs → HasSlices line (at + passed) (tokens_from at passed bs)
slices_from line [] at passed e l h = tt
slices_from line (b ∷ bs) at (suc k) e l h =
    let next : drop (at + 1) line ≡ bs = sym (drop-drop 1 at line) ∙ ap (drop 1) e in
    subst (λ n. HasSlices line n (tokens_from (at + 1) k bs)) (omega arith) (slices_from line bs (at + 1) k next (omega (arith, l)) (omega (arith, h)))
slices_from line (b ∷ bs) at zero e l h =
    let next : drop (at + 1) line ≡ bs = sym (drop-drop 1 at line) ∙ ap (drop 1) e in
    subst (λ n. HasSlices line n (tokens_from at 0 (b ∷ bs))) (omega arith)
    (front_slices line (b ∷ bs) at (front_of (b ∷ bs)) (λ passed. tokens_from (at + 1) passed bs) e l (front_is_sound (b ∷ bs))
    (λ passed within. slices_from line bs (at + 1) passed next (omega (arith, l)) (omega (arith, within))) (omega arith))

pub tokens_are_slices : (line : List ℕ) (found : List Token) → tokens_of line ≡ Ok found → AreSlices line 0 found
tokens_are_slices line found e = subst (HasSlices line 0) e (slices_from line line 0 0 refl (omega arith) (omega arith))
