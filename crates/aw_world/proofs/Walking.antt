-- The nodes of workspaces from a place on.
use Rattle.std.proofs.Common.{◌≡◌, ℕ, zero, suc, ◌+◌, ◌<◌, arith, List, [], ◌∷◌, length, drop, replicate, get_or, ap, sym, ◌∙◌, refl, subst, Option, Some, None, slice_get}
use Rattle.std.specs.Prelude.{option_and_then, slice_set, IsSome}
use Rattle.aw_node_list.specs.declared.held.Held.{Held}
use Rattle.aw_node_list.proofs.InOrderLemmas.{Up}
use Rattle.aw_world.specs.declared.workspace.Workspace.{Ghosts}
use Rattle.std.proofs.lemmas.Option.{get_or_from_slice_get}
use Rattle.aw_list.proofs.Everyday.{some_of}
use Rattle.aw_world.specs.declared.merging.Spot.{Spot}
use Rattle.aw_world.specs.Merged.{merged, nodes_of, left_of, held_at, PassesOn}
use Rattle.aw_world.specs.Firsts.{next_of, IsFirst, IsFirstOf}
use Rattle.aw_world.proofs.FirstNodes.{head_of, without, AllUp, first_merged, none_merged}

pub up_drop : (p : ℕ) (hs : List Held) → Up hs → Up (drop p hs)
up_drop zero hs up = up
up_drop (suc p) [] up = tt
up_drop (suc p) (h ∷ hs) up = up_drop p hs up.1

get_drop : (p : ℕ) (hs : List Held) → slice_get (drop p hs) 0 ≡ slice_get hs p
get_drop zero hs = refl
get_drop (suc p) [] = refl
get_drop (suc p) (h ∷ hs) = get_drop p hs

drop_more : (p : ℕ) (hs : List Held) → drop (suc p) hs ≡ drop 1 (drop p hs)
drop_more zero hs = refl
drop_more (suc p) [] = refl
drop_more (suc p) (h ∷ hs) = drop_more p hs

module _ {W : Type 0} (f : Ghosts W) where
  pub left_up : ((w : W) → Up (f.its_nodes w)) → (ws : List W) (ps : List ℕ) → AllUp (left_of f ws ps)
  left_up up [] ps = tt
  left_up up (w ∷ ws) [] = (up w, left_up up ws [])
  left_up up (w ∷ ws) (p ∷ ps) = (up_drop p (f.its_nodes w) (up w), left_up up ws ps)

  left_length : (ws : List W) (ps : List ℕ) → length (left_of f ws ps) ≡ length ws
  left_length [] ps = refl
  left_length (w ∷ ws) [] = ap suc (left_length ws [])
  left_length (w ∷ ws) (p ∷ ps) = ap suc (left_length ws ps)

  pub next_head : (ws : List W) (ps : List ℕ) (j : ℕ) → length ps ≡ length ws → head_of (left_of f ws ps) j ≡ next_of f ws ps j
  next_head [] ps j l = refl
  next_head (w ∷ ws) [] j l = absurd (omega (arith, l))
  next_head (w ∷ ws) (p ∷ ps) zero l = get_drop p (f.its_nodes w)
  next_head (w ∷ ws) (p ∷ ps) (suc j) l = next_head ws ps j (omega (arith, l))

  pub left_without : (ws : List W) (ps : List ℕ) (b p : ℕ) → length ps ≡ length ws → slice_get ps b ≡ Some p → left_of f ws (slice_set ps b (suc p)) ≡ without (left_of f ws ps) b
  left_without [] [] b p l e = refl
  left_without [] (q ∷ ps) b p l e = absurd (omega (arith, l))
  left_without (w ∷ ws) [] b p l e = absurd (omega (arith, l))
  left_without (w ∷ ws) (q ∷ ps) zero p l e = let same : q ≡ p = cc in ap (λ n. drop (suc n) (f.its_nodes w) ∷ left_of f ws ps) (sym same)
      ∙ ap (λ hs. hs ∷ left_of f ws ps) (drop_more q (f.its_nodes w))
  left_without (w ∷ ws) (q ∷ ps) (suc b) p l e = ap (λ hss. drop q (f.its_nodes w) ∷ hss) (left_without ws ps b p (omega (arith, l)) e)

  pub left_start : (ws : List W) (n : ℕ) → left_of f ws (replicate n 0) ≡ nodes_of f ws
  left_start [] n = refl
  left_start (w ∷ ws) zero = ap (λ hss. f.its_nodes w ∷ hss) (left_start ws 0)
  left_start (w ∷ ws) (suc n) = ap (λ hss. f.its_nodes w ∷ hss) (left_start ws n)

  -- the next node of the first workspace is the first of all that are left
  pub taken_next : ((w : W) → Up (f.its_nodes w)) → (ws : List W) (ps : List ℕ) (b p : ℕ) (h : Held) → length ps ≡ length ws → IsFirstOf f ws ps (length ws) b
      → next_of f ws ps b ≡ Some h → slice_get ps b ≡ Some p → merged (left_of f ws ps) ≡ h ∷ merged (left_of f ws (slice_set ps b (suc p)))
  taken_next up ws ps b p h l first e s =
      first_merged (left_of f ws ps) b h (left_up up ws ps) (next_head ws ps b l ∙ e) (λ j k a. is_first j k (sym (next_head ws ps j l) ∙ a))
      ∙ ap (λ hss. h ∷ merged hss) (sym (left_without ws ps b p l s))
    where
      within : (xs : List W) (qs : List ℕ) (j : ℕ) (k : Held) → next_of f xs qs j ≡ Some k → j < length xs
      within [] qs j k a = absurd cc
      within (x ∷ xs) [] zero k a = omega arith
      within (x ∷ xs) (q ∷ qs) zero k a = omega arith
      within (x ∷ xs) [] (suc j) k a = let z = within xs [] j k a in omega (arith, z)
      within (x ∷ xs) (q ∷ qs) (suc j) k a = let z = within xs qs j k a in omega (arith, z)

      is_first : (j : ℕ) (k : Held) → next_of f ws ps j ≡ Some k → IsFirst b h j k
      is_first j k a =
          let (g, i, z) = first j k (within ws ps j k a) a in
          let same : g ≡ h = cc in
          subst (λ x. IsFirst b x j k) same z

  pub none_next : (ws : List W) (ps : List ℕ) (b : ℕ) → length ps ≡ length ws → IsFirstOf f ws ps (length ws) b → next_of f ws ps b ≡ None → merged (left_of f ws ps) ≡ []
  none_next ws ps b l first e = none_merged (left_of f ws ps) (λ j m. none j (next_of f ws ps j) refl (omega (arith, m, left_length ws ps)))
    where
      none : (j : ℕ) (o : Option Held) → next_of f ws ps j ≡ o → j < length ws → head_of (left_of f ws ps) j ≡ None
      none j None a m = next_head ws ps j l ∙ a
      none j (Some k) a m = let (g, i, z) = first j k m a in absurd cc

-- where the next node of a workspace stands
pub record Stands {W : Type 0} (f : Ghosts W) (ws : List W) (ps : List ℕ) (b : ℕ) : Type 0 where
  pub workspace : W
  pub place : ℕ
  pub node : Held
  pub site_is : slice_get ws b ≡ Some workspace
  pub place_is : slice_get ps b ≡ Some place
  pub node_is : slice_get (f.its_nodes workspace) place ≡ Some node

place_cases : {W : Type 0} (f : Ghosts W) (ws : List W) (ps : List ℕ) (b : ℕ) (w : W) (h : Held) → slice_get ws b ≡ Some w → (o : Option ℕ) → slice_get ps b ≡ o
    → option_and_then (λ p. slice_get (f.its_nodes w) p) o ≡ Some h → Stands f ws ps b
place_cases f ws ps b w h s None e n = absurd cc
place_cases f ws ps b w h s (Some p) e n = record { workspace = w; place = p; node = h; site_is = s; place_is = e; node_is = n }

site_cases : {W : Type 0} (f : Ghosts W) (ws : List W) (ps : List ℕ) (b : ℕ) (h : Held) → (o : Option W) → slice_get ws b ≡ o
    → option_and_then (λ w. option_and_then (λ p. slice_get (f.its_nodes w) p) (slice_get ps b)) o ≡ Some h → Stands f ws ps b
site_cases f ws ps b h None e n = absurd cc
site_cases f ws ps b h (Some w) e n = place_cases f ws ps b w h e (slice_get ps b) refl n

pub stands : {W : Type 0} (f : Ghosts W) (ws : List W) (ps : List ℕ) (b : ℕ) → IsSome (next_of f ws ps b) → Stands f ws ps b
stands f ws ps b some = let (h, e) = some_of (next_of f ws ps b) some in site_cases f ws ps b h (slice_get ws b) refl e

-- the place that is passed on is that of the first node of all that are left
pub passes : {W : Type 0} (f : Ghosts W) → ((w : W) → Up (f.its_nodes w)) → (ws : List W) (ps new : List ℕ) (b : ℕ) (spot : Spot) → length ps ≡ length ws → IsFirstOf f ws ps (length ws) b
    → IsSome (next_of f ws ps b) → spot ≡ record { site = b; place = get_or ps b 0 } → new ≡ slice_set ps b (get_or ps b 0 + 1) → PassesOn f ws ps new spot
passes f up ws ps new b spot l first some is set =
    let s = stands f ws ps b some in
    let p : get_or ps b 0 ≡ s.place = get_or_from_slice_get ps b s.place 0 s.place_is in
    let there : held_at f ws spot ≡ Some s.node =
    ap (held_at f ws) is ∙ ap (λ o. option_and_then (λ w. slice_get (f.its_nodes w) (get_or ps b 0)) o) s.site_is ∙ ap (λ n. slice_get (f.its_nodes s.workspace) n) p ∙ s.node_is in
    let next : next_of f ws ps b ≡ Some s.node =
    ap (λ o. option_and_then (λ w. option_and_then (λ p. slice_get (f.its_nodes w) p) (slice_get ps b)) o) s.site_is
    ∙ ap (λ o. option_and_then (λ p. slice_get (f.its_nodes s.workspace) p) o) s.place_is ∙ s.node_is in
    let moved : new ≡ slice_set ps b (suc s.place) = set ∙ ap (slice_set ps b) (let z : get_or ps b 0 + 1 ≡ suc s.place = omega (arith, p) in z) in
    (s.node, there, taken_next f up ws ps b s.place s.node l first next s.place_is ∙ ap (λ qs. s.node ∷ merged (left_of f ws qs)) (sym moved))
