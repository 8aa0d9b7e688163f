-- Lists of requests, replies and messages.
use Rattle.std.proofs.Common.{◌≡◌, ℕ, zero, suc, ◌+◌, ◌<◌, Bool, true, false, cond, ◌||◌, List, [], ◌∷◌, ◌++◌, length, refl, sym, ap, ◌∙◌, arith, inl, inr, append_assoc, append-nil}
use Rattle.std.specs.Prelude.{nat_eq, nat_lt, slice_index_or, slice_set, Ok}
use Rattle.std.proofs.lemmas.Bool.{cases_lt, lt-ltb, eqb-true}
use Rattle.aw_term.specs.Rules.{Grammar, get}
use Rattle.aw_term.specs.Trees.{Never}
use Rattle.aw_apply.specs.Messages.{Message}
use Rattle.aw_law_worlds.proofs.Places.{get-set, get-set_other}
use Rattle.aw_law_nodes.specs.Nodes.{Frame, Push}
use Rattle.aw_law_nodes.specs.Couriers.{Heard, Courier, for_role, without, note, noted, IsReplyTo, AreReplies, move, moves}
use Rattle.aw_law_nodes.proofs.ListParts.{cons-inj}
use Rattle.aw_courier.specs.Frames.{size, spelled_frame, spelled_frames}
use Rattle.aw_courier.specs.Mails.{pushed_frames}
use Rattle.aw_courier.specs.Replies.{reply, request_of}
use Rattle.aw_courier.specs.Turns.{AreHeard}

pub spelled-append : (fs hs : List Frame) → spelled_frames (fs ++ hs) ≡ spelled_frames fs ++ spelled_frames hs
spelled-append [] hs = refl
spelled-append (f ∷ fs) hs = ap (λ (t : List ℕ). spelled_frame f ++ t) (spelled-append fs hs) ∙ sym (append_assoc (spelled_frame f) (spelled_frames fs) (spelled_frames hs))

pub spelled-one : (fs : List Frame) (f : Frame) → spelled_frames (fs ++ f ∷ []) ≡ spelled_frames fs ++ spelled_frame f
spelled-one fs f = spelled-append fs (f ∷ []) ∙ ap (λ (t : List ℕ). spelled_frames fs ++ t) (append-nil (spelled_frame f))

pub heard-one : (g : Grammar) (fs : List Frame) (xs : List Heard) (bs : List (List ℕ)) (f : Frame) (x : Heard) (b : List ℕ) →
    AreHeard g fs xs bs → reply g (request_of f) b ≡ Ok (x, []) → AreHeard g (fs ++ f ∷ []) (xs ++ x ∷ []) (bs ++ b ∷ [])
heard-one g [] [] [] f x b h e = (e, tt)
heard-one g (k ∷ fs) (y ∷ xs) (a ∷ bs) f x b h e = (h.0, heard-one g fs xs bs f x b h.1 e)
heard-one g [] [] (a ∷ bs) f x b h e = absurd (elim h [ ])
heard-one g [] (y ∷ xs) bs f x b h e = absurd (elim h [ ])
heard-one g (k ∷ fs) [] bs f x b h e = absurd (elim h [ ])
heard-one g (k ∷ fs) (y ∷ xs) [] f x b h e = absurd (elim h [ ])

pub replies-one : (g : Grammar) (fs : List Frame) (xs : List Heard) (f : Frame) (x : Heard) → AreReplies size g fs xs → IsReplyTo size g f x → AreReplies size g (fs ++ f ∷ []) (xs ++ x ∷ [])
replies-one g [] [] f x h e = (e, tt)
replies-one g (k ∷ fs) (y ∷ xs) f x h e = (h.0, replies-one g fs xs f x h.1 e)
replies-one g [] (y ∷ xs) f x h e = absurd (elim h [ ])
replies-one g (k ∷ fs) [] f x h e = absurd (elim h [ ])

pub noted-one : (g : Grammar) (r : ℕ) (fs : List Frame) (xs : List Heard) (f : Frame) (x : Heard) (c : Courier) → AreReplies size g fs xs →
    noted r (fs ++ f ∷ []) (xs ++ x ∷ []) c ≡ note r f x (noted r fs xs c)
noted-one g r [] [] f x c h = refl
noted-one g r (k ∷ fs) (y ∷ xs) f x c h = noted-one g r fs xs f x (note r k y c) h.1
noted-one g r [] (y ∷ xs) f x c h = absurd (elim h [ ])
noted-one g r (k ∷ fs) [] f x c h = absurd (elim h [ ])

pub moves-one : (g : Grammar) (fs : List Frame) (xs : List Heard) (f : Frame) (x : Heard) → AreReplies size g fs xs → moves (fs ++ f ∷ []) (xs ++ x ∷ []) ≡ moves fs xs + move f x
moves-one g [] [] f x h = omega arith
moves-one g (k ∷ fs) (y ∷ xs) f x h = omega (arith, moves-one g fs xs f x h.1)
moves-one g [] (y ∷ xs) f x h = absurd (elim h [ ])
moves-one g (k ∷ fs) [] f x h = absurd (elim h [ ])

-- a sum is some where one of its parts is
pub lt-sum : (a b : ℕ) → (nat_lt 0 a || nat_lt 0 b) ≡ nat_lt 0 (a + b)
lt-sum a b =
    elim (cases_lt 0 a) [
      | inl lt ↦ ap (λ t. t || nat_lt 0 b) (lt-ltb 0 a lt) ∙ sym (lt-ltb 0 (a + b) (omega arith))
      | inr le ↦ (let z : a ≡ 0 = omega arith in let s : a + b ≡ b = omega arith in ap (λ n. nat_lt 0 n || nat_lt 0 b) z ∙ ap (λ n. nat_lt 0 n) (sym s))
    ]

-- ---- what waits

pub frames-first : (ws : List Message) (frame : List ℕ) (rest : List (List ℕ)) → pushed_frames ws ≡ frame ∷ rest →
    (m : Message) × (ms : List Message) × (ws ≡ m ∷ ms) × (spelled_frame (Push m) ≡ frame) × (pushed_frames ms ≡ rest)
frames-first [] frame rest e = absurd cc
frames-first (m ∷ ms) frame rest e = (m, ms, refl, (cons-inj e).0, (cons-inj e).1)

pub frames-none : (ws : List Message) → pushed_frames ws ≡ [] → ws ≡ []
frames-none [] e = refl
frames-none (m ∷ ms) e = absurd cc

-- what waits for other roles still does
pub others-wait : (r b : ℕ) (ws : List Message) → (r ≡ b → Never) → for_role b (without r ws) ≡ for_role b ws
others-wait r b [] n = refl
others-wait r b (w ∷ ws) n = go (nat_eq w.to r) refl (others-wait r b ws n)
  where
    not-b : w.to ≡ r → nat_eq w.to b ≡ false
    not-b e = here (nat_eq w.to b) refl
      where
        here : (t : Bool) → nat_eq w.to b ≡ t → t ≡ false
        here true d = absurd (elim (n (sym e ∙ eqb-true w.to b d)) [ ])
        here false d = refl

    go : (t : Bool) → nat_eq w.to r ≡ t → for_role b (without r ws) ≡ for_role b ws → for_role b (cond t ws (w ∷ without r ws)) ≡ for_role b (w ∷ ws)
    go true d k = sym (ap (λ t. cond t (w ∷ for_role b ws) (for_role b ws)) (not-b (eqb-true w.to r d)))
    go false d k = ap (λ xs. cond (nat_eq w.to b) (w ∷ xs) xs) k

-- ---- places of a list

pub get-is : {A : Type 0} (d : A) (xs : List A) (i : ℕ) → get d xs i ≡ slice_index_or xs i d
get-is d [] i = refl
get-is d (x ∷ xs) zero = refl
get-is d (x ∷ xs) (suc i) = get-is d xs i

pub index-set : {A : Type 0} (d : A) (xs : List A) (i : ℕ) (v : A) → i < length xs → slice_index_or (slice_set xs i v) i d ≡ v
index-set d xs i v lt = sym (get-is d (slice_set xs i v) i) ∙ get-set d xs i v lt

pub index-set_other : {A : Type 0} (d : A) (xs : List A) (i j : ℕ) (v : A) → (i ≡ j → Never) → slice_index_or (slice_set xs i v) j d ≡ slice_index_or xs j d
index-set_other d xs i j v n = sym (get-is d (slice_set xs i v) j) ∙ get-set_other d xs i j v n ∙ get-is d xs j

-- an item that is read within a list
pub index-within : {A : Type 0} (d e : A) (xs : List A) (i : ℕ) → i < length xs → slice_index_or xs i e ≡ slice_index_or xs i d
index-within d e [] i lt = absurd (omega (arith, lt))
index-within d e (x ∷ xs) zero lt = refl
index-within d e (x ∷ xs) (suc i) lt = index-within d e xs i (omega (arith, lt))
