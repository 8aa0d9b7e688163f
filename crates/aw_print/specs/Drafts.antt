-- What is printed of a reference, over any equations. Equations that lead round through constructors have a text without an end, so a text is
-- told by its drafts, each of which goes so many constructors deep.
use Rattle.std.specs.Prelude.{ℕ, zero, suc, List, [], ◌∷◌, ◌++◌, map, codes}
use Rattle.aw_term.specs.Names.{Ref}
use Rattle.aw_term.specs.Artifacts.{Words, head_text, ref_text}
use Rattle.aw_store.specs.Equations.{Map}
use Rattle.aw_store.specs.Chase.{Chased, Found, Missing, Round, chase}

-- a text to its end, or the front of one that goes on
pub data Draft : Type 0 where
  Whole : (text : List ℕ) → Draft
  Front : (text : List ℕ) → Draft

-- the text as far as the draft goes
abbrev pub so_far : Draft → List ℕ
so_far (Whole t) = t
so_far (Front t) = t

-- the one, and then the other, where the one ends
abbrev pub then : Draft → Draft → Draft
then (Whole a) (Whole b) = Whole (a ++ b)
then (Whole a) (Front b) = Front (a ++ b)
then (Front a) d = Front a

-- each behind a comma and a space
abbrev pub following : List Draft → Draft
following [] = Whole []
following (d ∷ ds) = then (Whole (codes ", ")) (then d (following ds))

-- a comma and a space between each two
abbrev pub listed : List Draft → Draft
listed [] = Whole []
listed (d ∷ ds) = then d (following ds)

-- a head with its parts, in parentheses where it has any
abbrev pub with_parts : List ℕ → List Draft → Draft
with_parts head [] = Whole head
with_parts head (d ∷ ds) = then (Whole (head ++ codes "(")) (then (listed (d ∷ ds)) (Whole (codes ")")))

-- A body with its parts; `?visit#1:r1` where the reference at the end has no equation, `!visit#1:r1` where the chase goes round.
abbrev pub draft_on : Words → (Ref → Draft) → Ref → Chased → Draft
draft_on w part r (Found h rs) = with_parts (head_text w h) (map part rs)
draft_on w part r (Missing s) = Whole (codes "?" ++ ref_text w s)
draft_on w part r Round = Whole (codes "!" ++ ref_text w r)

-- what is printed of a reference, so many constructors deep
abbrev pub draft : ℕ → Words → Map → Ref → Draft
draft zero w k r = Front []
draft (suc n) w k r = draft_on w (draft n w k) r (chase k r)

-- what is printed of references, with separators
abbrev pub drafts : ℕ → Words → Map → List Ref → Draft
drafts n w k rs = listed (map (draft n w k) rs)

-- what is printed of references, each behind a separator
abbrev pub more_drafts : ℕ → Words → Map → List Ref → Draft
more_drafts n w k rs = following (map (draft n w k) rs)
