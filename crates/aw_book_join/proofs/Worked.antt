-- Views and their lines, worked by hand.
use Rattle.std.proofs.Common.{◌≡◌, true, false, [], ◌∷◌, Some, None, refl}
use Rattle.std.specs.Prelude.{codes}
use Rattle.aw_term.specs.Artifacts.{Words, Item, artifact_text}
use Rattle.aw_term.specs.Configs.{Row, Config, Pending, Done}
use Rattle.aw_term.specs.Names.{root, below}
use Rattle.aw_book_join.specs.Tasks.{row_lines, items_of}
use Rattle.aw_book_join.specs.Views.{is_of, is_asked}

-- a case has its start node and all below it, and no other case's; a case of another sort is another
its-start : is_of (Some (record { sort = 0; number = 1 })) (root 0 1) ≡ true
its-start = refl

its-child : is_of (Some (record { sort = 0; number = 1 })) (below (root 0 1) 0 2) ≡ true
its-child = refl

another-case : is_of (Some (record { sort = 0; number = 1 })) (root 0 2) ≡ false
another-case = refl

another-sort : is_of (Some (record { sort = 0; number = 1 })) (root 1 1) ≡ false
another-sort = refl

any-case : is_of None (root 1 7) ≡ true
any-case = refl

-- where the open ones alone are asked for, a done one is not
done-not-asked : is_asked (record { case = None; only_open = true }) (root 0 1) (Done 0 []) ≡ false
done-not-asked = refl

open-asked : is_asked (record { case = None; only_open = true }) (root 0 1) Pending ≡ true
open-asked = refl

done-asked : is_asked (record { case = None; only_open = false }) (root 0 1) (Done 0 []) ≡ true
done-asked = refl

open-elsewhere : is_asked (record { case = Some (record { sort = 0; number = 1 }); only_open = true }) (root 0 2) Pending ≡ false
open-elsewhere = refl

-- a clinic: visits, which one rule admits
abbrev clinic : Words
clinic = record { roles = codes "clinic" ∷ []; cons = []; sorts = codes "visit" ∷ codes "test" ∷ []; rules = codes "admit" ∷ [] }

-- visit 1 was admitted and has an open task, and visit 2 is open
abbrev visit : Row
visit = record { node = root 0 1; sort = 0; inherited = []; results = []; state = Done 0 [] }

abbrev task : Row
task = record { node = below (root 0 1) 0 1; sort = 1; inherited = []; results = []; state = Pending }

abbrev second : Row
second = record { node = root 0 2; sort = 0; inherited = []; results = []; state = Pending }

abbrev rows : Config
rows = visit ∷ task ∷ second ∷ []

open-ones : row_lines clinic (record { case = None; only_open = true }) rows ≡ artifact_text clinic (task ∷ second ∷ [])
open-ones = refl

of-the-first : row_lines clinic (record { case = Some (record { sort = 0; number = 1 }); only_open = false }) rows ≡ artifact_text clinic (visit ∷ task ∷ [])
of-the-first = refl

open-of-the-second : row_lines clinic (record { case = Some (record { sort = 0; number = 2 }); only_open = true }) rows ≡ artifact_text clinic (second ∷ [])
open-of-the-second = refl

-- how the rules stand is listed of the case alone
abbrev at-task : Item
at-task = record { node = task.node; rule = 0; refusal = None }

abbrev at-second : Item
at-second = record { node = second.node; rule = 0; refusal = None }

items-of-the-second : items_of (Some (record { sort = 0; number = 2 })) (at-task ∷ at-second ∷ []) ≡ at-second ∷ []
items-of-the-second = refl

items-of-all : items_of None (at-task ∷ at-second ∷ []) ≡ at-task ∷ at-second ∷ []
items-of-all = refl
