use Rattle.aw_book_drive.specs.Driving.{IsUsable}
use Rattle.aw_book.proofs.blocked.say_blocked.Given as goal

-- causes are asked for by the same grammar and types
abbrev pub invariant-loop-role : goal.invariant-loop-role
invariant-loop-role g l = IsUsable l.files.joined.driver
