-- A number that is made of the steps of a trail: where two trails have different ones, they differ.
use Rattle.std.specs.Prelude.{ℕ, ◌+◌, ◌*◌, ◌%◌, ◌^◌, List}
use Rattle.std.specs.List.{fold}
use Rattle.aw_name.specs.declared.node.Step.{Step}

-- a step as one number
abbrev pub step_number : Step → ℕ
step_number s = s.rule * 256 + s.child

-- the digest where one more number follows: an odd constant times the digest before it, and the number, modulo 2^64
unfoldable pub digest_and : ℕ → ℕ → ℕ
digest_and digest n = (digest * 11400714819323198485 + n) % 2 ^ 64

-- the digest where one more step follows
abbrev pub digest_with : ℕ → Step → ℕ
digest_with digest s = digest_and digest (step_number s)

-- the digest of steps, from the first one on
abbrev pub digest_of : List Step → ℕ
digest_of steps = fold digest_with 0 steps
