-- Descriptors in plain form.
use Rattle.std.specs.Prelude.{ℕ, ◌^◌, List, Bool, ◌&&◌, length, ltb, leb}
use Rattle.octets.specs.Tests.{between, every}

-- "a descriptor of branch 0": a branch from 1 on stands above the leaf's sixteen bits
abbrev pub plain_descriptor : ℕ → Bool
plain_descriptor d = leb 65536 d && ltb d (256 ^ 3)

-- from 1 to the most that are taken
abbrev pub plain_descriptors : ℕ → List ℕ → Bool
plain_descriptors most ds = between 1 most (length ds) && every plain_descriptor ds
