-- Numbers as bytes, the highest first.
use Rattle.std.specs.Prelude.{ℕ, ◌/◌, ◌%◌, List, [], ◌∷◌, ◌++◌, ℤ}
use Rattle.std.specs.Int.{w32}
use Rattle.std.proofs.Common.{of_z}
use Rattle.std.specs.List.{flat_map}

-- four bytes
unfoldable pub be32 : ℕ → List ℕ
be32 n = n / 16777216 % 256 ∷ n / 65536 % 256 ∷ n / 256 % 256 ∷ n % 256 ∷ []

-- eight bytes
abbrev pub be64 : ℕ → List ℕ
be64 n = be32 (n / 4294967296) ++ be32 (n % 4294967296)

-- four bytes, in two's complement
abbrev pub be32z : ℤ → List ℕ
be32z z = be32 (of_z w32 z)

-- four bytes each, in two's complement
abbrev pub be32zs : List ℤ → List ℕ
be32zs zs = flat_map be32z zs
