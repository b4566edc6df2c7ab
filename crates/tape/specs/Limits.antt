use Rattle.std.specs.Prelude.{ℕ}

-- the greatest distance
abbrev pub limit : ℕ
limit = 1000000
