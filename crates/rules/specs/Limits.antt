-- Every number that bounds a book: its settings, its radii, its posts and days, and its places on the shelf.
use Rattle.std.specs.Prelude.{ℕ, ◌+◌, ◌*◌, ◌≤◌, max, Bool, ◌&&◌, ◌||◌, nat_le, nat_lt}
use Rattle.rules.specs.Views.{Settings}

-- the ranges of the settings, judged together
abbrev pub Judged : Settings → Type 0
Judged s = (1 ≤ s.k) × (s.k ≤ 12) × (2 ≤ s.f) × (s.f ≤ 64) × (1 ≤ s.fine_limit) × (s.fine_limit ≤ 64)

-- a book has at most so many radii
abbrev pub most_radii : ℕ
most_radii = 24

abbrev pub greatest_radius : ℕ
greatest_radius = 1000000

-- how much a radius may grow over the last one: by 1, or to twice it
abbrev pub allowed : ℕ → ℕ → Bool
allowed last next = nat_lt last next && nat_le next (max (last + 1) (2 * last))

abbrev pub most_posts : ℕ
most_posts = 1000000

abbrev pub last_day : ℕ
last_day = 1000000

-- a day that a book of day `today` refuses
abbrev pub bad_day : ℕ → ℕ → Bool
bad_day today d = nat_lt d today || nat_lt last_day d

-- the places that one radius has for its attractors and for its coarse representatives
abbrev pub attractor_room : ℕ → ℕ
attractor_room k = k + 1

abbrev pub representative_room : ℕ → ℕ
representative_room k = 2 * k + 2

-- The part of the shelf that one radius has: attractors, then coarse representatives, as many first pieces as the fine
-- limit says, and as many latest pieces. Where the lists after the first begin, and how many places the part has.
abbrev pub representatives_at : Settings → ℕ
representatives_at s = s.k + 1

abbrev pub firsts_at : Settings → ℕ
firsts_at s = 3 * s.k + 3

abbrev pub latests_at : Settings → ℕ
latests_at s = 3 * s.k + 3 + s.fine_limit

abbrev pub part_size : Settings → ℕ
part_size s = 3 * s.k + 3 + 2 * s.fine_limit

-- the places that a book of n radii needs
abbrev pub needed : Settings → ℕ → ℕ
needed s n = n * part_size s

-- the numbers that a pick needs in its work list
abbrev pub work_needed : Settings → ℕ
work_needed s = max (2 * s.k + 2) s.fine_limit
