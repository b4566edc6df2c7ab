use Rattle.std.proofs.Common.{◌≡◌, ◌*◌, map, take, drop}
use Rattle.row.specs.Seen.{judged, seen_rows}
use Rattle.rules.specs.Limits.{part_size}
use Rattle.rules.specs.Promises.{RowFits}
use Rattle.std.specs.List.{AllByRecursion as Every}
use Rattle.book.proofs.Steps.{partway}
use Rattle.book.proofs.open.Book.change_rows.Given as goal

-- the radii so far are changed, and all else is as it was
abbrev pub invariant-loop-j : goal.invariant-loop-j
invariant-loop-j g l =
    (Every (RowFits (judged l.initial.self.settings))
    (map (g.C.Change.does l.change l.initial.self.settings) (seen_rows l.initial.self.settings (take l.initial.self.count l.initial.self.rows) l.initial.places))
    → seen_rows l.initial.self.settings (take l.initial.self.count l.self.rows) l.places
    ≡ partway (g.C.Change.does l.change l.initial.self.settings) l.j
    (seen_rows l.initial.self.settings (take l.initial.self.count l.initial.self.rows) l.initial.places))
    × (l.self.settings ≡ l.initial.self.settings)
    × (l.self.count ≡ l.initial.self.count)
    × (l.self.posts ≡ l.initial.self.posts)
    × (l.self.day ≡ l.initial.self.day)
    × (drop l.initial.self.count l.self.rows ≡ drop l.initial.self.count l.initial.self.rows)
    × (drop (l.initial.self.count * part_size (judged l.initial.self.settings)) l.places
    ≡ drop (l.initial.self.count * part_size (judged l.initial.self.settings)) l.initial.places)
