-- The text of each refusal, as users see it.
use Rattle.std.specs.Prelude.{ℕ, List, ◌++◌, Some, None, codes, decimal, Option}
use Rattle.refusal.specs.declared.Breach.{Breach}
use Rattle.refusal.specs.declared.Refusal.{Refusal}
use Rattle.refusal.specs.declared.Refusal.TheVariants.{SettingOutOfRange, RadiusListFull, RadiusNotAllowed, ShelfTooShort, PostsUsedUp, DayNotAllowed, ListTooShort, NothingCounts, NoRadiusPasses, ArrivalNotKept, PieceOutOfRange, TableLength, LawBroken, OutOfPlace, UnknownByte, CutShort}

-- an entry, and the third grade where the way round is through one
abbrev pub entry_text : ℕ → ℕ → Option ℕ → List ℕ
entry_text row column None = codes "row " ++ (decimal row ++ (codes " column " ++ decimal column))
entry_text row column (Some through) =
    codes "row " ++ (decimal row ++ (codes " column " ++ (decimal column ++ (codes " through " ++ decimal through))))

abbrev pub breach_text : Breach → List ℕ
breach_text b = entry_text b.row b.column b.through

-- why a call was refused, in words
abbrev pub reason_text : Refusal → List ℕ
reason_text SettingOutOfRange = codes "a setting, kind, term, n or c is out of range"
reason_text RadiusListFull = codes "the radius list is full"
reason_text RadiusNotAllowed = codes "the radius is not allowed"
reason_text ShelfTooShort = codes "the shelf is too short"
reason_text PostsUsedUp = codes "1000000 posts are made"
reason_text DayNotAllowed = codes "the day is below the book's or above 1000000"
reason_text ListTooShort = codes "the answer list or the work list is too short"
reason_text NothingCounts = codes "no piece counts"
reason_text NoRadiusPasses = codes "no radius passes"
reason_text ArrivalNotKept = codes "the arrival is not kept"
reason_text PieceOutOfRange = codes "an offset or grade is out of range"
reason_text TableLength = codes "the table has not 256 numbers"
reason_text (LawBroken breach) = codes "the table breaks a law at "
reason_text OutOfPlace = codes "the command is out of place or of the other kind"
reason_text UnknownByte = codes "unknown byte"
reason_text CutShort = codes "the command is cut short"

-- and where, where a table breaks a law
abbrev pub refusal_text : Refusal → List ℕ
refusal_text SettingOutOfRange = reason_text SettingOutOfRange
refusal_text RadiusListFull = reason_text RadiusListFull
refusal_text RadiusNotAllowed = reason_text RadiusNotAllowed
refusal_text ShelfTooShort = reason_text ShelfTooShort
refusal_text PostsUsedUp = reason_text PostsUsedUp
refusal_text DayNotAllowed = reason_text DayNotAllowed
refusal_text ListTooShort = reason_text ListTooShort
refusal_text NothingCounts = reason_text NothingCounts
refusal_text NoRadiusPasses = reason_text NoRadiusPasses
refusal_text ArrivalNotKept = reason_text ArrivalNotKept
refusal_text PieceOutOfRange = reason_text PieceOutOfRange
refusal_text TableLength = reason_text TableLength
refusal_text (LawBroken breach) = reason_text (LawBroken breach) ++ breach_text breach
refusal_text OutOfPlace = reason_text OutOfPlace
refusal_text UnknownByte = reason_text UnknownByte
refusal_text CutShort = reason_text CutShort
