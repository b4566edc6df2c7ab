-- The one table of refusals: the number of each case, and the layer that it comes from.
use Rattle.std.specs.Prelude.{ℕ}
use Rattle.refusal.specs.declared.Refusal.{Refusal}
use Rattle.refusal.specs.declared.Refusal.TheVariants.{SettingOutOfRange, RadiusListFull, RadiusNotAllowed, ShelfTooShort, PostsUsedUp, DayNotAllowed, ListTooShort, NothingCounts, NoRadiusPasses, ArrivalNotKept, PieceOutOfRange, TableLength, LawBroken, OutOfPlace, UnknownByte, CutShort}
use Rattle.refusal.specs.declared.Layer.{Layer}
use Rattle.refusal.specs.declared.Layer.TheVariants.{Bytes, Pieces, Book}

pub record Code : Type 0 where
  pub number : ℕ
  pub layer : Layer

abbrev pub code : Refusal → Code
code SettingOutOfRange = record { number = 1; layer = Book }
code RadiusListFull = record { number = 2; layer = Book }
code RadiusNotAllowed = record { number = 3; layer = Book }
code ShelfTooShort = record { number = 4; layer = Book }
code PostsUsedUp = record { number = 5; layer = Book }
code DayNotAllowed = record { number = 6; layer = Book }
code ListTooShort = record { number = 7; layer = Book }
code NothingCounts = record { number = 8; layer = Book }
code NoRadiusPasses = record { number = 9; layer = Book }
code ArrivalNotKept = record { number = 10; layer = Book }
code PieceOutOfRange = record { number = 11; layer = Pieces }
code TableLength = record { number = 12; layer = Pieces }
code (LawBroken breach) = record { number = 13; layer = Pieces }
code OutOfPlace = record { number = 14; layer = Book }
code UnknownByte = record { number = 15; layer = Bytes }
code CutShort = record { number = 16; layer = Bytes }

-- a layer's number
abbrev pub depth : Layer → ℕ
depth Bytes = 1
depth Pieces = 2
depth Book = 3
