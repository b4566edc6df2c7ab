-- The text of each command.
use Rattle.std.specs.Prelude.{ℕ, cond, List, ◌++◌, ℤ, codes, decimal, ◌==◌, nat_lt}
use Rattle.std.specs.Fmt.{signed_decimal}
use Rattle.std.specs.List.{flat_map}
use Rattle.digits.specs.Digits.{hex_digits}
use Rattle.command.specs.declared.Command.{Command}
use Rattle.command.specs.declared.Command.TheVariants.{Settings, Radius, Open, Hull, Joinery, Day, Pick}

-- how many hexadecimal digits are written of a number: two, four, eight or sixteen
abbrev pub hex_width : ℕ → ℕ
hex_width n = cond (nat_lt n 256) 2 (cond (nat_lt n 65536) 4 (cond (nat_lt n 4294967296) 8 16))

-- each offset after a space
abbrev pub offset_text : ℤ → List ℕ
offset_text z = codes " " ++ signed_decimal z

abbrev pub offsets_text : List ℤ → List ℕ
offsets_text zs = flat_map offset_text zs

abbrev pub kind_text : ℕ → List ℕ
kind_text kind = cond (kind == 0) (codes "hull") (cond (kind == 1) (codes "joinery") (codes "kind " ++ decimal kind))

abbrev pub term_text : ℕ → ℕ → List ℕ
term_text term n =
    cond (term == 0) (codes "by number " ++ decimal n)
    (cond (term == 1) (codes "by days " ++ decimal n)
    (codes "term " ++ decimal term ++ codes " n " ++ decimal n))

abbrev pub settings_text : ℕ → ℕ → ℕ → ℕ → List ℕ
settings_text kind k f limit =
    codes "settings " ++ kind_text kind ++ codes " k " ++ decimal k ++ codes " f " ++ decimal f ++ codes " F " ++ decimal limit ++ codes " "

abbrev pub hex_text : ℕ → List ℕ
hex_text word = codes " 0x" ++ hex_digits (hex_width word) word

abbrev pub text_of : Command → List ℕ
text_of (Settings s) = settings_text s.kind s.k s.f s.limit ++ term_text s.term s.n
text_of (Radius radius) = codes "radius " ++ decimal radius
text_of Open = codes "open"
text_of (Hull day offsets) = codes "hull " ++ decimal day ++ offsets_text offsets
text_of (Joinery day word) = codes "joinery " ++ decimal day ++ hex_text word
text_of (Day day) = codes "day " ++ decimal day
text_of Pick = codes "pick"
