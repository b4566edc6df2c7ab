-- What the next word decides.
use Rattle.std.proofs.Common.{◌≡◌, ℕ, cond, length, List, Some, None, Ok, Err, Option, Result, codes, sym, ap, ◌∙◌}
use Rattle.std.proofs.lemmas.Slice.Eq.{text_from_reads, HasBytesAt}
use Rattle.std.specs.Option.{ok_or}
use Rattle.std.specs.Str.{bytes_eq}
use Rattle.fault.specs.Faults.{and_then}
use Rattle.command.specs.declared.verb.Verb.{Verb}
use Rattle.command.specs.declared.verb.Verb.TheVariants.{Settings, Radius, Open, Hull, Joinery, Day, Pick}
use Rattle.script.specs.declared.mistake.Mistake.{Mistake}
use Rattle.script.specs.declared.mistake.Mistake.TheVariants.{NoSuchCommand, Misspelt}
use Rattle.script.specs.Scan.{end_at, word_at}
use Rattle.script.specs.Lines.{number_at, expect_at, or_else, numbered, term_by, term_at, command_at, written_at}

-- where the word ends, if it is the name
abbrev named : List ℕ → ℕ → List ℕ → Option ℕ
named w end name = cond (bytes_eq w name) (Some end) None

abbrev pub verb_of : List ℕ → ℕ → Result (Verb × ℕ) Mistake
verb_of w end =
    or_else (named w end (codes "hull")) Hull
    (or_else (named w end (codes "joinery")) Joinery
    (or_else (named w end (codes "day")) Day
    (or_else (named w end (codes "pick")) Pick
    (or_else (named w end (codes "radius")) Radius
    (or_else (named w end (codes "open")) Open
    (or_else (named w end (codes "settings")) Settings
    (Err NoSuchCommand)))))))

-- the command of the verb that the next word is
pub command_begins : (xs : List ℕ) (at : ℕ) (w name : List ℕ) (v : Verb) → w ≡ word_at xs at → length w ≡ length name → HasBytesAt w 0 name
    → verb_of name (end_at xs at) ≡ Ok (v, end_at xs at) → written_at xs at ≡ command_at xs (end_at xs at) v
command_begins xs at w name v here len reads e =
    ap (λ x. and_then (verb_of x (end_at xs at)) (λ v. command_at xs v.1 v.0)) (sym here ∙ text_from_reads w name len reads)
    ∙ ap (λ r. and_then r (λ v. command_at xs v.1 v.0)) e

-- a term that is written by its byte
pub term_begins : (xs : List ℕ) (at : ℕ) (w : List ℕ) → w ≡ word_at xs at → length w ≡ 4 → HasBytesAt w 0 (codes "term")
    → term_at xs at
    ≡ and_then (number_at 255 xs (end_at xs at)) (λ p. and_then (expect_at (codes "n") xs p.1) (λ end. numbered p.0 (number_at 4294967295 xs end)))
term_begins xs at w here len reads =
    let word : word_at xs at ≡ codes "term" = sym here ∙ text_from_reads w (codes "term") len reads in
    ap (λ x. term_by (named x (end_at xs at) (codes "by")) xs at) word
    ∙ ap (λ x. and_then (and_then (ok_or (named x (end_at xs at) (codes "term")) Misspelt) (λ end. number_at 255 xs end))
    (λ p. and_then (expect_at (codes "n") xs p.1) (λ end. numbered p.0 (number_at 4294967295 xs end)))) word
