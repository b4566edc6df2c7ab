-- What the arguments ask for.
use Rattle.std.specs.Prelude.{ℕ, true, false, cond, ◌&&◌, List, Some, None, codes, Option}
use Rattle.std.specs.Str.{bytes_eq}
use Rattle.feed.specs.declared.Job.{Job}
use Rattle.feed.specs.declared.Job.TheVariants.{Write, Read, Help}

-- by one word
abbrev pub plain_job : List ℕ → Option Job
plain_job word =
    cond (bytes_eq word (codes "write")) (Some Write)
    (cond (bytes_eq word (codes "read")) (Some (Read false))
    (cond (bytes_eq word (codes "--help")) (Some Help)
    None))

-- by a word and an option
abbrev pub option_job : List ℕ → List ℕ → Option Job
option_job word option = cond (bytes_eq word (codes "read") && bytes_eq option (codes "--offsets")) (Some (Read true)) None
