use Rattle.std.proofs.Common.{◌≡◌, ◌+◌, not, drop, ap, ◌∙◌, rules}
use Rattle.std.proofs.lemmas.List.{take_rest}
use Rattle.std.specs.List.{position_or_len}
use Rattle.script.specs.Scan.{blank, start_at}
use Rattle.script.proofs.Words.{twice}
use Rattle.script.proofs.scan.Words.start.Goals as goal

pub returns-clause-is : goal.returns-clause-is
unfolding start_at
returns-clause-is c =
    let xs = c.args.self.now.text.now in
    let at = c.args.self.now.at in
    let skipped : c.find.result ≡ position_or_len (λ b. not (blank b)) (drop at xs)
    = simp take_rest at (c.find.ensures.is (λ b. not (blank b)) (λ b r h. search rules)) in
    ap (λ n. at + n) (skipped ∙ twice blank (drop at xs))
