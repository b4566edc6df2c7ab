use Rattle.std.proofs.Common.{codes, refl, rules}
use Rattle.command.specs.declared.verb.Verb.TheVariants.{Settings, Radius, Hull, Joinery}
use Rattle.script.proofs.Begins.{command_begins}
use Rattle.script.proofs.scan.Words.command.Goals as goal

pub returns-in_err-operand-in-radius : goal.returns-in_err-operand-in-radius
returns-in_err-operand-in-radius c =
    let s = c.args.self.now in
    let e = command_begins s.text.now s.at _ (codes "radius") Radius c.word.ensures.word (search rules) (search rules) refl in
    search rules

pub returns-in_err-day-in-joinery : goal.returns-in_err-day-in-joinery
returns-in_err-day-in-joinery c =
    let s = c.args.self.now in
    let e = command_begins s.text.now s.at _ (codes "joinery") Joinery c.word.ensures.word (search rules) (search rules) refl in
    search rules

pub returns-in_err-word-in-joinery : goal.returns-in_err-word-in-joinery
returns-in_err-word-in-joinery c =
    let s = c.args.self.now in
    let e = command_begins s.text.now s.at _ (codes "joinery") Joinery c.word.ensures.word (search rules) (search rules) refl in
    search rules

pub returns-in_ok-offsets-in-hull : goal.returns-in_ok-offsets-in-hull
returns-in_ok-offsets-in-hull c =
    let s = c.args.self.now in
    let e = command_begins s.text.now s.at _ (codes "hull") Hull c.word.ensures.word (search rules) (search rules) refl in
    search rules

pub returns-in_ok-operand-in-radius : goal.returns-in_ok-operand-in-radius
returns-in_ok-operand-in-radius c =
    let s = c.args.self.now in
    let e = command_begins s.text.now s.at _ (codes "radius") Radius c.word.ensures.word (search rules) (search rules) refl in
    search rules

pub returns-in_ok-word-in-joinery : goal.returns-in_ok-word-in-joinery
returns-in_ok-word-in-joinery c =
    let s = c.args.self.now in
    let e = command_begins s.text.now s.at _ (codes "joinery") Joinery c.word.ensures.word (search rules) (search rules) refl in
    search rules

pub returns-in-settings : goal.returns-in-settings
returns-in-settings c =
    let s = c.args.self.now in
    let e = command_begins s.text.now s.at _ (codes "settings") Settings c.word.ensures.word (search rules) (search rules) refl in
    search rules
