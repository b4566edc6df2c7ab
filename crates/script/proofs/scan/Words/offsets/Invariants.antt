use Rattle.std.proofs.Common.{◌≡◌, length, take, Ok}
use Rattle.script.specs.Lines.{offsets_at}
use Rattle.script.proofs.scan.Words.offsets.Given as goal

-- the offsets so far are the first that stand there
abbrev pub invariant-loop-offset : goal.invariant-loop-offset
invariant-loop-offset l = record {
  read : offsets_at l.offset-index l.initial.self.text.now l.initial.self.at ≡ Ok (take l.offset-index l.offset-items, l.self.at);
  eight : length l.offset-items ≡ 8;
  text : l.self.text.now ≡ l.initial.self.text.now;
}
