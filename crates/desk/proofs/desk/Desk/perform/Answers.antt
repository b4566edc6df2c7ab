use Rattle.std.proofs.Common.{refl, arith}
use Rattle.std.proofs.lemmas.Grind.{common_steps}
use Rattle.desk.proofs.Taken.{post_left}
use Rattle.desk.proofs.desk.Desk.perform.Goals as goal

pub returns-in-Post-Open : goal.returns-in-Post-Open
returns-in-Post-Open g c =
    let call = c.post.ensures in
    rw (c.in-Post-Open.is-0, c.in-Post-Open.is-1) (record {
      answer = grind (arith, common_steps);
      left = grind (arith, common_steps, post_left);
      term = refl;
      refused = grind (arith, common_steps);
      surplus = grind (arith, common_steps);
    })
