use Rattle.std.proofs.lemmas.Result.{IfOk-weaker}
use Rattle.outer_world.proofs.Pieces.{IsTaken-opened}
use Rattle.outer_world.proofs.read.read_text.Goals as goal

pub returns-in-Opened-clause-text : goal.returns-in-Opened-clause-text
returns-in-Opened-clause-text g c =
    IfOk-weaker c.read_open.result _ _
    (λ text. IsTaken-opened _ _ _ text.items c.in-Opened.ensures.opens.1) c.read_open.ensures.text
