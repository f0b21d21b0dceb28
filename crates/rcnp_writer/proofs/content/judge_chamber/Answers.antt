-- `content::judge_chamber` meets its contract. Assumes nothing.
use Rattle.event.specs.Writing.{rows_in}
use Rattle.rcnp_writer.specs.Faults.{ChamberRight}
use Rattle.rcnp_writer.proofs.Contents.{chamber_right}
use Rattle.rcnp_writer.proofs.content.judge_chamber.Goals as goal

pub returns-then-chamber_right : goal.returns-then-chamber_right
returns-then-chamber_right c =
    let right : ChamberRight (rows_in c.args.rows.now) c.args.first c.args.n = c.chamber_right.ensures c.if-chamber_right.true in
    chamber_right (rows_in c.args.rows.now) c.args.n c.args.first c.requires.0 right
