-- `region::judge_content` meets its contract. Assumes nothing.
use Rattle.event.specs.Writing.{rows_in}
use Rattle.rcnp_writer.proofs.OneRegion.{scalers_content, chamber_content, words_content}
use Rattle.rcnp_writer.proofs.region.judge_content.Goals as goal

-- The content by its form, each where its rows were judged.
pub returns-then-id : goal.returns-then-id
returns-then-id c = scalers_content ((rows_in c.args.rows.now)) c.args.first c.args.size c.args.id c.if-id.true c.judge_scalers.ensures

pub returns-then-id-2 : goal.returns-then-id-2
returns-then-id-2 c = chamber_content ((rows_in c.args.rows.now)) c.args.first c.args.size c.args.id c.if-id-2.true c.judge_chamber.ensures

pub returns : goal.returns
returns c = words_content ((rows_in c.args.rows.now)) c.args.first c.args.size c.requires c.if-id.false c.if-id-2.false c.judge_words.ensures
