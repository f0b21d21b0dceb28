-- `lines::put_last` meets its contract. Assumes nothing.
use Prim.Native.Nat.{◌+◌}
use mathlib.Core.Path.{ap, ◌∙◌}
use borrow.Author.Rules.{rules}
use Rattle.listing.specs.Text.{last_text}
use Rattle.listing.proofs.TextLaws.{last_length_lem}
use Rattle.list_input.proofs.Texts.{put_behind}
use Rattle.list_input.proofs.lines.put_last.Goals as goal

pub returns : goal.returns
returns c =
    let a = c.args in
    let t = put_behind a.text.now (last_text a.cut a.run.accepted a.run.refused) a.run.at (rw last_length_lem (search rules)) c.put_last.ensures.count
    c.put_last.ensures.buffer in
    record { value = t.ends ∙ ap (a.run.at +◌) (last_length_lem a.cut a.run.accepted a.run.refused); placed = t }
