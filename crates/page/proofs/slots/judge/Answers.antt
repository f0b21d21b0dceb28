-- `judge` meets its contract. Assumes nothing.
use mathlib.Core.Path.{ap, ◌∙◌}
use native.Mathlib.Omega.{arith}
use Rattle.std.proofs.lemmas.Result.{err_from_is_err_and}
use Rattle.event.specs.declared.StampOrder.{StampOrder}
use Rattle.event.specs.Outcome.{answer_of}
use Rattle.s800_layout.specs.Reading.{reading}
use Rattle.page_layout.proofs.SoundPages.{sound_is}
use Rattle.page.proofs.PageLaws.{is_sound, add_unsound, add_refused, add_long, add_held}
use Rattle.page.proofs.slots.judge.Goals as goal

pub returns-in_err-check_sound : goal.returns-in_err-check_sound
returns-in_err-check_sound c =
    let p = err_from_is_err_and c.from_residual.result c.from_residual.ensures.1 in
    rw (p.1, p.2) (add_unsound _ _ _ c.in_err-check_sound.ensures)

pub returns-in_err-check : goal.returns-in_err-check
returns-in_err-check c =
    let p = err_from_is_err_and c.from_residual-in_err-check.result c.from_residual-in_err-check.ensures.1 in
    let s = is_sound _ _ c.in_ok-check_sound.ensures in
    rw (p.1, p.2) (add_refused c.args.page.now c.args.words.now c.args.room s (c.in_err-check.ensures ∙ ap (λ (o : StampOrder). answer_of (reading o c.args.words.now)) c.default.ensures))

pub returns-then-words-gt-WORDS : goal.returns-then-words-gt-WORDS
returns-then-words-gt-WORDS c =
    let s = is_sound _ _ c.in_ok-check_sound.ensures in
    let e = c.in_ok-check.ensures ∙ ap (λ (o : StampOrder). answer_of (reading o c.args.words.now)) c.default.ensures in
    c.refuse.ensures ∙ add_long c.args.page.now c.args.words.now c.args.room s e c.if-words-gt-WORDS.true

pub overflow_add-page : goal.overflow_add-page
overflow_add-page c = let s = sound_is _ _ (is_sound _ _ c.in_ok-check_sound.ensures) in omega (arith, s.count)

pub returns : goal.returns
returns c =
    let s = is_sound _ _ c.in_ok-check_sound.ensures in
    let e = c.in_ok-check.ensures ∙ ap (λ (o : StampOrder). answer_of (reading o c.args.words.now)) c.default.ensures in
    rw c.min.ensures (add_held c.args.page.now c.args.words.now c.args.room s e c.if-words-gt-WORDS.false)
