-- `region::open_region` meets its contract. Assumes nothing.
use Rattle.std.proofs.Common.{ap, not}
use Rattle.event.proofs.Leads.{refused_as}
use Rattle.rcnp_format.specs.Form.{form}
use Rattle.rcnp_format.proofs.Forms.{id_of_form, no_id}
use Rattle.rcnp_reader.proofs.Headers.{refused_6, refused_5, refused_7, good_header}
use Rattle.rcnp_reader.proofs.region.open_region.Goals as goal

pub returns-in_default : goal.returns-in_default
returns-in_default c = rw c.refuse.ensures (record { opened = refused_as (refused_6 c.args.words.now c.args.at c.requires.0 c.word-header.ensures.0 (no_id _ c.in_default.ensures)) })

pub returns-then-words-at : goal.returns-then-words-at
returns-then-words-at c = rw c.refuse-then-words-at.ensures
    (record { opened = refused_as (refused_5 c.args.words.now c.args.at c.requires.0 c.word-header.ensures.0 (form c.in-Some.form) (id_of_form _ c.in-Some.ensures) c.if-words-at.true) })

pub returns-then-not-allows_size : goal.returns-then-not-allows_size
returns-then-not-allows_size c = rw c.refuse-then-not-allows_size.ensures (record {
  opened = refused_as (refused_7 c.args.words.now c.args.at c.requires.0 c.word-header.ensures.0 (form c.in-Some.form) (id_of_form _ c.in-Some.ensures) c.if-words-at.false c.allows_size.ensures
      (ap not c.if-not-allows_size.true));
})

pub read_region-requires : goal.read_region-requires
read_region-requires c = (
  good_header c.args.words.now c.args.at c.requires.0 c.word-header.ensures.0 (form c.in-Some.form) (id_of_form _ c.in-Some.ensures) c.if-words-at.false c.allows_size.ensures
      (ap not c.if-not-allows_size.false),
  c.requires.1,
)
