-- `longword::is_header` meets its contract. Assumes nothing.
use native.Mathlib.Omega.{arith}
use borrow.Author.Tests.{lt-leb, le-leb}
use Rattle.frs_reader.proofs.Longwords.{no_flag}
use Rattle.frs_reader.specs.Longword.{is_header}
use Rattle.frs_reader.proofs.longword.is_header.Goals as goal

pub returns-in-6 : goal.returns-in-6
unfolding is_header
returns-in-6 c = rw (← c.flag_of.ensures, c.in-6.is)

pub returns-then-low-ge1 : goal.returns-then-low-ge1
unfolding is_header
returns-then-low-ge1 c = rw (← c.flag_of.ensures, c.in-2.is, le-leb _ _ c.if-low-ge1.true)

pub returns-else-low-ge1 : goal.returns-else-low-ge1
unfolding is_header
returns-else-low-ge1 c = rw (← c.flag_of.ensures, c.in-2.is, lt-leb _ _ c.if-low-ge1.false)

pub returns-in_default : goal.returns-in_default
returns-in_default c = no_flag c.args.w (λ e. omega (arith, c.flag_of.ensures)) (λ e. omega (arith, c.flag_of.ensures))
