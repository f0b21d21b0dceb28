-- `channels::with_channel` meets its contract. Assumes nothing.
use Prim.Native.Nat.{◌%◌}
use native.Mathlib.Omega.{arith}
use lib.Dec.{lit<}
use lib.Pow.{shl_exact}
use native.Mathlib.Nat.{one-mul}
use Rattle.event.specs.Channels.{insert}
use Rattle.event.proofs.channels.with_channel.Goals as goal

pub returns : goal.returns
unfolding insert
returns c = rw (shl_exact 1 (c.args.channel % 32) 32 (lit< tt) (omega arith), one-mul)
