-- `scan::scan` meets its contract. Assumes nothing.
use Prim.Native.Nat.{◌-◌, ◌^◌, ◌≤◌, ◌<◌}
use lib.ListN.{length}
use Rattle.s800_reader.proofs.Reading.{Packets, ChannelRun}
use Rattle.s800_reader.proofs.scan.scan.Given as goal

abbrev pub invariant-loop-i : goal.invariant-loop-i
invariant-loop-i l =
    ChannelRun l.channels.format l.blocked l.words l.channels.end l.channels.at l.channels.count l.initial.rows l.i l.count l.rows
    × (l.channels.format.base < 2 ^ 16) × (l.channels.end ≤ length l.words)

abbrev pub invariant-packets : goal.invariant-packets
invariant-packets l = Packets l.words l.initial.next l.initial.count l.initial.rows l.next l.count l.rows

abbrev pub decreases-packets : goal.decreases-packets
decreases-packets l = length l.words - l.next
