-- The numbers of the kinds of row.
-- Assumes nothing.
use Rattle.std.specs.Prelude.{ℕ}
use Rattle.event.specs.declared.kind.Kind.{Kind}
use Rattle.event.specs.declared.kind.Kind.TheVariants as kind

abbrev pub number : Kind → ℕ
number kind.Packet = 1
number kind.Stamp = 2
number kind.EventNumber = 3
number kind.TriggerPattern = 4
number kind.Time = 5
number kind.Energy = 6
number kind.Threshold = 7
number kind.SampleHead = 8
number kind.Anode = 9
number kind.HodoscopeHits = 10
number kind.OpaqueWord = 11
number kind.SampleDatum = 12
number kind.FStamp = 16
number kind.ScalerBlock = 17
number kind.Scaler = 18
number kind.PatternUnit = 19
number kind.EmptyModule = 20
number kind.Module = 21
number kind.Value = 22
number kind.Region = 32
number kind.RegionWord = 33
number kind.RegionScaler = 34
number kind.VdcModule = 35
number kind.VdcDatum = 36
