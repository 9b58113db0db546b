use mathlib.Core.Path.{◌≡◌}
use Prim.Native.Nat.{◌*◌, ◌+◌}
use lib.ListN.{length}
use Rattle.codec.proofs.Puts.{Written}
use Rattle.sheet_records.specs.Records.{zones_bytes}
use Rattle.sheet_records.proofs.put_zones.Given as goal

abbrev pub invariant-loop-zone : goal.invariant-loop-zone
invariant-loop-zone l = (l.p ≡ l.at + 8 * l.zone-index) × (length l.bytes ≡ length l.initial.bytes) × Written l.initial.bytes l.at (zones_bytes l.zones l.zone-index) l.p l.bytes
