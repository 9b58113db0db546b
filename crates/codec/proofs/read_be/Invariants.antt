use Prim.Native.Nat.{◌^◌, ◌<◌}
use mathlib.Core.Path.{◌≡◌}
use lib.ListN.{take}
use Rattle.codec.specs.Bytes.{be}
use Rattle.codec.proofs.read_be.Given as goal

abbrev pub invariant-loop-byte : goal.invariant-loop-byte
invariant-loop-byte l = (l.x < 256 ^ l.byte-index) × (l.x ≡ be (take l.byte-index l.byte-items))
