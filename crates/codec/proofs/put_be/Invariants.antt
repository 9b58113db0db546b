use Prim.Native.Nat.{◌-◌}
use mathlib.Core.Path.{◌≡◌}
use lib.ListN.{length}
use lib.Seq.{sets}
use Rattle.codec.specs.Bytes.{be_bytes}
use Rattle.codec.proofs.put_be.Given as goal

abbrev pub invariant-loop-i : goal.invariant-loop-i
invariant-loop-i l = (length l.bytes ≡ length l.initial.bytes) × (sets l.initial.bytes l.at (be_bytes l.w l.x) ≡ sets l.bytes l.at (be_bytes (l.w - l.i) l.y))
