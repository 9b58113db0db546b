use native.Mathlib.Omega.{arith}
use lib.ListN.{length-set}
use Rattle.codec.proofs.Puts.{put_byte}
use Rattle.codec.proofs.put_bytes.Goals as goal

pub loop-i-preserved : goal.loop-i-preserved
loop-i-preserved c = ((simp length-set c.loop-i.invariant.0), put_byte _ _ _ _ _ (omega arith) c.loop-i.invariant.1)
