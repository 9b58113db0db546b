-- What a known version tells.
use mathlib.Core.Path.{◌≡◌, refl}
use mathlib.Core.Bool.{true, false}
use Prim.Native.Nat.{ℕ, ◌<◌}
use native.Mathlib.Omega.{arith}
use lib.Dec.{leb, leb→le, le→leb}
use lib.Ieee.Bits.{is_true}
use Rattle.logic.proofs.Tests.{and_true, holds}
use Rattle.card.specs.Version.{oldest_version, newest_version, known_version, lists_services, sets_floor}

-- 0 is read where there is no first byte
pub zero_unknown : known_version 0 ≡ false
unfolding known_version
zero_unknown = refl

-- a version is one byte
pub known_byte : (version : ℕ) → known_version version ≡ true → version < 256
unfolding known_version
known_byte version h = let e = leb→le version newest_version (holds (and_true (leb oldest_version version) (leb version newest_version) h).1) in omega (arith, e)

-- a card that has the flag lists services
pub floor_lists : (version : ℕ) → sets_floor version ≡ true → lists_services version ≡ true
unfolding sets_floor lists_services
floor_lists version h = let e = leb→le 4 version (holds h) in is_true (leb 3 version) (le→leb 3 version (omega (arith, e)))
