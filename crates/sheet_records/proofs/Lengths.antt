-- The length of a record's encodings.
use mathlib.Core.Path.{◌≡◌, refl}
use mathlib.Core.List.{List, ◌++◌}
use Prim.Native.Nat.{ℕ, zero, suc, ◌+◌, ◌*◌, ◌≤◌}
use native.Mathlib.Omega.{arith}
use lib.ListN.{length, take, length-append}
use lib.Ieee.{Float}
use Rattle.floats.proofs.Front.{front_of}
use Rattle.codec.specs.Bytes.{f64_bytes}
use Rattle.codec.proofs.Laws.{length_f64_bytes}
use Rattle.battery.specs.declared.Battery.{Battery}
use Rattle.sheet_records.specs.Records.{zones_bytes, totals_bytes, state_length, state_bytes, record_bytes}

pub length_zones_bytes : (zones : List Float) (n : ℕ) → length (zones_bytes zones n) ≡ 8 * n
unfolding zones_bytes
length_zones_bytes zones zero = refl
length_zones_bytes zones (suc n) = simp (length-append, length_zones_bytes zones n, length_f64_bytes) (omega arith)

-- of the front of a list
pub zones_bytes_front : (zones : List Float) (n : ℕ) → n ≤ length zones → zones_bytes (take n zones) (length (take n zones)) ≡ zones_bytes zones n
unfolding zones_bytes
zones_bytes_front = front_of zones_bytes (λ bs k x. bs ++ f64_bytes x) (λ xs ys. refl) (λ xs k. refl)

pub length_totals_bytes : (b : Battery) → length (totals_bytes b) ≡ 40
unfolding totals_bytes
length_totals_bytes b = simp (length-append, length_f64_bytes)

pub length_state_bytes : (version : ℕ) (b : Battery) → length (state_bytes version b) ≡ state_length version b.card
unfolding state_bytes state_length
length_state_bytes version b = simp (length-append, length_zones_bytes, length_totals_bytes)

pub length_record_bytes : (version : ℕ) (card : List ℕ) (b : Battery) → length (record_bytes version card b) ≡ length card + state_length version b.card
unfolding record_bytes
length_record_bytes version card b = simp (length-append, length_state_bytes)
