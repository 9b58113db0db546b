-- The services of the caller's own record: what the version and the count tell of them.
use mathlib.Core.Path.{◌≡◌, ap, ◌∙◌}
use mathlib.Core.Bool.{true, false}
use mathlib.Core.List.{List, []}
use Prim.Native.Nat.{ℕ, ◌<◌}
use lib.ListN.{length, get_or}
use Rattle.card.specs.Version.{lists_services}
use Rattle.card.specs.Services.{Service, listed}
use Rattle.card.proofs.Listed.{listed_length, entry_if}
use Rattle.own_record.specs.Record.{own_service, own_services}

module _ (version count : ℕ) (numbers classes : List ℕ) where
  pub own_listed : lists_services version ≡ true → own_services version count numbers classes ≡ listed (own_service numbers classes) 0 count
  unfolding own_services
  own_listed t = rw t

  pub own_none : lists_services version ≡ false → own_services version count numbers classes ≡ []
  unfolding own_services
  own_none t = rw t

  pub own_count : lists_services version ≡ true → length (own_services version count numbers classes) ≡ count
  own_count t = ap length (own_listed t) ∙ listed_length (own_service numbers classes) 0 count

  -- one of them
  pub own_entry : (k : ℕ) (d : Service) → k < length (own_services version count numbers classes)
      → get_or (own_services version count numbers classes) k d ≡ own_service numbers classes k
  unfolding own_services
  own_entry k d h = (entry_if (lists_services version) (own_service numbers classes) count k d h).2
