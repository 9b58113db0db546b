-- The class of a number: 0 to 3 keep their meaning, others have what the list says.
use mathlib.Core.Path.{◌≡◌}
use mathlib.Core.Bool.{true}
use mathlib.Core.List.{List, [], ◌∷◌}
use Prim.Native.Nat.{ℕ, suc, ◌≤◌, ◌<◌}
use native.Mathlib.Omega.{arith}
use borrow.Author.Tests.{le-leb}
use lib.Dec.{leb, leb→le, eqb}
use lib.ListN.{length}
use Rattle.logic.proofs.Tests.{and_true, fails}
use Rattle.logic.proofs.Branch.{by_test}
use Rattle.card.specs.Services.{Service, most_services, last_type, service_ok, rising_from, services_ok, listed_class, class_of}
use Rattle.card.proofs.ServicesCase.{one_ok}

-- '0 to 3 keep their meaning'
pub own_type : (services : List Service) (number : ℕ) → number ≤ 3 → class_of services number ≡ number
unfolding class_of
own_type services number h = rw (le-leb number last_type h)

pub above_type : (services : List Service) (number : ℕ) → 3 < number → class_of services number ≡ listed_class services number
unfolding class_of
above_type services number h = rw (fails (leb number last_type) (λ t. omega (arith, leb→le number last_type t)))

listed_class_small : (services : List Service) (least number : ℕ) → rising_from least services ≡ true → listed_class services number ≤ 3
unfolding rising_from listed_class
listed_class_small [] least number h = omega arith
listed_class_small (service ∷ services) least number h =
    let p = and_true (service_ok least service) (rising_from (suc service.number) services) h in
    by_test (λ (n : ℕ). n ≤ 3) (eqb service.number number) service.class (listed_class services number) (λ t. (one_ok least service p.0).2) (λ e. listed_class_small services (suc service.number) number p.1)

-- every number is in range
pub class_small : (services : List Service) (number : ℕ) → services_ok services ≡ true → class_of services number ≤ 3
unfolding class_of services_ok
class_small services number h =
    by_test (λ (n : ℕ). n ≤ 3) (leb number last_type) number (listed_class services number) (λ t. leb→le number last_type t)
    (λ e. listed_class_small services 4 number (and_true (leb (length services) most_services) (rising_from 4 services) h).1)
