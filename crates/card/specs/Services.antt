-- Document 02, Four: the services that a card lists, refusal 61, and the class of a demand's type.
use Rattle.std.specs.Prelude.{ℕ, zero, suc, ◌<◌, ◌≤◌, Bool, true, cond, ◌&&◌, List, [], ◌∷◌, ◌⊎◌, leb, eqb, length}
use Rattle.refusals.specs.Refusals.{answered, bad_services}
use Rattle.card.specs.declared.services.Service as code

-- 'number (u16) and class (u8, 1 regular, 2 space, 3 direct)': the struct of the code
abbrev pub Service : Type 0
Service = code.Service

-- n services, from the k-th on
unfoldable pub listed : (ℕ → Service) → ℕ → ℕ → List Service
listed service k zero = []
listed service k (suc n) = service k ∷ listed service (suc k) n

-- 'a count byte of at most 32'
abbrev pub most_services : ℕ
most_services = 32

-- '0 to 3 keep their meaning'
abbrev pub last_type : ℕ
last_type = 3

-- a number that isn't under a least one, and a known class
unfoldable pub service_ok : ℕ → Service → Bool
service_ok least service = leb least service.number && (leb 1 service.class && leb service.class 3)

-- 'numbers rising', entry by entry: the next one is above this one
unfoldable pub rising_from : ℕ → List Service → Bool
rising_from least [] = true
rising_from least (service ∷ services) = service_ok least service && rising_from (suc service.number) services

-- the count first
unfoldable pub services_ok : List Service → Bool
services_ok services = leb (length services) most_services && rising_from (suc last_type) services

-- '61', where the list is refused
unfoldable pub list_refusal : List Service → ℕ
list_refusal services = cond (services_ok services) answered bad_services

-- '61, a count above 32, a list not rising, a number under 4 or an unknown class', apart from the test
pub data BadServices (service : ℕ → Service) (count : ℕ) : Type 0 where
  too_many : 32 < count → BadServices service count
  not_rising : (i : ℕ) → suc i < count → (service (suc i)).number ≤ (service i).number → BadServices service count
  under_four : (i : ℕ) → i < count → (service i).number < 4 → BadServices service count
  unknown_class : (i : ℕ) → i < count → ((service i).class < 1) ⊎ (3 < (service i).class) → BadServices service count

-- the class that a list gives a number: 0, as type 0 has, where it isn't listed
unfoldable pub listed_class : List Service → ℕ → ℕ
listed_class [] number = 0
listed_class (service ∷ services) number = cond (eqb service.number number) service.class (listed_class services number)

-- '0 to 3 keep their meaning, and each number above 3 has a class in a list'
unfoldable pub class_of : List Service → ℕ → ℕ
class_of services number = cond (leb number last_type) number (listed_class services number)
