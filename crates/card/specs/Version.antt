-- Document 01, 'Sheet': 'Byte 0 is the version.' Which versions there are, and from which one on a rule of document 02 holds, is said here alone: whatever
-- depends on the version takes it as a parameter.
use Rattle.std.specs.Prelude.{ℕ, Bool, ◌&&◌, leb}

abbrev pub oldest_version : ℕ
oldest_version = 1

abbrev pub newest_version : ℕ
newest_version = 4

-- document 02, Three: 'From here on 40 means a first byte that is missing or no known version'
unfoldable pub known_version : ℕ → Bool
known_version version = leb oldest_version version && leb version newest_version

-- Three: 'From sheet version 2' a hydronic line shows its time
unfoldable pub shows_hydronic_time : ℕ → Bool
shows_hydronic_time version = leb 2 version

-- Four: 'In version 3 the type field has two bytes', and the card lists services
unfoldable pub lists_services : ℕ → Bool
lists_services version = leb 3 version

-- Six: 'In version 4 a flag' behind the services
unfoldable pub sets_floor : ℕ → Bool
sets_floor version = leb 4 version
