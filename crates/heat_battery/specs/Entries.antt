-- Document 01, module 9: what a call leaves of the lent memory.
use Rattle.std.specs.Prelude.{ℕ, cond, List, Option, Some, None}
use Rattle.refusals.specs.Refusals.{bad_call}
use Rattle.engine.specs.Steps.{advance_of}
use Rattle.sheet_records.specs.Cards.{extension_at}
use Rattle.sheet_records.specs.Records.{record_of}
use Rattle.sheet_calls.specs.Calls.{call_of}
use Rattle.entries.specs.Entry.{After, unchanged, of_version, line_after, record_laid}
use Rattle.battery.specs.declared.Call.{Call}

unfoldable pub entry_read : ℕ → List ℕ → List ℕ → List ℕ → Option Call → After
entry_read version rec call free None = unchanged bad_call rec free
entry_read version rec call free (Some c) = line_after version rec call free (advance_of version (record_of version rec) c)

-- a call on a sheet of a known version: 10 for another length of record or call, a record that is refused, a call field that is
unfoldable pub entry_known : ℕ → List ℕ → List ℕ → List ℕ → After
entry_known version rec call free = cond (record_laid version rec) (entry_read version rec call free (call_of version (extension_at version rec) call)) (unchanged bad_call rec free)

-- 40 before all
unfoldable pub entry_of : ℕ → List ℕ → List ℕ → List ℕ → After
entry_of version rec call free = of_version version rec free (entry_known version rec call free)
