-- What the audit programs do to what a reader has left and a writer holds, where those are known.
use Rattle.std.specs.Prelude.{ℕ, ◌<◌, List, Option, length}
use Rattle.std.specs.Io.KnownBytes.{Consumes, IsAtEnd, Appends}
use Rattle.audit_report.specs.Report.{report_of}

-- a sheet was read, up to the end or to a byte more than the limit, and the report on it was written
abbrev pub Reports : Option (List ℕ) → Option (List ℕ) → Option (List ℕ) → Option (List ℕ) → Type 0
Reports given left before after =
    (sheet : List ℕ) × Consumes given left sheet × (length sheet < 65537 → IsAtEnd left) × Appends before after (report_of sheet)
