use lib.ListN.{length}
use Rattle.auditor.specs.Audit.{audit_lines}
use Rattle.sheet_lines.specs.Answers.{same_number}
use Rattle.sheet_records.specs.Cards.{extension_at}
use Rattle.auditor.proofs.Turns.{Walked}
use Rattle.auditor.proofs.Walks.{Own}
use Rattle.auditor.proofs.lines.audit_lines.Given as goal

abbrev pub invariant-loop-rest : goal.invariant-loop-rest
invariant-loop-rest l =
    Walked same_number l.version (extension_at l.version l.line0.bytes.now) l.card l.bytes (audit_lines same_number l.version (extension_at l.version l.line0.bytes.now) l.card l.bytes) l.b l.k l.rest
    × Own l.version l.card l.b

abbrev pub decreases-loop-rest : goal.decreases-loop-rest
decreases-loop-rest l = length l.rest
