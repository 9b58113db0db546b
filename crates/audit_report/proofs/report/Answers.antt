use Rattle.audit_report.proofs.Texts.{says_of, counted}
use Rattle.audit_report.proofs.report.Goals as goal

pub returns : goal.returns
returns c =
    let w = says_of _ _ _ _ _ c.audit_limited-v.ensures c.put_verdict.ensures in
    record { counts = counted _ _ _ _ w; says = w }
