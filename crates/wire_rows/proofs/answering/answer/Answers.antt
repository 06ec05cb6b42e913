use Rattle.std.proofs.Common.{IfOk, sym, subst}
use Rattle.std.specs.Prelude.{string_bytes}
use Rattle.wire_rows.specs.Answering.{Answers, IsFormAnswer}
use Rattle.wire_rows.proofs.answering.answer.Goals as goal

pub returns-in-Form : goal.returns-in-Form
returns-in-Form c =
    let says = subst (λ form. IfOk c.form_answer.result (λ text. IsFormAnswer form (string_bytes text))) c.as_slice-in-Form.ensures c.form_answer.ensures in
    subst (λ row. IfOk c.form_answer.result (λ text. Answers row (string_bytes text))) (sym c.in-Form.is) says
