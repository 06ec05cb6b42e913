use Rattle.std.proofs.Common.{◌≡◌, ◌≤◌, ◌∙◌, ℕ, Ok, Some, length, sym, subst, ap, arith}
use Rattle.std.specs.Prelude.{slice_range}
use Rattle.std.proofs.lemmas.Result.{err_from_is_err_and}
use Rattle.ndr_core.specs.Cursor.{Cursor}
use Rattle.rpc_pdu.specs.Decoding.{FailsOrMemory, body_reads, with_body}
use Rattle.rpc_pdu.proofs.Decoded.{begun_is, body_at, body_fails}
use Rattle.rpc_pdu.proofs.decoding.pdu_of.Goals as goal

pub returns-in_err-body-clause-answers : goal.returns-in_err-body-clause-answers
returns-in_err-body-clause-answers c =
    let p = err_from_is_err_and c.from_residual.result c.from_residual.ensures.1 in
    let h = c.args.h.now in
    let fits : h.length ≤ length c.args.bytes.now = omega arith in
    let at : c.behind.result ≡ body_at c.args.bytes.now h = c.behind.ensures ∙ ap (λ (n : ℕ). record { at = 16; rest = slice_range c.args.bytes.now 16 n }) c.from-length.ensures in
    rw (p.1, p.2) (rw (begun_is c.args.bytes.now h fits) (body_fails h c.in_err-body.field-0.0 _ (subst (λ (d : Cursor). FailsOrMemory c.in_err-body.field-0.0 (body_reads h d)) at c.in_err-body.ensures)))

pub returns-clause-answers : goal.returns-clause-answers
returns-clause-answers c =
    let h = c.args.h.now in
    let fits : h.length ≤ length c.args.bytes.now = omega arith in
    let at : c.behind.result ≡ body_at c.args.bytes.now h = c.behind.ensures ∙ ap (λ (n : ℕ). record { at = 16; rest = slice_range c.args.bytes.now 16 n }) c.from-length.ensures in
    let read : body_reads h (body_at c.args.bytes.now h) ≡ Ok c.in_ok-body.body = subst (λ (d : Cursor). body_reads h d ≡ Ok c.in_ok-body.body) at c.in_ok-body.ensures in
    begun_is c.args.bytes.now h fits ∙ ap (with_body h) read ∙ ap (λ (n : ℕ). Ok (Some (record { call = h.call; flags = h.flags; body = c.in_ok-body.body }, n))) (sym c.from-length.ensures)
