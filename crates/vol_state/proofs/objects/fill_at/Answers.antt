use Rattle.std.proofs.Common.{◌∙◌, sym, true, false}
use Rattle.vol_state.specs.Effects.{stamp, with_bytes}
use Rattle.vol_state.proofs.Edits.{edit_at, edit_none}
use Rattle.vol_state.proofs.objects.fill_at.Goals as goal

pub returns-then-local : goal.returns-then-local
returns-then-local c =
    rw (c.if-local.true, c.sum_with-o.ensures) (edit_at (λ o. stamp true c.args.usn (with_bytes c.args.bytes o)) c.args.fid c.in-Some.at c.index-objects-at.result c.args.objects.now (sym c.index_of.ensures ∙ c.in-Some.is))

pub returns-else-local : goal.returns-else-local
returns-else-local c =
    rw (c.if-local.false, c.sum_with-o.ensures) (edit_at (λ o. stamp false c.args.usn (with_bytes c.args.bytes o)) c.args.fid c.in-Some.at c.index-objects-at.result c.args.objects.now (sym c.index_of.ensures ∙ c.in-Some.is))

pub returns-in_default : goal.returns-in_default
returns-in_default c = edit_none (λ o. stamp c.args.local c.args.usn (with_bytes c.args.bytes o)) c.args.fid c.args.objects.now (sym c.index_of.ensures ∙ c.in_default.is)
