use Rattle.std.proofs.Common.{◌≡◌, ◌∙◌, ◌<◌, ◌≤◌, ◌-◌, ◌+◌, ◌++◌, ◌∷◌, [], ℕ, List, length, take, get_or, sym, ap, arith}
use Rattle.std.proofs.lemmas.List.{take_more}
use Rattle.vol_state.specs.declared.record.VolRecord.{VolRecord}
use Rattle.vol_state.specs.Journal.{pending_local}
use Rattle.vol_state.proofs.Recent.{pending_push, pending_other}
use Rattle.vol_state.proofs.journal.last_pending.Goals as goal

-- the records up to one, and that one
one_less : (journal : List VolRecord) (n : ℕ) (r : VolRecord) → 0 < n → n ≤ length journal → r ≡ get_or journal (n - 1) r → take n journal ≡ take (n - 1) journal ++ r ∷ []
one_less journal n r pos le is =
    let s : n ≡ n - 1 + 1 = omega (arith, pos) in
    ap (λ k. take k journal) s ∙ take_more journal (n - 1) r (omega (arith, pos, le)) ∙ ap (λ x. take (n - 1) journal ++ x ∷ []) (sym is)

pub returns-then-is_pending : goal.returns-then-is_pending
returns-then-is_pending c =
    let r = c.index-records-left.result in
    let split = one_less c.args.records.now c.loop-left.left r (omega (arith, c.loop-left-test.true)) c.loop-left.invariant.1 c.index-records-left.is in
    sym (sym c.loop-left.invariant.0 ∙ ap (λ l. pending_local l c.args.uid c.args.from) split ∙ pending_push (take (c.loop-left.left - 1) c.args.records.now) r c.args.uid c.args.from (sym c.is_pending.ensures ∙ c.if-is_pending.true))

pub loop-left-preserved : goal.loop-left-preserved
loop-left-preserved c =
    let r = c.index-records-left.result in
    let split = one_less c.args.records.now c.loop-left.left r (omega (arith, c.loop-left-test.true)) c.loop-left.invariant.1 c.index-records-left.is in (
      sym (pending_other (take (c.loop-left.left - 1) c.args.records.now) r c.args.uid c.args.from (sym c.is_pending.ensures ∙ c.if-is_pending.false)) ∙ ap (λ l. pending_local l c.args.uid c.args.from) (sym split) ∙ c.loop-left.invariant.0,
      omega (arith, c.loop-left.invariant.1),
    )
