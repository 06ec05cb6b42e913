use Rattle.std.proofs.Common.{◌≡◌, ◌∙◌, ◌+◌, ◌++◌, [], Ok, None, codes, drop, length, take, sym, ap, subst, arith}
use Rattle.std.specs.Prelude.{decimal, string_bytes}
use Rattle.std.proofs.lemmas.List.{take_all}
use Rattle.ndr_core.specs.Items.{AreBytes}
use Rattle.rpc_pdu.specs.Decoding.{decoded}
use Rattle.rpc_frag.specs.Streams.{whole}
use Rattle.wire_rows.specs.Feeding.{Drains, Pushed}
use Rattle.wire_rows.proofs.Turning.{Told, no_bytes, nothing_there, pushed_bytes, told_all, told_more, told_nothing, told_rest, whole_cut, whole_more}
use Rattle.wire_rows.proofs.feeding.feed_answer.Goals as goal

pub loop-piece-init : goal.loop-piece-init
loop-piece-init c = record {
  bytes = subst AreBytes (sym c.new-stream.ensures.rest) no_bytes;
  none = ap decoded c.new-stream.ensures.rest ∙ nothing_there;
  told = told_nothing c.new-stream.result _ c.new-stream.ensures c.new-said.ensures.bytes;
}

pub drain-requires : goal.drain-requires
drain-requires c = pushed_bytes c.loop-piece.stream c.push.new.self c.as_slice.result.now c.loop-piece.invariant.bytes c.in_ok-push.ensures

pub returns-then-not-branch : goal.returns-then-not-branch
returns-then-not-branch c =
    let pieces = c.args.pieces.now in
    let i = c.loop-piece.piece-index in
    let piece = c.piece-item.result in
    let pushed = subst (Pushed c.loop-piece.stream c.push.new.self) c.as_slice.ensures c.in_ok-push.ensures in
    let drained = subst (λ goes. Drains goes c.push.new.self c.drain.new.self (string_bytes c.loop-piece.said) (string_bytes c.drain.new.said)) c.if-not-branch.true c.in_ok-drain.ensures in
    told_all (whole (take i pieces)) (string_bytes c.loop-piece.said) piece (string_bytes c.drain.new.said) drained.0 (whole (drop (i + 1) pieces)) (whole pieces) c.loop-piece.stream c.push.new.self
    c.loop-piece.invariant.told pushed drained.2 drained.1 (whole_cut pieces i piece (omega (arith, c.loop-piece-test.true)) c.piece-item.is)

pub loop-piece-preserved : goal.loop-piece-preserved
loop-piece-preserved c =
    let pieces = c.args.pieces.now in
    let i = c.loop-piece.piece-index in
    let piece = c.piece-item.result in
    let pushed = subst (Pushed c.loop-piece.stream c.push.new.self) c.as_slice.ensures c.in_ok-push.ensures in
    let drained = subst (λ goes. Drains goes c.push.new.self c.drain.new.self (string_bytes c.loop-piece.said) (string_bytes c.drain.new.said)) c.if-not-branch.false c.in_ok-drain.ensures in
    record {
      bytes = drained.4;
      none = drained.3;
      told = subst (λ came. Told came c.drain.new.self (string_bytes c.drain.new.said)) (sym (whole_more pieces i piece (omega (arith, c.loop-piece-test.true)) c.piece-item.is))
          (told_more (whole (take i pieces)) (string_bytes c.loop-piece.said) piece (string_bytes c.drain.new.said) drained.0 c.loop-piece.stream c.push.new.self c.drain.new.self c.loop-piece.invariant.told pushed drained.2 drained.1);
    }

pub returns : goal.returns
returns c =
    let pieces = c.args.pieces.now in
    let i = c.loop-piece.piece-index in
    let said = string_bytes c.loop-piece.said in
    let left = c.as_str.ensures.value ∙ c.in_ok-format.ensures.ok ∙ ap (λ n. codes "rest " ++ decimal n) c.left-left.ensures in
    c.in_ok-push_str.ensures.bytes
    ∙ ap (λ t. said ++ t) left
    ∙ told_rest (whole (take i pieces)) said (whole pieces) c.loop-piece.stream c.loop-piece.invariant.told c.loop-piece.invariant.none (ap whole (take_all i pieces (omega (arith, c.loop-piece-test.false))))
