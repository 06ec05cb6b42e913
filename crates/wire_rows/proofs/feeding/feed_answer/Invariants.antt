use Rattle.std.proofs.Common.{◌≡◌, Ok, None, take}
use Rattle.std.specs.Prelude.{string_bytes}
use Rattle.ndr_core.specs.Items.{AreBytes}
use Rattle.rpc_pdu.specs.Decoding.{decoded}
use Rattle.rpc_frag.specs.Streams.{whole}
use Rattle.wire_rows.proofs.Turning.{Told}
use Rattle.wire_rows.proofs.feeding.feed_answer.Given as goal

-- what was said of the pieces so far
abbrev pub invariant-loop-piece : goal.invariant-loop-piece
invariant-loop-piece l = record {
  bytes : AreBytes l.stream.splitter.rest;
  none : decoded l.stream.splitter.rest ≡ Ok None;
  told : Told (whole (take l.piece-index l.pieces)) l.stream (string_bytes l.said);
}
