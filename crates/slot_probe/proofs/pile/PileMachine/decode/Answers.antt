use Rattle.std.proofs.Common.{rules, ◌≡◌, ◌<◌, ◌≤◌, ◌-◌, ◌^◌, ◌++◌, ◌∷◌, ℕ, List, length, drop, take, get_or, ap, sym, subst, ◌∙◌, arith, length-drop}
use Rattle.frs_journal.specs.Slots.{framed}
use Rattle.frs_journal.proofs.Records.{slice_behind}
use Rattle.slot_probe.proofs.Spellings.{other_length, other_tag, spelled_whole, too_short}
use Rattle.slot_probe.proofs.pile.PileMachine.decode.Goals as goal

pub returns-then-bytes-lt5 : goal.returns-then-bytes-lt5
returns-then-bytes-lt5 c = λ cmd short is. too_short c.args.bytes.now cmd c.if-bytes-lt5.true is

pub returns-then-length-bytes : goal.returns-then-length-bytes
returns-then-length-bytes c = λ cmd short is. other_length c.args.bytes.now cmd c.from_le_bytes-length.result c.from_le_bytes-length.ensures c.if-length-bytes.true short is

pub returns : goal.returns
returns c =
    let bytes = c.args.bytes.now in
    let n = c.from_le_bytes-length.result in
    let small : (i : ℕ) → get_or c.args.bytes.now i 0 < 256 = search rules in
    let first : get_or c.args.bytes.now 0 0 ≡ 0 = search rules in
    let long : 5 ≤ length c.args.bytes.now = search rules in
    let size : c.from_le_bytes-length.result ≡ length c.args.bytes.now - 5 = search rules in
    let fits : c.from_le_bytes-length.result < 2 ^ 32 = search rules in
    let is : c.of.result ≡ drop 5 c.args.bytes.now = c.of.ensures ∙ c.in_ok-from_slice.ensures.items ∙ slice_behind c.args.bytes.now 5 in
    (omega (arith, ap length is, length-drop 5 c.args.bytes.now, size, fits), ap (λ (l : List ℕ). 0 ∷ framed l) is ∙ spelled_whole bytes n small long first c.from_le_bytes-length.ensures size)
