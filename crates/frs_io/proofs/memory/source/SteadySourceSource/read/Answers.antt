use Rattle.std.proofs.Common.{◌≡◌, ℕ, ◌+◌, ◌-◌, ◌≤◌, List, ◌++◌, Some, length, take, drop, sym, ap, ◌∙◌, take-append-drop, arith, min}
use Rattle.std.proofs.lemmas.List.{take_at, take_rest, drop-drop, length-take-le}
use Rattle.frs_io.proofs.memory.source.SteadySourceSource.read.Goals as goal

-- the front of what is left went to the front of the buffer
copied : (rest buf front : List ℕ) (n : ℕ) → front ≡ take n rest → n ≤ length rest → rest ≡ take n (front ++ drop n buf) ++ drop n rest
copied rest buf front n e within =
    let len : length front ≡ n = ap length e ∙ length-take-le n rest within in
    sym (ap (λ l. l ++ drop n rest) (take_at front (drop n buf) n len ∙ e) ∙ take-append-drop n rest)

pub returns-clause-given : goal.returns-clause-given
returns-clause-given c =
    let bytes = c.self.inside.bytes.items in
    let at = c.self.inside.at in
    let n = c.min-count.result in
    let whole : take (length c.deref.result.now - at) (drop at c.deref.result.now) ≡ drop at bytes =
    take_rest c.deref.result.now at ∙ ap (drop at) c.deref.ensures.value in
    let front : c.copy_from_slice.new.self ≡ take n (drop at bytes) = c.copy_from_slice.ensures.after ∙ ap (take n) whole in
    let least : n ≡ min (length (drop at bytes)) (length c.args.buf.now) = c.min-count.ensures ∙ ap (λ l. min (length l) (length c.args.buf.now)) whole in
    let further : drop n (drop at bytes) ≡ drop (at + n) bytes = drop-drop n at bytes in
    let given = copied (drop at bytes) c.args.buf.now c.copy_from_slice.new.self n front (omega arith) in
    ap Some (sym c.self.view_is ∙ given ∙ ap (λ l. take n (c.copy_from_slice.new.self ++ drop n c.args.buf.now) ++ l) further)
